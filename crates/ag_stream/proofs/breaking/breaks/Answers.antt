use Rattle.std.proofs.Common.{◌≡◌, ℕ, ◌-◌, suc, length, get_or, take, IsTrue, ◌↔◌, refl, arith, All}
use Rattle.std.proofs.lemmas.Bool.{false≢true}
use Rattle.ag_stream.specs.declared.problem.Instant.{Instant}
use Rattle.ag_stream.specs.Work.{IsPlainForm, AllHoldAt, ClaimFailsAt}
use Rattle.ag_stream.proofs.Moments.{breaks_by_claim, breaks_take}
use Rattle.ag_stream.proofs.breaking.breaks.Goals as goal

pub returns-then-not-each_holds : goal.returns-then-not-each_holds
returns-then-not-each_holds c =
    let form : IsPlainForm c.args.problem.now = record { formed = c.know.ensures.formed; plain = c.requires.plain } in
    let n : ℕ = length c.args.run.now.instants - 1 in
    let long : suc n ≡ length c.args.run.now.instants = omega (arith, c.requires.fits.some) in (
      (λ e. absurd (false≢true e)),
      (λ h. c.if-not-each_holds.ensures.1 (rw (c.as_slice.ensures, c.draft-draft.ensures, c.as_slice-instants.ensures) (breaks_take c.args.problem.now form c.args.run.now n long h))),
    )

pub returns : goal.returns
returns c =
    let form : IsPlainForm c.args.problem.now = record { formed = c.know.ensures.formed; plain = c.requires.plain } in
    let i : Instant = c.index-instants-last.result in
    let n : ℕ = length c.args.run.now.instants - 1 in
    let long : suc n ≡ length c.args.run.now.instants = omega (arith, c.requires.fits.some) in
    let is : i ≡ get_or c.args.run.now.instants n i = rw c.as_slice-instants.ensures at c.index-instants-last.is in
    let held : All (AllHoldAt c.draft-draft.result.now c.as_slice.result.now) (take (length c.as_slice-instants.result.now - 1) c.as_slice-instants.result.now) = c.if-not-each_holds.ensures.0 refl in
    let earlier : All (AllHoldAt c.args.problem.now c.args.problem.now.earlier) (take n c.args.run.now.instants) = rw (c.as_slice.ensures, c.draft-draft.ensures, c.as_slice-instants.ensures) at held in
    let fails : IsTrue c.claim_fails.result ↔ ClaimFailsAt c.args.problem.now i = rw c.draft-draft.ensures at c.claim_fails.ensures in
    breaks_by_claim c.args.problem.now form c.args.run.now n i c.claim_fails.result long is (c.if-not-keeps_premises.ensures.0 refl) earlier fails
