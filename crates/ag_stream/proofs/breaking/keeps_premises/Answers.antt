use Rattle.std.proofs.Common.{◌≡◌, ℕ, ◌<◌, length, get_or, sym, refl, ap, subst, arith, All}
use Rattle.std.proofs.lemmas.Bool.{false≢true}
use Rattle.ag_stream.specs.declared.problem.Instant.{Instant}
use Rattle.ag_stream.specs.Work.{IsPlainForm, KeepsPremisesAt}
use Rattle.ag_stream.proofs.Moments.{premises_each, premises_from, each_more}
use Rattle.ag_stream.proofs.breaking.keeps_premises.Goals as goal

pub returns-then-not-keeps_premises_at : goal.returns-then-not-keeps_premises_at
returns-then-not-keeps_premises_at c =
    let form : IsPlainForm c.args.problem.now = record { formed = c.know.ensures.formed; plain = c.requires.plain } in
    let i : Instant = c.instant-item.result in
    let k : ℕ = c.loop-instant.instant-index in
    let lt : k < length c.args.run.now.instants = omega (arith, ap length c.as_slice-instant-items.ensures) in
    let is : i ≡ get_or c.args.run.now.instants k i = rw (← c.as_slice-instant-items.ensures) c.instant-item.is in
    let P : Instant → Type 0 = KeepsPremisesAt c.args.problem.now in (
      (λ e. absurd (false≢true e)),
      (λ h. c.if-not-keeps_premises_at.ensures.1 (rw c.draft-draft.ensures (subst P (sym is) (premises_each c.args.problem.now form c.args.run.now h k i lt)))),
    )

pub loop-instant-preserved : goal.loop-instant-preserved
loop-instant-preserved c =
    each_more (KeepsPremisesAt c.draft-draft.result.now) c.as_slice-instant-items.result.now c.loop-instant.instant-index c.instant-item.result (omega arith) c.instant-item.is c.loop-instant.invariant (c.if-not-keeps_premises_at.ensures.0 refl)

pub returns : goal.returns
returns c =
    let form : IsPlainForm c.args.problem.now = record { formed = c.know.ensures.formed; plain = c.requires.plain } in
    let all : All (KeepsPremisesAt c.draft-draft.result.now) c.as_slice-instant-items.result.now = λ k e lt. c.loop-instant.invariant k e (omega arith) in
    ((λ _. premises_from c.args.problem.now form c.args.run.now c.requires.fits (rw (c.draft-draft.ensures, c.as_slice-instant-items.ensures) at all)), (λ _. refl))
