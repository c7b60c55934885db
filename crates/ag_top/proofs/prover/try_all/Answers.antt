use Rattle.std.proofs.Common.{◌∙◌, sym, ap}
use Rattle.std.proofs.lemmas.Result.{IfOk-weaker}
use Rattle.ag_stream.specs.declared.problem.ProblemDraft.{ProblemDraft}
use Rattle.ag_top.proofs.Decisions.{Found, claim_true, claim_within, premises_true, premises_within, found_flat}
use Rattle.ag_top.proofs.prover.try_all.Goals as goal

pub returns-in-Some-clause-true_verdict : goal.returns-in-Some-clause-true_verdict
returns-in-Some-clause-true_verdict c =
    let e = ap (λ (d : ProblemDraft). d.claim) (sym c.draft.ensures) ∙ c.in-Some.is in
    let f : Found c.args.problem.now c.in_ok-found.found = record { found = c.in_ok-found.ensures.found; none = c.in_ok-found.ensures.none } in
    rw c.claim_verdict.ensures (claim_true c.instants_decide.ensures.proved c.instants_decide.ensures.refuted c.args.problem.now c.in-Some.field-0 c.in_ok-found.found c.requires.plain e f)

pub returns-in-Some-clause-within : goal.returns-in-Some-clause-within
returns-in-Some-clause-within c =
    rw c.claim_verdict.ensures (claim_within c.args.problem.now c.in_ok-found.found (record { found = c.in_ok-found.ensures.found; none = c.in_ok-found.ensures.none }) c.args.limits.now)

pub premises_verdict-requires : goal.premises_verdict-requires
premises_verdict-requires c = found_flat c.args.problem.now c.in_ok-found.found c.requires.plain (record { found = c.in_ok-found.ensures.found; none = c.in_ok-found.ensures.none })

pub returns-in-None-clause-true_verdict : goal.returns-in-None-clause-true_verdict
returns-in-None-clause-true_verdict c =
    let e = ap (λ (d : ProblemDraft). d.claim) (sym c.draft.ensures) ∙ c.in-None.is in
    let f : Found c.args.problem.now c.in_ok-found.found = record { found = c.in_ok-found.ensures.found; none = c.in_ok-found.ensures.none } in
    IfOk-weaker c.premises_verdict.result _ _ (λ v h. premises_true c.instants_decide.ensures.consistent c.instants_decide.ensures.inconsistent c.args.problem.now c.in_ok-found.found v c.draft-in-None.result.now.length (ap (λ (d : ProblemDraft). d.length) c.draft-in-None.ensures) c.requires.plain c.know.ensures.formed e f h) c.premises_verdict.ensures

pub returns-in-None-clause-within : goal.returns-in-None-clause-within
returns-in-None-clause-within c =
    let f : Found c.args.problem.now c.in_ok-found.found = record { found = c.in_ok-found.ensures.found; none = c.in_ok-found.ensures.none } in
    IfOk-weaker c.premises_verdict.result _ _ (λ v h. premises_within c.args.problem.now c.in_ok-found.found v c.draft-in-None.result.now.length f h c.args.limits.now) c.premises_verdict.ensures
