use Rattle.std.proofs.Common.{sym, subst}
use Rattle.ag_stream.specs.declared.problem.Run.{Run}
use Rattle.ag_verdict.specs.Plain.{single}
use Rattle.ag_top.specs.Trying.{IsSought}
use Rattle.ag_top.proofs.Tries.{sought_evaluates}
use Rattle.ag_top.proofs.prover.try_one.Goals as goal

pub returns-clause-none : goal.returns-clause-none
returns-clause-none c = λ i sought agrees.
    let e = sought_evaluates c.args.problem.now c.args.flags.now i c.requires.plain sought agrees in
    let same = c.in-Ok.ensures.only (single i) (subst (λ (g : Run). Rattle.ag_stream.specs.Evaluation.IsEvaluation c.args.problem.now g (single i)) (sym c.in_ok-given.ensures) e) in
    let yes = c.is_sought.ensures.1 (subst (IsSought c.args.problem.now) same sought) in
    let no = c.if-is_sought.false in
    cc
