use Rattle.std.proofs.Common.{Bool, subst}
use Rattle.ag_kernel.specs.State.{HasNoValuation}
use Rattle.ag_tree.specs.declared.rounds.Round.{Round}
use Rattle.ag_tree.specs.Going.{EndsAs}
use Rattle.ag_tree.proofs.plain.go_on.Goals as goal

pub returns-in-Unsat-clause-solved : goal.returns-in-Unsat-clause-solved
returns-in-Unsat-clause-solved g c =
    let leaves : Bool = g.T.Theory.leaves c.loop-progress.theory in
    let R : Round → Type 0 = EndsAs leaves c.args.work c.loop-progress.progress c.round.new.self in
    subst HasNoValuation c.loop-progress.invariant.query (subst R c.in-Unsat.is c.in_ok-round.ensures.ends)
