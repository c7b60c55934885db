use Rattle.std.proofs.Common.{List, subst, Contains}
use Rattle.std.specs.List.{Any}
use Rattle.std.proofs.lemmas.List.Elements.{AllWithin-more, at_read}
use Rattle.ag_query.specs.declared.clauses.Lit.{Lit}
use Rattle.ag_query.specs.declared.clauses.LClause.{LClause}
use Rattle.ag_tree.specs.Trail.{literals}
use Rattle.ag_tree.proofs.Looking.{all_seen}
use Rattle.ag_tree.proofs.rounds.are_met.Goals as goal

pub loop-clause-preserved : goal.loop-clause-preserved
loop-clause-preserved c =
    let cs : List LClause = c.args.clauses.now in
    let A : List Lit → Type 0 = Any (Contains (literals c.args.trail.now.steps)) in
    let P : LClause → Type 0 = λ x. A x.lits in
    let here : P c.clause-item.result = subst A c.as_slice.ensures (c.has_one.ensures c.if-not-has_one.false) in
    AllWithin-more P cs 0 c.loop-clause.clause-index c.loop-clause.invariant (at_read cs P c.loop-clause.clause-index c.clause-item.result c.loop-clause-test.true c.clause-item.is here)

pub returns : goal.returns
returns c said =
    let P : LClause → Type 0 = λ x. Any (Contains (literals c.args.trail.now.steps)) x.lits in
    all_seen P c.args.clauses.now c.loop-clause.clause-index c.loop-clause.invariant c.loop-clause-test.false
