use Rattle.std.proofs.Common.{◌∙◌, List, ap, subst}
use Rattle.ag_query.specs.declared.query.Query.{Query}
use Rattle.ag_query.specs.declared.clauses.LClause.{LClause}
use Rattle.ag_tree.specs.Trail.{literals}
use Rattle.ag_tree.specs.Going.{AreMet}
use Rattle.ag_tree.proofs.Solving.{next_said}
use Rattle.ag_tree.proofs.rounds.Progress.next.Goals as goal

pub returns-then-are_met : goal.returns-then-are_met
returns-then-are_met c =
    subst (λ (cs : List LClause). AreMet (literals c.args.self.now.trail.steps) cs) (c.as_slice-clauses.ensures ∙ ap (λ (q : Query). q.clauses) c.query.ensures) (c.are_met.ensures c.if-are_met.true)

pub returns : goal.returns
returns c = next_said c.args.self.now c.first_unset.result c.requires.going c.requires.rest c.first_unset.ensures
