use Rattle.std.proofs.Common.{◌<◌, length, subst, refl, rules}
use Rattle.std.proofs.lemmas.List.{nil_from_length}
use Rattle.ag_query.specs.declared.query.Query.{Query}
use Rattle.ag_kernel.specs.State.{HasNoValuation}
use Rattle.ag_tree.specs.Answers.{IsSpent}
use Rattle.ag_tree.proofs.Solving.{unsat_from, spent_from}
use Rattle.ag_tree.proofs.rounds.Progress.turn.Goals as goal

pub returns-then-is_empty-clause-ends : goal.returns-then-is_empty-clause-ends
returns-then-is_empty-clause-ends g c leaves =
    let s = c.conclude.new.self in
    subst HasNoValuation c.in_ok-fact.ensures.keeps.query (unsat_from s.kernel.query c.in_ok-fact.fact.lits.items (nil_from_length c.in_ok-fact.fact.lits.items (search rules)) c.in_ok-fact.ensures.fact.follows)

pub returns-then-is_spent-clause-ends : goal.returns-then-is_spent-clause-ends
returns-then-is_spent-clause-ends g c leaves =
    let s = c.conclude.new.self in
    let some : 0 < length c.in_ok-fact.fact.lits.items = search rules in
    subst (λ (q : Query). IsSpent q c.args.work s.facts) c.in_ok-fact.ensures.keeps.query (spent_from s c.in_ok-fact.fact c.args.work c.in_ok-fact.ensures.going c.in_ok-fact.ensures.fact some (c.if-is_spent.ensures.yes refl))
