use Rattle.std.proofs.Common.{◌∙◌, false, Bool, Some, ap, sym, get_or, Contains}
use Rattle.std.proofs.lemmas.List.Elements.{Contains-get_or}
use Rattle.ag_query.specs.declared.clauses.Lit.{Lit}
use Rattle.ag_tree.specs.Trail.{literals}
use Rattle.ag_tree.proofs.Lits.{any_at, truth_has}
use Rattle.ag_tree.proofs.Looking.{beq_true}
use Rattle.ag_tree.proofs.trail.Trail.has_one.Goals as goal

pub returns-in-loop-lit : goal.returns-in-loop-lit
returns-in-loop-lit c =
    let d : Lit = record { atom = 0; holds = false } in
    let lits = literals c.args.self.now.steps in
    let l : Lit = get_or c.args.clause.now c.loop-lit.lit-index d in
    λ said. any_at (Contains lits) c.args.clause.now l (Contains-get_or c.args.clause.now c.loop-lit.lit-index d c.loop-lit-test.true)
    (truth_has lits l (sym c.value.ensures ∙ c.in-Some.is ∙ ap (λ (v : Bool). Some v) (beq_true c.in-Some.holds l.holds c.if-holds-lit.true)))
