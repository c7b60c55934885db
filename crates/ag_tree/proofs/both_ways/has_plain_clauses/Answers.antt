use Rattle.std.proofs.Common.{◌∙◌, ◌<◌, ℕ, length, List, sym, subst, refl, All}
use Rattle.std.proofs.lemmas.List.Elements.{AllWithin-more, at_read}
use Rattle.std.proofs.lemmas.Bool.{false≢true}
use Rattle.ag_query.specs.declared.clauses.Lit.{Lit}
use Rattle.ag_query.specs.declared.clauses.LClause.{LClause}
use Rattle.ag_query.specs.Made.{IsClauseOver}
use Rattle.ag_tree.specs.Facts.{HasNoneBothWays}
use Rattle.ag_tree.proofs.Looking.{all_seen}
use Rattle.ag_tree.proofs.both_ways.has_plain_clauses.Goals as goal

pub has_none_both_ways-requires : goal.has_none_both_ways-requires
has_none_both_ways-requires c =
    let cs : List LClause = c.as_slice-clause-items.result.now in
    let P : LClause → Type 0 = IsClauseOver (length c.args.query.now.atoms) in
    let Below : ℕ → List Lit → Type 0 = λ atoms lits. All (λ l. l.atom < atoms) lits in
    let all : All P cs = subst (λ (xs : List LClause). All P xs) (sym c.as_slice-clause-items.ensures) c.args.query.now.literals in
    let one : P c.clause-item.result = subst P (sym c.clause-item.is) (all c.loop-clause.clause-index c.clause-item.result c.loop-clause-test.true) in
    let here : Below (length c.args.query.now.atoms) c.as_slice.result.now = subst (Below (length c.args.query.now.atoms)) (sym c.as_slice.ensures) one in
    subst (λ (n : ℕ). Below n c.as_slice.result.now) (sym c.loop-clause.invariant.1) here

pub returns-then-not-branch : goal.returns-then-not-branch
returns-then-not-branch c =
    let cs : List LClause = c.as_slice-clause-items.result.now in
    let P : LClause → Type 0 = λ x. HasNoneBothWays x.lits in (
      (λ e. absurd (false≢true e)),
      (λ plain.
          let all : All P cs = subst (λ (xs : List LClause). All P xs) (sym c.as_slice-clause-items.ensures) plain in
          let one : HasNoneBothWays c.clause-item.result.lits = subst P (sym c.clause-item.is) (all c.loop-clause.clause-index c.clause-item.result c.loop-clause-test.true) in
          sym c.if-not-branch.true ∙ c.in_ok-has_none_both_ways.ensures.plain.1 (subst HasNoneBothWays (sym c.as_slice.ensures) one)),
    )

pub loop-clause-preserved : goal.loop-clause-preserved
loop-clause-preserved c =
    let cs : List LClause = c.as_slice-clause-items.result.now in
    let P : LClause → Type 0 = λ x. HasNoneBothWays x.lits in
    let here : P c.clause-item.result = subst HasNoneBothWays c.as_slice.ensures (c.in_ok-has_none_both_ways.ensures.plain.0 c.if-not-branch.false) in
    (AllWithin-more P cs 0 c.loop-clause.clause-index c.loop-clause.invariant.0 (at_read cs P c.loop-clause.clause-index c.clause-item.result c.loop-clause-test.true c.clause-item.is here), c.in_ok-has_none_both_ways.ensures.atoms ∙ c.loop-clause.invariant.1)

pub returns : goal.returns
returns c =
    let P : LClause → Type 0 = λ x. HasNoneBothWays x.lits in
    ((λ e. subst (λ (xs : List LClause). All P xs) c.as_slice-clause-items.ensures (all_seen P c.as_slice-clause-items.result.now c.loop-clause.clause-index c.loop-clause.invariant.0 c.loop-clause-test.false)), (λ plain. refl))
