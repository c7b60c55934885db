-- The difference's parts are those of the row.
use Rattle.std.proofs.Common.{◌≡◌, not, of_z, rules, subst, to_z, ◌∙◌}
use Rattle.std.specs.Prelude.{FitsSigned, IfOk, Some, ◌-ℤ◌}
use Rattle.std.specs.Int.{w128}
use Rattle.std.proofs.lemmas.Int.{to_z-of_z}
use Rattle.ag_linear.proofs.Held.{minus_joined, minus_past, past_passes}
use Rattle.ag_linear.proofs.Wide.{difference_again}
use Rattle.ag_linear.specs.Rows.{Linear, carried_row, keeps_row, minus}
use Rattle.ag_linear.proofs.rows.minus.Goals as goal

pub returns-in_default-clause-passes : goal.returns-in_default-clause-passes
returns-in_default-clause-passes c =
    let l = c.left.inside in
    let r = c.right.inside in
    let left : FitsSigned w128 l.constant = search rules in
    let right : FitsSigned w128 r.constant = search rules in
    c.past_128_bits.ensures.passes
    ∙ past_passes (minus c.args.left c.args.right) (minus_past _ l.constant r.constant l.factors.items r.factors.items l.hidden.items r.hidden.items c.args.left c.args.right c.left.view_is c.right.view_is (difference_again l.constant r.constant left right) c.in_default.ensures)

pub returns-clause-row : goal.returns-clause-row
returns-clause-row c =
    let l = c.left.inside in
    let r = c.right.inside in
    let left : FitsSigned w128 l.constant = search rules in
    let right : FitsSigned w128 r.constant = search rules in
    let fits : FitsSigned w128 c.in-Some.constant = search rules in
    let exact : to_z w128 (of_z w128 c.in-Some.constant) ≡ l.constant -ℤ r.constant = to_z-of_z w128 c.in-Some.constant fits ∙ (c.in-Some.ensures.1 ∙ difference_again l.constant r.constant left right) in
    let e = minus_joined _ l.constant r.constant l.factors.items r.factors.items l.hidden.items r.hidden.items c.args.left c.args.right c.negated.result c.left.view_is c.right.view_is exact c.negated.ensures.factors c.negated.ensures.hidden in
    subst (λ (s : Linear). IfOk c.add.result (λ k. k.row ≡ carried_row (Some s))) e c.add.ensures.row

pub returns-clause-passes : goal.returns-clause-passes
returns-clause-passes c =
    let l = c.left.inside in
    let r = c.right.inside in
    let left : FitsSigned w128 l.constant = search rules in
    let right : FitsSigned w128 r.constant = search rules in
    let fits : FitsSigned w128 c.in-Some.constant = search rules in
    let exact : to_z w128 (of_z w128 c.in-Some.constant) ≡ l.constant -ℤ r.constant = to_z-of_z w128 c.in-Some.constant fits ∙ (c.in-Some.ensures.1 ∙ difference_again l.constant r.constant left right) in
    let e = minus_joined _ l.constant r.constant l.factors.items r.factors.items l.hidden.items r.hidden.items c.args.left c.args.right c.negated.result c.left.view_is c.right.view_is exact c.negated.ensures.factors c.negated.ensures.hidden in
    subst (λ (s : Linear). IfOk c.add.result (λ k. k.passes ≡ not (keeps_row s))) e c.add.ensures.passes
