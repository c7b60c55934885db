-- What the comparison's row passes, by its parts.
use Rattle.std.proofs.Common.{ap, length, subst, ◌∙◌}
use Rattle.ag_linear.proofs.Held.{less_counted, less_rest, less_uncounted}
use Rattle.ag_linear.specs.RowOrder.{IsHeld}
use Rattle.ag_linear.proofs.rows.passes_less.Goals as goal

pub returns-in-Some : goal.returns-in-Some
returns-in-Some c =
    let left = subst IsHeld c.left.view_is c.left.invariant in
    let right = subst IsHeld c.right.view_is c.right.invariant in
    let fs = c.as_slice-3.ensures.value ∙ ap (λ r. r.factors) c.left.view_is in
    let gs = c.as_slice-4.ensures.value ∙ ap (λ r. r.factors) c.right.view_is in
    less_counted c.args.strict c.rest_keeps-keeps.result c.args.left.now c.args.right.now _ _ _ _ _ left right fs gs c.rest_keeps-keeps.ensures c.if-keeps.true c.in-Some.ensures.count (ap length c.as_slice.ensures.value ∙ ap (λ r. length r.hidden) c.left.view_is) (ap length c.as_slice-2.ensures.value ∙ ap (λ r. length r.hidden) c.right.view_is)

pub returns-in_default : goal.returns-in_default
returns-in_default c =
    let left = subst IsHeld c.left.view_is c.left.invariant in
    let right = subst IsHeld c.right.view_is c.right.invariant in
    less_rest c.args.strict c.rest_keeps-keeps.result c.args.left.now c.args.right.now left right c.rest_keeps-keeps.ensures c.if-keeps.false

pub returns-in_default-2 : goal.returns-in_default-2
returns-in_default-2 c =
    let left = subst IsHeld c.left.view_is c.left.invariant in
    let right = subst IsHeld c.right.view_is c.right.invariant in
    let fs = c.as_slice-3.ensures.value ∙ ap (λ r. r.factors) c.left.view_is in
    let gs = c.as_slice-4.ensures.value ∙ ap (λ r. r.factors) c.right.view_is in
    less_uncounted c.args.strict c.args.left.now c.args.right.now _ _ left right fs gs c.in_default.ensures.count
