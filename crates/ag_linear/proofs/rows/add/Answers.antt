-- The parts of the sum, and that it passes every limit where a factor has more than 128 bits.
use Rattle.std.proofs.Common.{ap, sym, ◌++◌, ◌∙◌}
use Rattle.ag_linear.proofs.Held.{joined_held, joined_past, past_passes, sum_of_same}
use Rattle.ag_linear.specs.RowOrder.{are_carried, joined_row}
use Rattle.ag_linear.proofs.rows.add.Goals as goal

pub returns-in_default-clause-passes : goal.returns-in_default-clause-passes
returns-in_default-clause-passes c =
    let l = c.left.inside in
    let r = c.right.inside in
    let same = sum_of_same _ _ l.factors.items r.factors.items c.as_slice.ensures.value c.as_slice-2.ensures.value in
    let past = rw c.in_default.is at c.in_ok-factors.ensures.none in
    c.past_128_bits.ensures.passes ∙ past_passes (joined_row c.args.constant c.args.left c.args.right) (joined_past c.args.constant l.factors.items r.factors.items l.constant r.constant l.hidden.items r.hidden.items c.args.left c.args.right c.left.view_is c.right.view_is (sym (ap are_carried same) ∙ past))

pub keep-requires : goal.keep-requires
keep-requires c =
    let l = c.left.inside in
    let r = c.right.inside in
    let same = sum_of_same _ _ l.factors.items r.factors.items c.as_slice.ensures.value c.as_slice-2.ensures.value in
    let some = rw c.in-Some.is at c.in_ok-factors.ensures.some in
    joined_held _ l.constant r.constant l.factors.items r.factors.items _ l.hidden.items r.hidden.items _ c.left.invariant c.right.invariant (some.0 ∙ same) (sym (ap are_carried same) ∙ some.1)
    (c.in_ok-extend_from_slice.ensures.items ∙ ap (λ ys. l.hidden.items ++ ys) c.as_slice-3.ensures.value)
