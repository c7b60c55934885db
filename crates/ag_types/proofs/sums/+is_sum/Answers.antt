use Rattle.std.proofs.Common.{◌≡◌, true, false, not, ap, sym, ◌∙◌}
use Rattle.ag_types.specs.Sums.{is_sum}
use Rattle.ag_types.proofs.Summing.{sum_pre, sum_minus, sum_not, sum_both, sum_not_both, sum_other}
use Rattle.ag_types.proofs.sums.+is_sum.Goals as goal

pub returns-in-Pre : goal.returns-in-Pre
returns-in-Pre t c =
    c.is_named_stream.ensures ∙ rw (c.get.ensures, c.in-Unary.is, c.in-Pre.is) (sym (sum_pre c.args.sight.now c.in-Unary.place c.in-Unary.arg))

pub returns-in-Minus : goal.returns-in-Minus
returns-in-Minus t c =
    c.is_sum.ensures ∙ rw (c.get-in-Minus.ensures, c.in-Unary.is, c.in-Minus.is) (sym (sum_minus c.args.sight.now c.in-Unary.place c.in-Unary.arg))

pub returns-in-Not : goal.returns-in-Not
returns-in-Not t c =
    c.is_sum-in-Not.ensures ∙ rw (c.get-in-Not.ensures, c.in-Unary.is, c.in-Not.is) (sym (sum_not c.args.sight.now c.in-Unary.place c.in-Unary.arg))

pub returns-then-is_sum : goal.returns-then-is_sum
returns-then-is_sum t c =
    let left : is_sum c.args.sight.now c.in-Binary.left ≡ true = ap (is_sum c.args.sight.now) (sym c.get-then-adds.ensures) ∙ sym c.is_sum-then-adds.ensures ∙ c.if-is_sum.true in
    c.is_sum-then-is_sum.ensures ∙ rw (c.get-then-is_sum.ensures, c.in-Binary.is)
    (sym (sum_both c.args.sight.now c.in-Binary.op c.in-Binary.place c.in-Binary.left c.in-Binary.right (sym c.adds.ensures ∙ c.if-adds.true) left))

pub returns-else-is_sum : goal.returns-else-is_sum
returns-else-is_sum t c =
    let left : is_sum c.args.sight.now c.in-Binary.left ≡ false = ap (is_sum c.args.sight.now) (sym c.get-then-adds.ensures) ∙ sym c.is_sum-then-adds.ensures ∙ c.if-is_sum.false in
    c.if-is_sum.false ∙ rw c.in-Binary.is (sym (sum_not_both c.args.sight.now c.in-Binary.op c.in-Binary.place c.in-Binary.left c.in-Binary.right (sym c.adds.ensures ∙ c.if-adds.true) left))

pub returns-else-adds : goal.returns-else-adds
returns-else-adds t c =
    ap not c.is_varying.ensures ∙ rw c.in-Binary.is (sym (sum_other c.args.sight.now c.in-Binary.op c.in-Binary.place c.in-Binary.left c.in-Binary.right (sym c.adds.ensures ∙ c.if-adds.false)))
