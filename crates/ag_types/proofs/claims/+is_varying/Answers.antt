use Rattle.std.proofs.Common.{◌≡◌, true, false, ap, sym, ◌∙◌}
use Rattle.ag_types.specs.Constants.{is_varying}
use Rattle.ag_types.proofs.Claiming.{varying_minus, varying_not, varying_left, varying_right, varying_test, varying_yes, varying_no}
use Rattle.ag_types.proofs.claims.+is_varying.Goals as goal

pub returns-in-Minus : goal.returns-in-Minus
returns-in-Minus t c =
    c.is_varying.ensures ∙ rw (c.get.ensures, c.in-Unary.is, c.in-Minus.is) (sym (varying_minus c.args.sight.now c.in-Unary.place c.in-Unary.arg))

pub returns-in-Not : goal.returns-in-Not
returns-in-Not t c =
    c.is_varying-in-Not.ensures ∙ rw (c.get-in-Not.ensures, c.in-Unary.is, c.in-Not.is) (sym (varying_not c.args.sight.now c.in-Unary.place c.in-Unary.arg))

pub returns-then-is_varying : goal.returns-then-is_varying
returns-then-is_varying t c =
    let left : is_varying c.args.sight.now c.in-Binary.left ≡ true = ap (is_varying c.args.sight.now) (sym c.get-else-is_arrow.ensures) ∙ sym c.is_varying-else-is_arrow.ensures ∙ c.if-is_varying.true in
    c.if-is_varying.true ∙ rw c.in-Binary.is (sym (varying_left c.args.sight.now c.in-Binary.op c.in-Binary.place c.in-Binary.left c.in-Binary.right (sym c.is_arrow.ensures ∙ c.if-is_arrow.false) left))

pub returns-else-is_varying : goal.returns-else-is_varying
returns-else-is_varying t c =
    let left : is_varying c.args.sight.now c.in-Binary.left ≡ false = ap (is_varying c.args.sight.now) (sym c.get-else-is_arrow.ensures) ∙ sym c.is_varying-else-is_arrow.ensures ∙ c.if-is_varying.false in
    c.is_varying-else-is_varying.ensures ∙ rw (c.get-else-is_varying.ensures, c.in-Binary.is)
    (sym (varying_right c.args.sight.now c.in-Binary.op c.in-Binary.place c.in-Binary.left c.in-Binary.right (sym c.is_arrow.ensures ∙ c.if-is_arrow.false) left))

pub returns-then-is_varying-2 : goal.returns-then-is_varying-2
returns-then-is_varying-2 t c =
    let test : is_varying c.args.sight.now c.in-Choice.test ≡ true = ap (is_varying c.args.sight.now) (sym c.get-in-Choice.ensures) ∙ sym c.is_varying-in-Choice.ensures ∙ c.if-is_varying-2.true in
    c.if-is_varying-2.true ∙ rw c.in-Choice.is (sym (varying_test c.args.sight.now c.in-Choice.place c.in-Choice.test c.in-Choice.yes c.in-Choice.no test))

pub returns-then-is_varying-3 : goal.returns-then-is_varying-3
returns-then-is_varying-3 t c =
    let test : is_varying c.args.sight.now c.in-Choice.test ≡ false = ap (is_varying c.args.sight.now) (sym c.get-in-Choice.ensures) ∙ sym c.is_varying-in-Choice.ensures ∙ c.if-is_varying-2.false in
    let yes_branch : is_varying c.args.sight.now c.in-Choice.yes ≡ true = ap (is_varying c.args.sight.now) (sym c.get-else-is_varying-2.ensures) ∙ sym c.is_varying-else-is_varying-2.ensures ∙ c.if-is_varying-3.true in
    c.if-is_varying-3.true ∙ rw c.in-Choice.is (sym (varying_yes c.args.sight.now c.in-Choice.place c.in-Choice.test c.in-Choice.yes c.in-Choice.no test yes_branch))

pub returns-else-is_varying-3 : goal.returns-else-is_varying-3
returns-else-is_varying-3 t c =
    let test : is_varying c.args.sight.now c.in-Choice.test ≡ false = ap (is_varying c.args.sight.now) (sym c.get-in-Choice.ensures) ∙ sym c.is_varying-in-Choice.ensures ∙ c.if-is_varying-2.false in
    let yes_branch : is_varying c.args.sight.now c.in-Choice.yes ≡ false = ap (is_varying c.args.sight.now) (sym c.get-else-is_varying-2.ensures) ∙ sym c.is_varying-else-is_varying-2.ensures ∙ c.if-is_varying-3.false in
    c.is_varying-else-is_varying-3.ensures ∙ rw (c.get-else-is_varying-3.ensures, c.in-Choice.is)
    (sym (varying_no c.args.sight.now c.in-Choice.place c.in-Choice.test c.in-Choice.yes c.in-Choice.no test yes_branch))
