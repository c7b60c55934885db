-- What is multiplied next still is as it was.
use Rattle.std.proofs.Common.{◌≡◌, ap, arith, get_or, of_z, rules, to_z, ◌∙◌}
use Rattle.std.specs.Prelude.{◌*ℤ◌, FitsSigned}
use Rattle.std.specs.Int.{w128}
use Rattle.std.proofs.lemmas.Int.{to_z-of_z}
use Rattle.std.proofs.lemmas.List.Sums.{AllPass-from_list_all}
use Rattle.ag_linear.specs.Values.{is_carried}
use Rattle.ag_linear.proofs.Scaled.{scaled_step, scaled_read}
use Rattle.ag_linear.proofs.rows.scale_hidden.Goals as goal

pub exact_product-requires : goal.exact_product-requires
exact_product-requires c =
    let xs = c.args.hidden.now.items in
    let x = c.index.result.now in
    let fits : FitsSigned w128 x = search rules in
    let here : x ≡ get_or xs c.loop-i.i x = c.index.ensures ∙ scaled_read _ xs c.loop-i.hidden.items c.loop-i.i x c.loop-i.invariant in
    let small = AllPass-from_list_all (λ h. is_carried (c.args.by *ℤ h)) xs c.requires c.loop-i.i x (omega arith) in
    rw (to_z-of_z w128 c.args.by c.ranges.by, to_z-of_z w128 x fits, here) small

pub loop-i-preserved : goal.loop-i-preserved
loop-i-preserved c =
    let xs = c.args.hidden.now.items in
    let x = c.index.result.now in
    let by = to_z w128 (of_z w128 c.args.by) in
    let fits : FitsSigned w128 x = search rules in
    let product_fits : FitsSigned w128 c.exact_product.result = search rules in
    let here : x ≡ get_or xs c.loop-i.i x = c.index.ensures ∙ scaled_read _ xs c.loop-i.hidden.items c.loop-i.i x c.loop-i.invariant in
    scaled_step (λ h. by *ℤ h) xs c.loop-i.hidden.items c.loop-i.i x _ (omega arith) c.loop-i.invariant
    (to_z-of_z w128 c.exact_product.result product_fits ∙ (c.exact_product.ensures ∙ ap (λ z. by *ℤ z) (to_z-of_z w128 x fits ∙ here)))
