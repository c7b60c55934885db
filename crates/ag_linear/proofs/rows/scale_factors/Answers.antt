-- What is multiplied next still is as it was.
use Rattle.std.proofs.Common.{◌≡◌, ap, arith, get_or, of_z, rules, to_z, ◌∙◌}
use Rattle.std.specs.Prelude.{◌*ℤ◌, FitsSigned}
use Rattle.std.specs.Int.{w128}
use Rattle.std.proofs.lemmas.Int.{to_z-of_z}
use Rattle.std.proofs.lemmas.List.Sums.{AllPass-from_list_all}
use Rattle.ag_linear.specs.Values.{is_carried}
use Rattle.ag_linear.specs.Rows.{times_factor}
use Rattle.ag_linear.proofs.Scaled.{scaled_factor, scaled_step, scaled_read}
use Rattle.ag_linear.proofs.rows.scale_factors.Goals as goal

pub exact_product-scaled-requires : goal.exact_product-scaled-requires
exact_product-scaled-requires c =
    let xs = c.args.factors.now.items in
    let f = c.index_mut-scaled.result.now in
    let fits : FitsSigned w128 f.factor = search rules in
    let here : f ≡ get_or xs c.loop-i.i f = c.index_mut-scaled.ensures.value ∙ scaled_read _ xs c.loop-i.factors.items c.loop-i.i f c.loop-i.invariant in
    let small = AllPass-from_list_all (λ g. is_carried (c.args.by *ℤ g.factor)) xs c.requires c.loop-i.i f (omega arith) in
    rw (to_z-of_z w128 c.args.by c.ranges.by, to_z-of_z w128 f.factor fits, here) small

pub loop-i-preserved : goal.loop-i-preserved
loop-i-preserved c =
    let xs = c.args.factors.now.items in
    let f = c.index_mut-scaled.result.now in
    let by = to_z w128 (of_z w128 c.args.by) in
    let fits : FitsSigned w128 f.factor = search rules in
    let product_fits : FitsSigned w128 c.exact_product-scaled.result = search rules in
    let here : f ≡ get_or xs c.loop-i.i f = c.index_mut-scaled.ensures.value ∙ scaled_read _ xs c.loop-i.factors.items c.loop-i.i f c.loop-i.invariant in
    scaled_step (times_factor by) xs c.loop-i.factors.items c.loop-i.i f _ (omega arith) c.loop-i.invariant
    (scaled_factor by f (get_or xs c.loop-i.i f) _ here (to_z-of_z w128 c.exact_product-scaled.result product_fits ∙ (c.exact_product-scaled.ensures ∙ ap (λ z. by *ℤ z) (to_z-of_z w128 f.factor fits))))
