use Rattle.std.proofs.Common.{◌≡◌, ◌<◌, ℕ, List, Bool, length, get_or, replicate, refl, ap, sym, ◌∙◌, arith, rules}
use Rattle.std.specs.Prelude.{Option, None, false, slice_get, slice_index_or}
use Rattle.std.proofs.lemmas.Bool.{true≢false}
use Rattle.std.proofs.lemmas.Option.{slice_get_read}
use Rattle.ag_linear.specs.declared.value.Value.{Value}
use Rattle.ag_types.specs.Uses.{Constant, declared_value, uses_of}
use Rattle.ag_types.proofs.Evaluating.{none_evaluated, evaluated, all_evaluated}
use Rattle.ag_types.proofs.constants.values.Goals as goal

pub loop-vertex-init : goal.loop-vertex-init
loop-vertex-init g c =
    none_evaluated g.seen c.args.circles.now.order c.in_ok-values.values.items
    (c.in_ok-values.ensures.items_if_clones_equal (λ y h. search rules) ∙ ap (λ (n : ℕ). replicate {A = Option Value} n None) (ap length c.requires.0))

pub loop-vertex-preserved : goal.loop-vertex-preserved
loop-vertex-preserved g c =
    let order = c.args.circles.now.order in
    let k = c.loop-vertex.vertex-index in
    let at = slice_index_or c.as_slice-vertex-items.result.now k 0 in
    let long = ap length c.as_slice-vertex-items.ensures in
    let here : at ≡ get_or order k 0 = ap (λ (z : List ℕ). get_or z k 0) c.as_slice-vertex-items.ensures in
    let on = ap (λ (z : List Bool). slice_index_or z at false) c.as_slice-on_circle.ensures in
    let inside : k < length order = omega (arith, c.loop-vertex-test.true) in
    let within : at < length (uses_of g.seen) = omega (arith, c.requires.1.vertices k 0 inside) in
    evaluated g.seen c.args.circles.now.on_circle order c.requires.1 k c.loop-vertex.values.items c.loop-vertex.invariant inside at c.index-constants-at.result c.in_ok-values-2.field-0 here
    (λ circle. absurd (true≢false (sym ((c.requires.1.circles at within).1 circle) ∙ sym on ∙ c.if-on_circle-at.false)))
    (ap (λ (z : List Constant). slice_get z at) (sym c.requires.0) ∙ slice_get_read c.args.constants.now (length c.args.constants.now) at c.index-constants-at.result refl c.if-at-constants.false c.index-constants-at.is)
    (c.in_ok-values-2.ensures.value ∙ ap (λ (z : List (Option Value)). declared_value z c.index-constants-at.result) c.as_slice.ensures.value)
    c.in_ok-values-2.ensures.kept

pub returns-clause-values : goal.returns-clause-values
returns-clause-values g c =
    let long = ap length c.as_slice-vertex-items.ensures in
    all_evaluated g.seen c.args.circles.now.on_circle c.args.circles.now.order c.requires.1 c.loop-vertex.vertex-index c.loop-vertex.values.items (omega (arith, c.loop-vertex-test.false)) c.loop-vertex.invariant
