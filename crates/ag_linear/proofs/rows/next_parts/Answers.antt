use Rattle.std.proofs.Common.{false, arith, get_or, sym, ◌∙◌, refl, rules}
use Rattle.std.specs.Prelude.{pos, FitsSigned}
use Rattle.std.specs.Int.{w128}
use Rattle.std.proofs.lemmas.Bool.Decides.{nat_tests}
use Rattle.std.proofs.lemmas.Int.{to_z-of_z}
use Rattle.ag_linear.specs.declared.value.Factor.{Factor}
use Rattle.ag_linear.proofs.Parts.{all_empty, all_opened, opened_left, opened_right, opened_both}
use Rattle.ag_linear.specs.Rows.{precedes}
use Rattle.ag_linear.proofs.rows.next_parts.Goals as goal

abbrev none : Factor
none = record { stream = 0; before = false; factor = pos 0 }

pub returns-in-len1-up-empty-clause-parts : goal.returns-in-len1-up-empty-clause-parts
returns-in-len1-up-empty-clause-parts c =
    let xs = c.args.left.now in
    let gs = c.args.right.now in
    opened_left xs gs _ _ none _ _ _ _
    (record { some = grind (arith, nat_tests); stream_is = c.of_left.ensures.place.0; before_is = c.of_left.ensures.place.1; factor_is = c.of_left.ensures.parts.0; more_is = c.of_left.ensures.rest.0 })
    c.of_left.ensures.parts.1 c.of_left.ensures.rest.1 c.requires.left_order (all_empty (precedes (get_or xs 0 none)) gs (grind (arith, nat_tests)))

pub returns-then-precedes-clause-parts : goal.returns-then-precedes-clause-parts
returns-then-precedes-clause-parts c =
    let xs = c.args.left.now in
    let gs = c.args.right.now in
    let call = c.of_left-then-precedes.ensures in
    opened_left xs gs _ _ none _ _ _ _
    (record { some = grind (arith, nat_tests); stream_is = call.place.0; before_is = call.place.1; factor_is = call.parts.0; more_is = call.rest.0 })
    call.parts.1 call.rest.1 c.requires.left_order (all_opened (get_or xs 0 none) gs none (grind (arith, nat_tests)) (sym c.precedes.ensures ∙ c.if-precedes.true) c.requires.right_order)

pub returns-then-precedes-2-clause-parts : goal.returns-then-precedes-2-clause-parts
returns-then-precedes-2-clause-parts c =
    let xs = c.args.left.now in
    let gs = c.args.right.now in
    let call = c.of_right-then-precedes-2.ensures in
    opened_right xs gs _ _ none _ _ _ _
    (record { some = grind (arith, nat_tests); stream_is = call.place.0; before_is = call.place.1; factor_is = call.parts.1; more_is = call.rest.1 })
    call.parts.0 call.rest.0 c.requires.right_order (all_opened (get_or gs 0 none) xs none (grind (arith, nat_tests)) (sym c.precedes-else-precedes.ensures ∙ c.if-precedes-2.true) c.requires.left_order)

pub returns-else-precedes-2-clause-parts : goal.returns-else-precedes-2-clause-parts
returns-else-precedes-2-clause-parts c =
    let xs = c.args.left.now in
    let gs = c.args.right.now in
    let f : FitsSigned w128 (get_or xs 0 none).factor = search rules in
    let g : FitsSigned w128 (get_or gs 0 none).factor = search rules in
    opened_both xs gs _ _ none _ _ _ _ (grind (arith, nat_tests)) (to_z-of_z w128 _ f) refl
    (record { some = grind (arith, nat_tests); stream_is = refl; before_is = refl; factor_is = to_z-of_z w128 _ g; more_is = refl })
    c.requires.left_order (sym c.precedes.ensures ∙ c.if-precedes.false) (sym c.precedes-else-precedes.ensures ∙ c.if-precedes-2.false)
