-- Factors in order: the sum of two lists of them is their merge.
use Rattle.std.proofs.Common.{◌≡◌, ◌≢◌, ℕ, ◌+◌, ◌<◌, ◌≤◌, Bool, true, false, cond, ltb, eqb, not, List, [], ◌∷◌, ◌++◌, ap, sym, ◌∙◌, refl, arith}
use Rattle.std.specs.Prelude.{◌+ℤ◌, ◌&&◌, ◌||◌}
use Rattle.std.specs.List.{list_all}
use Rattle.std.proofs.lemmas.Bool.Decides.{nat_tests}
use Rattle.ag_linear.specs.declared.value.Factor.{Factor}
use Rattle.ag_linear.specs.RowOrder.{AreInOrder}
use Rattle.ag_linear.specs.Rows.{add_factor, is_of_one, is_zero, joined, plus_factors, precedes}

-- ---- places in order

-- a factor's place as a number
abbrev pub place_of : ℕ → Bool → ℕ
place_of stream before = stream + stream + cond before 1 0

precedes_by_place : (s t : ℕ) (b c : Bool) → (ltb s t || (eqb s t && (not b && c))) ≡ ltb (place_of s b) (place_of t c)
precedes_by_place s t true true = grind (arith, nat_tests)
precedes_by_place s t true false = grind (arith, nat_tests)
precedes_by_place s t false true = grind (arith, nat_tests)
precedes_by_place s t false false = grind (arith, nat_tests)

of_one_by_place : (s t : ℕ) (b c : Bool) → (eqb s t && cond b c (not c)) ≡ eqb (place_of s b) (place_of t c)
of_one_by_place s t true true = grind (arith, nat_tests)
of_one_by_place s t true false = grind (arith, nat_tests)
of_one_by_place s t false true = grind (arith, nat_tests)
of_one_by_place s t false false = grind (arith, nat_tests)

abbrev pub place : Factor → ℕ
place f = place_of f.stream f.before

pub precedes_is : (f g : Factor) → precedes f g ≡ ltb (place f) (place g)
precedes_is f g = precedes_by_place f.stream g.stream f.before g.before

pub of_one_is : (f g : Factor) → is_of_one f g ≡ eqb (place f) (place g)
of_one_is f g = of_one_by_place f.stream g.stream f.before g.before

pub both_hold : (a b : Bool) → (a && b) ≡ true → (a ≡ true) × (b ≡ true)
both_hold true b h = (refl, h)
both_hold false b h = absurd (cc)

-- ---- a factor among others

follows : (f g : Factor) → precedes f g ≡ true → place f < place g
follows f g h = let e = precedes_is f g in grind (arith, nat_tests)

precedes_from : (f g : Factor) → place f < place g → precedes f g ≡ true
precedes_from f g h = let e = precedes_is f g in grind (arith, nat_tests)

not_precedes_from : (f g : Factor) → place g ≤ place f → precedes f g ≡ false
not_precedes_from f g h = let e = precedes_is f g in grind (arith, nat_tests)

not_of_one_from : (f g : Factor) → place f ≢ place g → is_of_one f g ≡ false
not_of_one_from f g h = let e = of_one_is f g in grind (arith, nat_tests)

of_one_from : (f g : Factor) → place f ≡ place g → is_of_one f g ≡ true
of_one_from f g h = let e = of_one_is f g in grind (arith, nat_tests)

pub before_place : (f g : Factor) → precedes f g ≡ true → place f ≤ place g
before_place f g h = omega (arith, follows f g h)

pub same_place : (f g : Factor) → precedes f g ≡ false → precedes g f ≡ false → place f ≡ place g
same_place f g p q = let a = precedes_is f g in let b = precedes_is g f in grind (arith, nat_tests)

-- what stands before f stands before all that f stands before
pub before_all : (h f : Factor) (fs : List Factor) → place h ≤ place f → list_all (precedes f) fs ≡ true → list_all (precedes h) fs ≡ true
before_all h f [] lt all = refl
before_all h f (g ∷ gs) lt all =
    let parts = both_hold (precedes f g) (list_all (precedes f) gs) all in
    let first : precedes h g ≡ true = precedes_from h g (omega (arith, follows f g parts.0)) in
    rw first (before_all h f gs lt parts.1)

pub add_first : (f : Factor) (gs : List Factor) → list_all (precedes f) gs ≡ true → add_factor f gs ≡ f ∷ gs
add_first f [] all = refl
add_first f (g ∷ gs) all =
    let here = (both_hold (precedes f g) (list_all (precedes f) gs) all).0 in
    let apart : is_of_one f g ≡ false = not_of_one_from f g (λ e. omega (arith, follows f g here, e)) in
    rw (apart, here) refl

pub add_later : (f g : Factor) (gs : List Factor) → precedes g f ≡ true → add_factor f (g ∷ gs) ≡ g ∷ add_factor f gs
add_later f g gs here =
    let apart : is_of_one f g ≡ false = not_of_one_from f g (λ e. omega (arith, follows g f here, e)) in
    let behind : precedes f g ≡ false = not_precedes_from f g (omega (arith, follows g f here)) in
    rw (apart, behind) refl

pub add_same : (f g : Factor) (gs : List Factor) → place f ≡ place g → add_factor f (g ∷ gs) ≡ joined f g ++ gs
add_same f g gs e = rw (of_one_from f g e) refl

-- ---- the first factor of a sum

pub plus_later : (g : Factor) (fs gs : List Factor) → list_all (precedes g) fs ≡ true → plus_factors fs (g ∷ gs) ≡ g ∷ plus_factors fs gs
plus_later g [] gs all = refl
plus_later g (f ∷ fs) gs all =
    let parts = both_hold (precedes g f) (list_all (precedes g) fs) all in
    ap (add_factor f) (plus_later g fs gs parts.1) ∙ add_later f g (plus_factors fs gs) parts.0

pub plus_both : (f g : Factor) (fs gs : List Factor) → place f ≡ place g → list_all (precedes f) fs ≡ true → plus_factors (f ∷ fs) (g ∷ gs) ≡ joined f g ++ plus_factors fs gs
plus_both f g fs gs e all =
    ap (add_factor f) (plus_later g fs gs (before_all g f fs (omega (arith, e)) all)) ∙ add_same f g (plus_factors fs gs) e

-- the cases of a factor at its place among others
abbrev placed : Bool → Bool → Factor → Factor → List Factor → List Factor → List Factor
placed one first f g gs more = cond one (joined f g ++ gs) (cond first (f ∷ g ∷ gs) (g ∷ more))

all_joined : (h f g : Factor) (gs : List Factor) (zero : Bool) → precedes h g ≡ true → list_all (precedes h) gs ≡ true → list_all (precedes h) (cond zero [] (record { stream = g.stream; before = g.before; factor = f.factor +ℤ g.factor } ∷ []) ++ gs) ≡ true
all_joined h f g gs true there all = all
all_joined h f g gs false there all = rw there all

all_placed : (one first : Bool) (h f g : Factor) (gs more : List Factor) → precedes h f ≡ true → precedes h g ≡ true → list_all (precedes h) gs ≡ true → list_all (precedes h) more ≡ true → list_all (precedes h) (placed one first f g gs more) ≡ true
all_placed true first h f g gs more here there all rest = all_joined h f g gs (is_zero (f.factor +ℤ g.factor)) there all
all_placed false true h f g gs more here there all rest = rw (here, there) all
all_placed false false h f g gs more here there all rest = rw there rest

all_add : (h f : Factor) (gs : List Factor) → precedes h f ≡ true → list_all (precedes h) gs ≡ true → list_all (precedes h) (add_factor f gs) ≡ true
all_add h f [] here all = rw here refl
all_add h f (g ∷ gs) here all =
    let parts = both_hold (precedes h g) (list_all (precedes h) gs) all in
    all_placed (is_of_one f g) (precedes f g) h f g gs (add_factor f gs) here parts.0 parts.1 (all_add h f gs here parts.1)

all_plus : (h : Factor) (fs gs : List Factor) → list_all (precedes h) fs ≡ true → list_all (precedes h) gs ≡ true → list_all (precedes h) (plus_factors fs gs) ≡ true
all_plus h [] gs here all = all
all_plus h (f ∷ fs) gs here all =
    let parts = both_hold (precedes h f) (list_all (precedes h) fs) here in
    all_add h f (plus_factors fs gs) parts.0 (all_plus h fs gs parts.1 all)

pub plus_first : (f : Factor) (fs gs : List Factor) → list_all (precedes f) fs ≡ true → list_all (precedes f) gs ≡ true → plus_factors (f ∷ fs) gs ≡ f ∷ plus_factors fs gs
plus_first f fs gs here all = add_first f (plus_factors fs gs) (all_plus f fs gs here all)

-- ---- sums are in order

order_joined : (f g : Factor) (gs : List Factor) (zero : Bool) → zero ≡ is_zero (f.factor +ℤ g.factor) → list_all (precedes g) gs ≡ true → AreInOrder gs → AreInOrder (cond zero [] (record { stream = g.stream; before = g.before; factor = f.factor +ℤ g.factor } ∷ []) ++ gs)
order_joined f g gs true e all rest = rest
order_joined f g gs false e all rest = (all, sym e, rest)

order_placed : (one first : Bool) (f g : Factor) (gs : List Factor) → one ≡ is_of_one f g → first ≡ precedes f g → is_zero f.factor ≡ false → AreInOrder (g ∷ gs) → AreInOrder (add_factor f gs) → AreInOrder (placed one first f g gs (add_factor f gs))
order_placed true first f g gs e p nonzero order more = order_joined f g gs (is_zero (f.factor +ℤ g.factor)) refl order.0 order.2
order_placed false true f g gs e p nonzero order more =
    let lt = follows f g (sym p) in
    let rest = before_all f g gs (omega (arith, lt)) order.0 in
    let all : list_all (precedes f) (g ∷ gs) ≡ true = rw (← p) rest in
    (all, nonzero, order)
order_placed false false f g gs e p nonzero order more =
    let one = of_one_is f g in
    let first = precedes_is f g in
    let lt : place g < place f = grind (arith, nat_tests) in
    (all_add g f gs (precedes_from g f lt) order.0, order.1, more)

order_add : (f : Factor) (gs : List Factor) → is_zero f.factor ≡ false → AreInOrder gs → AreInOrder (add_factor f gs)
order_add f [] nonzero order = (refl, nonzero, tt)
order_add f (g ∷ gs) nonzero order = order_placed (is_of_one f g) (precedes f g) f g gs refl refl nonzero order (order_add f gs nonzero order.2)

pub order_plus : (fs gs : List Factor) → AreInOrder fs → AreInOrder gs → AreInOrder (plus_factors fs gs)
order_plus [] gs left right = right
order_plus (f ∷ fs) gs left right = order_add f (plus_factors fs gs) left.1 (order_plus fs gs left.2 right)

pub plus_none : (fs : List Factor) → AreInOrder fs → plus_factors fs [] ≡ fs
plus_none [] order = refl
plus_none (f ∷ fs) order = plus_first f fs [] order.0 refl ∙ ap (λ gs. f ∷ gs) (plus_none fs order.2)
