-- Names in the order of their texts, and those of one text in the order of their places: the earliest of a name, and the next one.
use Rattle.std.proofs.Common.{◌≡◌, ℕ, suc, ◌≤◌, ◌<◌, Bool, true, false, not, ◌&&◌, ◌||◌, List, [], ◌∷◌, length, get_or, map, refl, inl, inr, ap, sym, ◌∙◌, arith, nat_lt}
use Rattle.std.specs.Prelude.{Some, None}
use Rattle.std.specs.Cmp.{IsStrictWeakOrder, IsTotalOrder}
use Rattle.std.specs.List.{Contains}
use Rattle.std.specs.List.Sorted.{IsSortedBy, IsPartitionedBy, IsPartitionPoint}
use Rattle.std.specs.Ordering.{nat_cmp, is_lt, is_eq, ordering_then, ordering_reverse}
use Rattle.std.specs.declared.cmp.Ordering.{Ordering}
use Rattle.std.specs.declared.cmp.Ordering.TheVariants.{Less, Equal, Greater}
use Rattle.std.proofs.lemmas.Bool.{cases_Bool, cases_lt}
use Rattle.std.proofs.lemmas.Bool.Decides.{nat_tests}
use Rattle.std.proofs.lemmas.Cmp.{nat_cmp_total, nat_list_cmp_total, on_total, then_total}
use Rattle.std.proofs.lemmas.List.{get_or-map, length-map}
use Rattle.std.proofs.lemmas.List.Sorted.{ranks_by, sorted_far}
use Rattle.ag_base.specs.declared.place.Place.{Place}
use Rattle.ag_terms.specs.declared.names.Ident.{Ident}
use Rattle.ag_terms.specs.Names.{same}
use Rattle.ag_symbols.specs.Indexed.{folded, compare_names, is_below, first_by}
use Rattle.ag_symbols.proofs.Orders.{equal, same_is_equal}
use Rattle.ag_linear.proofs.Merges.{both_hold}
use Rattle.ag_types.specs.ClauseFaults.{is_declared_before}
use Rattle.ag_types.specs.Earliest.{stands_before, any_before, compare_places, compare_idents, is_in_front, is_behind, IsNext}
use Rattle.ag_base.specs.Rules.{by_first, is_before}
use Rattle.ag_types.proofs.Breaking.{by_first-skips, nat_lt-skips}

-- ---- the order of places

by_first-one_way : (a b : ℕ) (p q : Bool) → (p ≡ true → q ≡ false) → by_first a b p ≡ true → by_first b a q ≡ false
by_first-one_way a b p q h e = grind (arith, nat_tests)

nat_lt-one_way : (a b : ℕ) → nat_lt a b ≡ true → nat_lt b a ≡ false
nat_lt-one_way a b e = grind (arith, nat_tests)

pub before-one_way : (p q : Place) → is_before p q ≡ true → is_before q p ≡ false
before-one_way p q =
    by_first-one_way p.file q.file _ _
    (by_first-one_way p.line q.line _ _
    (nat_lt-one_way p.column q.column))

pub before-skips : (p q r : Place) → is_before p q ≡ false → is_before q r ≡ false → is_before p r ≡ false
before-skips p q r =
    by_first-skips p.file q.file r.file _ _ _
    (by_first-skips p.line q.line r.line _ _ _
    (nat_lt-skips p.column q.column r.column))

then_less : (a b : ℕ) (o : Ordering) → is_lt (ordering_then (nat_cmp a b) o) ≡ by_first a b (is_lt o)
then_less a b o = grind (arith, nat_tests)

last_less : (a b : ℕ) → is_lt (nat_cmp a b) ≡ nat_lt a b
last_less a b = grind (arith, nat_tests)

before_is : (p q : Place) → is_lt (compare_places p q) ≡ is_before p q
before_is p q =
    then_less p.file q.file (ordering_then (nat_cmp p.line q.line) (nat_cmp p.column q.column))
    ∙ ap (by_first p.file q.file) (then_less p.line q.line (nat_cmp p.column q.column) ∙ ap (by_first p.line q.line) (last_less p.column q.column))

-- ---- the order of names with their places

places_total : IsTotalOrder compare_places
places_total = then_total (on_total (λ (p : Place). p.file) nat_cmp_total) (then_total (on_total (λ (p : Place). p.line) nat_cmp_total) (on_total (λ (p : Place). p.column) nat_cmp_total))

idents_total : IsTotalOrder compare_idents
idents_total = then_total (on_total (λ (i : Ident). folded i.text) nat_list_cmp_total) (on_total (λ (i : Ident). i.place) places_total)

pub front_order : {X : Type 0} (item : X → Ident) → IsStrictWeakOrder (is_in_front item)
front_order item = ranks_by idents_total item

then_first : (a b : Ordering) → is_lt (ordering_then a b) ≡ false → is_lt a ≡ false
then_first Less b e = e
then_first Equal b e = refl
then_first Greater b e = refl

-- then they are in the order of their texts
pub below_sorted : {X : Type 0} (item : X → Ident) (xs : List X) → IsSortedBy (is_in_front item) xs → IsSortedBy (is_below (λ x. (item x).text)) xs
below_sorted item xs sorted k d l h = then_first _ _ (sorted k d l h)

less_is : (a b : Ordering) → is_lt (ordering_then a b) ≡ true → is_eq a ≡ false → a ≡ Less
less_is Less b e f = refl
less_is Equal b e f = cc
less_is Greater b e f = cc

equal_texts : (a b : List ℕ) → same a b ≡ true → compare_names a b ≡ Equal
equal_texts a b e = equal (compare_names a b) (sym (same_is_equal a b) ∙ e)

-- of one text the place decides
front_of_one : (i j : Ident) → compare_names i.text j.text ≡ Equal → is_lt (compare_idents i j) ≡ is_before i.place j.place
front_of_one i j e = ap (λ (z : Ordering). is_lt (ordering_then z (compare_places i.place j.place))) e ∙ before_is i.place j.place

both_true : (a b : Bool) → a ≡ true → b ≡ true → (a && b) ≡ true
both_true a b e f = rw (e, f) refl

behind_texts : (i j : Ident) → is_behind i j ≡ true → compare_names i.text j.text ≡ Equal
behind_texts i j e = equal_texts i.text j.text ((both_hold (same i.text j.text) (is_before i.place j.place) e).0)

behind_in_front : (i j : Ident) → is_behind i j ≡ true → is_lt (compare_idents i j) ≡ true
behind_in_front i j e = front_of_one i j (behind_texts i j e) ∙ (both_hold (same i.text j.text) (is_before i.place j.place) e).1

front_is_behind : (i j : Ident) → is_eq (compare_names i.text j.text) ≡ true → is_lt (compare_idents i j) ≡ true → is_behind i j ≡ true
front_is_behind i j e f =
    both_true (same i.text j.text) (is_before i.place j.place) (same_is_equal i.text j.text ∙ e) (sym (front_of_one i j (equal (compare_names i.text j.text) e)) ∙ f)

-- ---- whether one of a name stands before

blocked : (j x : Ident) (name : List ℕ) (place : Place) → same x.text name ≡ true → is_before x.place place ≡ false → is_lt (compare_idents j x) ≡ false → (same j.text name && is_before j.place place) ≡ false
blocked j x name place e f h =
    elim (cases_Bool (same j.text name)) [
      | inr g ↦ rw g refl
      | inl g ↦
          let one : compare_names j.text x.text ≡ Equal =
          nat_list_cmp_total.congr (folded j.text) (folded name) (folded x.text) (equal_texts j.text name g)
          ∙ nat_list_cmp_total.antisymm (folded name) (folded x.text) ∙ ap ordering_reverse (equal_texts x.text name e) in
          rw g (before-skips j.place x.place place (sym (front_of_one j x one) ∙ h) f)
    ]

-- items of which none stands before
none_before : {X : Type 0} (key : X → List ℕ) (item : X → Ident) (name : List ℕ) (place : Place) (xs : List X) →
    ((k : ℕ) (d : X) → k < length xs → (same (key (get_or xs k d)) name && is_before (item (get_or xs k d)).place place) ≡ false) → any_before key item name place xs ≡ false
none_before key item name place [] h = refl
none_before key item name place (x ∷ xs) h =
    rw (h 0 x (omega arith)) (none_before key item name place xs (λ k d l. h (suc k) d (omega arith)))

first_decides : (a b c : Bool) → a ≡ true → (b ≡ false → c ≡ false) → ((a && b) || c) ≡ b
first_decides true true c e f = refl
first_decides true false c e f = f refl
first_decides false b c e f = cc

any_sorted : {X : Type 0} (item : X → Ident) (name : List ℕ) (place : Place) (xs : List X) →
    ((i j : ℕ) (d : X) → i ≤ j → j < length xs → is_in_front item (get_or xs j d) (get_or xs i d) ≡ false) →
    any_before (λ x. (item x).text) item name place xs ≡ stands_before (first_by (λ x. (item x).text) item name xs) place
any_sorted item name place [] far = refl
any_sorted item name place (x ∷ xs) far =
    elim (cases_Bool (same (item x).text name)) [
      | inl e ↦
          first_decides (same (item x).text name) (is_before (item x).place place) (any_before (λ x. (item x).text) item name place xs) e
          (λ f. none_before (λ x. (item x).text) item name place xs (λ k d l. blocked (item (get_or xs k d)) (item x) name place e f (far 0 (suc k) d (omega arith) (omega arith))))
          ∙ rw e refl
      | inr e ↦ rw e (any_sorted item name place xs (λ i j d le l. far (suc i) (suc j) d (omega arith) (omega arith)))
    ]

any_names : {Y : Type 0} (named : Y → Ident) (i : Ident) (names : List Y) → any_before (λ n. (named n).text) named i.text i.place names ≡ is_declared_before (map named names) i
any_names named i [] = refl
any_names named i (n ∷ names) = ap (λ (z : Bool). (same (named n).text i.text && is_before (named n).place i.place) || z) (any_names named i names)

-- the first of a name decides
pub earliest_decides : {Y : Type 0} (named : Y → Ident) (ys : List Y) (i : Ident) → IsSortedBy (is_in_front named) ys →
    stands_before (first_by (λ y. (named y).text) named i.text ys) i.place ≡ is_declared_before (map named ys) i
earliest_decides named ys i sorted =
    sym (any_sorted named i.text i.place ys (sorted_far (is_in_front named) (front_order named) ys sorted))
    ∙ any_names named i ys

-- ---- the next of a name

not_true : (a : Bool) → not a ≡ true → a ≡ false
not_true true e = cc
not_true false e = refl

not_false : (a : Bool) → not a ≡ false → a ≡ true
not_false true e = refl
not_false false e = cc

-- names that aren't behind another are not followed by such that are
pub parted_by : {Y : Type 0} (named : Y → Ident) (i : Ident) (ys : List Y) → IsSortedBy (is_in_front named) ys → IsPartitionedBy (λ y. not (is_lt (compare_idents i (named y)))) ys
parted_by named i ys sorted k j d le h passes =
    let o : IsStrictWeakOrder (is_in_front (λ (n : Ident). n)) = front_order (λ (n : Ident). n) in
    let far : is_lt (compare_idents (named (get_or ys j d)) (named (get_or ys k d))) ≡ false = sorted_far (is_in_front named) (front_order named) ys sorted k j d le h in
    let last : is_lt (compare_idents i (named (get_or ys j d))) ≡ false = not_true (is_lt (compare_idents i (named (get_or ys j d)))) passes in
    ap not (o.chain i (named (get_or ys j d)) (named (get_or ys k d)) last far)

clash : (a : Bool) → a ≡ true → not a ≡ true → ⊥
clash true e f = cc
clash false e f = cc

-- a name that stands behind another isn't in front of where those begin
module _ {Y : Type 0} (named : Y → Ident) (i : Ident) (ys : List Y) (at : ℕ) (x : Y) (sorted : IsSortedBy (is_in_front named) ys)
    (point : IsPartitionPoint (λ y. not (is_lt (compare_idents i (named y))) ≡ true) (λ y. not (is_lt (compare_idents i (named y))) ≡ false) ys at) where
  -- the position of a name that stands behind
  placed : (j : Ident) → Contains (map named ys) j → is_behind i j ≡ true → (k : ℕ) × (k < length ys) × (at ≤ k) × (named (get_or ys k x) ≡ j)
  placed j h e =
      let inside : h.0 < length ys = omega (arith, length-map ys named, h.1) in
      let is : named (get_or ys h.0 x) ≡ j = sym (get_or-map named ys h.0 x j inside) ∙ h.2 in
      let front : is_lt (compare_idents i (named (get_or ys h.0 x))) ≡ true = ap (λ (z : Ident). is_lt (compare_idents i z)) is ∙ behind_in_front i j e in
      elim (cases_lt h.0 at) [
        | inl lt ↦ absurd (clash (is_lt (compare_idents i (named (get_or ys h.0 x)))) front (point.0 h.0 x (omega arith) lt))
        | inr le ↦ (h.0, inside, le, is)
      ]

  pub next_at_end : length ys ≤ at → IsNext i (map named ys) None
  next_at_end end j h =
      elim (cases_Bool (is_behind i j)) [
        | inr e ↦ e
        | inl e ↦ let p = placed j h e in absurd (omega (arith, p.1, p.2, end))
      ]

  module _ (within : at < length ys) (is : x ≡ get_or ys at x) where
    first_front : is_lt (compare_idents i (named x)) ≡ true
    first_front = not_false (is_lt (compare_idents i (named x))) (ap (λ (z : Y). not (is_lt (compare_idents i (named z)))) is ∙ point.1 at x (omega arith) within)

    -- what stands behind isn't in front of the first
    far_from : (k : ℕ) → k < length ys → at ≤ k → is_lt (compare_idents (named (get_or ys k x)) (named x)) ≡ false
    far_from k h le = ap (λ (z : Y). is_lt (compare_idents (named (get_or ys k x)) (named z))) is ∙ sorted_far (is_in_front named) (front_order named) ys sorted at k x le h

    texts_of : (j : Ident) → is_behind i j ≡ true → compare_names j.text (named x).text ≡ compare_names i.text (named x).text
    texts_of j e = sym (nat_list_cmp_total.congr (folded i.text) (folded j.text) (folded (named x).text) (behind_texts i j e))

    pub next_missed : is_eq (compare_names i.text (named x).text) ≡ false → IsNext i (map named ys) None
    next_missed other j h =
        elim (cases_Bool (is_behind i j)) [
          | inr e ↦ e
          | inl e ↦
              let p = placed j h e in
              let less : compare_names j.text (named x).text ≡ Less = texts_of j e ∙ less_is (compare_names i.text (named x).text) (compare_places i.place (named x).place) first_front other in
              let front : is_lt (compare_idents j (named x)) ≡ true = ap (λ (z : Ordering). is_lt (ordering_then z (compare_places j.place (named x).place))) less in
              let back : is_lt (compare_idents j (named x)) ≡ false = ap (λ (z : Ident). is_lt (compare_idents z (named x))) (sym p.3) ∙ far_from p.0 p.1 p.2 in
              cc
        ]

    pub next_found : is_eq (compare_names i.text (named x).text) ≡ true → IsNext i (map named ys) (Some (named x))
    next_found one = (
      (at, omega (arith, length-map ys named, within), get_or-map named ys at x (named x) within ∙ ap named (sym is)),
      front_is_behind i (named x) one first_front,
      λ j h e.
          let p = placed j h e in
          let texts : compare_names j.text (named x).text ≡ Equal = texts_of j e ∙ equal (compare_names i.text (named x).text) one in
          sym (front_of_one j (named x) texts) ∙ ap (λ (z : Ident). is_lt (compare_idents z (named x))) (sym p.3) ∙ far_from p.0 p.1 p.2,
    )

-- where all names stand in front
pub next_none : {Y : Type 0} (named : Y → Ident) (i : Ident) (ys : List Y) (at : ℕ) → IsSortedBy (is_in_front named) ys →
    IsPartitionPoint (λ y. not (is_lt (compare_idents i (named y))) ≡ true) (λ y. not (is_lt (compare_idents i (named y))) ≡ false) ys at → length ys ≤ at → IsNext i (map named ys) None
next_none named i [] at sorted point end j h = absurd (omega (arith, h.1))
next_none named i (y ∷ ys) at sorted point end j h = next_at_end named i (y ∷ ys) at y sorted point end j h
