-- Among names in order, one that is the same as an earlier one has its place behind its neighbour's, or shares it.
use Rattle.std.proofs.Common.{◌≡◌, ℕ, zero, suc, ◌+◌, ◌<◌, ◌≤◌, Bool, true, false, cond, ◌&&◌, ◌||◌, add-one, List, length, get_or, refl, ap, sym, subst, ◌∙◌, inl, inr, arith, nat_lt, nat_eq}
use Rattle.std.specs.Cmp.{IsTotalOrder}
use Rattle.std.specs.List.Sorted.{IsSortedBy}
use Rattle.std.specs.Ordering.{is_lt, is_eq, nat_cmp, ordering_then, ordering_reverse}
use Rattle.std.specs.declared.cmp.Ordering.{Ordering}
use Rattle.std.specs.declared.cmp.Ordering.TheVariants.{Less, Equal, Greater}
use Rattle.std.proofs.lemmas.Bool.{false≢true, cases_Bool, cases_lt}
use Rattle.std.proofs.lemmas.Bool.Decides.{nat_tests}
use Rattle.std.proofs.lemmas.Cmp.{nat_list_cmp_total, on_total, then_total}
use Rattle.std.proofs.lemmas.List.Sorted.{sorted_far}
use Rattle.ag_base.specs.declared.place.Place.{Place}
use Rattle.ag_base.specs.Rules.{by_first, is_before}
use Rattle.ag_terms.specs.Names.{same}
use Rattle.ag_names.specs.Declaring.{compare_places, is_behind, is_in_front}
use Rattle.ag_names.specs.Names.{compare_names, folded}
use Rattle.ag_names.specs.Twice.{Declared, same_name}
use Rattle.ag_names.proofs.DeclaredOrder.{front_order}
use Rattle.ag_names.proofs.SameNames.{same_is_equal}

-- ---- the order of names alone

abbrev by_name : Declared → Declared → Ordering
by_name a b = ordering_then (compare_names a.type_name b.type_name) (compare_names a.name b.name)

names_total : IsTotalOrder by_name
names_total = then_total (on_total (λ (d : Declared). folded d.type_name) nat_list_cmp_total) (on_total (λ (d : Declared). folded d.name) nat_list_cmp_total)

both_equal : (o p : Ordering) → (is_eq o && is_eq p) ≡ is_eq (ordering_then o p)
both_equal Less p = refl
both_equal Equal p = refl
both_equal Greater p = refl

same_name_is : (a b : Declared) → same_name a b ≡ is_eq (by_name a b)
same_name_is a b =
    ap (λ (z : Bool). z && same a.name b.name) (same_is_equal a.type_name b.type_name)
    ∙ ap (λ (z : Bool). is_eq (compare_names a.type_name b.type_name) && z) (same_is_equal a.name b.name)
    ∙ both_equal (compare_names a.type_name b.type_name) (compare_names a.name b.name)

equal : (o : Ordering) → is_eq o ≡ true → o ≡ Equal
equal Less e = cc
equal Equal e = refl
equal Greater e = cc

-- what isn't less in a first part isn't less
then_first : (o p : Ordering) → is_lt (ordering_then o p) ≡ false → is_lt o ≡ false
then_first Less p e = e
then_first Equal p e = refl
then_first Greater p e = refl

then_second : (o p : Ordering) → o ≡ Equal → is_lt (ordering_then o p) ≡ false → is_lt p ≡ false
then_second o p e h = subst (λ (z : Ordering). is_lt (ordering_then z p) ≡ false) e h

not_greater : (o p : Ordering) → o ≡ ordering_reverse p → is_lt p ≡ false → (o ≡ Less → ⊥) → o ≡ Equal
not_greater o Less e f h = absurd (false≢true (sym f))
not_greater o Equal e f h = e
not_greater o Greater e f h = absurd (h e)

less_or_equal : {A : Type 0} (o p : Ordering) → o ≡ ordering_reverse p → is_lt p ≡ false → (o ≡ Less → A) → (o ≡ Equal → A) → A
less_or_equal o Less e f h k = absurd (false≢true (sym f))
less_or_equal o Equal e f h k = k e
less_or_equal o Greater e f h k = h e

less_is_not_equal : (o : Ordering) → o ≡ Less → o ≡ Equal → ⊥
less_is_not_equal o e f = cc

-- ---- what stands between two of one name

module _ (a p d : Declared) (ap_sorted : is_in_front p a ≡ false) (pd_sorted : is_in_front d p ≡ false) (alike : same_name a d ≡ true) where
  ends_equal : by_name a d ≡ Equal
  ends_equal = equal (by_name a d) (sym (same_name_is a d) ∙ alike)

  front_equal : by_name a p ≡ Equal
  front_equal =
      not_greater (by_name a p) (by_name p a) (names_total.antisymm a p) (then_first (by_name p a) (compare_places p.place a.place) ap_sorted)
      (λ less. less_or_equal {A = ⊥} (by_name p d) (by_name d p) (names_total.antisymm p d) (then_first (by_name d p) (compare_places d.place p.place) pd_sorted)
      (λ less2. less_is_not_equal (by_name a d) (names_total.trans a p d less less2) ends_equal)
      (λ same. less_is_not_equal (by_name a d) (front_less less same) ends_equal))
    where
      front_less : by_name a p ≡ Less → by_name p d ≡ Equal → by_name a d ≡ Less
      front_less less same =
          names_total.antisymm a d ∙ ap ordering_reverse (sym (names_total.congr p d a same)) ∙ sym (names_total.antisymm a p) ∙ less

  pub front_alike : same_name a p ≡ true
  front_alike = same_name_is a p ∙ ap is_eq front_equal

  back_equal : by_name p d ≡ Equal
  back_equal = sym (names_total.congr a p d front_equal) ∙ ends_equal

  pub back_alike : same_name p d ≡ true
  back_alike = same_name_is p d ∙ ap is_eq back_equal

  reversed_equal : by_name d p ≡ Equal
  reversed_equal = names_total.antisymm d p ∙ ap ordering_reverse back_equal

  places_sorted : is_lt (compare_places d.place p.place) ≡ false
  places_sorted = then_second (by_name d p) (compare_places d.place p.place) reversed_equal pd_sorted

-- ---- places

first_is : (l e : Bool) (o : Ordering) → is_lt (ordering_then (cond l Less (cond e Equal Greater)) o) ≡ (l || (e && is_lt o))
first_is true e o = refl
first_is false true o = refl
first_is false false o = refl

last_is : (l e : Bool) → is_lt (cond l Less (cond e Equal Greater)) ≡ l
last_is true e = refl
last_is false true = refl
last_is false false = refl

before_is : (p q : Place) → is_lt (compare_places p q) ≡ is_before p q
before_is p q =
    first_is (nat_lt p.file q.file) (nat_eq p.file q.file) (ordering_then (nat_cmp p.line q.line) (nat_cmp p.column q.column))
    ∙ ap (by_first p.file q.file) (first_is (nat_lt p.line q.line) (nat_eq p.line q.line) (nat_cmp p.column q.column)
    ∙ ap (by_first p.line q.line) (last_is (nat_lt p.column q.column) (nat_eq p.column q.column)))

record AreTied (a b : ℕ) (x y : Bool) : Type 0 where
  same : a ≡ b
  one : x ≡ false
  other : y ≡ false

tied_number : (a b : ℕ) (x y : Bool) → by_first a b x ≡ false → by_first b a y ≡ false → a ≡ b
tied_number a b x y e f = grind (arith, nat_tests)

tied_one : (a b : ℕ) (x y : Bool) → by_first a b x ≡ false → by_first b a y ≡ false → x ≡ false
tied_one a b x y e f = grind (arith, nat_tests)

tied_last : (a b : ℕ) → nat_lt a b ≡ false → nat_lt b a ≡ false → a ≡ b
tied_last a b e f = grind (arith, nat_tests)

tied : (a b : ℕ) (x y : Bool) → by_first a b x ≡ false → by_first b a y ≡ false → AreTied a b x y
tied a b x y e f = record { same = tied_number a b x y e f; one = tied_one a b x y e f; other = tied_one b a y x f e }

place_from : (p q : Place) → p.file ≡ q.file → p.line ≡ q.line → p.column ≡ q.column → p ≡ q
place_from p q e f g =
    ap (λ (z : ℕ). record p { file = z }) e ∙ ap (λ (z : ℕ). record q { line = z; column = p.column }) f ∙ ap (λ (z : ℕ). record q { column = z }) g

same_place : (p q : Place) → is_before p q ≡ false → is_before q p ≡ false → p ≡ q
same_place p q e f =
    let files = tied p.file q.file _ _ e f in
    let lines = tied p.line q.line _ _ files.one files.other in
    place_from p q files.same lines.same (tied_last p.column q.column lines.one lines.other)

-- ---- the neighbour

pub both : (a b : Bool) → a ≡ true → b ≡ true → (a && b) ≡ true
both true b e f = f
both false b e f = absurd (false≢true e)

pub part_one : (a b : Bool) → (a && b) ≡ true → a ≡ true
part_one true b e = refl
part_one false b e = e

pub part_other : (a b : Bool) → (a && b) ≡ true → b ≡ true
part_other true b e = e
part_other false b e = absurd (false≢true e)

-- at a position a name is behind its neighbour in front, and has a given place
pub record IsBehindAt (names : List Declared) (e : Declared) (place : Place) : Type 0 where
  pub front : ℕ
  pub within : front + 1 < length names
  pub behind : is_behind (get_or names front e) (get_or names (front + 1) e) ≡ true
  pub placed : (get_or names (front + 1) e).place ≡ place

module _ (names : List Declared) (sorted : IsSortedBy is_in_front names) (e : Declared) where
  in_order : (i j : ℕ) → i ≤ j → j < length names → is_in_front (get_or names j e) (get_or names i e) ≡ false
  in_order i j le h = sorted_far is_in_front front_order names sorted i j e le h

  -- it is behind the same one, so it is not in front of it
  pub ahead : (i j : ℕ) → i < length names → j < length names → same_name (get_or names i e) (get_or names j e) ≡ true
      → is_before (get_or names i e).place (get_or names j e).place ≡ true → i < j
  ahead i j hi hj alike later =
      elim (cases_lt i j) [
        | inl lt ↦ lt
        | inr le ↦
            let a : Declared = get_or names i e in
            let d : Declared = get_or names j e in
            let eq : by_name a d ≡ Equal = equal (by_name a d) (sym (same_name_is a d) ∙ alike) in
            let no : is_lt (compare_places a.place d.place) ≡ false = then_second (by_name a d) (compare_places a.place d.place) eq (in_order j i le hi) in
            absurd (false≢true (sym no ∙ before_is a.place d.place ∙ later))
      ]

  pub neighbour : (i j : ℕ) → i < j → j < length names → same_name (get_or names i e) (get_or names j e) ≡ true
      → is_before (get_or names i e).place (get_or names j e).place ≡ true → IsBehindAt names e (get_or names j e).place
  neighbour i zero lt h alike later = absurd (omega arith)
  neighbour i (suc m) lt h alike later =
      let a : Declared = get_or names i e in
      let p : Declared = get_or names m e in
      let d : Declared = get_or names (suc m) e in
      let one : is_in_front p a ≡ false = in_order i m (omega arith) (omega arith) in
      let two : is_in_front d p ≡ false = in_order m (suc m) (omega arith) h in
      elim (cases_Bool (is_before p.place d.place)) [
        | inl before ↦ at_once m p d refl refl h (both (same_name p d) (is_before p.place d.place) (back_alike a p d one two alike) before)
        | inr not_before ↦
            let placed : p.place ≡ d.place = same_place p.place d.place not_before (sym (before_is d.place p.place) ∙ places_sorted a p d one two alike) in
            let later' : is_before a.place p.place ≡ true = subst (λ (z : Place). is_before a.place z ≡ true) (sym placed) later in
            let alike' : same_name a p ≡ true = front_alike a p d one two alike in
            moved placed (neighbour i m (ahead i m (omega arith) (omega arith) alike' later') (omega arith) alike' later')
      ]
    where
      at_once : (m : ℕ) (p d : Declared) → p ≡ get_or names m e → d ≡ get_or names (suc m) e → suc m < length names → is_behind p d ≡ true → IsBehindAt names e d.place
      at_once m p d ep ed h b =
          record {
            front = m;
            within = omega arith;
            behind = rw add-one (rw (sym ep) (rw (sym ed) b));
            placed = rw add-one (rw (sym ed) refl);
          }

      moved : {p q : Place} → p ≡ q → IsBehindAt names e p → IsBehindAt names e q
      moved {p} {q} eq b = subst (λ (z : Place). IsBehindAt names e z) eq b
