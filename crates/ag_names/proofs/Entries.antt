-- What is first of a key among entries of things in their order.
use Rattle.std.proofs.Common.{◌≡◌, ℕ, zero, suc, ◌+◌, ◌<◌, Bool, true, false, cond, nat_eq, nat_lt, ◌&&◌, List, [], ◌∷◌, ◌++◌, length, take, get_or, map, Option, Some, None, refl, inl, inr, ap, sym, ◌∙◌, arith, append-nil, append_assoc}
use Rattle.std.specs.Prelude.{position, slice_get, is_some, find, option_and_then}
use Rattle.std.specs.List.{list_any, position_or_len}
use Rattle.std.specs.Option.{option_map}
use Rattle.std.proofs.lemmas.Bool.{cases_Bool}
use Rattle.std.proofs.lemmas.Bool.Decides.{nat_tests}
use Rattle.std.proofs.lemmas.List.{take_more}
use Rattle.ag_terms.specs.Names.{same}
use Rattle.ag_names.specs.Keys.{Key, Entry, entries_from, first_at, name_key, rows_from, same_key}

-- ---- entries, one thing after another

push : {X : Type 0} (key : X → Key) (xs : List X) (x : X) (at : ℕ) → entries_from at (map key (xs ++ x ∷ [])) ≡ entries_from at (map key xs) ++ record { key = key x; at = at + length xs } ∷ []
push key [] x at = ap (λ (n : ℕ). record { key = key x; at = n } ∷ []) (omega arith)
push key (y ∷ xs) x at =
    ap (λ (z : List Entry). record { key = key y; at = at } ∷ z)
    (push key xs x (at + 1) ∙ ap (λ (n : ℕ). entries_from (at + 1) (map key xs) ++ record { key = key x; at = n } ∷ []) (omega arith))

pub length_take : {X : Type 0} (xs : List X) (i : ℕ) → i < length xs → length (take i xs) ≡ i
length_take [] i h = absurd (omega arith)
length_take (x ∷ xs) zero h = refl
length_take (x ∷ xs) (suc i) h = ap suc (length_take xs i (omega arith))

pub entries_more : {X : Type 0} (key : X → Key) (xs : List X) (i : ℕ) (x : X) → i < length xs → x ≡ get_or xs i x
    → entries_from 0 (map key (take (i + 1) xs)) ≡ entries_from 0 (map key (take i xs)) ++ record { key = key x; at = i } ∷ []
entries_more key xs i x h e =
    ap (λ (z : List _). entries_from 0 (map key z)) (take_more xs i x h ∙ ap (λ (z : _). take i xs ++ z ∷ []) (sym e))
    ∙ push key (take i xs) x 0
    ∙ ap (λ (n : ℕ). entries_from 0 (map key (take i xs)) ++ record { key = key x; at = n } ∷ []) (rw (length_take xs i h) (omega arith))

rows_push : {X Y : Type 0} (parts : X → List Y) (name : Y → List ℕ) (xs : List X) (x : X) (number : ℕ)
    → rows_from parts name number (xs ++ x ∷ []) ≡ rows_from parts name number xs ++ entries_from 0 (map (λ y. name_key (number + length xs) (name y)) (parts x))
rows_push parts name [] x number =
    append-nil (entries_from 0 (map (λ y. name_key number (name y)) (parts x)))
    ∙ ap (λ (n : ℕ). entries_from 0 (map (λ y. name_key n (name y)) (parts x))) (omega arith)
rows_push parts name (y ∷ xs) x number =
    let front : List Entry = entries_from 0 (map (λ z. name_key number (name z)) (parts y)) in
    ap (λ (z : List Entry). front ++ z)
    (rows_push parts name xs x (number + 1)
    ∙ ap (λ (n : ℕ). rows_from parts name (number + 1) xs ++ entries_from 0 (map (λ z. name_key n (name z)) (parts x))) (omega arith))
    ∙ sym (append_assoc front (rows_from parts name (number + 1) xs) (entries_from 0 (map (λ z. name_key (number + length (y ∷ xs)) (name z)) (parts x))))

pub rows_more : {X Y : Type 0} (parts : X → List Y) (name : Y → List ℕ) (xs : List X) (i : ℕ) (x : X) → i < length xs → x ≡ get_or xs i x
    → rows_from parts name 0 (take (i + 1) xs) ≡ rows_from parts name 0 (take i xs) ++ entries_from 0 (map (λ y. name_key i (name y)) (parts x))
rows_more parts name xs i x h e =
    ap (rows_from parts name 0) (take_more xs i x h ∙ ap (λ (z : _). take i xs ++ z ∷ []) (sym e))
    ∙ rows_push parts name (take i xs) x 0
    ∙ ap (λ (n : ℕ). rows_from parts name 0 (take i xs) ++ entries_from 0 (map (λ y. name_key n (name y)) (parts x))) (rw (length_take xs i h) (omega arith))

-- ---- positions

position_next : (a n : ℕ) → cond (nat_lt (1 + a) (suc n)) (Some (1 + a)) None ≡ option_map suc (cond (nat_lt a n) (Some a) None)
position_next a n =
    elim (cases_Bool (nat_lt a n)) [
      | inl e ↦ let f : nat_lt (1 + a) (suc n) ≡ true = grind (arith, nat_tests) in rw (e, f) (ap Some (omega arith))
      | inr e ↦ let f : nat_lt (1 + a) (suc n) ≡ false = grind (arith, nat_tests) in rw (e, f) refl
    ]

pub position-cons : {X : Type 0} (test : X → Bool) (x : X) (xs : List X) → position test (x ∷ xs) ≡ cond (test x) (Some 0) (option_map suc (position test xs))
position-cons test x xs =
    elim (cases_Bool (test x)) [
      | inl e ↦ let f : nat_lt 0 (suc (length xs)) ≡ true = grind (arith, nat_tests) in rw (e, f) refl
      | inr e ↦ rw e (position_next (position_or_len test xs) (length xs))
    ]

position-agree : {X : Type 0} (p q : X → Bool) (xs : List X) → ((x : X) → p x ≡ q x) → position p xs ≡ position q xs
position-agree p q xs h = λ i. position (λ x. h x i) xs

further : (at : ℕ) (o : Option ℕ) → option_map (λ n. at + 1 + n) o ≡ option_map (λ n. at + n) (option_map suc o)
further at None = refl
further at (Some n) = ap Some (omega arith)

entries_first : {X : Type 0} (key : X → Key) (k : Key) (xs : List X) (at : ℕ) → first_at k (entries_from at (map key xs)) ≡ option_map (λ n. at + n) (position (λ x. same_key (key x) k) xs)
entries_first key k [] at = refl
entries_first key k (x ∷ xs) at =
    let here = position-cons (λ x. same_key (key x) k) x xs in
    elim (cases_Bool (same_key (key x) k)) [
      | inl e ↦ rw (here, e) (ap Some (omega arith))
      | inr e ↦ rw (here, e) (entries_first key k xs (at + 1) ∙ further at (position (λ x. same_key (key x) k) xs))
    ]

from_zero : (o : Option ℕ) → option_map (λ n. 0 + n) o ≡ o
from_zero None = refl
from_zero (Some n) = ap Some (omega arith)

pub first_is_position : {X : Type 0} (key : X → Key) (k : Key) (test : X → Bool) (xs : List X) → ((x : X) → same_key (key x) k ≡ test x)
    → first_at k (entries_from 0 (map key xs)) ≡ position test xs
first_is_position key k test xs h =
    entries_first key k xs 0 ∙ from_zero (position (λ x. same_key (key x) k) xs) ∙ position-agree (λ x. same_key (key x) k) test xs h

-- ---- keys of names

pub no_names : same [] [] ≡ true
unfolding same
no_names = refl

and_true : (b c d : Bool) → c ≡ true → d ≡ true → (b && (c && d)) ≡ b
and_true true c d e f = rw (e, f) refl
and_true false c d e f = refl

pub same_name_key : (m n : ℕ) (a b : List ℕ) → same_key (name_key m a) (name_key n b) ≡ (nat_eq m n && same a b)
same_name_key m n a b = and_true (nat_eq m n && same a b) (same [] []) (same [] []) no_names no_names

pub same_in_row : (n : ℕ) (a b : List ℕ) → same_key (name_key n a) (name_key n b) ≡ same a b
same_in_row n a b = let e : nat_eq n n ≡ true = grind (arith, nat_tests) in same_name_key n n a b ∙ rw e refl

-- ---- entries in rows

first_of : Option ℕ → Option ℕ → Option ℕ
first_of None o = o
first_of (Some n) o = Some n

first_at-append : (k : Key) (es fs : List Entry) → first_at k (es ++ fs) ≡ first_of (first_at k es) (first_at k fs)
unfolding first_of
first_at-append k [] fs = refl
first_at-append k (e ∷ es) fs =
    elim (cases_Bool (same_key e.key k)) [
      | inl h ↦ rw h refl
      | inr h ↦ rw h (first_at-append k es fs)
    ]

first_of-none : (o p : Option ℕ) → p ≡ None → first_of o p ≡ o
unfolding first_of
first_of-none None p e = e
first_of-none (Some n) p e = refl

none_first_of : (o p : Option ℕ) → o ≡ None → first_of o p ≡ p
unfolding first_of
none_first_of o p e = rw e refl

module _ {X Y : Type 0} (parts : X → List Y) (name : Y → List ℕ) (text : List ℕ) where
  row : ℕ → X → List Entry
  row number x = entries_from 0 (map (λ y. name_key number (name y)) (parts x))

  other_row : (n m : ℕ) (ys : List Y) (at : ℕ) → nat_eq n m ≡ false → first_at (name_key m text) (entries_from at (map (λ y. name_key n (name y)) ys)) ≡ None
  other_row n m [] at e = refl
  other_row n m (y ∷ ys) at e =
      let other : same_key (name_key n (name y)) (name_key m text) ≡ false = same_name_key n m (name y) text ∙ rw e refl in
      rw other (other_row n m ys (at + 1) e)

  rows_none : (m number : ℕ) (xs : List X) → m < number → first_at (name_key m text) (rows_from parts name number xs) ≡ None
  rows_none m number [] h = refl
  rows_none m number (x ∷ xs) h =
      let other : nat_eq number m ≡ false = grind (arith, nat_tests) in
      first_at-append (name_key m text) (entries_from 0 (map (λ y. name_key number (name y)) (parts x))) (rows_from parts name (number + 1) xs)
      ∙ none_first_of _ _ (other_row number m (parts x) 0 other)
      ∙ rows_none m (number + 1) xs (omega arith)

  rows_first : (xs : List X) (i number m : ℕ) → m ≡ number + i
      → first_at (name_key m text) (rows_from parts name number xs) ≡ option_and_then (λ x. position (λ y. same (name y) text) (parts x)) (slice_get xs i)
  rows_first [] i number m e = refl
  rows_first (x ∷ xs) zero number m e =
      let is : m ≡ number = omega arith in
      let behind : m < number + 1 = omega arith in
      first_at-append (name_key m text) (entries_from 0 (map (λ y. name_key number (name y)) (parts x))) (rows_from parts name (number + 1) xs)
      ∙ first_of-none _ _ (rows_none m (number + 1) xs behind)
      ∙ ap (λ (n : ℕ). first_at (name_key n text) (entries_from 0 (map (λ y. name_key number (name y)) (parts x)))) is
      ∙ first_is_position (λ y. name_key number (name y)) (name_key number text) (λ y. same (name y) text) (parts x) (λ y. same_in_row number (name y) text)
  rows_first (x ∷ xs) (suc i) number m e =
      let other : nat_eq number m ≡ false = grind (arith, nat_tests) in
      first_at-append (name_key m text) (entries_from 0 (map (λ y. name_key number (name y)) (parts x))) (rows_from parts name (number + 1) xs)
      ∙ none_first_of _ _ (other_row number m (parts x) 0 other)
      ∙ rows_first xs i (number + 1) m (omega arith)

  pub first_in_row : (xs : List X) (i : ℕ) → first_at (name_key i text) (rows_from parts name 0 xs) ≡ option_and_then (λ x. position (λ y. same (name y) text) (parts x)) (slice_get xs i)
  first_in_row xs i = rows_first xs i 0 i (omega arith)

-- ---- what stands at a position

pub any_position : {X : Type 0} (test : X → Bool) (xs : List X) → is_some (position test xs) ≡ list_any test xs
any_position test [] = refl
any_position test (x ∷ xs) =
    let here = position-cons test x xs in
    elim (cases_Bool (test x)) [
      | inl e ↦ rw (here, e) refl
      | inr e ↦ rw (here, e) (some_suc (position test xs) ∙ any_position test xs)
    ]
  where
    some_suc : (o : Option ℕ) → is_some (option_map suc o) ≡ is_some o
    some_suc None = refl
    some_suc (Some n) = refl

next_get : {X : Type 0} (x : X) (xs : List X) (o : Option ℕ) → option_and_then (slice_get (x ∷ xs)) (option_map suc o) ≡ option_and_then (slice_get xs) o
next_get x xs None = refl
next_get x xs (Some n) = refl

-- the first that passes a test stands at its position
pub find_at : {X : Type 0} (test : X → Bool) (xs : List X) → option_and_then (slice_get xs) (position test xs) ≡ find test xs
find_at test [] = refl
find_at test (x ∷ xs) =
    let here = position-cons test x xs in
    elim (cases_Bool (test x)) [
      | inl e ↦ rw (here, e) refl
      | inr e ↦ rw (here, e) (next_get x xs (position test xs) ∙ find_at test xs)
    ]

pub any_found : {X : Type 0} (test : X → Bool) (xs : List X) → is_some (find test xs) ≡ list_any test xs
any_found test [] = refl
any_found test (x ∷ xs) =
    elim (cases_Bool (test x)) [
      | inl e ↦ rw e refl
      | inr e ↦ rw e (any_found test xs)
    ]
