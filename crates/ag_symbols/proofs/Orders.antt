-- The order of names, and what is first of a name in it.
use Rattle.std.proofs.Common.{◌≡◌, ℕ, zero, suc, ◌+◌, ◌-◌, ◌≤◌, ◌<◌, true, false, not, ◌&&◌, nat_eq, List, [], ◌∷◌, ◌++◌, length, take, drop, get_or, refl, inl, inr, ap, sym, ◌∙◌, arith, add-one, length-drop, drop-cons}
use Rattle.std.specs.Prelude.{Option, Some, None}
use Rattle.std.specs.Char.{to_ascii_lowercase}
use Rattle.std.specs.Cmp.{IsStrictWeakOrder}
use Rattle.std.specs.Cmp.Lexicographic.{slice_cmp, pointwise}
use Rattle.std.specs.List.{filter, AllWithin}
use Rattle.std.specs.List.Sorted.{IsSortedBy, IsStableBy, IsPartitionedBy, IsPartitionPoint, ties}
use Rattle.std.specs.Ordering.{nat_cmp, is_lt, is_eq, ordering_then, ordering_reverse}
use Rattle.std.specs.declared.cmp.Ordering.{Ordering}
use Rattle.std.specs.declared.cmp.Ordering.TheVariants.{Less, Equal, Greater}
use Rattle.std.proofs.lemmas.Bool.{cases_Bool}
use Rattle.std.proofs.lemmas.Bool.Decides.{nat_tests}
use Rattle.std.proofs.lemmas.Cmp.{nat_list_cmp_total, same_from_slice_cmp}
use Rattle.std.proofs.lemmas.List.{take_all, drop_all, nil_from_length, get_or-drop}
use Rattle.std.proofs.lemmas.List.Elements.{filter_agree}
use Rattle.std.proofs.lemmas.List.Sorted.{ranks_by, sorted_far}
use Rattle.ag_terms.specs.Names.{same}
use Rattle.ag_symbols.specs.Indexed.{folded, compare_names, is_below, first_by}

-- ---- the order of names

-- names are in a strict order in which those that differ in case at most tie
pub names_order : {X : Type 0} (key : X → List ℕ) → IsStrictWeakOrder (is_below key)
names_order key = ranks_by nat_list_cmp_total (λ x. folded (key x))

equal_folded : (xs ys : List ℕ) → is_eq (slice_cmp nat_cmp xs ys) ≡ pointwise nat_eq xs ys
equal_folded xs ys = same_from_slice_cmp nat_cmp is_eq (pointwise nat_eq) refl (λ _ _. refl) (λ _ _. refl) (λ x y xs ys o h. grind (arith, nat_tests)) xs ys (slice_cmp nat_cmp xs ys) refl

pub same_is_equal : (a b : List ℕ) → same a b ≡ is_eq (compare_names a b)
unfolding same
same_is_equal a b = sym (equal_folded (folded a) (folded b))

tie_by : (o p : Ordering) → p ≡ ordering_reverse o → (not (is_lt p) && not (is_lt o)) ≡ is_eq o
tie_by Less p e = rw e refl
tie_by Equal p e = rw e refl
tie_by Greater p e = rw e refl

tie_is_same : (name a : List ℕ) → (not (is_lt (compare_names name a)) && not (is_lt (compare_names a name))) ≡ same a name
tie_is_same name a = tie_by (compare_names a name) (compare_names name a) (nat_list_cmp_total.antisymm (folded name) (folded a)) ∙ sym (same_is_equal a name)

then_assoc : (a b c : Ordering) → ordering_then (ordering_then a b) c ≡ ordering_then a (ordering_then b c)
then_assoc Less b c = refl
then_assoc Equal b c = refl
then_assoc Greater b c = refl

compare_short : (text name more : List ℕ) (x : ℕ) → length text ≤ length name → compare_names text (name ++ x ∷ more) ≡ ordering_then (compare_names text name) Less
compare_short [] [] more x h = refl
compare_short [] (n ∷ name) more x h = refl
compare_short (t ∷ text) [] more x h = absurd (omega arith)
compare_short (t ∷ text) (n ∷ name) more x h =
    ap (ordering_then (nat_cmp (to_ascii_lowercase t) (to_ascii_lowercase n))) (compare_short text name more x (omega arith))
    ∙ sym (then_assoc (nat_cmp (to_ascii_lowercase t) (to_ascii_lowercase n)) (compare_names text name) Less)

compare_longer : (text name more : List ℕ) (x : ℕ) → length name < length text →
    compare_names text (name ++ x ∷ more) ≡ ordering_then (compare_names (take (length name) text) name)
    (ordering_then (nat_cmp (to_ascii_lowercase (get_or text (length name) 0)) (to_ascii_lowercase x)) (compare_names (drop (suc (length name)) text) more))
compare_longer [] name more x h = absurd (omega arith)
compare_longer (t ∷ text) [] more x h = refl
compare_longer (t ∷ text) (n ∷ name) more x h =
    ap (ordering_then (nat_cmp (to_ascii_lowercase t) (to_ascii_lowercase n))) (compare_longer text name more x (omega arith))
    ∙ sym (then_assoc (nat_cmp (to_ascii_lowercase t) (to_ascii_lowercase n)) (compare_names (take (length name) text) name)
    (ordering_then (nat_cmp (to_ascii_lowercase (get_or text (length name) 0)) (to_ascii_lowercase x)) (compare_names (drop (suc (length name)) text) more)))

pub joined_short : (text name body : List ℕ) → length text ≤ length name → compare_names text (name ++ 46 ∷ body) ≡ ordering_then (compare_names text name) Less
joined_short text name body h = compare_short text name body 46 h

pub joined_longer : (text name body : List ℕ) → length name < length text →
    compare_names text (name ++ 46 ∷ body) ≡ ordering_then (compare_names (take (length name) text) name)
    (ordering_then (nat_cmp (to_ascii_lowercase (get_or text (length name) 0)) 46) (compare_names (take (length text - (length name + 1)) (drop (length name + 1) text)) body))
joined_longer text name body h =
    compare_longer text name body 46 h
    ∙ rw (add-one, take_all (length text - suc (length name)) (drop (suc (length name)) text) (omega (arith, length-drop (suc (length name)) text))) refl

-- ---- a sort leaves what is first of a name

first_kept : {X T : Type 0} → (X → T) → List X → Option T
first_kept item [] = None
first_kept item (x ∷ xs) = Some (item x)

first_by_filter : {X T : Type 0} (key : X → List ℕ) (item : X → T) (name : List ℕ) (xs : List X) → first_by key item name xs ≡ first_kept item (filter (λ x. same (key x) name) xs)
unfolding first_kept
first_by_filter key item name [] = refl
first_by_filter key item name (x ∷ xs) =
    elim (cases_Bool (same (key x) name)) [
      | inl e ↦ rw e refl
      | inr e ↦ rw e (first_by_filter key item name xs)
    ]

-- where each name has an entry like a given one
pub first_by_stable : {X T : Type 0} (key : X → List ℕ) (item : X → T) (renamed : X → List ℕ → X) → ((x : X) (name : List ℕ) → key (renamed x name) ≡ name) →
    (xs ys : List X) → length ys ≡ length xs → IsStableBy (is_below key) xs ys → (name : List ℕ) → first_by key item name ys ≡ first_by key item name xs
first_by_stable key item renamed is [] ys len stable name = ap (first_by key item name) (nil_from_length ys len)
first_by_stable key item renamed is (x ∷ xs) ys len stable name =
    let alike : (y : _) → ties (is_below key) (renamed x name) y ≡ same (key y) name = λ y. rw (is x name) (tie_is_same name (key y)) in
    first_by_filter key item name ys
    ∙ ap (first_kept item) (sym (filter_agree _ _ alike ys) ∙ stable (renamed x name) ∙ filter_agree _ _ alike (x ∷ xs))
    ∙ sym (first_by_filter key item name (x ∷ xs))

-- ---- what is first of a name stands where names begin to be not below it

less_not_equal : (o : Ordering) → is_lt o ≡ true → is_eq o ≡ false
less_not_equal Less e = refl
less_not_equal Equal e = cc
less_not_equal Greater e = refl

pub equal : (o : Ordering) → is_eq o ≡ true → o ≡ Equal
equal Less e = cc
equal Equal e = refl
equal Greater e = cc

greater : (o : Ordering) → is_lt o ≡ false → is_eq o ≡ false → o ≡ Greater
greater Less e f = cc
greater Equal e f = cc
greater Greater e f = refl

-- a part of which all names are below the name
first_by_skip : {X T : Type 0} (key : X → List ℕ) (item : X → T) (name : List ℕ) (xs : List X) (at : ℕ) →
    ((k : ℕ) (d : X) → 0 ≤ k → k < at → is_lt (compare_names (key (get_or xs k d)) name) ≡ true) → first_by key item name xs ≡ first_by key item name (drop at xs)
first_by_skip key item name xs zero below = refl
first_by_skip key item name [] (suc at) below = refl
first_by_skip key item name (x ∷ xs) (suc at) below =
    let other : same (key x) name ≡ false = same_is_equal (key x) name ∙ less_not_equal (compare_names (key x) name) (below 0 x (omega arith) (omega arith)) in
    rw other (first_by_skip key item name xs at (λ k d l h. below (suc k) d (omega arith) (omega arith)))

first_by_none : {X T : Type 0} (key : X → List ℕ) (item : X → T) (name : List ℕ) (d : X) (xs : List X) →
    ((k : ℕ) → k < length xs → is_eq (compare_names (key (get_or xs k d)) name) ≡ false) → first_by key item name xs ≡ None
first_by_none key item name d [] other = refl
first_by_none key item name d (x ∷ xs) other =
    let first : same (key x) name ≡ false = same_is_equal (key x) name ∙ other 0 (omega arith) in
    rw first (first_by_none key item name d xs (λ k h. other (suc k) (omega arith)))

-- names below another are not followed by such that aren't
pub parted : {X : Type 0} (key : X → List ℕ) (name : List ℕ) (xs : List X) → IsSortedBy (is_below key) xs → IsPartitionedBy (λ x. is_lt (compare_names (key x) name)) xs
parted key name xs sorted i j d le h below =
    elim (cases_Bool (is_lt (compare_names (key (get_or xs i d)) name))) [
      | inl e ↦ e
      | inr e ↦ let o : IsStrictWeakOrder (is_below (λ (a : List ℕ). a)) = names_order (λ (a : List ℕ). a) in
          let f = o.chain (key (get_or xs j d)) (key (get_or xs i d)) name (sorted_far (is_below key) (names_order key) xs sorted i j d le h) e in
          cc
    ]

pub first_found : {X T : Type 0} (key : X → List ℕ) (item : X → T) (name : List ℕ) (xs : List X) (at : ℕ) (x : X) →
    IsPartitionPoint (λ x. is_lt (compare_names (key x) name) ≡ true) (λ x. is_lt (compare_names (key x) name) ≡ false) xs at → at < length xs → x ≡ get_or xs at x →
    is_eq (compare_names (key x) name) ≡ true → Some (item x) ≡ first_by key item name xs
first_found key item name xs at x point h is e =
    let there : same (key x) name ≡ true = same_is_equal (key x) name ∙ e in
    sym (first_by_skip key item name xs at point.0
    ∙ ap (first_by key item name) (drop-cons xs at x h ∙ ap (λ (z : _). z ∷ drop (suc at) xs) (sym is))
    ∙ rw there refl)

-- what follows a name that is behind the sought one isn't of that name
behind_missed : {X : Type 0} (key : X → List ℕ) (name : List ℕ) (xs : List X) (at : ℕ) (x : X) → IsSortedBy (is_below key) xs →
    AllWithin (λ x. is_lt (compare_names (key x) name) ≡ false) xs at (length xs) → at < length xs → x ≡ get_or xs at x → is_eq (compare_names (key x) name) ≡ false →
    (k : ℕ) → k < length (drop at xs) → is_eq (compare_names (key (get_or (drop at xs) k x)) name) ≡ false
behind_missed key name xs at x sorted from h is e k l =
    let within : at + k < length xs = omega (arith, length-drop at xs) in
    let far : is_below key (get_or xs (at + k) x) x ≡ false = ap (is_below key (get_or xs (at + k) x)) is ∙ sorted_far (is_below key) (names_order key) xs sorted at (at + k) x (omega arith) within in
    let least : is_lt (compare_names (key x) name) ≡ false = ap (λ (z : _). is_lt (compare_names (key z) name)) is ∙ from at x (omega arith) h in
    rw (get_or-drop at xs k x)
    (elim (cases_Bool (is_eq (compare_names (key (get_or xs (at + k) x)) name))) [
      | inr other ↦ other
      | inl tied ↦
          let ahead : is_below key (get_or xs (at + k) x) x ≡ true =
          ap is_lt (nat_list_cmp_total.congr (folded (key (get_or xs (at + k) x))) (folded name) (folded (key x)) (equal (compare_names (key (get_or xs (at + k) x)) name) tied)
          ∙ nat_list_cmp_total.antisymm (folded name) (folded (key x))
          ∙ ap ordering_reverse (greater (compare_names (key x) name) least e)) in
          cc
    ])

pub first_missed : {X T : Type 0} (key : X → List ℕ) (item : X → T) (name : List ℕ) (xs : List X) (at : ℕ) (x : X) → IsSortedBy (is_below key) xs →
    IsPartitionPoint (λ x. is_lt (compare_names (key x) name) ≡ true) (λ x. is_lt (compare_names (key x) name) ≡ false) xs at → at < length xs → x ≡ get_or xs at x →
    is_eq (compare_names (key x) name) ≡ false → None ≡ first_by key item name xs
first_missed key item name xs at x sorted point h is e =
    sym (first_by_skip key item name xs at point.0 ∙ first_by_none key item name x (drop at xs) (behind_missed key name xs at x sorted point.1 h is e))

pub first_at_end : {X T : Type 0} (key : X → List ℕ) (item : X → T) (name : List ℕ) (xs : List X) (at : ℕ) →
    IsPartitionPoint (λ x. is_lt (compare_names (key x) name) ≡ true) (λ x. is_lt (compare_names (key x) name) ≡ false) xs at → length xs ≤ at → None ≡ first_by key item name xs
first_at_end key item name xs at point h = sym (first_by_skip key item name xs at point.0 ∙ ap (first_by key item name) (drop_all at xs h))

-- a text with a byte is behind one without
pub longer_is_greater : (a b : List ℕ) (i : ℕ) → i < length a → length b < 1 → compare_names (drop i a) b ≡ Greater
longer_is_greater a [] i h e = ap (λ (z : List ℕ). compare_names z []) (drop-cons a i 0 h)
longer_is_greater a (y ∷ b) i h e = absurd (omega arith)
