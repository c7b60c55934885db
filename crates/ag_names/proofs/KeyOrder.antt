-- The order of keys, and the first entry of a key in it.
use Rattle.std.proofs.Common.{◌≡◌, ℕ, zero, suc, ◌+◌, ◌≤◌, ◌<◌, true, false, not, ◌&&◌, nat_eq, List, [], ◌∷◌, length, drop, get_or, refl, inl, inr, ap, sym, ◌∙◌, arith, length-drop, drop-cons}
use Rattle.std.specs.Prelude.{Option, Some, None}
use Rattle.std.specs.Cmp.{IsStrictWeakOrder, IsTotalOrder, both_tied}
use Rattle.std.specs.List.{filter}
use Rattle.std.specs.List.Sorted.{IsSortedBy, IsStableBy, IsPartitionedBy, IsPartitionPoint, ties}
use Rattle.std.specs.Ordering.{nat_cmp, is_lt, is_eq, ordering_reverse}
use Rattle.std.specs.declared.cmp.Ordering.{Ordering}
use Rattle.std.specs.declared.cmp.Ordering.TheVariants.{Less, Equal, Greater}
use Rattle.std.proofs.lemmas.Bool.{cases_Bool}
use Rattle.std.proofs.lemmas.Bool.Decides.{nat_tests}
use Rattle.std.proofs.lemmas.Cmp.{nat_cmp_total, nat_list_cmp_total, on_total, then_total}
use Rattle.std.proofs.lemmas.List.{drop_all, get_or-drop}
use Rattle.std.proofs.lemmas.List.Elements.{filter_agree}
use Rattle.std.proofs.lemmas.List.Sorted.{ranks_by, sorted_far}
use Rattle.ag_names.specs.Keys.{Key, Entry, compare_keys, first_at, is_ahead, same_key}
use Rattle.ag_names.specs.Names.{folded}
use Rattle.ag_names.proofs.SameNames.{same_is_equal}

-- ---- the order of keys

pub keys_total : IsTotalOrder compare_keys
keys_total =
    then_total
    (then_total (on_total (λ (k : Key). k.number) nat_cmp_total) (on_total (λ (k : Key). folded k.name) nat_list_cmp_total))
    (then_total (on_total (λ (k : Key). folded k.owner) nat_list_cmp_total) (on_total (λ (k : Key). folded k.second) nat_list_cmp_total))

pub entries_order : IsStrictWeakOrder is_ahead
entries_order = ranks_by keys_total (λ (e : Entry). e.key)

keys_order : IsStrictWeakOrder (λ (a b : Key). is_lt (compare_keys a b))
keys_order = ranks_by keys_total (λ (k : Key). k)

same_number : (m n : ℕ) → nat_eq m n ≡ is_eq (nat_cmp m n)
same_number m n = grind (arith, nat_tests)

pub same_key_is_equal : (a b : Key) → same_key a b ≡ is_eq (compare_keys a b)
same_key_is_equal a b =
    both_tied _ _ _ _
    (both_tied _ _ _ _ (same_number a.number b.number) (same_is_equal a.name b.name))
    (both_tied _ _ _ _ (same_is_equal a.owner b.owner) (same_is_equal a.second b.second))

tie_by : (o p : Ordering) → p ≡ ordering_reverse o → (not (is_lt p) && not (is_lt o)) ≡ is_eq o
tie_by Less p e = rw e refl
tie_by Equal p e = rw e refl
tie_by Greater p e = rw e refl

tie_is_same : (k a : Key) → (not (is_lt (compare_keys k a)) && not (is_lt (compare_keys a k))) ≡ same_key a k
tie_is_same k a = tie_by (compare_keys a k) (compare_keys k a) (keys_total.antisymm k a) ∙ sym (same_key_is_equal a k)

-- ---- a sort leaves the first entry of a key

first_of : List Entry → Option ℕ
first_of [] = None
first_of (e ∷ es) = Some e.at

first_at-filter : (k : Key) (es : List Entry) → first_at k es ≡ first_of (filter (λ e. same_key e.key k) es)
unfolding first_of
first_at-filter k [] = refl
first_at-filter k (e ∷ es) =
    elim (cases_Bool (same_key e.key k)) [
      | inl h ↦ rw h refl
      | inr h ↦ rw h (first_at-filter k es)
    ]

pub first_at-stable : (es fs : List Entry) → length fs ≡ length es → IsStableBy is_ahead es fs → (k : Key) → first_at k fs ≡ first_at k es
first_at-stable es fs len stable k =
    let of_key : Entry = record { key = k; at = 0 } in
    let alike : (e : Entry) → ties is_ahead of_key e ≡ same_key e.key k = λ e. tie_is_same k e.key in
    first_at-filter k fs
    ∙ ap first_of (sym (filter_agree _ _ alike fs) ∙ stable of_key ∙ filter_agree _ _ alike es)
    ∙ sym (first_at-filter k es)

-- ---- the first entry of a key stands where entries begin to be not below it

less_not_equal : (o : Ordering) → is_lt o ≡ true → is_eq o ≡ false
less_not_equal Less e = refl
less_not_equal Equal e = cc
less_not_equal Greater e = refl

equal : (o : Ordering) → is_eq o ≡ true → o ≡ Equal
equal Less e = cc
equal Equal e = refl
equal Greater e = cc

greater : (o : Ordering) → is_lt o ≡ false → is_eq o ≡ false → o ≡ Greater
greater Less e f = cc
greater Equal e f = cc
greater Greater e f = refl

-- entries that are all below the key
skip : (k : Key) (es : List Entry) (at : ℕ) → ((i : ℕ) (d : Entry) → 0 ≤ i → i < at → is_lt (compare_keys (get_or es i d).key k) ≡ true) → first_at k es ≡ first_at k (drop at es)
skip k es zero below = refl
skip k [] (suc at) below = refl
skip k (e ∷ es) (suc at) below =
    let other : same_key e.key k ≡ false = same_key_is_equal e.key k ∙ less_not_equal (compare_keys e.key k) (below 0 e (omega arith) (omega arith)) in
    rw other (skip k es at (λ i d l h. below (suc i) d (omega arith) (omega arith)))

none_of : (k : Key) (d : Entry) (es : List Entry) → ((i : ℕ) → i < length es → is_eq (compare_keys (get_or es i d).key k) ≡ false) → first_at k es ≡ None
none_of k d [] other = refl
none_of k d (e ∷ es) other =
    let first : same_key e.key k ≡ false = same_key_is_equal e.key k ∙ other 0 (omega arith) in
    rw first (none_of k d es (λ i h. other (suc i) (omega arith)))

pub entries_parted : (k : Key) (es : List Entry) → IsSortedBy is_ahead es → IsPartitionedBy (λ e. is_lt (compare_keys e.key k)) es
entries_parted k es sorted i j d le h below =
    elim (cases_Bool (is_lt (compare_keys (get_or es i d).key k))) [
      | inl e ↦ e
      | inr e ↦
          let f = keys_order.chain (get_or es j d).key (get_or es i d).key k (sorted_far is_ahead entries_order es sorted i j d le h) e in
          cc
    ]

module _ (k : Key) (es : List Entry) (at : ℕ) (point : IsPartitionPoint (λ e. is_lt (compare_keys e.key k) ≡ true) (λ e. is_lt (compare_keys e.key k) ≡ false) es at) where
  pub entry_found : (e : Entry) → at < length es → e ≡ get_or es at e → is_eq (compare_keys e.key k) ≡ true → Some e.at ≡ first_at k es
  entry_found e h is tied =
      let there : same_key e.key k ≡ true = same_key_is_equal e.key k ∙ tied in
      sym (skip k es at point.0
      ∙ ap (first_at k) (drop-cons es at e h ∙ ap (λ (z : Entry). z ∷ drop (suc at) es) (sym is))
      ∙ rw there refl)

  -- what follows an entry behind the key isn't of that key
  behind_missed : (e : Entry) → IsSortedBy is_ahead es → at < length es → e ≡ get_or es at e → is_eq (compare_keys e.key k) ≡ false
      → (i : ℕ) → i < length (drop at es) → is_eq (compare_keys (get_or (drop at es) i e).key k) ≡ false
  behind_missed e sorted h is other i l =
      let within : at + i < length es = omega (arith, length-drop at es) in
      let there : Entry = get_or es (at + i) e in
      let far : is_ahead there e ≡ false = ap (is_ahead there) is ∙ sorted_far is_ahead entries_order es sorted at (at + i) e (omega arith) within in
      let least : is_lt (compare_keys e.key k) ≡ false = ap (λ (z : Entry). is_lt (compare_keys z.key k)) is ∙ point.1 at e (omega arith) h in
      rw (get_or-drop at es i e)
      (elim (cases_Bool (is_eq (compare_keys there.key k))) [
        | inr f ↦ f
        | inl tied ↦
            let ahead : is_ahead there e ≡ true =
            ap is_lt (keys_total.congr there.key k e.key (equal (compare_keys there.key k) tied)
            ∙ keys_total.antisymm k e.key
            ∙ ap ordering_reverse (greater (compare_keys e.key k) least other)) in
            cc
      ])

  pub entry_missed : (e : Entry) → IsSortedBy is_ahead es → at < length es → e ≡ get_or es at e → is_eq (compare_keys e.key k) ≡ false → None ≡ first_at k es
  entry_missed e sorted h is other = sym (skip k es at point.0 ∙ none_of k e (drop at es) (behind_missed e sorted h is other))

  pub entry_at_end : length es ≤ at → None ≡ first_at k es
  entry_at_end h = sym (skip k es at point.0 ∙ ap (first_at k) (drop_all at es h))
