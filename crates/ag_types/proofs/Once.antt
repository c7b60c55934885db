-- An order of all vertices, as many as there are, has each one once.
use Rattle.std.proofs.Common.{◌≡◌, ℕ, ◌<◌, ltb, List, length, get_or, inl, inr, sym, ◌∙◌, arith}
use Rattle.std.specs.Prelude.{nat_eq, All, Contains}
use Rattle.std.specs.Cmp.{unsigned_Decides}
use Rattle.std.specs.List.{range_with_len, IsDistinct}
use Rattle.std.specs.Set.{is_member}
use Rattle.std.proofs.lemmas.Bool.{cases_Bool, true≢false, ltb-true, ltb-false}
use Rattle.std.proofs.lemmas.Bool.Decides.{same_from_decides}
use Rattle.std.proofs.lemmas.Cmp.{nat_eq_equiv}
use Rattle.std.proofs.lemmas.List.FromFn.{length-range_with_len, get_or-range_with_len}
use Rattle.std.proofs.lemmas.Map.Keys.{apart_from_distinct}
use Rattle.std.proofs.lemmas.Map.Made.{length-from_keys, IsDistinct-from_count, IsDistinct-from_AllPairs, is_member-Decides}

range_at : (n i d : ℕ) → i < n → get_or (range_with_len 0 n) i d ≡ i
range_at n i d h = let e = get_or-range_with_len 0 n i d h in omega arith

range_distinct : (n : ℕ) → IsDistinct nat_eq (range_with_len 0 n)
range_distinct n = IsDistinct-from_AllPairs unsigned_Decides (range_with_len 0 n)
    (λ i j d h k e.
    let l = length-range_with_len 0 n in
    let at_i = range_at n i d (omega arith) in
    let at_j = range_at n j d (omega arith) in
    absurd (omega arith))

in_range : (n v : ℕ) → v < n → Contains (range_with_len 0 n) v
in_range n v h = let l = length-range_with_len 0 n in (v, omega arith, range_at n v v h)

below : (n : ℕ) (order : List ℕ) → All (λ v. v < n) order → (v : ℕ) → Contains order v → v < n
below n order within v h = let w = within h.0 v h.1 in let e = h.2 in omega arith

of_range : (n v : ℕ) → Contains (range_with_len 0 n) v → v < n
of_range n v h = below n (range_with_len 0 n) (λ k d l. let e = length-range_with_len 0 n in let at = range_at n k d (omega arith) in omega arith) v h

members : (n : ℕ) (order : List ℕ) → ((v : ℕ) → v < n → Contains order v) → All (λ v. v < n) order → (q : ℕ) → is_member nat_eq (range_with_len 0 n) q ≡ is_member nat_eq order q
members n order all within q =
    let r = is_member-Decides unsigned_Decides (range_with_len 0 n) q in
    let o = is_member-Decides unsigned_Decides order q in
    same_from_decides {P = q < n} (is_member nat_eq (range_with_len 0 n) q) (is_member nat_eq order q)
    (λ e. of_range n q (r.0 e), λ h. r.1 (in_range n q h))
    (λ e. below n order within q (o.0 e), λ h. o.1 (all q h))

distinct : (n : ℕ) (order : List ℕ) → ((v : ℕ) → v < n → Contains order v) → All (λ v. v < n) order → length order ≡ n → IsDistinct nat_eq order
distinct n order all within once =
    IsDistinct-from_count nat_eq_equiv order
    (sym (length-from_keys nat_eq_equiv (range_with_len 0 n) order (range_distinct n) (members n order all within)) ∙ length-range_with_len 0 n ∙ sym once)

-- what stands at two places is at one
pub one_place : (n : ℕ) (order : List ℕ) → ((v : ℕ) → v < n → Contains order v) → All (λ v. v < n) order → length order ≡ n →
    (i j : ℕ) → i < length order → j < length order → get_or order i 0 ≡ get_or order j 0 → i ≡ j
one_place n order all within once i j h k e =
    let d = distinct n order all within once in
    elim (cases_Bool (ltb i j)) [
      | inl l ↦ absurd (true≢false (sym ((unsigned_Decides (get_or order i 0) (get_or order j 0)).1 e) ∙ apart_from_distinct nat_eq order i j 0 d (ltb-true i j l) k))
      | inr l ↦ elim (cases_Bool (ltb j i)) [
        | inl m ↦ absurd (true≢false (sym ((unsigned_Decides (get_or order j 0) (get_or order i 0)).1 (sym e)) ∙ apart_from_distinct nat_eq order j i 0 d (ltb-true j i m) h))
        | inr m ↦ let a = ltb-false i j l in let b = ltb-false j i m in omega arith
      ]
    ]
