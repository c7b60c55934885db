-- Reading items one after the other, as a loop does.
use Rattle.std.proofs.Common.{◌≡◌, ℕ, suc, ◌-◌, ◌+◌, ◌≤◌, ◌<◌, true, false, List, [], ◌∷◌, ◌++◌, Option, Some, None, refl, sym, ap, ◌∙◌, append_assoc, arith}
use Rattle.std.specs.Prelude.{is_some}
use Rattle.std.proofs.lemmas.List.{append-nil}
use Rattle.ag_small.specs.declared.package.ReadFault.{ReadFault}
use Rattle.ag_small.specs.declared.package.ReadFault.TheVariants as fault
use Rattle.ag_small.specs.Reading.{◌>>=◌, Fails, fixed_at, items_at}

-- what was read before, and what is still read
abbrev pub with_front : {A : Type 0} → List A → Option (List A × List ℕ) → Option (List A × List ℕ)
with_front front read = read >>= λ x. Some (front ++ x.0, x.1)

regroup : {A : Type 0} (front : List A) (n : A) (read : Option (List A × List ℕ)) → with_front front (read >>= λ x. Some (n ∷ x.0, x.1)) ≡ with_front (front ++ n ∷ []) read
regroup {A} front n (Some x) = ap (λ (ns : List A). Some (ns, x.1)) (simp append_assoc)
regroup front n None = refl

module _ {A : Type 0} (item_at : List ℕ → Option (A × List ℕ)) (stop : List ℕ) (front : List A) (count i : ℕ) (bytes : List ℕ) (total : Option (List A × List ℕ)) where
  pub goes_on : (n : A) (after : List ℕ) → i < count → is_some (fixed_at stop bytes) ≡ false → item_at bytes ≡ Some (n, after)
      → with_front front (items_at item_at stop (count - i) bytes) ≡ total → with_front (front ++ n ∷ []) (items_at item_at stop (count - (i + 1)) after) ≡ total
  unfolding items_at
  goes_on n after lt stays h so_far =
      let k : count - i ≡ suc (count - (i + 1)) = omega arith in
      let one : with_front front (items_at item_at stop (count - i) bytes) ≡ with_front (front ++ n ∷ []) (items_at item_at stop (count - (i + 1)) after) = rw (k, stays, h) (regroup front n (items_at item_at stop (count - (i + 1)) after)) in
      sym one ∙ so_far

  pub ends : (e : ReadFault) → i < count → is_some (fixed_at stop bytes) ≡ false → Fails e (item_at bytes)
      → with_front front (items_at item_at stop (count - i) bytes) ≡ total → Fails e total
  unfolding items_at
  ends fault.OutOfMemory lt stays h so_far = tt
  ends fault.NotBuilt lt stays h so_far =
      let k : count - i ≡ suc (count - (i + 1)) = omega arith in
      let one : with_front front (items_at item_at stop (count - i) bytes) ≡ None = rw (k, stays, h) refl in
      sym so_far ∙ one

  pub stops : i < count → is_some (fixed_at stop bytes) ≡ true → with_front front (items_at item_at stop (count - i) bytes) ≡ total → total ≡ Some (front, bytes)
  unfolding items_at
  stops lt here so_far =
      let k : count - i ≡ suc (count - (i + 1)) = omega arith in
      let one : with_front front (items_at item_at stop (count - i) bytes) ≡ Some (front, bytes) = rw (k, here) (ap (λ (ns : List A). Some (ns, bytes)) (append-nil front)) in
      sym so_far ∙ one

  pub is_done : count ≤ i → with_front front (items_at item_at stop (count - i) bytes) ≡ total → total ≡ Some (front, bytes)
  unfolding items_at
  is_done le so_far =
      let k : count - i ≡ 0 = omega arith in
      let one : with_front front (items_at item_at stop (count - i) bytes) ≡ Some (front, bytes) = rw k (ap (λ (ns : List A). Some (ns, bytes)) (append-nil front)) in
      sym so_far ∙ one
