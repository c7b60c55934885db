-- A test that none of a list passes, one element after another.
use Rattle.std.proofs.Common.{◌≡◌, ℕ, ◌+◌, ◌<◌, ◌≤◌, Bool, true, false, List, [], ◌∷◌, ◌++◌, length, take, get_or, refl, inl, inr, subst}
use Rattle.std.specs.List.{list_any}
use Rattle.std.proofs.lemmas.Bool.{cases_Bool}
use Rattle.std.proofs.lemmas.List.{take_all, take_more}
use Rattle.std.proofs.lemmas.List.Folds.{list_any_at}

module _ {X : Type 0} (test : X → Bool) where
  push : (xs : List X) (x : X) → list_any test xs ≡ false → test x ≡ false → list_any test (xs ++ x ∷ []) ≡ false
  push [] x e f = rw f refl
  push (y ∷ xs) x e f =
      elim (cases_Bool (test y)) [
        | inl t ↦ cc
        | inr t ↦ rw t (push xs x (rest y xs t e) f)
      ]
    where
      rest : (y : X) (xs : List X) → test y ≡ false → list_any test (y ∷ xs) ≡ false → list_any test xs ≡ false
      rest y xs t e = rw t at e

  pub any_more : (xs : List X) (i : ℕ) (d : X) → i < length xs → list_any test (take i xs) ≡ false → test (get_or xs i d) ≡ false → list_any test (take (i + 1) xs) ≡ false
  any_more xs i d h before here = rw (take_more xs i d h) (push (take i xs) (get_or xs i d) before here)

  pub any_at : (xs : List X) (i : ℕ) (d : X) → i < length xs → test (get_or xs i d) ≡ true → list_any test xs ≡ true
  any_at xs i d h here = list_any_at test xs i d h here

  pub any_all : (xs : List X) (i : ℕ) → length xs ≤ i → list_any test (take i xs) ≡ false → list_any test xs ≡ false
  any_all xs i h e = subst (λ (z : List X). list_any test z ≡ false) (take_all i xs h) e
