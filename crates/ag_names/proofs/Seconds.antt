-- What stands in a list behind another that is the same, by positions.
use Rattle.std.proofs.Common.{◌≡◌, ℕ, ◌+◌, Bool, true, List, [], ◌∷◌, ◌++◌, length, take, drop, Some, refl, ap, sym, ◌∙◌}
use Rattle.std.specs.Prelude.{Contains, slice_get}
use Rattle.std.specs.List.{list_any}
use Rattle.std.proofs.lemmas.List.{take-append-drop, drop_more}
use Rattle.std.proofs.lemmas.List.Folds.{Any-from_list_any, list_any_at}
use Rattle.std.proofs.lemmas.Option.{slice_get_within, get_or_from_slice_get}

module _ {X : Type 0} where
  -- a test that finds one of a list
  pub any_contains : (test : X → Bool) (xs : List X) → list_any test xs ≡ true → (x : X) × Contains xs x × (test x ≡ true)
  any_contains test xs e =
      let a = Any-from_list_any test xs e in
      (a.1, (a.0, a.2, a.3), a.4)

  pub contains_any : (test : X → Bool) (xs : List X) (x : X) → Contains xs x → test x ≡ true → list_any test xs ≡ true
  contains_any test xs x m e = list_any_at test xs m.0 x m.1 (ap test m.2 ∙ e)

  -- at a position a list falls into what is in front, the element, and what is behind
  pub parts_at : (xs : List X) (j : ℕ) (x : X) → slice_get xs j ≡ Some x → xs ≡ take j xs ++ x ∷ drop (j + 1) xs
  parts_at xs j x e =
      sym (take-append-drop j xs)
      ∙ ap (λ (z : List X). take j xs ++ z) (drop_more xs j x (slice_get_within xs j x e) ∙ ap (λ (z : X). z ∷ drop (j + 1) xs) (get_or_from_slice_get xs j x x e))

  take_front : (front behind : List X) (x : X) → take (length front) (front ++ x ∷ behind) ≡ front
  take_front [] behind x = refl
  take_front (y ∷ front) behind x = ap (λ (z : List X). y ∷ z) (take_front front behind x)

  get_front : (front behind : List X) (x : X) → slice_get (front ++ x ∷ behind) (length front) ≡ Some x
  get_front [] behind x = refl
  get_front (y ∷ front) behind x = get_front front behind x

  pub taken : (xs front behind : List X) (x : X) → xs ≡ front ++ x ∷ behind → take (length front) xs ≡ front
  taken xs front behind x e = ap (take (length front)) e ∙ take_front front behind x

  pub found : (xs front behind : List X) (x : X) → xs ≡ front ++ x ∷ behind → slice_get xs (length front) ≡ Some x
  found xs front behind x e = ap (λ (z : List X). slice_get z (length front)) e ∙ get_front front behind x
