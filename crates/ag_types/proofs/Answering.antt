-- The first of what is broken, by parts.
use Rattle.std.proofs.Common.{◌≡◌, zero, suc, true, false, List, [], ◌∷◌, refl, inl, inr, ap, sym, ◌∙◌, arith}
use Rattle.std.specs.Prelude.{Option, Some, None, ◌⊎◌, Contains}
use Rattle.std.proofs.Math.Path.{subst}
use Rattle.std.proofs.lemmas.Bool.{cases_Bool, true≢false}
use Rattle.ag_base.specs.declared.place.Refusal.{Refusal}
use Rattle.ag_base.specs.Rules.{comes_before}
use Rattle.ag_types.specs.Answers.{IsFirst}
use Rattle.ag_types.specs.Firsts.{either}
use Rattle.ag_types.specs.Places.{first_broken}
use Rattle.ag_types.proofs.Breaking.{comes_before-trans, comes_before-skips, comes_before-self, takes, keeps, first_with-is}

-- where one comes before a second, what doesn't come before a third that the second comes before ..
falls : (q s r : Refusal) → comes_before s r ≡ true → comes_before q r ≡ false → comes_before q s ≡ false
falls q s r e f =
    elim (cases_Bool (comes_before q s)) [
      | inl g ↦ absurd (true≢false (sym (comes_before-trans q s r g e) ∙ f))
      | inr g ↦ g
    ]

-- of two parts the first of their first ones
pub first_of_two : (P Q : Refusal → Type 0) (a b : Option Refusal) → IsFirst P a → IsFirst Q b → IsFirst (λ q. P q ⊎ Q q) (either a b)
first_of_two P Q None None f g = λ q h. elim h [ inl p ↦ f q p | inr p ↦ g q p ]
first_of_two P Q None (Some s) f g = record { broken = inr g.broken; first = λ q h. elim h [ inl p ↦ absurd (f q p) | inr p ↦ g.first q p ] }
first_of_two P Q (Some r) None f g = record { broken = inl f.broken; first = λ q h. elim h [ inl p ↦ f.first q p | inr p ↦ absurd (g q p) ] }
first_of_two P Q (Some r) (Some s) f g =
    elim (cases_Bool (comes_before s r)) [
      | inl e ↦ subst (λ (z : Option Refusal). IsFirst (λ q. P q ⊎ Q q) z) (sym (ap Some (takes r s e)))
          (record { broken = inr g.broken; first = λ q h. elim h [ inl p ↦ falls q s r e (f.first q p) | inr p ↦ g.first q p ] })
      | inr e ↦ subst (λ (z : Option Refusal). IsFirst (λ q. P q ⊎ Q q) z) (sym (ap Some (keeps r s e)))
          (record { broken = inl f.broken; first = λ q h. elim h [ inl p ↦ f.first q p | inr p ↦ comes_before-skips q s r (g.first q p) e ] })
    ]

contains_here : {X : Type 0} (x : X) (xs : List X) → Contains (x ∷ xs) x
contains_here x xs = (zero, omega arith, refl)

contains_behind : {X : Type 0} (x y : X) (xs : List X) → Contains xs y → Contains (x ∷ xs) y
contains_behind x y xs h = (suc h.0, omega (arith, h.1), h.2)

contains_one_of : {X : Type 0} (x y : X) (xs : List X) → Contains (x ∷ xs) y → (x ≡ y) ⊎ Contains xs y
contains_one_of x y xs (zero, h, e) = inl e
contains_one_of x y xs (suc k, h, e) = inr (k, omega (arith, h), e)

contains_none : {X : Type 0} (y : X) → Contains [] y → ⊥
contains_none y h = absurd (omega (arith, h.1))

-- what is only this is first
alone : (r : Refusal) → IsFirst (λ q. r ≡ q) (Some r)
alone r = record { broken = refl; first = λ q e. ap (λ (z : Refusal). comes_before z r) (sym e) ∙ comes_before-self r }

-- what holds of the same is first of the same
pub first_of_same : (P Q : Refusal → Type 0) (a : Option Refusal) → ((q : Refusal) → P q → Q q) → ((q : Refusal) → Q q → P q) → IsFirst P a → IsFirst Q a
first_of_same P Q None there back f = λ q h. f q (back q h)
first_of_same P Q (Some r) there back f = record { broken = there r f.broken; first = λ q h. f.first q (back q h) }

-- the first broken rule of a list is the first of what is in it
pub first_in : (xs : List Refusal) → IsFirst (Contains xs) (first_broken xs)
first_in [] = contains_none
first_in (r ∷ xs) =
    subst (IsFirst (Contains (r ∷ xs))) (sym (first_with-is r (first_broken xs)))
    (first_of_same (λ q. (r ≡ q) ⊎ Contains xs q) (Contains (r ∷ xs)) (either (Some r) (first_broken xs))
    (λ q h. elim h [ inl e ↦ subst (Contains (r ∷ xs)) e (contains_here r xs) | inr c ↦ contains_behind r q xs c ])
    (λ q h. contains_one_of r q xs h)
    (first_of_two (λ q. r ≡ q) (Contains xs) (Some r) (first_broken xs) (alone r) (first_in xs)))
