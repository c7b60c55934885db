-- The first of what is broken: joined, through a loop, and over relations that say the same.
use Rattle.std.proofs.Common.{◌≡◌, ◌⊎◌, ℕ, ◌+◌, ◌<◌, ◌≤◌, Bool, true, false, cond, List, [], ◌∷◌, ◌++◌, length, get_or, take, Option, Some, None, refl, sym, subst, ◌∙◌, inl, inr, arith, nat_lt}
use Rattle.std.proofs.lemmas.Bool.{false≢true, cases_Bool, cases_eq}
use Rattle.std.proofs.lemmas.Bool.Decides.{nat_tests}
use Rattle.std.proofs.lemmas.List.{take_all, take_more}
use Rattle.std.proofs.lemmas.List.Elements.{Contains-append_left, Contains-push, Contains-push_cases}
use Rattle.ag_base.specs.declared.place.Refusal.{Refusal}
use Rattle.ag_base.specs.declared.place.Place.{Place}
use Rattle.ag_base.specs.declared.place.Rule.{Rule}
use Rattle.ag_base.specs.Rules.{rank, word_of, by_first, comes_before, rule_before}
use Rattle.ag_names.specs.Order.{IsFirst, earlier, InSome}

-- ---- the order of refusals

by_first-trans : (a b c : ℕ) (p q r : Bool) → (p ≡ true → q ≡ true → r ≡ true) → by_first a b p ≡ true → by_first b c q ≡ true → by_first a c r ≡ true
by_first-trans a b c p q r h e f = grind (arith, nat_tests)

nat_lt-trans : (a b c : ℕ) → nat_lt a b ≡ true → nat_lt b c ≡ true → nat_lt a c ≡ true
nat_lt-trans a b c e f = grind (arith, nat_tests)

by_first-not : (a b c : ℕ) (p q r : Bool) → (p ≡ false → q ≡ false → r ≡ false) → by_first a b p ≡ false → by_first b c q ≡ false → by_first a c r ≡ false
by_first-not a b c p q r h e f = grind (arith, nat_tests)

nat_lt-not : (a b c : ℕ) → nat_lt a b ≡ false → nat_lt b c ≡ false → nat_lt a c ≡ false
nat_lt-not a b c e f = grind (arith, nat_tests)

by_first-itself : (a : ℕ) (p : Bool) → p ≡ false → by_first a a p ≡ false
by_first-itself a p e = grind (arith, nat_tests)

nat_lt-itself : (a : ℕ) → nat_lt a a ≡ false
nat_lt-itself a = grind (arith, nat_tests)

pub transitive : (r s t : Refusal) → comes_before r s ≡ true → comes_before s t ≡ true → comes_before r t ≡ true
transitive r s t =
    by_first-trans r.place.file s.place.file t.place.file _ _ _
    (by_first-trans r.place.line s.place.line t.place.line _ _ _
    (by_first-trans r.place.column s.place.column t.place.column _ _ _
    (by_first-trans (rank r.rule) (rank s.rule) (rank t.rule) _ _ _
    (nat_lt-trans (word_of r.rule) (word_of s.rule) (word_of t.rule)))))

-- one that doesn't come before another doesn't come before what that doesn't come before
pub not_before : (r s t : Refusal) → comes_before r s ≡ false → comes_before s t ≡ false → comes_before r t ≡ false
not_before r s t =
    by_first-not r.place.file s.place.file t.place.file _ _ _
    (by_first-not r.place.line s.place.line t.place.line _ _ _
    (by_first-not r.place.column s.place.column t.place.column _ _ _
    (by_first-not (rank r.rule) (rank s.rule) (rank t.rule) _ _ _
    (nat_lt-not (word_of r.rule) (word_of s.rule) (word_of t.rule)))))

pub never_before_itself : (r : Refusal) → comes_before r r ≡ false
never_before_itself r =
    by_first-itself r.place.file _
    (by_first-itself r.place.line _
    (by_first-itself r.place.column _
    (by_first-itself (rank r.rule) _ (nat_lt-itself (word_of r.rule)))))

-- at one place a rule that isn't before another
pub at_one_place : (place : Place) (q r : Rule) → rule_before q r ≡ false → comes_before (record { place = place; rule = q }) (record { place = place; rule = r }) ≡ false
at_one_place place q r e =
    by_first-itself place.file _ (by_first-itself place.line _ (by_first-itself place.column _ e))

-- what comes before another isn't before it in turn
after : (r s : Refusal) → comes_before s r ≡ true → comes_before r s ≡ false
after r s e =
    elim (cases_Bool (comes_before r s)) [
      | inl t ↦ absurd (false≢true (sym (never_before_itself s) ∙ transitive s r s e t))
      | inr f ↦ f
    ]

-- ---- of two

first_of_two : (P Q : Refusal → Type 0) (r s : Refusal) (b : Bool) → comes_before s r ≡ b
    → IsFirst P (Some r) → IsFirst Q (Some s) → IsFirst (λ q. P q ⊎ Q q) (cond b (Some s) (Some r))
first_of_two P Q r s true e h k =
    record { broken = inr k.broken; first = λ q. λ m. elim m [ inl p ↦ not_before q r s (h.first q p) (after r s e) | inr p ↦ k.first q p ] }
first_of_two P Q r s false e h k =
    record { broken = inl h.broken; first = λ q. λ m. elim m [ inl p ↦ h.first q p | inr p ↦ not_before q s r (k.first q p) e ] }

pub first_joined : (P Q : Refusal → Type 0) (a b : Option Refusal) → IsFirst P a → IsFirst Q b → IsFirst (λ r. P r ⊎ Q r) (earlier a b)
first_joined P Q None None h k = λ q m. elim m [ inl p ↦ h q p | inr p ↦ k q p ]
first_joined P Q None (Some s) h k = record { broken = inr k.broken; first = λ q m. elim m [ inl p ↦ absurd (h q p) | inr p ↦ k.first q p ] }
first_joined P Q (Some r) None h k = record { broken = inl h.broken; first = λ q m. elim m [ inl p ↦ h.first q p | inr p ↦ absurd (k q p) ] }
first_joined P Q (Some r) (Some s) h k = first_of_two P Q r s (comes_before s r) refl h k

-- ---- over relations that say the same

pub first_same : (P Q : Refusal → Type 0) (a : Option Refusal) → ((r : Refusal) → P r → Q r) → ((r : Refusal) → Q r → P r) → IsFirst P a → IsFirst Q a
first_same P Q None f g h = λ q m. h q (g q m)
first_same P Q (Some r) f g h = record { broken = f r h.broken; first = λ q m. h.first q (g q m) }

-- where one relation alone can hold, and where none can
pub first_none : (P : Refusal → Type 0) → ((r : Refusal) → P r → ⊥) → IsFirst P None
first_none P h = h

pub first_only : (P : Refusal → Type 0) (r : Refusal) → P r → ((q : Refusal) → P q → q ≡ r) → IsFirst P (Some r)
first_only P r p h = record { broken = p; first = λ q m. rw (h q m) (never_before_itself r) }

-- ---- through a loop

module _ {X : Type 0} (P : X → Refusal → Type 0) where
  pub some_none : (xs : List X) → IsFirst (InSome (take 0 xs) P) None
  some_none xs = λ q m. absurd (omega (arith, m.1.1))

  more : (xs : List X) (x : X) (r : Refusal) → InSome (xs ++ x ∷ []) P r → InSome xs P r ⊎ P x r
  more xs x r m =
      elim (Contains-push_cases xs x m.0 m.1) [
        | inl c ↦ inl (m.0, c, m.2)
        | inr e ↦ inr (subst (λ y. P y r) (sym e) m.2)
      ]

  less : (xs : List X) (x : X) (r : Refusal) → InSome xs P r ⊎ P x r → InSome (xs ++ x ∷ []) P r
  less xs x r m =
      elim m [
        | inl h ↦ (h.0, Contains-append_left xs (x ∷ []) h.0 h.1, h.2)
        | inr p ↦ (x, Contains-push xs x, p)
      ]

  pub some_push : (xs : List X) (x : X) (a b : Option Refusal) → IsFirst (InSome xs P) a → IsFirst (P x) b → IsFirst (InSome (xs ++ x ∷ []) P) (earlier a b)
  some_push xs x a b h k =
      first_same (λ r. InSome xs P r ⊎ P x r) (InSome (xs ++ x ∷ []) P) (earlier a b) (less xs x) (more xs x) (first_joined (InSome xs P) (P x) a b h k)

  pub some_more : (xs : List X) (i : ℕ) (x : X) (a b : Option Refusal) → i < length xs → x ≡ get_or xs i x
      → IsFirst (InSome (take i xs) P) a → IsFirst (P x) b → IsFirst (InSome (take (i + 1) xs) P) (earlier a b)
  some_more xs i x a b l e h k =
      rw (take_more xs i x l) (rw (sym e) (some_push (take i xs) x a b h k))

-- ---- through a loop, by positions

abbrev pub Below : (ℕ → Refusal → Type 0) → ℕ → Refusal → Type 0
Below P n r = (j : ℕ) × (j < n) × P j r

module _ (P : ℕ → Refusal → Type 0) where
  pub below_none : IsFirst (Below P 0) None
  below_none = λ q m. absurd (omega (arith, m.1))

  up : (n : ℕ) (r : Refusal) → Below P n r ⊎ P n r → Below P (n + 1) r
  up n r m =
      elim m [
        | inl h ↦ (h.0, (let l : h.0 < n = h.1 in omega arith), h.2)
        | inr p ↦ (n, omega arith, p)
      ]

  down : (n : ℕ) (r : Refusal) → Below P (n + 1) r → Below P n r ⊎ P n r
  down n r m =
      let l : m.0 < n + 1 = m.1 in
      elim (cases_eq m.0 n) [
        | inl e ↦ inr (subst (λ j. P j r) e m.2)
        | inr ne ↦ inl (m.0, omega arith, m.2)
      ]

  pub first_below_more : (n : ℕ) (a b : Option Refusal) → IsFirst (Below P n) a → IsFirst (P n) b → IsFirst (Below P (n + 1)) (earlier a b)
  first_below_more n a b h k =
      first_same (λ r. Below P n r ⊎ P n r) (Below P (n + 1)) (earlier a b) (up n) (down n) (first_joined (Below P n) (P n) a b h k)

-- ---- nothing further is broken

pub earlier_none : (a : Option Refusal) → earlier a None ≡ a
earlier_none None = refl
earlier_none (Some r) = refl

module _ {X : Type 0} (P : X → Refusal → Type 0) where
  -- a step whose answer is named
  pub some_step : (xs : List X) (i : ℕ) (x : X) (a b c : Option Refusal) → i < length xs → x ≡ get_or xs i x → c ≡ earlier a b
      → IsFirst (InSome (take i xs) P) a → IsFirst (P x) b → IsFirst (InSome (take (i + 1) xs) P) c
  some_step xs i x a b c l e f h k = subst (IsFirst (InSome (take (i + 1) xs) P)) (sym f) (some_more P xs i x a b l e h k)

  -- the end of the loop
  pub some_all : (xs : List X) (i : ℕ) (a : Option Refusal) → length xs ≤ i → IsFirst (InSome (take i xs) P) a → IsFirst (InSome xs P) a
  some_all xs i a l h = subst (λ (z : List X). IsFirst (InSome z P) a) (take_all i xs l) h
