-- The first of broken rules that all are the same one is that at the least place, in whatever order they stand.
use Rattle.std.proofs.Common.{◌≡◌, ◌⊎◌, ℕ, zero, suc, ◌<◌, Bool, true, false, not, List, [], ◌∷◌, ◌++◌, length, get_or, refl, inl, inr, ap, subst, sym, ◌∙◌, arith, nat_lt, ◌&&◌, ◌||◌}
use Rattle.std.specs.Prelude.{Option, Some, None}
use Rattle.std.specs.List.{Contains}
use Rattle.std.proofs.lemmas.Bool.{cases_Bool}
use Rattle.std.proofs.lemmas.Bool.Decides.{nat_tests}
use Rattle.ag_base.specs.declared.place.Place.{Place}
use Rattle.ag_base.specs.declared.place.Refusal.{Refusal}
use Rattle.ag_base.specs.declared.place.Rule.{Rule}
use Rattle.ag_base.specs.Rules.{by_first, is_before, comes_before}
use Rattle.ag_types.specs.Places.{first_refusal, first_with, first_broken}
use Rattle.ag_types.proofs.Breaking.{comes_before-by_place, rule_before-self, takes, keeps, unbroken}
use Rattle.ag_types.proofs.EarliestNames.{before-one_way, before-skips}

-- ---- what stands in a list

abbrev pub Member : {X : Type 0} → X → List X → Type 0
Member x [] = ⊥
Member x (y ∷ ys) = (y ≡ x) ⊎ Member x ys

pub member_left : {X : Type 0} (x : X) (xs ys : List X) → Member x xs → Member x (xs ++ ys)
member_left x [] ys m = absurd m
member_left x (z ∷ xs) ys (inl e) = inl e
member_left x (z ∷ xs) ys (inr m) = inr (member_left x xs ys m)

pub member_right : {X : Type 0} (x : X) (xs ys : List X) → Member x ys → Member x (xs ++ ys)
member_right x [] ys m = m
member_right x (z ∷ xs) ys m = inr (member_right x xs ys m)

pub member_cases : {X : Type 0} (x : X) (xs ys : List X) → Member x (xs ++ ys) → Member x xs ⊎ Member x ys
member_cases x [] ys m = inr m
member_cases x (z ∷ xs) ys (inl e) = inl (inl e)
member_cases x (z ∷ xs) ys (inr m) =
    elim (member_cases x xs ys m) [
      | inl n ↦ inl (inr n)
      | inr n ↦ inr n
    ]

member_at : {X : Type 0} (x : X) (xs : List X) (k : ℕ) → k < length xs → get_or xs k x ≡ x → Member x xs
member_at x [] k h e = absurd (omega arith)
member_at x (y ∷ xs) zero h e = inl e
member_at x (y ∷ xs) (suc k) h e = inr (member_at x xs k (omega arith) e)

pub member_from : {X : Type 0} (x : X) (xs : List X) → Contains xs x → Member x xs
member_from x xs h = member_at x xs h.0 h.1 h.2

pub member_to : {X : Type 0} (x : X) (xs : List X) → Member x xs → Contains xs x
member_to x [] m = absurd m
member_to x (y ∷ xs) (inl e) = (0, omega arith, e)
member_to x (y ∷ xs) (inr m) = let h = member_to x xs m in let l : h.0 < length xs = h.1 in (suc h.0, omega arith, h.2)

-- ---- the least of broken rules

-- all are this rule
abbrev pub AreAll : Rule → List Refusal → Type 0
AreAll rule xs = (r : Refusal) → Member r xs → r.rule ≡ rule

or_none : (a b : Bool) → (a || (b && false)) ≡ a
or_none true b = refl
or_none false true = refl
or_none false false = refl

before_itself : (p : Place) → is_before p p ≡ false
before_itself p =
    elim (cases_Bool (is_before p p)) [
      | inl e ↦ before-one_way p p e
      | inr e ↦ e
    ]

-- of one rule the place decides
by_place : (rule : Rule) (r s : Refusal) → r.rule ≡ rule → s.rule ≡ rule → comes_before s r ≡ is_before s.place r.place
by_place rule r s e f =
    comes_before-by_place r s
    ∙ ap (λ (z : Bool). is_before s.place r.place || (not (is_before r.place s.place) && z)) (rw (e, f) (rule_before-self rule))
    ∙ or_none (is_before s.place r.place) (not (is_before r.place s.place))

first_of_two : (q s : Refusal) → (first_refusal q s ≡ q) ⊎ (first_refusal q s ≡ s)
first_of_two q s =
    elim (cases_Bool (comes_before s q)) [
      | inl e ↦ inr (takes q s e)
      | inr e ↦ inl (keeps q s e)
    ]

with_member : (q : Refusal) (xs : List Refusal) (o : Option Refusal) → ((s : Refusal) → o ≡ Some s → Member s xs) → (r : Refusal) → first_with q o ≡ r → Member r (q ∷ xs)
with_member q xs None within r f = inl f
with_member q xs (Some s) within r f =
    elim (first_of_two q s) [
      | inl g ↦ inl (sym g ∙ f)
      | inr g ↦ inr (within r (ap Some (sym g ∙ f)))
    ]

pub first_is_member : (xs : List Refusal) (r : Refusal) → first_broken xs ≡ Some r → Member r xs
first_is_member [] r e = cc
first_is_member (q ∷ xs) r e = let f : first_with q (first_broken xs) ≡ r = cc in with_member q xs (first_broken xs) (first_is_member xs) r f

-- none of those behind a head comes before what is answered
with_least : (rule : Rule) (p : Refusal) (xs : List Refusal) (o : Option Refusal) → p.rule ≡ rule → ((s : Refusal) → o ≡ Some s → s.rule ≡ rule) → (o ≡ None → xs ≡ []) →
    ((s : Refusal) → o ≡ Some s → (q : Refusal) → Member q xs → is_before q.place s.place ≡ false) → (r : Refusal) → first_with p o ≡ r → (q : Refusal) → Member q (p ∷ xs) → is_before q.place r.place ≡ false
with_least rule p xs None alike within none least r f q (inl e) = rw (sym f, sym e) (before_itself p.place)
with_least rule p xs None alike within none least r f q (inr m) = absurd (subst (Member q) (none refl) m)
with_least rule p xs (Some s) alike within none least r f q m =
    let place : comes_before s p ≡ is_before s.place p.place = by_place rule p s alike (within s refl) in
    elim (cases_Bool (comes_before s p)) [
      | inl e ↦
          let is : s ≡ r = sym (takes p s e) ∙ f in
          elim m [
            | inl g ↦ rw (← is, ← g) (before-one_way s.place p.place (sym place ∙ e))
            | inr n ↦ rw (← is) (least s refl q n)
          ]
      | inr e ↦
          let is : p ≡ r = sym (keeps p s e) ∙ f in
          elim m [
            | inl g ↦ rw (← is, ← g) (before_itself p.place)
            | inr n ↦ rw (← is) (before-skips q.place s.place p.place (least s refl q n) (sym place ∙ e))
          ]
    ]

pub first_is_least : (rule : Rule) (xs : List Refusal) → AreAll rule xs → (r : Refusal) → first_broken xs ≡ Some r → (q : Refusal) → Member q xs → is_before q.place r.place ≡ false
first_is_least rule [] all r e q m = absurd m
first_is_least rule (p ∷ xs) all r e q m =
    let f : first_with p (first_broken xs) ≡ r = cc in
    with_least rule p xs (first_broken xs) (all p (inl refl)) (λ s g. all s (inr (first_is_member xs s g))) (unbroken xs)
    (first_is_least rule xs (λ s n. all s (inr n))) r f q m

-- ---- places of which neither is before the other are the same

level : (a b : ℕ) (p q : Bool) → by_first a b p ≡ false → by_first b a q ≡ false → (a ≡ b) × (p ≡ false) × (q ≡ false)
level a b p q e f = (grind (arith, nat_tests), grind (arith, nat_tests), grind (arith, nat_tests))

last_level : (a b : ℕ) → nat_lt a b ≡ false → nat_lt b a ≡ false → a ≡ b
last_level a b e f = grind (arith, nat_tests)

pub same_place : (p q : Place) → is_before p q ≡ false → is_before q p ≡ false → p ≡ q
same_place p q e f =
    let file = level p.file q.file _ _ e f in
    let line = level p.line q.line _ _ file.1 file.2 in
    let column = last_level p.column q.column line.1 line.2 in
    λ i. record { file = file.0 i; line = line.0 i; column = column i }

pub same_refusal : (r s : Refusal) → r.place ≡ s.place → r.rule ≡ s.rule → r ≡ s
same_refusal r s e f = λ i. record { place = e i; rule = f i }

least_of : (rule : Rule) (xs : List Refusal) (o : Option Refusal) → first_broken xs ≡ o → AreAll rule xs → (r : Refusal) → Member r xs → ((q : Refusal) → Member q xs → is_before q.place r.place ≡ false) → o ≡ Some r
least_of rule xs None e all r m least = absurd (subst (Member r) (unbroken xs e) m)
least_of rule xs (Some s) e all r m least =
    let n = first_is_member xs s e in
    ap Some (same_refusal s r (same_place s.place r.place (least s n) (first_is_least rule xs all s e r m)) (all s n ∙ sym (all r m)))

-- the first is the one that is not behind another
pub least_is_first : (rule : Rule) (xs : List Refusal) → AreAll rule xs → (r : Refusal) → Member r xs → ((q : Refusal) → Member q xs → is_before q.place r.place ≡ false) → first_broken xs ≡ Some r
least_is_first rule xs all r m least = least_of rule xs (first_broken xs) refl all r m least

same_first : (rule : Rule) (xs ys : List Refusal) (o : Option Refusal) → first_broken xs ≡ o → AreAll rule xs → AreAll rule ys → ((q : Refusal) → Member q xs → Member q ys) → ((q : Refusal) → Member q ys → Member q xs) → o ≡ first_broken ys
same_first rule xs [] None e all also to from = refl
same_first rule xs (y ∷ ys) None e all also to from = absurd (subst (Member y) (unbroken xs e) (from y (inl refl)))
same_first rule xs ys (Some r) e all also to from =
    sym (least_is_first rule ys also r (to r (first_is_member xs r e)) (λ q m. first_is_least rule xs all r e q (from q m)))

-- lists of the same broken rules have the same first one
pub same_members : (rule : Rule) (xs ys : List Refusal) → AreAll rule xs → AreAll rule ys → ((q : Refusal) → Member q xs → Member q ys) → ((q : Refusal) → Member q ys → Member q xs) → first_broken xs ≡ first_broken ys
same_members rule xs ys all also to from = same_first rule xs ys (first_broken xs) refl all also to from
