-- The first broken rule of lists that follow each other.
use Rattle.std.proofs.Common.{◌≡◌, ℕ, Bool, true, false, not, List, [], ◌∷◌, ◌++◌, refl, inl, inr, ap, sym, ◌∙◌, arith, nat_lt, ◌&&◌, ◌||◌}
use Rattle.std.specs.Prelude.{Option, Some, None, if◌then◌else◌}
use Rattle.std.proofs.lemmas.Bool.Decides.{nat_tests}
use Rattle.std.proofs.lemmas.Bool.{cases_Bool}
use Rattle.ag_base.specs.declared.place.Refusal.{Refusal}
use Rattle.ag_base.specs.declared.place.Rule.{Rule}
use Rattle.ag_base.specs.Rules.{by_first, is_before, rank, word_of, rule_before, comes_before}
use Rattle.ag_types.specs.Firsts.{either}
use Rattle.ag_types.specs.Places.{first_refusal, first_with, first_broken}

by_first-trans : (a b c : ℕ) (p q r : Bool) → (p ≡ true → q ≡ true → r ≡ true) → by_first a b p ≡ true → by_first b c q ≡ true → by_first a c r ≡ true
by_first-trans a b c p q r h e f = grind (arith, nat_tests)

pub by_first-skips : (a b c : ℕ) (p q r : Bool) → (p ≡ false → q ≡ false → r ≡ false) → by_first a b p ≡ false → by_first b c q ≡ false → by_first a c r ≡ false
by_first-skips a b c p q r h e f = grind (arith, nat_tests)

pub nat_lt-skips : (a b c : ℕ) → nat_lt a b ≡ false → nat_lt b c ≡ false → nat_lt a c ≡ false
nat_lt-skips a b c e f = grind (arith, nat_tests)

nat_lt-trans : (a b c : ℕ) → nat_lt a b ≡ true → nat_lt b c ≡ true → nat_lt a c ≡ true
nat_lt-trans a b c e f = grind (arith, nat_tests)

rule_before-trans : (p q r : Rule) → rule_before p q ≡ true → rule_before q r ≡ true → rule_before p r ≡ true
rule_before-trans p q r = by_first-trans (rank p) (rank q) (rank r) _ _ _ (nat_lt-trans (word_of p) (word_of q) (word_of r))

pub comes_before-trans : (r s t : Refusal) → comes_before r s ≡ true → comes_before s t ≡ true → comes_before r t ≡ true
comes_before-trans r s t =
    by_first-trans r.place.file s.place.file t.place.file _ _ _
    (by_first-trans r.place.line s.place.line t.place.line _ _ _
    (by_first-trans r.place.column s.place.column t.place.column _ _ _
    (rule_before-trans r.rule s.rule t.rule)))

-- what isn't before a second that isn't before a third isn't before that one
rule_before-skips : (p q r : Rule) → rule_before p q ≡ false → rule_before q r ≡ false → rule_before p r ≡ false
rule_before-skips p q r = by_first-skips (rank p) (rank q) (rank r) _ _ _ (nat_lt-skips (word_of p) (word_of q) (word_of r))

pub comes_before-skips : (r s t : Refusal) → comes_before r s ≡ false → comes_before s t ≡ false → comes_before r t ≡ false
comes_before-skips r s t =
    by_first-skips r.place.file s.place.file t.place.file _ _ _
    (by_first-skips r.place.line s.place.line t.place.line _ _ _
    (by_first-skips r.place.column s.place.column t.place.column _ _ _
    (rule_before-skips r.rule s.rule t.rule)))

by_first-self : (a : ℕ) (further : Bool) → further ≡ false → by_first a a further ≡ false
by_first-self a further e = grind (arith, nat_tests)

nat_lt-self : (a : ℕ) → nat_lt a a ≡ false
nat_lt-self a = grind (arith, nat_tests)

-- nothing comes before itself
pub rule_before-self : (p : Rule) → rule_before p p ≡ false
rule_before-self p = by_first-self (rank p) _ (nat_lt-self (word_of p))

pub comes_before-self : (r : Refusal) → comes_before r r ≡ false
comes_before-self r = by_first-self r.place.file _ (by_first-self r.place.line _ (by_first-self r.place.column _ (rule_before-self r.rule)))

-- where neither is first, what is further known decides
by_first-last : (a b : ℕ) (o p q r : Bool) → o ≡ (p || (not q && r)) → by_first a b o ≡ (by_first a b p || (not (by_first b a q) && r))
by_first-last a b o p q r h = grind (arith, nat_tests)

-- at one column the order of rules decides
last_column : (a b : ℕ) (r : Bool) → by_first a b r ≡ (nat_lt a b || (not (nat_lt b a) && r))
last_column a b r = grind (arith, nat_tests)

pub comes_before-by_place : (r s : Refusal) → comes_before s r ≡ (is_before s.place r.place || (not (is_before r.place s.place) && rule_before s.rule r.rule))
comes_before-by_place r s =
    by_first-last s.place.file r.place.file _ _ _ (rule_before s.rule r.rule)
    (by_first-last s.place.line r.place.line _ _ _ (rule_before s.rule r.rule)
    (last_column s.place.column r.place.column (rule_before s.rule r.rule)))

pub takes : (r s : Refusal) → comes_before s r ≡ true → first_refusal r s ≡ s
takes r s e = ap (λ (b : Bool). if b then s else r) e

pub keeps : (r s : Refusal) → comes_before s r ≡ false → first_refusal r s ≡ r
keeps r s e = ap (λ (b : Bool). if b then s else r) e

first_refusal-assoc : (r s t : Refusal) → first_refusal (first_refusal r s) t ≡ first_refusal r (first_refusal s t)
first_refusal-assoc r s t =
    elim (cases_Bool (comes_before s r)) [
      | inl e ↦ elim (cases_Bool (comes_before t s)) [
        | inl f ↦ ap (λ (z : Refusal). first_refusal z t) (takes r s e) ∙ takes s t f ∙ sym (takes r t (comes_before-trans t s r f e)) ∙ ap (first_refusal r) (sym (takes s t f))
        | inr f ↦ ap (λ (z : Refusal). first_refusal z t) (takes r s e) ∙ keeps s t f ∙ sym (takes r s e) ∙ ap (first_refusal r) (sym (keeps s t f))
      ]
      | inr e ↦ elim (cases_Bool (comes_before t s)) [
        | inl f ↦ ap (λ (z : Refusal). first_refusal z t) (keeps r s e) ∙ ap (first_refusal r) (sym (takes s t f))
        | inr f ↦ ap (λ (z : Refusal). first_refusal z t) (keeps r s e) ∙ keeps r t (comes_before-skips t s r f e) ∙ sym (keeps r s e) ∙ ap (first_refusal r) (sym (keeps s t f))
      ]
    ]

pub either-assoc : (a b c : Option Refusal) → either (either a b) c ≡ either a (either b c)
either-assoc None b c = refl
either-assoc (Some r) None c = refl
either-assoc (Some r) (Some s) None = refl
either-assoc (Some r) (Some s) (Some t) = ap Some (first_refusal-assoc r s t)

pub either-none : (a : Option Refusal) → either a None ≡ a
either-none None = refl
either-none (Some r) = refl

pub first_with-is : (r : Refusal) (o : Option Refusal) → Some (first_with r o) ≡ either (Some r) o
first_with-is r None = refl
first_with-is r (Some s) = refl

-- the first broken rule of two lists is the first of their first ones
pub first_broken-append : (xs ys : List Refusal) → first_broken (xs ++ ys) ≡ either (first_broken xs) (first_broken ys)
first_broken-append [] ys = refl
first_broken-append (r ∷ xs) ys =
    first_with-is r (first_broken (xs ++ ys))
    ∙ ap (either (Some r)) (first_broken-append xs ys)
    ∙ sym (either-assoc (Some r) (first_broken xs) (first_broken ys))
    ∙ ap (λ (z : Option Refusal). either z (first_broken ys)) (sym (first_with-is r (first_broken xs)))

-- nothing is broken where there is no first broken rule
pub unbroken : (xs : List Refusal) → first_broken xs ≡ None → xs ≡ []
unbroken [] e = refl
unbroken (r ∷ xs) e = cc
