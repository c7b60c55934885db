-- What operators make of values of their types: a value of theirs.
use Rattle.std.proofs.Common.{◌≡◌, ℕ, zero, suc, ℤ, pos, Bool, true, false, not, ◌||◌, nat_lt, List, [], ◌∷◌, ◌++◌, refl, ap, subst, ◌∙◌, ◌⊎◌, inl, inr, arith}
use Rattle.std.specs.Prelude.{negsuc, unsigned_abs, ◌==◌, Option, Some, None, if◌then◌else◌}
use Rattle.std.proofs.lemmas.Bool.Decides.{nat_tests}
use Rattle.std.specs.Int.{int_div_euclid, int_rem_euclid}
use Rattle.ag_base.specs.declared.place.Place.{Place}
use Rattle.ag_terms.specs.declared.clauses.Ty.{Ty}
use Rattle.ag_terms.specs.declared.clauses.Ty.TheVariants.{Int, Bool as Boolean}
use Rattle.ag_terms.specs.declared.terms.Binary.{Binary}
use Rattle.ag_terms.specs.declared.terms.Binary.TheVariants as binary
use Rattle.ag_terms.specs.declared.terms.Term.{Term}
use Rattle.ag_terms.specs.declared.terms.Unary.TheVariants as unary
use Rattle.ag_symbols.specs.Seen.{Names}
use Rattle.ag_linear.specs.declared.value.Value.{Value}
use Rattle.ag_linear.specs.declared.value.Value.TheVariants as value
use Rattle.ag_linear.specs.Values.{carried, is_within, value_of_unary, value_of_wholes, value_of_truths, value_of_binary, value_of_choice, passes_limit}
use Rattle.ag_types.specs.Constants.{is_kept}
use Rattle.ag_types.specs.NumberFaults.{passed_value, is_bad_divisor}
use Rattle.ag_types.specs.SumRows.{IsValueOf}
use Rattle.ag_types.specs.Types.{type_in, type_of_binary, needed_first, needed_second, mismatch, faults_in}
use Rattle.ag_types.proofs.Sound.{either}

-- ---- lists with nothing in them

pub front_nil : {X : Type 0} (xs ys : List X) → xs ++ ys ≡ [] → xs ≡ []
front_nil [] ys e = refl
front_nil (x ∷ xs) ys e = cc

pub back_nil : {X : Type 0} (xs ys : List X) → xs ++ ys ≡ [] → ys ≡ []
back_nil [] ys e = e
back_nil (x ∷ xs) ys e = cc

pub unless_nil : {X : Type 0} (b : Bool) (x : X) → (if b then x ∷ [] else []) ≡ [] → b ≡ false
unless_nil true x e = cc
unless_nil false x e = refl

pub neither : (a b : Bool) → (a || b) ≡ false → (a ≡ false) × (b ≡ false)
neither true b e = cc
neither false b e = (refl, e)

-- ---- types

pub known_type : (names : Names) (t : Term) → faults_in names t ≡ [] → (ty : Ty) × (type_in names t ≡ Some ty)
known_type names t e =
    elim (either names t) [
      | inl found ↦ (found.0, found.1.found)
      | inr broken ↦ let wrong = broken.1 in cc
    ]

pub of_needed : (needed found : Ty) (place : Place) → mismatch (Some needed) (Some found) place ≡ [] → found ≡ needed
of_needed Int Int place e = refl
of_needed Int Boolean place e = cc
of_needed Boolean Int place e = cc
of_needed Boolean Boolean place e = refl

-- an operand that breaks no rule, and isn't of a wrong type, has the type that is needed
pub operand_type : (names : Names) (t : Term) (needed : Ty) (place : Place) → faults_in names t ≡ [] → mismatch (Some needed) (type_in names t) place ≡ [] → type_in names t ≡ Some needed
operand_type names t needed place e m =
    let k = known_type names t e in
    k.1 ∙ ap Some (of_needed needed k.0 place (rw k.1 at m))

-- ---- values

whole_of : (o : Option Value) → IsValueOf Int o → (z : ℤ) × (o ≡ Some (value.Whole z))
whole_of None h = absurd h
whole_of (Some (value.Whole z)) h = (z, refl)
whole_of (Some (value.Truth b)) h = absurd h

truth_of : (o : Option Value) → IsValueOf Boolean o → (b : Bool) × (o ≡ Some (value.Truth b))
truth_of None h = absurd h
truth_of (Some (value.Whole z)) h = absurd h
truth_of (Some (value.Truth b)) h = (b, refl)

within_is_carried : (n : ℕ) → not (nat_lt 4611686018427387904 n) ≡ true → nat_lt n 170141183460469231731687303715884105728 ≡ true
within_is_carried n e = grind (arith, nat_tests)

pub not_false : (b : Bool) → not b ≡ false → b ≡ true
not_false true e = refl
not_false false e = cc

pub kept_is_carried : (o : Option Value) → is_kept o ≡ true → carried o ≡ o
kept_is_carried None e = refl
kept_is_carried (Some (value.Truth b)) e = refl
kept_is_carried (Some (value.Whole z)) e = rw (within_is_carried (unsigned_abs z) e) refl

kept_unless_passed : (o : Option Value) → passes_limit o ≡ false → is_kept o ≡ true
kept_unless_passed None e = refl
kept_unless_passed (Some (value.Whole z)) e = not_false (is_within z) e
kept_unless_passed (Some (value.Truth b)) e = refl

pub carried_value : (ty : Ty) (o : Option Value) (place : Place) → passed_value o place ≡ [] → IsValueOf ty o → IsValueOf ty (carried o)
carried_value ty o place e h = rw (kept_is_carried o (kept_unless_passed o (unless_nil (passes_limit o) _ e))) h

pub minus_of : (o : Option Value) → IsValueOf Int o → IsValueOf Int (value_of_unary unary.Minus o)
minus_of o h = let z = whole_of o h in rw z.1 tt

pub not_of : (o : Option Value) → IsValueOf Boolean o → IsValueOf Boolean (value_of_unary unary.Not o)
not_of o h = let b = truth_of o h in rw b.1 tt

by_wholes : (op : Binary) (ty : Ty) (o p : Option Value) → IsValueOf Int o → IsValueOf Int p →
    ((x y : ℤ) → p ≡ Some (value.Whole y) → IsValueOf ty (value_of_wholes op x y)) → IsValueOf ty (value_of_binary op o p)
by_wholes op ty o p h i f = let x = whole_of o h in let y = whole_of p i in rw (x.1, y.1) (f x.0 y.0 y.1)

by_truths : (op : Binary) (ty : Ty) (o p : Option Value) → IsValueOf Boolean o → IsValueOf Boolean p → ((x y : Bool) → IsValueOf ty (value_of_truths op x y)) →
    IsValueOf ty (value_of_binary op o p)
by_truths op ty o p h i f = let x = truth_of o h in let y = truth_of p i in rw (x.1, y.1) (f x.0 y.0)

divisor_is_there : (y : ℤ) (z : ℤ) → is_bad_divisor false (Some (value.Whole y)) ≡ false → IsValueOf Int (if unsigned_abs y == 0 then None else Some (value.Whole z))
divisor_is_there (pos zero) z e = cc
divisor_is_there (pos (suc n)) z e = let other : (suc n == 0) ≡ false = grind (arith, nat_tests) in rw other tt
divisor_is_there (negsuc n) z e = let other : (suc n == 0) ≡ false = grind (arith, nat_tests) in rw other tt

taken_of : (ty : Ty) (b : Bool) (p q : Option Value) → IsValueOf ty p → IsValueOf ty q → IsValueOf ty (value_of_choice (Some (value.Truth b)) p q)
taken_of ty true p q i j = i
taken_of ty false p q i j = j

pub choice_of : (ty : Ty) (o p q : Option Value) → IsValueOf Boolean o → IsValueOf ty p → IsValueOf ty q → IsValueOf ty (value_of_choice o p q)
choice_of ty o p q h i j = let b = truth_of o h in rw b.1 (taken_of ty b.0 p q i j)

-- ---- operators, by the types of their operands

pub typed_as : (o : Option Value) (a b : Ty) → a ≡ b → IsValueOf a o → IsValueOf b o
typed_as o a b e h = subst (λ (ty : Ty). IsValueOf ty o) e h

-- an operator's operands have values of their types, and a divisor isn't 0
pub record AreOperands (op : Binary) (a b : Ty) (o p : Option Value) (place next : Place) : Type 0 where
  pub first : mismatch (needed_first op) (Some a) place ≡ []
  pub second : mismatch (needed_second op (Some a)) (Some b) next ≡ []
  pub left : IsValueOf a o
  pub right : IsValueOf b p

whole_operands : (op : Binary) (c a b : Ty) (o p : Option Value) (place next : Place) → mismatch (Some Int) (Some a) place ≡ [] → mismatch (Some Int) (Some b) next ≡ [] →
    IsValueOf a o → IsValueOf b p →
    ((x y : ℤ) → p ≡ Some (value.Whole y) → IsValueOf c (value_of_wholes op x y)) → IsValueOf c (value_of_binary op o p)
whole_operands op c a b o p place next e f h i g =
    by_wholes op c o p (typed_as o a Int (of_needed Int a place e) h) (typed_as p b Int (of_needed Int b next f) i) g

truth_operands : (op : Binary) (c a b : Ty) (o p : Option Value) (place next : Place) → mismatch (Some Boolean) (Some a) place ≡ [] →
    mismatch (Some Boolean) (Some b) next ≡ [] → IsValueOf a o → IsValueOf b p →
    ((x y : Bool) → IsValueOf c (value_of_truths op x y)) → IsValueOf c (value_of_binary op o p)
truth_operands op c a b o p place next e f h i g =
    by_truths op c o p (typed_as o a Boolean (of_needed Boolean a place e) h) (typed_as p b Boolean (of_needed Boolean b next f) i) g

alike_operands : (op : Binary) (c a b : Ty) (o p : Option Value) (next : Place) → mismatch (Some a) (Some b) next ≡ [] → IsValueOf a o → IsValueOf b p →
    ((x y : ℤ) → p ≡ Some (value.Whole y) → IsValueOf c (value_of_wholes op x y)) → ((x y : Bool) → IsValueOf c (value_of_truths op x y)) → IsValueOf c (value_of_binary op o p)
alike_operands op c Int b o p next f h i g k = by_wholes op c o p h (typed_as p b Int (of_needed Int b next f) i) g
alike_operands op c Boolean b o p next f h i g k = by_truths op c o p h (typed_as p b Boolean (of_needed Boolean b next f) i) k

divided_operands : (p : Option Value) (y z : ℤ) → is_bad_divisor false p ≡ false → p ≡ Some (value.Whole y) → IsValueOf Int (if unsigned_abs y == 0 then None else Some (value.Whole z))
divided_operands p y z e f = divisor_is_there y z (rw f at e)

pub given : (a b : Ty) → Some a ≡ Some b → a ≡ b
given a b e = cc

pub typed_op : (op : Binary) (a b c : Ty) (o p : Option Value) (place next : Place) → (op ≡ binary.Arrow → ⊥) → AreOperands op a b o p place next →
    ((op ≡ binary.Div) ⊎ (op ≡ binary.Mod) → is_bad_divisor false p ≡ false) → type_of_binary op (Some a) ≡ Some c → IsValueOf c (value_of_binary op o p)
typed_op binary.Arrow a b c o p place next n h d e = absurd (n refl)
typed_op binary.Implies a b c o p place next n h d e =
    typed_as (value_of_binary binary.Implies o p) Boolean c (given Boolean c e) (truth_operands binary.Implies Boolean a b o p place next h.first h.second h.left h.right (λ x y. tt))
typed_op binary.Iff a b c o p place next n h d e =
    typed_as (value_of_binary binary.Iff o p) Boolean c (given Boolean c e) (truth_operands binary.Iff Boolean a b o p place next h.first h.second h.left h.right (λ x y. tt))
typed_op binary.Or a b c o p place next n h d e =
    typed_as (value_of_binary binary.Or o p) Boolean c (given Boolean c e) (truth_operands binary.Or Boolean a b o p place next h.first h.second h.left h.right (λ x y. tt))
typed_op binary.And a b c o p place next n h d e =
    typed_as (value_of_binary binary.And o p) Boolean c (given Boolean c e) (truth_operands binary.And Boolean a b o p place next h.first h.second h.left h.right (λ x y. tt))
typed_op binary.Less a b c o p place next n h d e =
    typed_as (value_of_binary binary.Less o p) Boolean c (given Boolean c e) (whole_operands binary.Less Boolean a b o p place next h.first h.second h.left h.right (λ x y q. tt))
typed_op binary.AtMost a b c o p place next n h d e =
    typed_as (value_of_binary binary.AtMost o p) Boolean c (given Boolean c e) (whole_operands binary.AtMost Boolean a b o p place next h.first h.second h.left h.right (λ x y q. tt))
typed_op binary.More a b c o p place next n h d e =
    typed_as (value_of_binary binary.More o p) Boolean c (given Boolean c e) (whole_operands binary.More Boolean a b o p place next h.first h.second h.left h.right (λ x y q. tt))
typed_op binary.AtLeast a b c o p place next n h d e =
    typed_as (value_of_binary binary.AtLeast o p) Boolean c (given Boolean c e) (whole_operands binary.AtLeast Boolean a b o p place next h.first h.second h.left h.right (λ x y q. tt))
typed_op binary.Same a b c o p place next n h d e =
    typed_as (value_of_binary binary.Same o p) Boolean c (given Boolean c e) (alike_operands binary.Same Boolean a b o p next h.second h.left h.right (λ x y q. tt) (λ x y. tt))
typed_op binary.Differs a b c o p place next n h d e =
    typed_as (value_of_binary binary.Differs o p) Boolean c (given Boolean c e) (alike_operands binary.Differs Boolean a b o p next h.second h.left h.right (λ x y q. tt) (λ x y. tt))
typed_op binary.Plus a b c o p place next n h d e =
    typed_as (value_of_binary binary.Plus o p) Int c (given Int c e) (whole_operands binary.Plus Int a b o p place next h.first h.second h.left h.right (λ x y q. tt))
typed_op binary.Minus a b c o p place next n h d e =
    typed_as (value_of_binary binary.Minus o p) Int c (given Int c e) (whole_operands binary.Minus Int a b o p place next h.first h.second h.left h.right (λ x y q. tt))
typed_op binary.Times a b c o p place next n h d e =
    typed_as (value_of_binary binary.Times o p) Int c (given Int c e) (whole_operands binary.Times Int a b o p place next h.first h.second h.left h.right (λ x y q. tt))
typed_op binary.Div a b c o p place next n h d e =
    typed_as (value_of_binary binary.Div o p) Int c (given Int c e) (whole_operands binary.Div Int a b o p place next h.first h.second h.left h.right
    (λ x y q. divided_operands p y (int_div_euclid x y) (d (inl refl)) q))
typed_op binary.Mod a b c o p place next n h d e =
    typed_as (value_of_binary binary.Mod o p) Int c (given Int c e) (whole_operands binary.Mod Int a b o p place next h.first h.second h.left h.right
    (λ x y q. divided_operands p y (int_rem_euclid x y) (d (inr refl)) q))
