-- What rows are worth in a run, and what their sums and products are then worth.
use Rattle.std.proofs.Common.{◌≡◌, ℕ, zero, suc, ℤ, pos, ◌+ℤ◌, ◌*ℤ◌, ◌-ℤ◌, Bool, true, false, not, List, [], ◌∷◌, ◌++◌, map, refl, ap, subst, arith}
use Rattle.std.specs.Prelude.{negsuc, Option, Some, None, slice_get, if◌then◌else◌}
use Rattle.std.proofs.lemmas.Int.{ints}
use Rattle.ag_terms.specs.declared.clauses.Var.{Var}
use Rattle.ag_terms.specs.declared.terms.Term.{Term}
use Rattle.ag_linear.specs.declared.value.Factor.{Factor}
use Rattle.ag_linear.specs.declared.value.Value.{Value}
use Rattle.ag_linear.specs.declared.value.Value.TheVariants as value
use Rattle.ag_linear.specs.Rows.{Linear, constant_row, precedes, is_of_one, is_zero, joined, add_factor, plus_factors, plus, times_factor, times, minus, is_carried_row, carried_row}
use Rattle.ag_types.specs.Constants.{is_varying, value_in}
use Rattle.ag_types.specs.Meaning.{Reading, Run, stream_of, worth}
use Rattle.ag_types.specs.Rows.{row_of_value, both, scaled, row_of_product, exact_row, row_in}
use Rattle.ag_types.specs.SumRows.{IsWholeStream}
use Rattle.ag_types.proofs.WorthOfFactors.{weighed, weighed-plus_factors, weighed-times_factor, times_add, nothing}
use Rattle.ag_types.proofs.WorthOfValues.{Agrees, operand_agrees}

-- all these factors are of integer streams
abbrev pub AreWholeStreams : List Var → List Factor → Type 0
AreWholeStreams streams [] = Unit {0}
AreWholeStreams streams (f ∷ fs) = IsWholeStream streams f.stream × AreWholeStreams streams fs

-- a stream's value now or at the instant before, which is 0 at the first one
abbrev pub stream_worth : Reading → Run → Option Var → Bool → ℕ → ℤ
stream_worth r run None before at = pos 0
stream_worth r run (Some v) false at = run at (stream_of r v.name.text)
stream_worth r run (Some v) true zero = pos 0
stream_worth r run (Some v) true (suc earlier) = run earlier (stream_of r v.name.text)

-- what streams are worth at an instant
abbrev pub weight : Reading → Run → ℕ → ℕ → Bool → ℤ
weight r run at stream before = stream_worth r run (slice_get r.names.streams stream) before at

-- all streams of a row are declared integers, and it is worth this number
pub record IsWorth (r : Reading) (run : Run) (at : ℕ) (row : Linear) (z : ℤ) : Type 0 where
  pub declared : row.hidden ≡ []
  pub whole : AreWholeStreams r.names.streams row.factors
  pub number : (weighed (weight r run at) row.factors +ℤ row.constant) ≡ z

-- if there is a row, it is worth this number
abbrev pub AgreesRow : Reading → Run → ℕ → Option Linear → ℤ → Type 0
AgreesRow r run at None z = Unit {0}
AgreesRow r run at (Some row) z = IsWorth r run at row z

pub moved : (r : Reading) (run : Run) (at : ℕ) (o : Option Linear) (y z : ℤ) → y ≡ z → AgreesRow r run at o y → AgreesRow r run at o z
moved r run at o y z e h = subst (AgreesRow r run at o) e h

-- ---- the streams of sums and products

whole-joined : (streams : List Var) (f g : Factor) (gs : List Factor) (zero_sum : Bool) → IsWholeStream streams g.stream → AreWholeStreams streams gs →
    AreWholeStreams streams ((if zero_sum then [] else record { stream = g.stream; before = g.before; factor = f.factor +ℤ g.factor } ∷ []) ++ gs)
whole-joined streams f g gs true h rest = rest
whole-joined streams f g gs false h rest = (h, rest)

whole-add_factor : (streams : List Var) (f : Factor) (gs : List Factor) → IsWholeStream streams f.stream → AreWholeStreams streams gs →
    AreWholeStreams streams (add_factor f gs)
whole-add_factor streams f [] h rest = (h, tt)
whole-add_factor streams f (g ∷ gs) h rest = by (whole-add_factor streams f gs h rest.1) (is_of_one f g) (precedes f g)
  where
    by : AreWholeStreams streams (add_factor f gs) → (one first : Bool) →
        AreWholeStreams streams (if one then joined f g ++ gs else (if first then f ∷ g ∷ gs else g ∷ add_factor f gs))
    by later true first = whole-joined streams f g gs (is_zero (f.factor +ℤ g.factor)) rest.0 rest.1
    by later false true = (h, rest)
    by later false false = (rest.0, later)

whole-plus_factors : (streams : List Var) (fs gs : List Factor) → AreWholeStreams streams fs → AreWholeStreams streams gs → AreWholeStreams streams (plus_factors fs gs)
whole-plus_factors streams [] gs h i = i
whole-plus_factors streams (f ∷ fs) gs h i = whole-add_factor streams f (plus_factors fs gs) h.0 (whole-plus_factors streams fs gs h.1 i)

whole-times_factor : (streams : List Var) (c : ℤ) (fs : List Factor) → AreWholeStreams streams fs → AreWholeStreams streams (map (times_factor c) fs)
whole-times_factor streams c [] h = tt
whole-times_factor streams c (f ∷ fs) h = (h.0, whole-times_factor streams c fs h.1)

-- ---- what sums and products are worth

worth_of_plus : (r : Reading) (run : Run) (at : ℕ) (row other : Linear) (a b : ℤ) → IsWorth r run at row a → IsWorth r run at other b →
    IsWorth r run at (plus row other) (a +ℤ b)
worth_of_plus r run at row other a b h i = record {
  declared = rw (h.declared, i.declared) refl;
  whole = whole-plus_factors r.names.streams row.factors other.factors h.whole i.whole;
  number =
      let sum = weighed-plus_factors (weight r run at) row.factors other.factors in
      let left = h.number in
      let right = i.number in
      omega (arith, ints);
}

worth_of_constant : (r : Reading) (run : Run) (at : ℕ) (z : ℤ) → IsWorth r run at (constant_row z) z
worth_of_constant r run at z = record { declared = refl; whole = tt; number = omega (arith, ints) }

worth_of_times : (r : Reading) (run : Run) (at : ℕ) (c : ℤ) (row : Linear) (z : ℤ) → IsWorth r run at row z → IsWorth r run at (times c row) (c *ℤ z)
worth_of_times r run at c row z h = by (is_zero c) refl
  where
    by : (b : Bool) → is_zero c ≡ b →
        IsWorth r run at (if b then constant_row (pos 0) else record { constant = c *ℤ row.constant; factors = map (times_factor c) row.factors; hidden = map (λ x. c *ℤ x) row.hidden }) (c *ℤ z)
    by true e =
        let none : c ≡ pos 0 = nothing c e in
        let product = ap (λ (n : ℤ). n *ℤ z) none in
        subst (IsWorth r run at (constant_row (pos 0))) (omega (arith, ints)) (worth_of_constant r run at (pos 0))
    by false e = record {
      declared = rw h.declared refl;
      whole = whole-times_factor r.names.streams c row.factors h.whole;
      number =
          let factors = weighed-times_factor (weight r run at) c row.factors in
          let sum = times_add c (weighed (weight r run at) row.factors) row.constant in
          let all = ap (λ (n : ℤ). c *ℤ n) h.number in
          omega (arith, ints);
    }

pub agrees-plus : (r : Reading) (run : Run) (at : ℕ) (o p : Option Linear) (a b : ℤ) → AgreesRow r run at o a → AgreesRow r run at p b →
    AgreesRow r run at (both plus o p) (a +ℤ b)
agrees-plus r run at None p a b h i = tt
agrees-plus r run at (Some row) None a b h i = tt
agrees-plus r run at (Some row) (Some other) a b h i = worth_of_plus r run at row other a b h i

pub agrees-minus : (r : Reading) (run : Run) (at : ℕ) (o p : Option Linear) (a b : ℤ) → AgreesRow r run at o a → AgreesRow r run at p b →
    AgreesRow r run at (both minus o p) (a -ℤ b)
agrees-minus r run at None p a b h i = tt
agrees-minus r run at (Some row) None a b h i = tt
agrees-minus r run at (Some row) (Some other) a b h i =
    moved r run at (Some (minus row other)) (a +ℤ (negsuc 0 *ℤ b)) (a -ℤ b) (omega (arith, ints))
    (worth_of_plus r run at row (times (negsuc 0) other) a (negsuc 0 *ℤ b) h (worth_of_times r run at (negsuc 0) other b i))

pub agrees-scaled : (r : Reading) (run : Run) (at : ℕ) (o : Option Value) (p : Option Linear) (c z : ℤ) → Agrees o c → AgreesRow r run at p z →
    AgreesRow r run at (scaled o p) (c *ℤ z)
agrees-scaled r run at None p c z h i = tt
agrees-scaled r run at (Some (value.Truth b)) p c z h i = tt
agrees-scaled r run at (Some (value.Whole a)) None c z h i = tt
agrees-scaled r run at (Some (value.Whole a)) (Some row) c z h i =
    moved r run at (Some (times a row)) (a *ℤ z) (c *ℤ z) (ap (λ (n : ℤ). n *ℤ z) h) (worth_of_times r run at a row z i)

pub agrees-product : (r : Reading) (run : Run) (at : ℕ) (left right : Term) (o p : Option Linear) (a b : ℤ) →
    Agrees (value_in r.names r.values left) a → Agrees (value_in r.names r.values right) b → AgreesRow r run at o a → AgreesRow r run at p b →
    AgreesRow r run at (row_of_product r.names r.values left right o p) (a *ℤ b)
agrees-product r run at left right o p a b va vb ra rb = by (is_varying r.names left) (is_varying r.names right)
  where
    of_left : Option Value
    of_left = value_in r.names r.values left

    of_right : Option Value
    of_right = value_in r.names r.values right

    by : (c d : Bool) → AgreesRow r run at (if not c then scaled of_left p else (if not d then scaled of_right o else None)) (a *ℤ b)
    by false d = agrees-scaled r run at of_left p a b va rb
    by true false = moved r run at (scaled of_right o) (b *ℤ a) (a *ℤ b) (omega (arith, ints)) (agrees-scaled r run at of_right o b a vb ra)
    by true true = tt

-- ---- operands

agrees-carried : (r : Reading) (run : Run) (at : ℕ) (o : Option Linear) (z : ℤ) → AgreesRow r run at o z → AgreesRow r run at (carried_row o) z
agrees-carried r run at None z h = tt
agrees-carried r run at (Some row) z h = by (is_carried_row row)
  where
    by : (b : Bool) → AgreesRow r run at (if b then Some row else None) z
    by true = h
    by false = tt

agrees-value : (r : Reading) (run : Run) (at : ℕ) (o : Option Value) (z : ℤ) → Agrees o z → AgreesRow r run at (row_of_value o) z
agrees-value r run at None z h = tt
agrees-value r run at (Some (value.Whole a)) z h = moved r run at (Some (constant_row a)) a z h (worth_of_constant r run at a)
agrees-value r run at (Some (value.Truth b)) z h = tt

-- a varying operand is worth its exact row, and a constant one its value
pub agrees-operand : (r : Reading) (run : Run) (t : Term) (at : ℕ) →
    (is_varying r.names t ≡ true → AgreesRow r run at (exact_row r.names r.values t) (worth r run t at)) →
    AgreesRow r run at (row_in r.names r.values t) (worth r run t at)
agrees-operand r run t at exact = by (is_varying r.names t) refl
  where
    by : (b : Bool) → is_varying r.names t ≡ b →
        AgreesRow r run at (if b then carried_row (exact_row r.names r.values t) else row_of_value (value_in r.names r.values t)) (worth r run t at)
    by true e = agrees-carried r run at (exact_row r.names r.values t) (worth r run t at) (exact e)
    by false e = agrees-value r run at (value_in r.names r.values t) (worth r run t at) (operand_agrees r run t at)
