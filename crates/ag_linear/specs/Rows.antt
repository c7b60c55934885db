-- Rows: sums of streams times factors, and a constant.
use Rattle.std.specs.Prelude.{ℕ, ℤ, pos, negsuc, Bool, false, not, ◌==◌, ◌&&◌, ◌||◌, ◌+◌, ◌+ℤ◌, ◌*ℤ◌, nat_lt, unsigned_abs, List, [], ◌∷◌, ◌++◌, map, length, Option, Some, None, if◌then◌else◌}
use Rattle.std.specs.List.{list_all}
use Rattle.ag_terms.specs.declared.terms.Binary.{Binary}
use Rattle.ag_terms.specs.declared.terms.Binary.TheVariants as binary
use Rattle.ag_linear.specs.declared.value.Factor.{Factor}
use Rattle.ag_linear.specs.Values.{is_carried}

-- a constant, factors of streams, and those of hidden streams: an expression that is no sum stands in a row as such a stream of its own
pub record Linear : Type 0 where
  pub constant : ℤ
  pub factors : List Factor
  pub hidden : List ℤ

abbrev pub constant_row : ℤ → Linear
constant_row z = record { constant = z; factors = []; hidden = [] }

abbrev pub hidden_row : Linear
hidden_row = record { constant = pos 0; factors = []; hidden = pos 1 ∷ [] }

abbrev pub stream_row : ℕ → Bool → Linear
stream_row stream before = record { constant = pos 0; factors = record { stream = stream; before = before; factor = pos 1 } ∷ []; hidden = [] }

-- ---- sums

-- by stream, and of one stream the value of now before the earlier one
abbrev pub precedes : Factor → Factor → Bool
precedes f g = nat_lt f.stream g.stream || (f.stream == g.stream && (not f.before && g.before))

abbrev pub is_of_one : Factor → Factor → Bool
is_of_one f g = f.stream == g.stream && (if f.before then g.before else not g.before)

abbrev pub is_zero : ℤ → Bool
is_zero z = unsigned_abs z == 0

-- factors of one stream add up, and one of 0 falls away
abbrev pub joined : Factor → Factor → List Factor
joined f g = if is_zero (f.factor +ℤ g.factor) then [] else record { stream = g.stream; before = g.before; factor = f.factor +ℤ g.factor } ∷ []

-- a factor at its place among others that are in order
abbrev pub add_factor : Factor → List Factor → List Factor
add_factor f [] = f ∷ []
add_factor f (g ∷ gs) = if is_of_one f g then joined f g ++ gs else (if precedes f g then f ∷ g ∷ gs else g ∷ add_factor f gs)

abbrev pub plus_factors : List Factor → List Factor → List Factor
plus_factors [] gs = gs
plus_factors (f ∷ fs) gs = add_factor f (plus_factors fs gs)

abbrev pub plus : Linear → Linear → Linear
plus r s = record { constant = r.constant +ℤ s.constant; factors = plus_factors r.factors s.factors; hidden = r.hidden ++ s.hidden }

abbrev pub times_factor : ℤ → Factor → Factor
times_factor c f = record { stream = f.stream; before = f.before; factor = c *ℤ f.factor }

-- by 0 nothing is left
abbrev pub times : ℤ → Linear → Linear
times c r = if is_zero c then constant_row (pos 0) else record { constant = c *ℤ r.constant; factors = map (times_factor c) r.factors; hidden = map (λ h. c *ℤ h) r.hidden }

abbrev pub minus : Linear → Linear → Linear
minus r s = plus r (times (negsuc 0) s)

-- ---- limits: 2^48 for the constant, 2^31 for a factor, 1,024 terms

abbrev pub is_factor : ℤ → Bool
is_factor z = not (nat_lt 2147483648 (unsigned_abs z))

abbrev pub keeps_row : Linear → Bool
keeps_row r =
    not (nat_lt 281474976710656 (unsigned_abs r.constant))
    && (list_all (λ f. is_factor f.factor) r.factors
    && (list_all is_factor r.hidden
    && not (nat_lt 1024 (length r.factors + length r.hidden))))

-- a row that an operand passes on: its numbers have 128 bits
abbrev pub is_carried_row : Linear → Bool
is_carried_row r = is_carried r.constant && (list_all (λ f. is_carried f.factor) r.factors && list_all is_carried r.hidden)

abbrev pub carried_row : Option Linear → Option Linear
carried_row None = None
carried_row (Some r) = if is_carried_row r then Some r else None

-- a row passes its limits
abbrev pub passes_limits : Option Linear → Bool
passes_limits None = false
passes_limits (Some r) = not (keeps_row r)

-- ---- comparisons

-- a comparison says that a row is at most 0; of `=` and `<>` both ways
abbrev pub compared : Binary → Linear → Linear → Option Linear
compared binary.Less a b = Some (plus (minus a b) (constant_row (pos 1)))
compared binary.AtMost a b = Some (minus a b)
compared binary.More a b = Some (plus (minus b a) (constant_row (pos 1)))
compared binary.AtLeast a b = Some (minus b a)
compared binary.Same a b = Some (minus a b)
compared binary.Differs a b = Some (minus a b)
compared _ a b = None
