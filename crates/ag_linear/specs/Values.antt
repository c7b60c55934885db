-- Values of constants, what operators make of them, and their limit.
use Rattle.std.specs.Prelude.{ℤ, Bool, false, not, ◌==◌, ◌&&◌, ◌||◌, neg_ℤ, ◌+ℤ◌, ◌*ℤ◌, ◌-ℤ◌, nat_lt, unsigned_abs, Option, Some, None, if◌then◌else◌}
use Rattle.std.specs.Int.{int_div_euclid, int_rem_euclid}
use Rattle.std.specs.Int.Signed.{le_z}
use Rattle.ag_terms.specs.declared.terms.Binary.{Binary}
use Rattle.ag_terms.specs.declared.terms.Binary.TheVariants as binary
use Rattle.ag_terms.specs.declared.terms.Unary.{Unary}
use Rattle.ag_terms.specs.declared.terms.Unary.TheVariants as unary
use Rattle.ag_linear.specs.declared.value.Value.{Value}
use Rattle.ag_linear.specs.declared.value.Value.TheVariants as value

-- a number that has 128 bits, and its opposite too
abbrev pub is_carried : ℤ → Bool
is_carried z = nat_lt (unsigned_abs z) 170141183460469231731687303715884105728

-- a value that an operand passes on
abbrev pub carried : Option Value → Option Value
carried (Some (value.Whole z)) = if is_carried z then Some (value.Whole z) else None
carried v = v

-- a constant's magnitude is at most 2^62
abbrev pub is_within : ℤ → Bool
is_within z = not (nat_lt 4611686018427387904 (unsigned_abs z))

-- a value passes the limit of constants
abbrev pub passes_limit : Option Value → Bool
passes_limit (Some (value.Whole z)) = not (is_within z)
passes_limit _ = false

-- ---- operators: there is no value where an operand has none, or one of the wrong kind

abbrev pub value_of_unary : Unary → Option Value → Option Value
value_of_unary unary.Minus (Some (value.Whole z)) = Some (value.Whole (neg_ℤ z))
value_of_unary unary.Not (Some (value.Truth b)) = Some (value.Truth (not b))
value_of_unary _ _ = None

-- by a number that isn't 0
abbrev pub divided : (ℤ → ℤ → ℤ) → ℤ → ℤ → Option Value
divided f a b = if unsigned_abs b == 0 then None else Some (value.Whole (f a b))

-- a quotient's remainder is 0 or more
abbrev pub value_of_wholes : Binary → ℤ → ℤ → Option Value
value_of_wholes binary.Plus a b = Some (value.Whole (a +ℤ b))
value_of_wholes binary.Minus a b = Some (value.Whole (a -ℤ b))
value_of_wholes binary.Times a b = Some (value.Whole (a *ℤ b))
value_of_wholes binary.Div a b = divided int_div_euclid a b
value_of_wholes binary.Mod a b = divided int_rem_euclid a b
value_of_wholes binary.Less a b = Some (value.Truth (not (le_z b a)))
value_of_wholes binary.AtMost a b = Some (value.Truth (le_z a b))
value_of_wholes binary.More a b = Some (value.Truth (not (le_z a b)))
value_of_wholes binary.AtLeast a b = Some (value.Truth (le_z b a))
value_of_wholes binary.Same a b = Some (value.Truth (le_z a b && le_z b a))
value_of_wholes binary.Differs a b = Some (value.Truth (not (le_z a b && le_z b a)))
value_of_wholes _ a b = None

abbrev pub same_truth : Bool → Bool → Bool
same_truth a b = if a then b else not b

abbrev pub value_of_truths : Binary → Bool → Bool → Option Value
value_of_truths binary.Implies a b = Some (value.Truth (not a || b))
value_of_truths binary.Iff a b = Some (value.Truth (same_truth a b))
value_of_truths binary.Or a b = Some (value.Truth (a || b))
value_of_truths binary.And a b = Some (value.Truth (a && b))
value_of_truths binary.Same a b = Some (value.Truth (same_truth a b))
value_of_truths binary.Differs a b = Some (value.Truth (not (same_truth a b)))
value_of_truths _ a b = None

abbrev pub value_of_binary : Binary → Option Value → Option Value → Option Value
value_of_binary op (Some (value.Whole a)) (Some (value.Whole b)) = value_of_wholes op a b
value_of_binary op (Some (value.Truth a)) (Some (value.Truth b)) = value_of_truths op a b
value_of_binary op _ _ = None

-- the value of the branch that is taken, whatever the other one is
abbrev pub value_of_choice : Option Value → Option Value → Option Value → Option Value
value_of_choice (Some (value.Truth test)) chosen other = if test then chosen else other
value_of_choice _ _ _ = None
