-- What the type of rows keeps of its rows, and how two lists of factors in order are gone over as one.
use Rattle.std.specs.Prelude.{◌≡◌, ℕ, ℤ, negsuc, Bool, ◌+◌, ◌<◌, ◌+ℤ◌, ◌-ℤ◌, List, [], ◌∷◌, ◌++◌, map, length, if◌then◌else◌, IsTrue, IsFalse, Option, Some, None}
use Rattle.std.specs.List.{list_all}
use Rattle.ag_linear.specs.Values.{is_carried}
use Rattle.ag_linear.specs.declared.value.Factor.{Factor}
use Rattle.ag_linear.specs.Rows.{Linear, is_factor, is_zero, plus_factors, precedes, times_factor}

-- the places of factors rise, and none is 0
abbrev pub AreInOrder : List Factor → Type 0
AreInOrder [] = Unit {0}
AreInOrder (f ∷ fs) = IsTrue (list_all (precedes f) fs) × IsFalse (is_zero f.factor) × AreInOrder fs

-- each has 128 bits
abbrev pub are_carried : List Factor → Bool
are_carried fs = list_all (λ f. is_carried f.factor) fs

-- factors are in order, and have 128 bits
pub record IsHeld (r : Linear) : Type 0 where
  pub in_order : AreInOrder r.factors
  pub factors : IsTrue (are_carried r.factors)
  pub hidden : IsTrue (list_all is_carried r.hidden)

-- the factors of two rows beside a constant
abbrev pub joined_row : ℤ → Linear → Linear → Linear
joined_row z r s = record { constant = z; factors = plus_factors r.factors s.factors; hidden = r.hidden ++ s.hidden }

-- the factor at a place, which falls away where it is 0
abbrev pub factor_at : ℕ → Bool → ℤ → List Factor
factor_at stream before z = if is_zero z then [] else record { stream = stream; before = before; factor = z } ∷ []

-- a sum's, and a difference's, first factor has parts in two lists, of which these are left
pub record AreParts (left right : List Factor) (stream : ℕ) (before : Bool) (a b : ℤ) (more others : List Factor) : Type 0 where
  pub sum : plus_factors left right ≡ factor_at stream before (a +ℤ b) ++ plus_factors more others
  pub difference : plus_factors left (map (times_factor (negsuc 0)) right) ≡ factor_at stream before (a -ℤ b) ++ plus_factors more (map (times_factor (negsuc 0)) others)
  pub shorter : length more + length others < length left + length right

-- both are in order
pub record AreRows (left right : List Factor) : Type 0 where
  pub left_order : AreInOrder left
  pub right_order : AreInOrder right

-- how many factors there are, if each keeps the limit
abbrev pub count_of : List Factor → Option ℕ
count_of fs = if list_all (λ f. is_factor f.factor) fs then Some (length fs) else None
