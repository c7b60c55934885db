-- What expressions and clauses break of the rules on numbers: products, divisors, and the limits of constants and rows.
use Rattle.std.specs.Prelude.{zero, pos, Bool, true, false, not, ◌&&◌, List, [], ◌∷◌, ◌++◌, Option, Some, None, if◌then◌else◌}
use Rattle.std.specs.List.{flat_map}
use Rattle.ag_base.specs.declared.place.Place.{Place}
use Rattle.ag_base.specs.declared.place.Refusal.{Refusal}
use Rattle.ag_base.specs.declared.place.Rule.TheVariants.{NotLinear, BadDivisor, Coefficient}
use Rattle.ag_terms.specs.declared.clauses.Clause.{Clause}
use Rattle.ag_terms.specs.declared.clauses.Clause.TheVariants as clause
use Rattle.ag_terms.specs.declared.clauses.Equal.{Equal}
use Rattle.ag_terms.specs.declared.clauses.Ty.TheVariants.{Int}
use Rattle.ag_terms.specs.declared.terms.Binary.{Binary}
use Rattle.ag_terms.specs.declared.terms.Binary.TheVariants as binary
use Rattle.ag_terms.specs.declared.terms.Term.{Term, Number, Truth, Named, Unary', Binary', Choice', Call', Row_of-Term, end_of-Term, more_of-Term}
use Rattle.ag_terms.specs.declared.terms.Unary.{Unary}
use Rattle.ag_terms.specs.declared.terms.Unary.TheVariants as unary
use Rattle.ag_symbols.specs.Seen.{Seen, Names, names_of_node, over_sites}
use Rattle.ag_linear.specs.declared.value.Value.{Value}
use Rattle.ag_linear.specs.declared.value.Value.TheVariants as value
use Rattle.ag_linear.specs.Values.{passes_limit}
use Rattle.ag_linear.specs.Rows.{Linear, passes_limits, compared}
use Rattle.ag_types.specs.Constants.{is_varying, exact_value, value_in}
use Rattle.ag_types.specs.Places.{first_place}
use Rattle.ag_types.specs.Rows.{exact_row, row_in}
use Rattle.ag_types.specs.Types.{type_in}

-- ---- constants

-- the rule of limits is broken at a place
abbrev pub coefficient : Bool → Place → List Refusal
coefficient passes place = if passes then record { place = place; rule = Coefficient } ∷ [] else []

abbrev pub passed_value : Option Value → Place → List Refusal
passed_value v place = coefficient (passes_limit v) place

-- a divisor that isn't constant, or is 0
abbrev pub is_bad_divisor : Bool → Option Value → Bool
is_bad_divisor true v = true
is_bad_divisor false (Some (value.Whole (pos zero))) = true
is_bad_divisor false v = false

abbrev pub divides : Binary → Bool
divides binary.Div = true
divides binary.Mod = true
divides _ = false

abbrev pub bad_divisor : Names → List (Option Value) → Binary → Term → List Refusal
bad_divisor names values op divisor =
    if divides op && is_bad_divisor (is_varying names divisor) (value_in names values divisor) then record { place = first_place divisor; rule = BadDivisor } ∷ [] else []

-- all that a constant expression breaks, also in a branch that isn't taken
abbrev mutual
  pub constant_faults_in : Names → List (Option Value) → Term → List Refusal
  constant_faults_in names values (Number z place) = passed_value (exact_value names values (Number z place)) place
  constant_faults_in names values (Truth b place) = []
  constant_faults_in names values (Named path) = []
  constant_faults_in names values (Unary' op place m (more_of-Term t end_of-Term)) =
      passed_value (exact_value names values (Unary' op place m (more_of-Term t end_of-Term))) place ++ constant_faults_in names values t
  constant_faults_in names values (Binary' op place m (more_of-Term left end_of-Term) n (more_of-Term right end_of-Term)) =
      passed_value (exact_value names values (Binary' op place m (more_of-Term left end_of-Term) n (more_of-Term right end_of-Term)))
      (first_place (Binary' op place m (more_of-Term left end_of-Term) n (more_of-Term right end_of-Term)))
      ++ (bad_divisor names values op right
      ++ (constant_faults_in names values left ++ constant_faults_in names values right))
  constant_faults_in names values (Choice' place l (more_of-Term test end_of-Term) m (more_of-Term chosen end_of-Term) n (more_of-Term other end_of-Term)) =
      passed_value (exact_value names values (Choice' place l (more_of-Term test end_of-Term) m (more_of-Term chosen end_of-Term) n (more_of-Term other end_of-Term))) place
      ++ (constant_faults_in names values test ++ (constant_faults_in names values chosen ++ constant_faults_in names values other))
  constant_faults_in names values (Call' path _ args) = constant_faults_in_all names values args

  pub constant_faults_in_all : {m : _} → Names → List (Option Value) → Row_of-Term m → List Refusal
  constant_faults_in_all names values end_of-Term = []
  constant_faults_in_all names values (more_of-Term t rest) = constant_faults_in names values t ++ constant_faults_in_all names values rest

-- ---- rows

abbrev pub passed_row : Option Linear → Place → List Refusal
passed_row r place = coefficient (passes_limits r) place

-- the row of an expression that isn't constant
abbrev pub own_row : Names → List (Option Value) → Term → List Refusal
own_row names values t = if is_varying names t then passed_row (exact_row names values t) (first_place t) else []

-- an expression that has an equation's row of its own, so that a constant too keeps a row's limits
abbrev pub equation_row : Names → List (Option Value) → Term → List Refusal
equation_row names values t = passed_row (row_in names values t) (first_place t)

abbrev pub compared_rows : Binary → Option Linear → Option Linear → Option Linear
compared_rows op (Some a) (Some b) = compared op a b
compared_rows op _ _ = None

-- ---- expressions in claims and equations

-- an integer that is constant stands for its value alone
abbrev pub is_number : Names → Term → Bool
is_number names t = not (is_varying names t) && (elim (type_in names t) [ Some Int ↦ true | _ ↦ false ])

-- a product of two factors that aren't constant
abbrev pub product : Names → Binary → Place → Term → Term → List Refusal
product names binary.Times place left right = if is_varying names left && is_varying names right then record { place = place; rule = NotLinear } ∷ [] else []
product names _ place left right = []

-- operands that have an equation of their own: of an arrow both, of a division the first
abbrev pub operand_rows : Names → List (Option Value) → Binary → Term → Term → List Refusal
operand_rows names values binary.Arrow left right = equation_row names values left ++ equation_row names values right
operand_rows names values binary.Div left right = equation_row names values left
operand_rows names values binary.Mod left right = equation_row names values left
operand_rows names values _ left right = []

abbrev pub pre_row : Names → List (Option Value) → Unary → Term → List Refusal
pre_row names values unary.Pre t = equation_row names values t
pre_row names values _ t = []

-- what an expression breaks, of whose parts this is broken
abbrev pub formula_by : Names → List (Option Value) → Term → List Refusal → List Refusal
formula_by names values t parts = if is_number names t then constant_faults_in names values t else own_row names values t ++ parts

-- what the parts of an expression break
abbrev mutual
  pub parts_faults : Names → List (Option Value) → Term → List Refusal
  parts_faults names values (Number z place) = []
  parts_faults names values (Truth b place) = []
  parts_faults names values (Named path) = []
  parts_faults names values (Unary' op place _ (more_of-Term t end_of-Term)) = pre_row names values op t ++ formula_by names values t (parts_faults names values t)
  parts_faults names values (Binary' op place m (more_of-Term left end_of-Term) n (more_of-Term right end_of-Term)) =
      product names op place left right
      ++ (bad_divisor names values op right
      ++ (passed_row (compared_rows op (row_in names values left) (row_in names values right)) (first_place left)
      ++ (operand_rows names values op left right
      ++ (formula_by names values left (parts_faults names values left) ++ formula_by names values right (parts_faults names values right)))))
  parts_faults names values (Choice' place _ (more_of-Term test end_of-Term) _ (more_of-Term chosen end_of-Term) _ (more_of-Term other end_of-Term)) =
      equation_row names values chosen
      ++ (equation_row names values other
      ++ (formula_by names values test (parts_faults names values test)
      ++ (formula_by names values chosen (parts_faults names values chosen) ++ formula_by names values other (parts_faults names values other))))
  parts_faults names values (Call' path _ args) = parts_faults_all names values args

  pub parts_faults_all : {m : _} → Names → List (Option Value) → Row_of-Term m → List Refusal
  parts_faults_all names values end_of-Term = []
  parts_faults_all names values (more_of-Term t rest) =
      equation_row names values t ++ (formula_by names values t (parts_faults names values t) ++ parts_faults_all names values rest)

-- what an expression itself breaks, and its parts
abbrev pub formula_faults : Names → List (Option Value) → Term → List Refusal
formula_faults names values t = formula_by names values t (parts_faults names values t)

-- the right side of an equation
abbrev pub side_faults : Names → List (Option Value) → Term → List Refusal
side_faults names values t = equation_row names values t ++ formula_faults names values t

-- ---- clauses

abbrev pub free_or_side : Names → List (Option Value) → Option Term → List Refusal
free_or_side names values None = []
free_or_side names values (Some t) = side_faults names values t

abbrev pub node_numbers : Names → List (Option Value) → Equal → List Refusal
node_numbers names values e = side_faults names values e.value

abbrev pub clause_numbers : List (Option Value) → Names → Clause → List Refusal
clause_numbers values names (clause.Assume l) = formula_faults names values l.claim
clause_numbers values names (clause.Guarantee l) = formula_faults names values l.claim
clause_numbers values names (clause.Lemma l) = formula_faults names values l.claim
clause_numbers values names (clause.Eq vars t) = free_or_side names values t
clause_numbers values names (clause.Assign e) = side_faults names values e.value
clause_numbers values names (clause.Const v t) = constant_faults_in names values t
clause_numbers values names (clause.Node n) = flat_map (node_numbers (names_of_node names n) values) n.equations

-- all that the clauses of a scope break of these rules, where its constants have these values
abbrev pub number_faults : Seen → List (Option Value) → List Refusal
number_faults s values = over_sites (clause_numbers values) s
