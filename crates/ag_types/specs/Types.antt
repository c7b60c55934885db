-- The types of expressions, and the rules on types that they break.
use Rattle.std.specs.Prelude.{◌≡◌, ℕ, suc, Bool, true, false, ◌==◌, List, [], ◌∷◌, ◌++◌, Option, Some, None, length, if◌then◌else◌}
use Rattle.ag_base.specs.declared.place.Place.{Place}
use Rattle.ag_base.specs.declared.place.Refusal.{Refusal}
use Rattle.ag_base.specs.declared.place.Rule.TheVariants.{Unknown, Mismatch, Arity}
use Rattle.ag_terms.specs.declared.names.Path.{Path}
use Rattle.ag_terms.specs.declared.clauses.NodeDef.{NodeDef}
use Rattle.ag_terms.specs.declared.clauses.Ty.{Ty}
use Rattle.ag_terms.specs.declared.clauses.Ty.TheVariants.{Int, Bool as Boolean}
use Rattle.ag_terms.specs.declared.clauses.Var.{Var}
use Rattle.ag_terms.specs.declared.terms.Binary.{Binary}
use Rattle.ag_terms.specs.declared.terms.Binary.TheVariants.{Arrow, Implies, Iff, Or, And, Less, AtMost, More, AtLeast, Same, Differs, Plus, Minus, Times, Div, Mod}
use Rattle.ag_terms.specs.declared.terms.Term.{Term, Number, Truth, Named, Unary', Binary', Choice', Call', Row_of-Term, end_of-Term, more_of-Term}
use Rattle.ag_terms.specs.declared.terms.Unary.TheVariants as unary
use Rattle.ag_symbols.specs.Seen.{Names, value_of, node_of}
use Rattle.ag_types.specs.Places.{path_place, first_place, first_broken}

-- ---- the type that an expression has; a name that isn't there and a call of several outputs have none

abbrev pub type_of_var : Option Var → Option Ty
type_of_var None = None
type_of_var (Some v) = Some v.ty

-- the type of a call: that of the one output
abbrev pub type_of_outputs : List Var → Option Ty
type_of_outputs (v ∷ []) = Some v.ty
type_of_outputs _ = None

abbrev pub type_of_call : Option NodeDef → Option Ty
type_of_call None = None
type_of_call (Some n) = type_of_outputs n.outputs

-- an operator fixes its type, but for the arrow, which has that of its first operand
abbrev pub type_of_binary : Binary → Option Ty → Option Ty
type_of_binary Arrow first = first
type_of_binary Plus first = Some Int
type_of_binary Minus first = Some Int
type_of_binary Times first = Some Int
type_of_binary Div first = Some Int
type_of_binary Mod first = Some Int
type_of_binary Implies first = Some Boolean
type_of_binary Iff first = Some Boolean
type_of_binary Or first = Some Boolean
type_of_binary And first = Some Boolean
type_of_binary Less first = Some Boolean
type_of_binary AtMost first = Some Boolean
type_of_binary More first = Some Boolean
type_of_binary AtLeast first = Some Boolean
type_of_binary Same first = Some Boolean
type_of_binary Differs first = Some Boolean

abbrev pub type_in : Names → Term → Option Ty
type_in names (Number value place) = Some Int
type_in names (Truth value place) = Some Boolean
type_in names (Named path) = type_of_var (value_of names path)
type_in names (Unary' unary.Minus place _ arg) = Some Int
type_in names (Unary' unary.Not place _ arg) = Some Boolean
type_in names (Unary' unary.Pre place _ (more_of-Term t end_of-Term)) = type_in names t
type_in names (Binary' op place _ (more_of-Term left end_of-Term) _ right) = type_of_binary op (type_in names left)
type_in names (Choice' place _ test _ (more_of-Term chosen end_of-Term) _ other) = type_in names chosen
type_in names (Call' path _ args) = type_of_call (node_of names path)

-- ---- what is broken

abbrev pub same_type : Ty → Ty → Bool
same_type Int Int = true
same_type Int Boolean = false
same_type Boolean Int = false
same_type Boolean Boolean = true

-- an operand has another type than is needed; where one of the two isn't known nothing is broken
abbrev pub mismatch : Option Ty → Option Ty → Place → List Refusal
mismatch (Some needed) (Some found) place = if same_type needed found then [] else record { place = place; rule = Mismatch } ∷ []
mismatch _ _ place = []

-- the type that an operator needs of its first operand, if it needs one
abbrev pub needed_first : Binary → Option Ty
needed_first Arrow = None
needed_first Same = None
needed_first Differs = None
needed_first Implies = Some Boolean
needed_first Iff = Some Boolean
needed_first Or = Some Boolean
needed_first And = Some Boolean
needed_first Less = Some Int
needed_first AtMost = Some Int
needed_first More = Some Int
needed_first AtLeast = Some Int
needed_first Plus = Some Int
needed_first Minus = Some Int
needed_first Times = Some Int
needed_first Div = Some Int
needed_first Mod = Some Int

-- and of its second one: where it needs none of the first, that of the first
abbrev pub needed_second : Binary → Option Ty → Option Ty
needed_second Arrow first = first
needed_second Same first = first
needed_second Differs first = first
needed_second Implies first = Some Boolean
needed_second Iff first = Some Boolean
needed_second Or first = Some Boolean
needed_second And first = Some Boolean
needed_second Less first = Some Int
needed_second AtMost first = Some Int
needed_second More first = Some Int
needed_second AtLeast first = Some Int
needed_second Plus first = Some Int
needed_second Minus first = Some Int
needed_second Times first = Some Int
needed_second Div first = Some Int
needed_second Mod first = Some Int

-- the number of arguments, or of outputs, isn't the one that is needed
abbrev pub arity : ℕ → ℕ → Place → List Refusal
arity needed found place = if needed == found then [] else record { place = place; rule = Arity } ∷ []

abbrev pub unknown : Place → List Refusal
unknown place = record { place = place; rule = Unknown } ∷ []

-- arguments have the types of the inputs, one by one
abbrev pub argument_mismatches : {m : _} → Names → List Var → Row_of-Term m → List Refusal
argument_mismatches names (v ∷ vs) (more_of-Term t rest) = mismatch (Some v.ty) (type_in names t) (first_place t) ++ argument_mismatches names vs rest
argument_mismatches names _ _ = []

abbrev pub arguments_in : {m : _} → Row_of-Term m → ℕ
arguments_in end_of-Term = 0
arguments_in (more_of-Term t rest) = suc (arguments_in rest)

-- a call of a node that is there: as many arguments as inputs, of their types, and one output
abbrev pub call_faults : {m : _} → Names → Path → Option NodeDef → Row_of-Term m → List Refusal
call_faults names path None args = unknown (path_place path)
call_faults names path (Some n) args =
    arity (length n.inputs) (arguments_in args) (path_place path)
    ++ (argument_mismatches names n.inputs args
    ++ arity 1 (length n.outputs) (path_place path))

abbrev pub value_faults : Option Var → Path → List Refusal
value_faults None path = unknown (path_place path)
value_faults (Some v) path = []

-- all rules on types that an expression breaks
abbrev mutual
  pub faults_in : Names → Term → List Refusal
  faults_in names (Number value place) = []
  faults_in names (Truth value place) = []
  faults_in names (Named path) = value_faults (value_of names path) path
  faults_in names (Unary' unary.Minus place _ (more_of-Term t end_of-Term)) = faults_in names t ++ mismatch (Some Int) (type_in names t) (first_place t)
  faults_in names (Unary' unary.Not place _ (more_of-Term t end_of-Term)) = faults_in names t ++ mismatch (Some Boolean) (type_in names t) (first_place t)
  faults_in names (Unary' unary.Pre place _ (more_of-Term t end_of-Term)) = faults_in names t
  faults_in names (Binary' op place _ (more_of-Term left end_of-Term) _ (more_of-Term right end_of-Term)) =
      faults_in names left ++ (faults_in names right
      ++ (mismatch (needed_first op) (type_in names left) (first_place left)
      ++ mismatch (needed_second op (type_in names left)) (type_in names right) (first_place right)))
  faults_in names (Choice' place _ (more_of-Term test end_of-Term) _ (more_of-Term chosen end_of-Term) _ (more_of-Term other end_of-Term)) =
      faults_in names test ++ (faults_in names chosen ++ (faults_in names other
      ++ (mismatch (Some Boolean) (type_in names test) (first_place test)
      ++ mismatch (type_in names chosen) (type_in names other) (first_place other))))
  faults_in names (Call' path _ args) = call_faults names path (node_of names path) args ++ faults_in_all names args

  pub faults_in_all : {m : _} → Names → Row_of-Term m → List Refusal
  faults_in_all names end_of-Term = []
  faults_in_all names (more_of-Term t rest) = faults_in names t ++ faults_in_all names rest

-- the answer to the question for an expression's type: it, where no rule is broken, else the first broken one
pub record IsTyped (names : Names) (t : Term) (ty : Ty) : Type 0 where
  pub sound : faults_in names t ≡ []
  pub found : type_in names t ≡ Some ty

abbrev pub IsIllTyped : Names → Term → Refusal → Type 0
IsIllTyped names t r = first_broken (faults_in names t) ≡ Some r
