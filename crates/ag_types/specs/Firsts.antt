-- The first broken rule by parts: of two parts, of an operator with its operands, and of a call with its arguments as a list.
use Rattle.std.specs.Prelude.{ℕ, List, [], ◌∷◌, ◌++◌, Option, Some, None, length}
use Rattle.ag_base.specs.declared.place.Place.{Place}
use Rattle.ag_base.specs.declared.place.Refusal.{Refusal}
use Rattle.ag_terms.specs.declared.clauses.NodeDef.{NodeDef}
use Rattle.ag_terms.specs.declared.clauses.Ty.{Ty}
use Rattle.ag_terms.specs.declared.clauses.Ty.TheVariants.{Int, Bool as Boolean}
use Rattle.ag_terms.specs.declared.clauses.Var.{Var}
use Rattle.ag_terms.specs.declared.terms.Term.{Term}
use Rattle.ag_terms.specs.declared.terms.Unary.{Unary}
use Rattle.ag_terms.specs.declared.terms.Unary.TheVariants as unary
use Rattle.ag_symbols.specs.Seen.{Names}
use Rattle.ag_types.specs.Places.{first_place, first_refusal, first_broken}
use Rattle.ag_types.specs.Types.{type_in, faults_in, mismatch, arity, unknown}

-- of the first refusals of two parts the one that is answered
abbrev pub either : Option Refusal → Option Refusal → Option Refusal
either None other = other
either (Some r) None = Some r
either (Some r) (Some s) = Some (first_refusal r s)

-- the type of an operator with one operand, and the type that it needs of it, if it needs one
abbrev pub type_of_unary : Unary → Option Ty → Option Ty
type_of_unary unary.Minus arg = Some Int
type_of_unary unary.Not arg = Some Boolean
type_of_unary unary.Pre arg = arg

abbrev pub needed_alone : Unary → Option Ty
needed_alone unary.Minus = Some Int
needed_alone unary.Not = Some Boolean
needed_alone unary.Pre = None

-- the first rule that an argument breaks with the inputs that are left
abbrev pub first_mismatch : List Var → Option Ty → Place → Option Refusal
first_mismatch [] ty place = None
first_mismatch (v ∷ vs) ty place = first_broken (mismatch (Some v.ty) ty place)

-- arguments in a list: those whose types aren't the inputs' ones, and what is broken in them
abbrev pub mismatches_in : Names → List Var → List Term → List Refusal
mismatches_in names (v ∷ vs) (t ∷ ts) = mismatch (Some v.ty) (type_in names t) (first_place t) ++ mismatches_in names vs ts
mismatches_in names _ _ = []

abbrev pub faults_among : Names → List Term → List Refusal
faults_among names [] = []
faults_among names (t ∷ ts) = faults_in names t ++ faults_among names ts

-- the inputs of a node, if it is there
abbrev pub inputs_of : Option NodeDef → List Var
inputs_of None = []
inputs_of (Some n) = n.inputs

-- the first rule that a call at this place breaks, beside those within its arguments
abbrev pub first_of_call : Place → Option NodeDef → ℕ → Option Refusal → Option Refusal
first_of_call place None given mismatched = first_broken (unknown place)
first_of_call place (Some n) given mismatched =
    either (first_broken (arity (length n.inputs) given place))
    (either mismatched (first_broken (arity 1 (length n.outputs) place)))
