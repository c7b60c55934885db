-- The first broken rule of what several names are set for, by parts.
use Rattle.std.specs.Prelude.{ℕ, Bool, true, false, List, [], ◌∷◌, Option, Some, None, length}
use Rattle.ag_base.specs.declared.place.Place.{Place}
use Rattle.ag_base.specs.declared.place.Refusal.{Refusal}
use Rattle.ag_terms.specs.declared.clauses.NodeDef.{NodeDef}
use Rattle.ag_terms.specs.declared.clauses.Var.{Var}
use Rattle.ag_terms.specs.declared.terms.Binary.{Binary}
use Rattle.ag_terms.specs.declared.terms.Binary.TheVariants.{Arrow, Implies, Iff, Or, And, Less, AtMost, More, AtLeast, Same, Differs, Plus, Minus, Times, Div, Mod}
use Rattle.ag_types.specs.ClauseFaults.{several_outputs}
use Rattle.ag_types.specs.Firsts.{either}
use Rattle.ag_types.specs.Places.{first_broken}
use Rattle.ag_types.specs.Types.{mismatch, arity, unknown}

-- the first output has another type than the name before it
abbrev pub first_output : Var → List Var → Place → Option Refusal
first_output v [] place = None
first_output v (o ∷ os) place = first_broken (mismatch (Some v.ty) (Some o.ty) place)

-- the first rule that a call for several names breaks, beside those within its arguments
abbrev pub first_of_several : List Var → Place → Option NodeDef → ℕ → Option Refusal → Option Refusal
first_of_several vars place None given mismatched = first_broken (unknown place)
first_of_several vars place (Some n) given mismatched =
    either (first_broken (arity (length n.inputs) given place))
    (either mismatched (first_broken (several_outputs vars n place)))

-- the operator is the arrow
abbrev pub is_arrow : Binary → Bool
is_arrow Arrow = true
is_arrow Implies = false
is_arrow Iff = false
is_arrow Or = false
is_arrow And = false
is_arrow Less = false
is_arrow AtMost = false
is_arrow More = false
is_arrow AtLeast = false
is_arrow Same = false
is_arrow Differs = false
is_arrow Plus = false
is_arrow Minus = false
is_arrow Times = false
is_arrow Div = false
is_arrow Mod = false
