-- What an expression is worth in a run of named streams, with truths as 1 and 0 (AGREE Users Guide, "Expressions").
use Rattle.std.specs.Prelude.{ℕ, zero, suc, ◌==◌, ℤ, pos, Bool, not, ◌&&◌, ◌||◌, neg_ℤ, ◌+ℤ◌, ◌*ℤ◌, ◌-ℤ◌, List, [], ◌∷◌, ◌++◌, Option, Some, None, if◌then◌else◌}
use Rattle.std.specs.Int.{int_div_euclid, int_rem_euclid}
use Rattle.std.specs.Int.Signed.{le_z}
use Rattle.ag_base.specs.declared.place.Place.{Place}
use Rattle.ag_terms.specs.declared.clauses.NodeDef.{NodeDef}
use Rattle.ag_terms.specs.declared.clauses.Var.{Var}
use Rattle.ag_terms.specs.declared.terms.Binary.{Binary}
use Rattle.ag_terms.specs.declared.terms.Binary.TheVariants as binary
use Rattle.ag_terms.specs.declared.terms.Term.{Term, Number, Truth, Named, Unary', Binary', Choice', Call', end_of-Term, more_of-Term}
use Rattle.ag_terms.specs.declared.terms.Unary.TheVariants as unary
use Rattle.ag_symbols.specs.Indexed.{folded}
use Rattle.ag_symbols.specs.Seen.{Names, sought, node_of, is_stream, constant_position}
use Rattle.ag_linear.specs.declared.value.Value.{Value}
use Rattle.ag_linear.specs.declared.value.Value.TheVariants as value
use Rattle.ag_types.specs.Constants.{value_at}
use Rattle.ag_types.specs.Places.{path_place}

-- the name of a stream: of which component, by the names of subcomponents from the outermost on; in the copy of which call, by the places of calls
-- from the outermost on; and its own name. Names are in small letters
pub record Stream : Type 0 where
  pub component : List (List ℕ)
  pub calls : List Place
  pub name : List ℕ

-- at each instant, from 0 on, each stream has a whole number; a truth is 1, and 0 where it isn't true
abbrev pub Run : Type 0
Run = ℕ → Stream → ℤ

-- where an expression stands: in a clause of which component, in the copy of which call, with what names, and with what values of constants
pub record Reading : Type 0 where
  pub component : List (List ℕ)
  pub calls : List Place
  pub names : Names
  pub values : List (Option Value)

-- what stands before the first dot and behind it, if there is one
abbrev pub parted : List ℕ → Option (List ℕ × List ℕ)
parted [] = None
parted (b ∷ bs) = if b == 46 then Some ([], bs) else (elim (parted bs) [ None ↦ None | Some halves ↦ Some (b ∷ halves.0, halves.1) ])

-- a name with a dot is that of a subcomponent's stream
abbrev pub stream_named : List (List ℕ) → List Place → List ℕ → Stream
stream_named component calls name = elim (parted name) [
  | None ↦ record { component = component; calls = calls; name = name }
  | Some halves ↦ record { component = component ++ halves.0 ∷ []; calls = calls; name = halves.1 }
]

-- the stream that a name means where it is read
abbrev pub stream_of : Reading → List ℕ → Stream
stream_of r name = stream_named r.component r.calls (folded name)

-- the stream of a node's variable in the copy for the call at a place
abbrev pub copied : Reading → Place → List ℕ → Stream
copied r place name = record { component = r.component; calls = r.calls ++ place ∷ []; name = folded name }

-- a call stands for the node's one output
abbrev pub output_name : List Var → List ℕ
output_name (v ∷ []) = v.name.text
output_name _ = []

abbrev pub output_of : Reading → Place → Option NodeDef → Stream
output_of r place None = copied r place []
output_of r place (Some n) = copied r place (output_name n.outputs)

abbrev pub truth : Bool → ℤ
truth b = if b then pos 1 else pos 0

abbrev pub is_true : ℤ → Bool
is_true z = not (le_z z (pos 0))

abbrev pub number : Option Value → ℤ
number None = pos 0
number (Some (value.Whole z)) = z
number (Some (value.Truth b)) = truth b

-- a name that is no stream is a constant
abbrev pub worth_of_name : Reading → Run → Option (List ℕ) → ℕ → ℤ
worth_of_name r run None at = pos 0
worth_of_name r run (Some name) at =
    if is_stream r.names.streams (Some name) then run at (stream_of r name) else number (value_at r.values (constant_position r.names (Some name)))

abbrev pub equal : ℤ → ℤ → Bool
equal a b = le_z a b && le_z b a

-- a quotient's remainder is 0 or more
abbrev pub worth_of_binary : Binary → ℤ → ℤ → ℤ
worth_of_binary binary.Arrow a b = b
worth_of_binary binary.Implies a b = truth (not (is_true a) || is_true b)
worth_of_binary binary.Iff a b = truth (equal a b)
worth_of_binary binary.Or a b = truth (is_true a || is_true b)
worth_of_binary binary.And a b = truth (is_true a && is_true b)
worth_of_binary binary.Less a b = truth (not (le_z b a))
worth_of_binary binary.AtMost a b = truth (le_z a b)
worth_of_binary binary.More a b = truth (not (le_z a b))
worth_of_binary binary.AtLeast a b = truth (le_z b a)
worth_of_binary binary.Same a b = truth (equal a b)
worth_of_binary binary.Differs a b = truth (not (equal a b))
worth_of_binary binary.Plus a b = a +ℤ b
worth_of_binary binary.Minus a b = a -ℤ b
worth_of_binary binary.Times a b = a *ℤ b
worth_of_binary binary.Div a b = int_div_euclid a b
worth_of_binary binary.Mod a b = int_rem_euclid a b

-- what an expression is worth at an instant: `pre` is 0 at the first one, and an arrow is its left side there and its right side from then on
abbrev pub worth : Reading → Run → Term → ℕ → ℤ
worth r run (Number z place) at = z
worth r run (Truth b place) at = truth b
worth r run (Named path) at = worth_of_name r run (sought path path.«package») at
worth r run (Unary' unary.Minus place _ (more_of-Term t end_of-Term)) at = neg_ℤ (worth r run t at)
worth r run (Unary' unary.Not place _ (more_of-Term t end_of-Term)) at = truth (not (is_true (worth r run t at)))
worth r run (Unary' unary.Pre place _ (more_of-Term t end_of-Term)) zero = pos 0
worth r run (Unary' unary.Pre place _ (more_of-Term t end_of-Term)) (suc before) = worth r run t before
worth r run (Binary' binary.Arrow place _ (more_of-Term left end_of-Term) _ (more_of-Term right end_of-Term)) zero = worth r run left zero
worth r run (Binary' op place _ (more_of-Term left end_of-Term) _ (more_of-Term right end_of-Term)) at = worth_of_binary op (worth r run left at) (worth r run right at)
worth r run (Choice' place _ (more_of-Term test end_of-Term) _ (more_of-Term chosen end_of-Term) _ (more_of-Term other end_of-Term)) at =
    if is_true (worth r run test at) then worth r run chosen at else worth r run other at
worth r run (Call' path _ args) at = run at (output_of r (path_place path) (node_of r.names path))
