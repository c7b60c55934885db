-- Which constants and nodes use which, and the values that constants have.
use Rattle.std.specs.Prelude.{◌≡◌, ◌+◌, ◌<◌, ℕ, List, [], ◌∷◌, ◌++◌, map, length, Bool, false, Option, Some, None, slice_index_or, slice_get, if◌then◌else◌}
use Rattle.std.specs.List.{flat_map}
use Rattle.ag_base.specs.declared.place.Place.{Place}
use Rattle.ag_base.specs.declared.place.Refusal.{Refusal}
use Rattle.ag_base.specs.declared.place.Rule.TheVariants.{NodeRecursion}
use Rattle.ag_terms.specs.declared.names.Ident.{Ident}
use Rattle.ag_terms.specs.declared.clauses.Clause.{Clause}
use Rattle.ag_terms.specs.declared.clauses.Clause.TheVariants as clause
use Rattle.ag_terms.specs.declared.clauses.Var.{Var}
use Rattle.ag_terms.specs.declared.terms.Term.{Term, Number, Truth, Named, Unary', Binary', Choice', Call', Row_of-Term, end_of-Term, more_of-Term}
use Rattle.ag_graph.specs.Circles.{IsOnCircle}
use Rattle.ag_graph.specs.Edges.{with_edge}
use Rattle.ag_symbols.specs.Seen.{Seen, Names, names_of_node, over_sites, sought, position, node_name, constant_position}
use Rattle.ag_linear.specs.declared.value.Value.{Value}
use Rattle.ag_types.specs.Constants.{exact_value}
use Rattle.ag_types.specs.ClauseFaults.{constant_faults}
use Rattle.ag_types.specs.NumberFaults.{constant_faults_in}

-- a constant with what its expression sees
pub record Constant : Type 0 where
  pub var : Var
  pub names : Names
  pub term : Term

abbrev pub constant_in : Names → Clause → List Constant
constant_in names (clause.Const v t) = record { var = v; names = names; term = t } ∷ []
constant_in names _ = []

abbrev pub constants_of : Seen → List Constant
constants_of s = over_sites constant_in s

-- a constant or a node: its name, what its expressions see, and these
pub record Declared : Type 0 where
  pub name : Ident
  pub names : Names
  pub terms : List Term

abbrev pub of_constant : Constant → Declared
of_constant c = record { name = c.var.name; names = c.names; terms = c.term ∷ [] }

abbrev pub of_node : Names → Clause → List Declared
of_node names (clause.Node n) = record { name = n.name; names = names_of_node names n; terms = map (λ e. e.value) n.equations } ∷ []
of_node names _ = []

-- those of a scope: its constants in order, and behind them its nodes
abbrev pub declared_of : Seen → List Declared
declared_of s = map of_constant (constants_of s) ++ over_sites of_node s

-- ---- uses, by positions

abbrev pub at_most_one : Option ℕ → List ℕ
at_most_one None = []
at_most_one (Some n) = n ∷ []

-- nodes are numbered behind this many constants
abbrev pub behind : ℕ → Option ℕ → Option ℕ
behind constants None = None
behind constants (Some n) = Some (constants + n)

-- the constants and nodes that an expression names
abbrev mutual
  pub used_in : Names → ℕ → Term → List ℕ
  used_in names constants (Number z place) = []
  used_in names constants (Truth b place) = []
  used_in names constants (Named path) = at_most_one (constant_position names (sought path path.«package»))
  used_in names constants (Unary' op place _ (more_of-Term t end_of-Term)) = used_in names constants t
  used_in names constants (Binary' op place _ (more_of-Term left end_of-Term) _ (more_of-Term right end_of-Term)) = used_in names constants left ++ used_in names constants right
  used_in names constants (Choice' place _ (more_of-Term test end_of-Term) _ (more_of-Term chosen end_of-Term) _ (more_of-Term other end_of-Term)) =
      used_in names constants test ++ (used_in names constants chosen ++ used_in names constants other)
  used_in names constants (Call' path _ args) = at_most_one (behind constants (position node_name (sought path path.«package») names.nodes)) ++ used_in_all names constants args

  pub used_in_all : {m : _} → Names → ℕ → Row_of-Term m → List ℕ
  used_in_all names constants end_of-Term = []
  used_in_all names constants (more_of-Term t rest) = used_in names constants t ++ used_in_all names constants rest

abbrev pub used_by : ℕ → Declared → List ℕ
used_by constants d = flat_map (used_in d.names constants) d.terms

-- for each of a scope's constants and nodes those that it uses
abbrev pub uses_of : Seen → List (List ℕ)
uses_of s = map (used_by (length (constants_of s))) (declared_of s)

-- the last vertex of a graph leads to these too
abbrev pub with_edges : List (List ℕ) → List ℕ → List (List ℕ)
with_edges graph [] = graph
with_edges graph (to ∷ rest) = with_edges (with_edge graph to) rest

-- ---- circles

-- one of them uses itself, directly or through others, and this is refused at its declaration
abbrev pub IsCircular : Seen → Refusal → Type 0
IsCircular s r = (i : ℕ) × (d : Declared) × (slice_get (declared_of s) i ≡ Some d) × IsOnCircle (uses_of s) i × (r ≡ record { place = d.name.place; rule = NodeRecursion })

-- what uses itself is refused at this place
abbrev pub circular : Bool → Place → List Refusal
circular on_circle place = if on_circle then record { place = place; rule = NodeRecursion } ∷ [] else []

-- each of these names whose declaration uses itself, where the first one has this position
abbrev pub circular_from : List Bool → ℕ → List Ident → List Refusal
circular_from on_circle at [] = []
circular_from on_circle at (name ∷ names) = circular (slice_index_or on_circle at false) name.place ++ circular_from on_circle (at + 1) names

-- ---- values

-- the value of a constant whose expression breaks no rule; any other has none
abbrev pub declared_value : List (Option Value) → Constant → Option Value
declared_value values c = elim (constant_faults c.names c.var c.term ++ constant_faults_in c.names values c.term) [
  | [] ↦ exact_value c.names values c.term
  | _ ↦ None
]

-- each constant has its value, where those that it names have theirs; one that uses itself has none
pub record AreValues (s : Seen) (values : List (Option Value)) : Type 0 where
  pub long : length values ≡ length (constants_of s)
  pub circular : (i : ℕ) → i < length values → IsOnCircle (uses_of s) i → slice_index_or values i None ≡ None
  pub valued : (i : ℕ) (c : Constant) → slice_get (constants_of s) i ≡ Some c → (IsOnCircle (uses_of s) i → ⊥) → slice_index_or values i None ≡ declared_value values c
