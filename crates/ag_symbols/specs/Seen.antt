-- The names that an annex sees: streams, constants and nodes, in any case of their letters.
use Rattle.std.specs.Prelude.{ℕ, ◌+◌, ◌==◌, Bool, not, List, [], ◌∷◌, ◌++◌, Option, Some, None, is_none, codes, if◌then◌else◌}
use Rattle.std.specs.List.{filter, flat_map, list_all}
use Rattle.ag_terms.specs.declared.names.Ident.{Ident}
use Rattle.ag_terms.specs.declared.names.Path.{Path}
use Rattle.ag_terms.specs.Names.{same}
use Rattle.ag_terms.specs.declared.clauses.Clause.{Clause}
use Rattle.ag_terms.specs.declared.clauses.Clause.TheVariants as clause
use Rattle.ag_terms.specs.declared.clauses.NodeDef.{NodeDef}
use Rattle.ag_terms.specs.declared.clauses.Var.{Var}

-- the clauses of a package's own annexes, of a component type's and of an implementation's, and the streams that aren't declared there:
-- those of own ports by their names, and those of subcomponents, of their ports and by `eq` of their types, as `c.x`
pub record Seen : Type 0 where
  pub library : List Clause
  pub frame : List Clause
  pub body : List Clause
  pub ports : List Var

-- these four lists
abbrev pub seen_of : List Clause → List Clause → List Clause → List Var → Seen
seen_of library frame body ports = record { library = library; frame = frame; body = body; ports = ports }

-- all clauses that are seen
abbrev pub clauses_seen : Seen → List Clause
clauses_seen s = s.library ++ (s.frame ++ s.body)

-- the streams that `eq` declares
abbrev pub eq_streams_in : Clause → List Var
eq_streams_in (clause.Eq names value) = names
eq_streams_in _ = []

-- the constant that a clause declares
abbrev pub constants_in : Clause → List Var
constants_in (clause.Const name value) = name ∷ []
constants_in _ = []

-- the nodes that a clause declares
abbrev pub nodes_in : Clause → List NodeDef
nodes_in (clause.Node n) = n ∷ []
nodes_in _ = []

-- what an expression may name: streams, constants, and nodes
pub record Names : Type 0 where
  pub streams : List Var
  pub constants : List Var
  pub nodes : List NodeDef

-- what is named where these clauses are seen, and these streams
abbrev pub names_at : List Var → List Clause → Names
names_at ports clauses = record { streams = ports ++ flat_map eq_streams_in clauses; constants = flat_map constants_in clauses; nodes = flat_map nodes_in clauses }

-- what the clauses of an implementation see
abbrev pub names_seen : Seen → Names
names_seen s = names_at s.ports (clauses_seen s)

-- an own port's name has no dot
abbrev pub is_own : Var → Bool
is_own v = list_all (λ b. not (b == 46)) v.name.text

abbrev pub own_ports : Seen → List Var
own_ports s = filter is_own s.ports

-- the streams that an `assign` may be for: own ports, and those that `eq` declares
abbrev pub targets : Seen → List Var
targets s = own_ports s ++ flat_map eq_streams_in (clauses_seen s)

-- a node's own streams
abbrev pub node_vars : NodeDef → List Var
node_vars n = n.inputs ++ (n.outputs ++ n.locals)

-- what the equations of a node may name: its own streams, and the constants and nodes that are seen
abbrev pub names_of_node : Names → NodeDef → Names
names_of_node names n = record { streams = node_vars n; constants = names.constants; nodes = names.nodes }

-- the names that the clauses of a package see, those of a type and those of an implementation: no streams, the own ports, all
abbrev pub library_names : Seen → Names
library_names s = names_at [] s.library

abbrev pub frame_names : Seen → Names
frame_names s = names_at (own_ports s) (s.library ++ s.frame)

-- what is said of each clause with the names that it sees, of all clauses in order
abbrev pub over_sites : {X : Type 0} → (Names → Clause → List X) → Seen → List X
over_sites f s = flat_map (f (library_names s)) s.library ++ (flat_map (f (frame_names s)) s.frame ++ flat_map (f (names_seen s)) s.body)

-- a name as it is looked for: `x` or `c.x`; a name with `::` is none
abbrev pub dotted : List ℕ → Option Ident → List ℕ
dotted name None = name
dotted name (Some body) = name ++ (codes "." ++ body.text)

abbrev pub sought : Path → Option Ident → Option (List ℕ)
sought p None = Some (dotted p.name.text p.body)
sought p (Some owner) = None

-- the first of that name
abbrev pub value_named : List ℕ → List Var → Option Var
value_named name [] = None
value_named name (v ∷ vs) = if same v.name.text name then Some v else value_named name vs

abbrev pub node_named : List ℕ → List NodeDef → Option NodeDef
node_named name [] = None
node_named name (n ∷ ns) = if same n.name.text name then Some n else node_named name ns

-- the position of the first of that name, if there is a name
abbrev pub position_from : {X : Type 0} → (X → Ident) → List ℕ → ℕ → List X → Option ℕ
position_from name_of name at [] = None
position_from name_of name at (x ∷ xs) = if same (name_of x).text name then Some at else position_from name_of name (at + 1) xs

abbrev pub position : {X : Type 0} → (X → Ident) → Option (List ℕ) → List X → Option ℕ
position name_of None xs = None
position name_of (Some name) xs = position_from name_of name 0 xs

abbrev pub var_name : Var → Ident
var_name v = v.name

abbrev pub node_name : NodeDef → Ident
node_name n = n.name

-- the name is one of these streams
abbrev pub is_stream : List Var → Option (List ℕ) → Bool
is_stream streams name = not (is_none (position var_name name streams))

-- the position of a constant of that name, which is no stream's
abbrev pub constant_position : Names → Option (List ℕ) → Option ℕ
constant_position names name = if is_stream names.streams name then None else position var_name name names.constants

-- what a name in an expression is, and which node a call calls
abbrev pub value_of : Names → Path → Option Var
value_of names p = elim (sought p p.«package») [
  | None ↦ None
  | Some name ↦ value_named name (names.streams ++ names.constants)
]

abbrev pub node_of : Names → Path → Option NodeDef
node_of names p = elim (sought p p.«package») [
  | None ↦ None
  | Some name ↦ node_named name names.nodes
]
