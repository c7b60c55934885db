-- What the clauses of a scope break of the rules on names and types, but for circles and numbers.
use Rattle.std.specs.Prelude.{Bool, not, ◌==◌, ◌&&◌, ◌||◌, List, [], ◌∷◌, ◌++◌, map, length, Option, Some, None, is_none, if◌then◌else◌}
use Rattle.std.specs.List.{flat_map, list_any}
use Rattle.ag_base.specs.declared.place.Place.{Place}
use Rattle.ag_base.specs.declared.place.Refusal.{Refusal}
use Rattle.ag_base.specs.declared.place.Rule.TheVariants.{Twice, TwoSources, Mismatch, Arity}
use Rattle.ag_terms.specs.declared.names.Ident.{Ident}
use Rattle.ag_terms.specs.declared.names.Path.{Path}
use Rattle.ag_terms.specs.Names.{same}
use Rattle.ag_terms.specs.declared.clauses.Clause.{Clause}
use Rattle.ag_terms.specs.declared.clauses.Clause.TheVariants as clause
use Rattle.ag_terms.specs.declared.clauses.Equal.{Equal}
use Rattle.ag_terms.specs.declared.clauses.Labelled.{Labelled}
use Rattle.ag_terms.specs.declared.clauses.NodeDef.{NodeDef}
use Rattle.ag_terms.specs.declared.clauses.Ty.TheVariants.{Bool as Boolean}
use Rattle.ag_terms.specs.declared.clauses.Var.{Var}
use Rattle.ag_terms.specs.declared.terms.Term.{Term, Call', Row_of-Term}
use Rattle.ag_symbols.specs.Seen.{Seen, Names, clauses_seen, node_vars, names_of_node, over_sites, value_named, node_of, targets}
use Rattle.ag_base.specs.Rules.{is_before}
use Rattle.ag_types.specs.Places.{path_place, first_place}
use Rattle.ag_types.specs.Constants.{is_varying}
use Rattle.ag_types.specs.Types.{type_in, faults_in, mismatch, arity, unknown, argument_mismatches, arguments_in, faults_in_all}

-- ---- names are declared once

-- the names that a clause declares for its site
abbrev pub declared_in : Clause → List Ident
declared_in (clause.Eq names value) = map (λ v. v.name) names
declared_in (clause.Const name value) = name.name ∷ []
declared_in (clause.Node n) = n.name ∷ []
declared_in _ = []

-- all names of a scope: one name space for streams, constants and nodes
abbrev pub declared : Seen → List Ident
declared s = map (λ v. v.name) s.ports ++ flat_map declared_in (clauses_seen s)

-- the name stands among these at an earlier place
abbrev pub is_declared_before : List Ident → Ident → Bool
is_declared_before names i = list_any (λ j. same j.text i.text && is_before j.place i.place) names

-- a name that is declared at an earlier place too is refused where it stands
abbrev pub twice : List Ident → Ident → List Refusal
twice names i = if is_declared_before names i then record { place = i.place; rule = Twice } ∷ [] else []

abbrev pub twice_among : List Ident → List Ident → List Refusal
twice_among names others = flat_map (twice names) others

-- ---- what stands for a name that a clause or an equation sets

abbrev pub var_names : List Var → List Ident
var_names vs = map (λ v. v.name) vs

-- the streams that `eq` gives a value
abbrev pub valued_streams_in : Clause → List Var
valued_streams_in (clause.Eq names (Some t)) = names
valued_streams_in _ = []

-- the value of an equation has the type of what it is set for
abbrev pub value_mismatch : Names → Option Var → Term → List Refusal
value_mismatch names None t = []
value_mismatch names (Some v) t = mismatch (Some v.ty) (type_in names t) (first_place t)

abbrev pub unknown_target : Option Var → Place → List Refusal
unknown_target None place = unknown place
unknown_target (Some v) place = []

-- the equation's name is one of these, and its value has that type
abbrev pub equal_faults : Names → List Var → Equal → List Refusal
equal_faults names vars e =
    unknown_target (value_named e.name.text vars) e.name.place
    ++ (value_mismatch names (value_named e.name.text vars) e.value ++ faults_in names e.value)

-- ---- claims, streams and constants

abbrev pub claim_faults : Names → Labelled → List Refusal
claim_faults names l = faults_in names l.claim ++ mismatch (Some Boolean) (type_in names l.claim) (first_place l.claim)

-- each of several names has the type of its output, by the place of the called node's name
abbrev pub output_mismatches : List Var → List Var → Place → List Refusal
output_mismatches (v ∷ vs) (o ∷ os) place = mismatch (Some v.ty) (Some o.ty) place ++ output_mismatches vs os place
output_mismatches _ _ place = []

-- a call for several names: as many outputs as names, of their types, where there are as many
abbrev pub several_outputs : List Var → NodeDef → Place → List Refusal
several_outputs vars n place =
    if length vars == length n.outputs then output_mismatches vars n.outputs place
    else record { place = place; rule = Arity } ∷ []

abbrev pub several_call : {m : _} → Names → List Var → Path → Option NodeDef → Row_of-Term m → List Refusal
several_call names vars path None args = unknown (path_place path)
several_call names vars path (Some n) args =
    arity (length n.inputs) (arguments_in args) (path_place path)
    ++ (argument_mismatches names n.inputs args ++ several_outputs vars n (path_place path))

-- several names want a call of a node
abbrev pub several_faults : Names → List Var → Term → List Refusal
several_faults names vars (Call' path _ args) = several_call names vars path (node_of names path) args ++ faults_in_all names args
several_faults names vars t = record { place = first_place t; rule = Arity } ∷ faults_in names t

abbrev pub eq_faults : Names → List Var → Option Term → List Refusal
eq_faults names vars None = []
eq_faults names (v ∷ []) (Some t) = value_mismatch names (Some v) t ++ faults_in names t
eq_faults names vars (Some t) = several_faults names vars t

abbrev pub constant_faults : Names → Var → Term → List Refusal
constant_faults names v t =
    (if is_varying names t then record { place = first_place t; rule = Mismatch } ∷ [] else [])
    ++ (value_mismatch names (Some v) t ++ faults_in names t)

-- ---- assigns

abbrev pub assign_in : Clause → List Ident
assign_in (clause.Assign e) = e.name ∷ []
assign_in _ = []

-- a stream that `eq` gives a value, or that is assigned at an earlier place, gets a second source
abbrev pub has_source : Seen → List Ident → Ident → Bool
has_source s assigns i = not (is_none (value_named i.text (flat_map valued_streams_in (clauses_seen s)))) || is_declared_before assigns i

abbrev pub second_source : Seen → List Ident → Ident → List Refusal
second_source s assigns i =
    if not (is_none (value_named i.text (targets s))) && has_source s assigns i
    then record { place = i.place; rule = TwoSources } ∷ [] else []

-- ---- nodes

-- the names that a node sees beside its own
abbrev pub node_sees : Names → List Ident
node_sees names = var_names names.constants ++ map (λ n. n.name) names.nodes

-- a node's names are declared once, with the constants and nodes that it sees
abbrev pub node_twice : Names → NodeDef → List Refusal
node_twice names n =
    let own = var_names (node_vars n) in
    let seen = node_sees names in
    twice_among (own ++ seen) own ++ twice_among own seen

-- an equation for an output or a local
abbrev pub node_equation : Names → NodeDef → Equal → List Refusal
node_equation names n e = equal_faults (names_of_node names n) (n.outputs ++ n.locals) e

-- an output or a local without an equation
abbrev pub unset : List Ident → Var → List Refusal
unset set v = if list_any (λ i. same i.text v.name.text) set then [] else unknown v.name.place

abbrev pub equation_names : NodeDef → List Ident
equation_names n = map (λ e. e.name) n.equations

-- all that a node breaks; each output and local has one equation
abbrev pub node_faults : Names → NodeDef → List Refusal
node_faults names n =
    node_twice names n
    ++ (flat_map (node_equation names n) n.equations
    ++ (twice_among (equation_names n) (equation_names n)
    ++ flat_map (unset (equation_names n)) (n.outputs ++ n.locals)))

-- ---- all clauses

-- what a clause breaks by itself, with the streams that an `assign` may have and the names that it sees
abbrev pub clause_faults : List Var → Names → Clause → List Refusal
clause_faults others names (clause.Assume l) = claim_faults names l
clause_faults others names (clause.Guarantee l) = claim_faults names l
clause_faults others names (clause.Lemma l) = claim_faults names l
clause_faults others names (clause.Eq vars value) = eq_faults names vars value
clause_faults others names (clause.Assign e) = equal_faults names others e
clause_faults others names (clause.Const v t) = constant_faults names v t
clause_faults others names (clause.Node n) = node_faults names n

-- all that the clauses of a scope break
abbrev pub faults_of : Seen → List Refusal
faults_of s =
    twice_among (declared s) (declared s)
    ++ (over_sites (clause_faults (targets s)) s
    ++ flat_map (second_source s (flat_map assign_in (clauses_seen s))) (flat_map assign_in (clauses_seen s)))
