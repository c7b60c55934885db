-- What is asked of a package beyond its grammar.
use Rattle.std.specs.Prelude.{ℕ, ◌+◌, ◌≤◌, Bool, true, not, nat_le, max, List, [], ◌∷◌, ◌++◌, length, ◌&&◌, ◌||◌, IsTrue}
use Rattle.std.specs.List.{list_any, list_all, flat_map}
use Rattle.ag_small.specs.declared.package.Package.{Package}
use Rattle.ag_small.specs.declared.package.Port.{Port}
use Rattle.ag_small.specs.declared.package.Assign.{Assign}
use Rattle.ag_small.specs.declared.package.Formula.{Formula}
use Rattle.ag_small.specs.Expressions.{Truth, Named, Group, Not, And, Or, Implies}
use Rattle.ag_small.specs.Characters.{same}
use Rattle.ag_small.specs.Grammar.{claim_text, assign_text, is_grouped}

-- whether a name is a port's, an input's, an output's
abbrev pub names_port : List Port → List ℕ → Bool
names_port ports name = list_any (λ q. same name q.name) ports

abbrev pub names_input : List Port → List ℕ → Bool
names_input ports name = list_any (λ q. not q.outward && same name q.name) ports

abbrev pub names_output : List Port → List ℕ → Bool
names_output ports name = list_any (λ q. q.outward && same name q.name) ports

-- no name is that of a later port
abbrev pub ports_differ : List Port → Bool
ports_differ [] = true
ports_differ (q ∷ qs) = not (names_port qs q.name) && ports_differ qs

-- whether each name in a formula passes a test
abbrev pub all_names : (List ℕ → Bool) → Formula → Bool
all_names test (Truth holds) = true
all_names test (Named name) = test name
all_names test (Group f) = all_names test f
all_names test (Not f) = all_names test f
all_names test (And f g) = all_names test f && all_names test g
all_names test (Or f g) = all_names test f && all_names test g
all_names test (Implies f g) = all_names test f && all_names test g

-- whether a name is assigned by one of these
abbrev pub is_assigned : List Assign → List ℕ → Bool
is_assigned assigns name = list_any (λ a. same name a.name) assigns

-- behind earlier assigns: an output that none of them assigns, and a value of inputs and names assigned by them
abbrev pub may_follow : List Port → List Assign → Assign → Bool
may_follow ports earlier a =
    names_output ports a.name && not (is_assigned earlier a.name)
    && all_names (λ name. names_input ports name || is_assigned earlier name) a.value

-- each of the later assigns may stand behind those before it
abbrev pub all_follow : List Port → List Assign → List Assign → Bool
all_follow ports earlier [] = true
all_follow ports earlier (a ∷ later) = may_follow ports earlier a && all_follow ports (earlier ++ a ∷ []) later

-- how many `and` the formula joins without parentheses, and how many `or`
abbrev pub and_count : Formula → ℕ
and_count (And f g) = and_count f + 1
and_count (Or f g) = 0
and_count (Implies f g) = 0
and_count (Not f) = 0
and_count (Group f) = 0
and_count (Named name) = 0
and_count (Truth holds) = 0

abbrev pub or_count : Formula → ℕ
or_count (Or f g) = or_count f + 1
or_count (And f g) = 0
or_count (Implies f g) = 0
or_count (Not f) = 0
or_count (Group f) = 0
or_count (Named name) = 0
or_count (Truth holds) = 0

-- the deepest level: `(`, `not` and `=>` open one for what stands in or behind them, and each `and` and `or` one for the rest of its chain
abbrev pub depth : Formula → ℕ
depth (Truth holds) = 0
depth (Named name) = 0
depth (Group f) = depth f + 1
depth (Not f) = depth f + 1
depth (And f g) = max (depth f) (depth g + (and_count f + 1))
depth (Or f g) = max (depth f) (depth g + (or_count f + 1))
depth (Implies f g) = max (depth f) (depth g + 1)

-- a formula that operators group as they bind, and no level of which passes 200
abbrev pub is_in_form : Formula → Bool
is_in_form f = is_grouped f && nat_le (depth f) 200

pub record IsWellFormed (p : Package) : Type 0 where
  pub few_ports : length p.ports ≤ 12
  pub different_ports : IsTrue (ports_differ p.ports)
  pub claims_name_ports : IsTrue (list_all (λ c. all_names (names_port p.ports) c.formula) p.claims)
  pub assigns_in_order : IsTrue (all_follow p.ports [] p.assigns)
  pub claims_in_form : IsTrue (list_all (λ c. is_in_form c.formula) p.claims)
  pub assigns_in_form : IsTrue (list_all (λ a. is_in_form a.value) p.assigns)
  pub few_tokens : length (flat_map claim_text p.claims) + length (flat_map assign_text p.assigns) ≤ 1000
