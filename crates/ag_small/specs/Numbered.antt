-- The layer by number: the problem of each obligation. Streams are the ports in their order; parts are those of the claims' formulas, then those of the assigns' values.
use Rattle.std.specs.Prelude.{◌+◌, ◌-◌, ℕ, false, List, [], ◌∷◌, ◌++◌, length, map, Option, Some, None, codes, if◌then◌else◌}
use Rattle.std.specs.List.{position_or_len}
use Rattle.ag_small.specs.declared.package.Package.{Package}
use Rattle.ag_small.specs.declared.package.Port.{Port}
use Rattle.ag_small.specs.declared.package.Claim.{Claim}
use Rattle.ag_small.specs.declared.package.ClaimKind.{ClaimKind}
use Rattle.ag_small.specs.declared.package.ClaimKind.TheVariants.{Assume, Guarantee}
use Rattle.ag_small.specs.declared.package.Assign.{Assign}
use Rattle.ag_small.specs.declared.package.Formula.{Formula}
use Rattle.ag_small.specs.Expressions.{Truth, Named, Group, Not, And, Or, Implies}
use Rattle.ag_small.specs.Characters.{same}
use Rattle.ag_small.specs.Named.{is_of}
use Rattle.ag_stream.specs.declared.problem.Part.{Part}
use Rattle.ag_stream.specs.declared.problem.Part.TheVariants as parts
use Rattle.ag_stream.specs.declared.problem.Equation.{Equation}
use Rattle.ag_stream.specs.declared.problem.Equation.TheVariants as equations
use Rattle.ag_stream.specs.declared.problem.ProblemDraft.{ProblemDraft}
use Rattle.ag_verdict.specs.declared.key.Key.{Key}
use Rattle.ag_verdict.specs.declared.key.KeyKind.{KeyKind}
use Rattle.ag_verdict.specs.declared.key.KeyKind.TheVariants as kinds
use Rattle.ag_verdict.specs.declared.key.Obligation.{Obligation}

-- the number of a port's name, in any case
abbrev pub stream_of : List Port → List ℕ → ℕ
stream_of ports name = position_or_len (λ q. same name q.name) ports

-- how many parts a formula has
abbrev pub part_count : Formula → ℕ
part_count (Truth holds) = 1
part_count (Named name) = 1
part_count (Group f) = part_count f
part_count (Not f) = part_count f + 1
part_count (And f g) = part_count f + part_count g + 1
part_count (Or f g) = part_count f + part_count g + 1
part_count (Implies f g) = part_count f + part_count g + 2

-- the number of a formula's own part, where its first part has this number: it is the last one
abbrev pub own_part : ℕ → Formula → ℕ
own_part first f = first + part_count f - 1

-- a formula's parts, the first of which has this number: operands from left to right, then what they serve; an implication is the left side's contrary or the right side
abbrev pub parts_of : List Port → ℕ → Formula → List Part
parts_of ports first (Truth holds) = parts.Truth holds ∷ []
parts_of ports first (Named name) = parts.Flag (stream_of ports name) false ∷ []
parts_of ports first (Group f) = parts_of ports first f
parts_of ports first (Not f) = parts_of ports first f ++ parts.Not (own_part first f) ∷ []
parts_of ports first (And f g) =
    parts_of ports first f
    ++ (parts_of ports (first + part_count f) g ++ parts.And (own_part first f) (own_part (first + part_count f) g) ∷ [])
parts_of ports first (Or f g) =
    parts_of ports first f
    ++ (parts_of ports (first + part_count f) g ++ parts.Or (own_part first f) (own_part (first + part_count f) g) ∷ [])
parts_of ports first (Implies f g) =
    parts_of ports first f
    ++ (parts_of ports (first + part_count f) g
    ++ parts.Not (own_part first f) ∷ parts.Or (first + part_count f + part_count g) (own_part (first + part_count f) g) ∷ [])

-- the formulas in the order in which their parts are numbered
abbrev pub formulas : Package → List Formula
formulas p = map (λ c. c.formula) p.claims ++ map (λ a. a.value) p.assigns

-- the parts of formulas one behind the other
abbrev pub all_parts : List Port → ℕ → List Formula → List Part
all_parts ports first [] = []
all_parts ports first (f ∷ fs) = parts_of ports first f ++ all_parts ports (first + part_count f) fs

-- how many parts formulas have
abbrev pub parts_in : List Formula → ℕ
parts_in [] = 0
parts_in (f ∷ fs) = part_count f + parts_in fs

-- how many parts the claims have
abbrev pub claim_parts : List Claim → ℕ
claim_parts [] = 0
claim_parts (c ∷ cs) = part_count c.formula + claim_parts cs

-- an equation for each assign, with the parts numbered on
abbrev pub equations_from : List Port → ℕ → List Assign → List Equation
equations_from ports first [] = []
equations_from ports first (a ∷ rest) =
    equations.Flag (stream_of ports a.name) (own_part first a.value) ∷ equations_from ports (first + part_count a.value) rest

-- the parts of the claims of a kind
abbrev pub numbers_from : ClaimKind → ℕ → List Claim → List ℕ
numbers_from kind first [] = []
numbers_from kind first (c ∷ cs) =
    if is_of kind c.kind then own_part first c.formula ∷ numbers_from kind (first + part_count c.formula) cs
    else numbers_from kind (first + part_count c.formula) cs

-- the problem of a claim, given by its part, or of runs of some instants
abbrev pub draft_of : Package → Option ℕ → ℕ → ProblemDraft
draft_of p claim sought = record {
  ints = 0;
  flags = length p.ports;
  parts = all_parts p.ports 0 (formulas p);
  equations = equations_from p.ports (claim_parts p.claims) p.assigns;
  so_far = numbers_from Assume 0 p.claims;
  earlier = [];
  claim = claim;
  length = sought;
}

-- Package::Type.implementation
abbrev pub layer_name : Package → List ℕ
layer_name p = p.name ++ codes "::" ++ p.frame ++ codes "." ++ p.body

abbrev pub key_of : Package → KeyKind → ℕ → Key
key_of p kind number = record { layer = layer_name p; member = None; kind = kind; number = number }

-- the guarantees, whose parts are these, numbered on
abbrev pub guarantees_from : Package → ℕ → List ℕ → List Obligation
guarantees_from p number [] = []
guarantees_from p number (part ∷ rest) =
    record { key = key_of p kinds.Guarantee number; layer = 0; problem = draft_of p (Some part) 0 } ∷ guarantees_from p (number + 1) rest

-- each guarantee in order, then the consistency over so many instants
abbrev pub obligations_of : Package → ℕ → List Obligation
obligations_of p sought =
    guarantees_from p 1 (numbers_from Guarantee 0 p.claims)
    ++ record { key = key_of p kinds.Consistent 1; layer = 0; problem = draft_of p None sought } ∷ []
