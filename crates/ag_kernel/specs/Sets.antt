-- Lists of literals, read as sets.
use Rattle.std.specs.Prelude.{Bool, not, ◌==◌, ◌&&◌, ◌++◌, ◌∷◌, List, [], filter, fold, if◌then◌else◌}
use Rattle.std.specs.List.{list_any}
use Rattle.std.specs.Bool.{beq}
use Rattle.ag_query.specs.declared.clauses.Lit.{Lit}

abbrev pub same : Lit → Lit → Bool
same l m = (l.atom == m.atom) && beq l.holds m.holds

abbrev pub has : List Lit → Lit → Bool
has lits l = list_any (same l) lits

-- the literals and then this one, unless they have it
abbrev pub with_literal : List Lit → Lit → List Lit
with_literal lits l = if has lits l then lits else lits ++ l ∷ []

-- the first list, and what the second has besides, each literal once
abbrev pub joined : List Lit → List Lit → List Lit
joined lits more = fold with_literal lits more

-- the literals but this one
abbrev pub without : List Lit → Lit → List Lit
without lits l = filter (λ m. not (same l m)) lits
