-- Unit steps along lines.
use Rattle.std.specs.Prelude.{Bool, true, false, not, ◌||◌, ◌++◌, ◌∷◌, List, [], map, filter, if◌then◌else◌}
use Rattle.std.specs.List.{list_any, list_all}
use Rattle.ag_query.specs.declared.clauses.Lit.{Lit}
use Rattle.ag_query.specs.Meaning.{contrary}
use Rattle.ag_kernel.specs.Sets.{same, has}

-- the literals of a line whose contraries the list lacks
abbrev pub left_of : List Lit → List Lit → List Lit
left_of list line = filter (λ l. not (has list (contrary l))) line

-- what a step adds: the literal that is left, where it is one
abbrev pub drawn : List Lit → List Lit
drawn [] = []
drawn (l ∷ ls) = if list_all (same l) ls then l ∷ [] else []

abbrev pub is_conflict : List Lit → Bool
is_conflict [] = true
is_conflict (l ∷ ls) = false

-- steps along the lines in order come to one of which nothing is left
abbrev pub conflict_along : List Lit → List (List Lit) → Bool
conflict_along list [] = false
conflict_along list (line ∷ lines) = is_conflict (left_of list line) || conflict_along (drawn (left_of list line) ++ list) lines

-- the same, begun with the contraries of the clause; an atom both ways is a conflict too
abbrev pub comes_to_conflict : List Lit → List (List Lit) → Bool
comes_to_conflict clause lines = list_any (has (map contrary clause)) clause || conflict_along (map contrary clause) lines
