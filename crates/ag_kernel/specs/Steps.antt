-- How many literals of a line are left.
use Rattle.std.specs.Prelude.{List, [], ◌∷◌, if◌then◌else◌}
use Rattle.std.specs.List.{list_all}
use Rattle.ag_query.specs.declared.clauses.Lit.{Lit}
use Rattle.ag_kernel.specs.declared.units.Left.{Left}
use Rattle.ag_kernel.specs.declared.units.Left.TheVariants.{Nothing, One, More}
use Rattle.ag_kernel.specs.Sets.{same}

-- none, the same one throughout, or several
abbrev pub left_as : List Lit → Left
left_as [] = Nothing
left_as (l ∷ ls) = if list_all (same l) ls then One l else More
