-- What the fields of a trail stand for.
use Rattle.std.specs.Prelude.{◌≡◌, ◌<◌, ◌+◌, ◌^◌, ◌∷◌, ℕ, Bool, not, List, [], length, reverse, Option, None, is_some, slice_index_or, count_by, ⊤}
use Rattle.ag_tree.specs.declared.trail.Step.{Step}
use Rattle.ag_tree.specs.declared.trail.Trail.TheInside.{Inside}
use Rattle.ag_tree.specs.Facts.{Lacks}
use Rattle.ag_tree.specs.Trail.{Seen, literals, truth_in}

abbrev pub seen : Inside → Seen
seen t = record { atoms = length t.values.items; steps = reverse t.steps.items }

-- no atom twice
abbrev pub AreFresh : List Step → Type 0
AreFresh [] = ⊤
AreFresh (s ∷ rest) = Lacks (literals rest) s.lit.atom × AreFresh rest

-- how many atoms have no value
abbrev pub unset : List (Option Bool) → ℕ
unset values = count_by (λ v. not (is_some v)) values

-- the values by atom are what the steps say, each atom with a value has one step, and atoms have numbers
pub record IsTrail (t : Inside) : Type 0 where
  pub tied : (a : ℕ) → slice_index_or t.values.items a None ≡ truth_in (literals (reverse t.steps.items)) a
  pub fresh : AreFresh (reverse t.steps.items)
  pub counted : length t.steps.items + unset t.values.items ≡ length t.values.items
  pub small : length t.values.items < 2 ^ 32
