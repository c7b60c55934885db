-- Edges by the vertex that they begin at.
use Rattle.std.specs.Prelude.{◌≡◌, ℕ, ◌<◌, List, Option, Some, None, slice_index_or}

-- so many vertices and edges
pub record Counts : Type 0 where
  pub vertices : ℕ
  pub edges : ℕ

-- each place that is given is below this one
abbrev pub AreBelow : ℕ → List (Option ℕ) → Type 0
AreBelow top places = (n i : ℕ) → slice_index_or places n None ≡ Some i → i < top

-- each place that is given is below where it stands
abbrev pub AreBefore : List (Option ℕ) → Type 0
AreBefore places = (n i : ℕ) → slice_index_or places n None ≡ Some i → i < n
