-- A graph in one list of targets.
use Rattle.std.specs.Prelude.{ℕ, ◌-◌, ◌≤◌, ◌++◌, List, [], ◌∷◌, length, slice_index_or, slice_range, slice_set}

-- the targets from each of these places up to the next one, and from the last one up to the end
abbrev pub cut_at : List ℕ → List ℕ → List (List ℕ)
cut_at targets [] = []
cut_at targets (start ∷ starts) = slice_range targets start (slice_index_or starts 0 (length targets)) ∷ cut_at targets starts

-- the places rise, and none is past the end
abbrev pub AreStarts : List ℕ → List ℕ → Type 0
AreStarts targets [] = Unit {0}
AreStarts targets (start ∷ starts) = (start ≤ slice_index_or starts 0 (length targets)) × AreStarts targets starts

-- the graph in which the last vertex leads to one vertex more
abbrev pub with_edge : List (List ℕ) → ℕ → List (List ℕ)
with_edge graph to = slice_set graph (length graph - 1) (slice_index_or graph (length graph - 1) [] ++ to ∷ [])
