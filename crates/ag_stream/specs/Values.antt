-- What rows and parts are worth at a moment of a run.
use Rattle.std.specs.Prelude.{◌≡◌, ◌++◌, ◌∷◌, [], ℕ, ℤ, pos, ◌+ℤ◌, ◌*ℤ◌, Bool, false, not, ◌&&◌, ◌||◌, if◌then◌else◌, List, length, Some, slice_get, slice_index_or}
use Rattle.ag_stream.specs.declared.problem.RowTerm.{RowTerm}
use Rattle.ag_stream.specs.declared.problem.Row.{Row}
use Rattle.ag_stream.specs.declared.problem.Part.{Part}
use Rattle.ag_stream.specs.declared.problem.Part.TheVariants as parts
use Rattle.ag_stream.specs.declared.problem.Instant.{Instant}
use Rattle.std.specs.Int.Signed.{le_z}

-- an instant as its neighbours make it: whether a run starts here, what was before, and what is now
pub record Moment : Type 0 where
  pub first : Bool
  pub before : Instant
  pub now : Instant

-- before a run starts each integer is 0 and each Boolean false
abbrev pub nothing : Instant
nothing = record { whole = []; flags = [] }

abbrev pub side : Moment → Bool → Instant
side m before = if before then m.before else m.now

abbrev pub whole_at : Instant → ℕ → ℤ
whole_at i stream = slice_index_or i.whole stream (pos 0)

abbrev pub flag_at : Instant → ℕ → Bool
flag_at i stream = slice_index_or i.flags stream false

-- the terms added up
abbrev pub terms_value : Moment → List RowTerm → ℤ
terms_value m [] = pos 0
terms_value m (t ∷ ts) = (t.factor *ℤ whole_at (side m t.before) t.stream) +ℤ terms_value m ts

abbrev pub row_value : Moment → Row → ℤ
row_value m row = terms_value m row.terms +ℤ row.constant

-- whether a row is at most 0
abbrev pub is_at_most_zero : ℤ → Bool
is_at_most_zero z = le_z z (pos 0)

-- what a part says, where these are the truths of the parts before it
abbrev pub truth_of : Moment → List Bool → Part → Bool
truth_of m known (parts.Truth b) = b
truth_of m known (parts.Flag stream before) = flag_at (side m before) stream
truth_of m known (parts.Compare row) = is_at_most_zero (row_value m row)
truth_of m known (parts.Not a) = not (slice_index_or known a false)
truth_of m known (parts.And a b) = slice_index_or known a false && slice_index_or known b false
truth_of m known (parts.Or a b) = slice_index_or known a false || slice_index_or known b false
truth_of m known (parts.Same a b) = if slice_index_or known a false then slice_index_or known b false else not (slice_index_or known b false)
truth_of m known (parts.Choice test one other) = if slice_index_or known test false then slice_index_or known one false else slice_index_or known other false
truth_of m known (parts.Arrow first later) = if m.first then slice_index_or known first false else slice_index_or known later false

-- the truths of these parts, after those of the parts before them
abbrev pub truths_after : Moment → List Bool → List Part → List Bool
truths_after m known [] = known
truths_after m known (p ∷ ps) = truths_after m (known ++ truth_of m known p ∷ []) ps

-- the truth of each part at a moment
abbrev pub truths : Moment → List Part → List Bool
truths m ps = truths_after m [] ps

-- a truth for each part, which is what the part says where these are the truths
pub record AreTruths (m : Moment) (ps : List Part) (known : List Bool) : Type 0 where
  pub size : length known ≡ length ps
  pub each : (n : ℕ) (p : Part) → slice_get ps n ≡ Some p → slice_index_or known n false ≡ truth_of m known p

-- whether the part of that number holds
abbrev pub holds : Moment → List Part → ℕ → Bool
holds m ps part = slice_index_or (truths m ps) part false
