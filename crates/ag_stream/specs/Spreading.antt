-- How marks spread from a stream to those that depend on it.
use Rattle.std.specs.Prelude.{◌≡◌, ◌≢◌, ◌+◌, ◌<◌, ◌⊎◌, ℕ, Bool, not, List, length, count_by}
use Rattle.ag_stream.specs.declared.problem.ProblemDraft.{ProblemDraft}
use Rattle.ag_stream.specs.declared.dependence.Spread.{Spread}
use Rattle.ag_stream.specs.declared.dependence.Spread.TheVariants.{Met, Moved, Rest}
use Rattle.ag_stream.specs.Work.{IsAt, IsMarked, NamesMarked}
use Rattle.ag_stream.specs.Dependence.{Leads}

-- the stream has a mark, and every other with one depends on it
pub record IsSpreading (d : ProblemDraft) (stream : ℕ) (marks : List Bool) : Type 0 where
  pub size : length marks ≡ d.flags
  pub itself : IsMarked marks stream
  pub depend : (s : ℕ) → IsMarked marks s → (s ≡ stream) ⊎ Leads d (d.ints + stream) (d.ints + s)

abbrev pub bare : List Bool → ℕ
bare marks = count_by not marks

-- each equation that names a stream with a mark is for another one with a mark
abbrev pub IsSpread : ProblemDraft → ℕ → List Bool → Type 0
IsSpread d stream marks = (k s p : ℕ) → IsAt d k s p → NamesMarked d marks p → IsMarked marks s × (s ≢ stream)

abbrev pub SpreadsAs : ProblemDraft → ℕ → List Bool → List Bool → Spread → Type 0
SpreadsAs d stream old new Met = Leads d (d.ints + stream) (d.ints + stream)
SpreadsAs d stream old new Moved = bare new < bare old
SpreadsAs d stream old new Rest = IsSpread d stream new
