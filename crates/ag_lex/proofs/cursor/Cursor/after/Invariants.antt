use Rattle.std.proofs.Common.{◌≡◌, ◌≤◌, ◌+◌, List, ℕ, take, ◌++◌}
use Rattle.ag_lex.specs.Places.{place_of}
use Rattle.ag_lex.proofs.cursor.Cursor.after.Given as goal

-- the place behind the bytes so far
pub record Moved (placed : Type 0) (line column at first_line first_column : ℕ) : Type 0 where
  pub placed_so : placed
  pub lines : line ≤ first_line + at
  pub columns : column ≤ first_column + at

abbrev pub invariant-loop-byte : goal.invariant-loop-byte
invariant-loop-byte l =
    Moved ((before : List ℕ) → l.self.place ≡ place_of l.self.place.file before → l.place ≡ place_of l.self.place.file (before ++ take l.byte-index l.over))
    l.place.line l.place.column l.byte-index l.self.place.line l.self.place.column
