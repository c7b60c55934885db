-- The outside in memory: what is seen of each form, and what each of its calls answers and leaves.
use Rattle.std.specs.Prelude.{◌+◌, ◌-◌, ◌^◌, ◌∷◌, [], ◌==◌, ◌&&◌, ℕ, Bool, true, not, if◌then◌else◌, List, length, min, nat_eq, Option, Some, None}
use Rattle.std.specs.List.{list_any}
use Rattle.std.specs.Cmp.Lexicographic.{pointwise}
use Rattle.ag_base.specs.declared.outside.File.{File}

-- bytes that are left to read, at most `piece` at a call; the numbered calls fail
pub record Supply : Type 0 where
  pub left : List ℕ
  pub piece : ℕ
  pub failing : List ℕ
  pub calls : ℕ
  pub faults : ℕ

-- bytes that were written, and room for more; the numbered calls fail
pub record Store : Type 0 where
  pub written : List ℕ
  pub room : ℕ
  pub failing : List ℕ
  pub calls : ℕ
  pub faults : ℕ

-- files; the numbered calls fail
pub record Shelf : Type 0 where
  pub files : List File
  pub failing : List ℕ
  pub calls : ℕ
  pub faults : ℕ

-- the number of the next call; the last number stands still
abbrev pub next_call : ℕ → ℕ
next_call calls = min (calls + 1) (2 ^ 64 - 1)

-- the next call is one of those that fail
abbrev pub fails_next : List ℕ → ℕ → Bool
fails_next failing calls = list_any (λ n. n == next_call calls) failing

-- one fault more; the last count stands still
abbrev pub one_more : ℕ → ℕ
one_more faults = min (faults + 1) (2 ^ 64 - 1)

-- how many bytes a call gives
abbrev pub given : Supply → ℕ → ℕ
given s room = min s.piece (min room (length s.left))

-- a call takes what there is room for, and fails where it is a numbered one or there is no room for a piece that isn't empty
abbrev pub refuses : Store → List ℕ → Bool
refuses s bytes = if fails_next s.failing s.calls then true else (s.room == 0 && not (length bytes == 0))

-- the first file of that name
abbrev pub file_at : List File → List ℕ → Option (List ℕ)
file_at [] name = None
file_at (f ∷ fs) name = if pointwise nat_eq f.name name then Some f.bytes else file_at fs name
