-- What is said of the outside.
use Rattle.std.specs.Prelude.{◌≡◌, ◌-◌, ◌^◌, ◌<◌, ◌≤◌, ◌⊎◌, ◌++◌, ℕ, List, length, drop, Option, Some, None, IsSomeAnd, Result, Ok, Err}
use Rattle.ag_base.specs.declared.outside.FolderFault.{FolderFault}
use Rattle.ag_base.specs.declared.outside.FolderFault.TheVariants as faults

-- a count has risen; one that stands at its last value counts as risen
abbrev pub Rose : ℕ → ℕ → Type 0
Rose before now = (before < now) ⊎ (now ≡ 2 ^ 64 - 1)

-- the piece is the front of the bytes, and what is left is the rest of them
pub record Takes (bytes piece : List ℕ) (left : Option (List ℕ)) : Type 0 where
  pub whole : bytes ≡ piece ++ drop (length piece) bytes
  pub rest : left ≡ Some (drop (length piece) bytes)

-- what a folder answers, where this is the file of that name or none
abbrev pub AnswersFile : Option (List ℕ) → Result (List ℕ) FolderFault → Type 0
AnswersFile file (Ok bytes) = (file ≡ Some bytes) × (length bytes ≤ 4194304)
AnswersFile file (Err faults.NotThere) = file ≡ None
AnswersFile file (Err faults.TooLong) = IsSomeAnd file (λ bytes. 4194304 < length bytes)
AnswersFile file (Err faults.Failed) = Unit {0}
AnswersFile file (Err faults.OutOfMemory) = Unit {0}
