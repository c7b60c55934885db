-- Which text a name stands for, and what is written of a file that isn't read.
use Rattle.std.specs.Prelude.{◌≡◌, ◌≢◌, ◌⊎◌, ◌<◌, ◌≤◌, ◌++◌, ℕ, List, length, Option, Some, None, IfSome, Result, codes}
use Rattle.ag_base.specs.declared.outside.FolderFault.{FolderFault}
use Rattle.ag_base.specs.declared.outside.FolderFault.TheVariants as faults
use Rattle.ag_base.specs.Outside.{AnswersFile}
use Rattle.ag_top.specs.Words.{source_name}
use Rattle.ag_top.specs.Commands.{Grows}
use Rattle.ag_top.specs.Stages.{Partly}

-- what a run finds outside: what the source has left, and which files the folder has, where they tell
pub record Outside : Type 0 where
  pub left : Option (List ℕ)
  pub files : Option (List ℕ → Option (List ℕ))

abbrev pub outside : Option (List ℕ) → Option (List ℕ → Option (List ℕ)) → Outside
outside left files = record { left = left; files = files }

-- the file of a name, or that there is none: the source's bytes for its name, else what the folder has
abbrev pub IsFileOf : Outside → List ℕ → Option (List ℕ) → Type 0
IsFileOf o name file =
    ((name ≡ source_name) × IfSome o.left (λ bytes. file ≡ Some bytes))
    ⊎ ((name ≢ source_name) × IfSome o.files (λ files. file ≡ files name))

-- that is answered of the file of a name
abbrev pub IsAnswerOf : Outside → List ℕ → Result (List ℕ) FolderFault → Type 0
IsAnswerOf o name answer =
    ((name ≡ source_name) × IfSome o.left (λ bytes. AnswersFile (Some bytes) answer))
    ⊎ ((name ≢ source_name) × IfSome o.files (λ files. AnswersFile (files name) answer))

-- the file of that name is this text, and isn't too long
pub record IsTextOf (o : Outside) (name text : List ℕ) : Type 0 where
  pub file : IsFileOf o name (Some text)
  pub few : length text ≤ 4194304

-- why a file isn't read, on a line
abbrev pub unread_text : List ℕ → List ℕ → List ℕ
unread_text name cause = codes "refused " ++ name ++ codes " " ++ cause ++ codes "\n"

-- that there is no file of that name
abbrev pub not_there_text : List ℕ → List ℕ
not_there_text name = unread_text name (codes "NotThere")

-- that it is too long
abbrev pub too_long_text : List ℕ → List ℕ
too_long_text name = unread_text name (codes "TooLong")

-- why a file isn't read, as a line: there is none of that name, or it has more than 4,194,304 bytes
abbrev pub IsUnread : Outside → List ℕ → List ℕ → Type 0
IsUnread o name line =
    (IsFileOf o name None × (line ≡ not_there_text name))
    ⊎ ((text : List ℕ) × IsFileOf o name (Some text) × (4194304 < length text) × (line ≡ too_long_text name))

-- the line that tells why a file isn't read, where the model is refused for it
abbrev pub IsLineOf : List ℕ → FolderFault → List ℕ → Type 0
IsLineOf name faults.NotThere line = line ≡ not_there_text name
IsLineOf name faults.TooLong line = line ≡ too_long_text name
IsLineOf name faults.Failed line = ⊥
IsLineOf name faults.OutOfMemory line = ⊥

-- a file isn't read, and the line that tells it was written
abbrev pub TellsUnread : Outside → List ℕ → Option (List ℕ) → Option (List ℕ) → Type 0
TellsUnread o name before now = (line : List ℕ) × IsUnread o name line × Grows before now line

-- only the first bytes of that line were written
abbrev pub TellsUnreadPartly : Outside → List ℕ → Option (List ℕ) → Option (List ℕ) → Type 0
TellsUnreadPartly o name before now = (line : List ℕ) × IsUnread o name line × Partly line before now
