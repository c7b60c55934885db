-- What is said of the file of a name, by what was answered of it.
use Rattle.std.proofs.Common.{◌≡◌, ◌⊎◌, ◌+◌, ◌<◌, ◌≤◌, ℕ, List, length, Option, Some, None, replicate, refl, sym, arith, inl, inr}
use Rattle.std.specs.Prelude.{IsSomeAnd, Ok, Err}
use Rattle.std.proofs.lemmas.List.{length-replicate}
use Rattle.ag_base.specs.declared.outside.FolderFault.{FolderFault}
use Rattle.ag_base.specs.declared.outside.FolderFault.TheVariants as faults
use Rattle.ag_top.specs.Commands.{Grows}
use Rattle.ag_top.specs.Stages.{Partly}
use Rattle.ag_base.specs.declared.limits.Limits.{Limits}
use Rattle.ag_board.specs.Entries.{PlainEntry}
use Rattle.ag_top.specs.Outcome.{IsFileCut, IsNothing, IsTextCut}
use Rattle.ag_top.specs.Files.{Outside, outside, IsAnswerOf, IsFileOf, IsTextOf, IsLineOf, IsUnread, TellsUnread, TellsUnreadPartly}

abbrev Files : Type 0
Files = Option (List ℕ → Option (List ℕ))

file_of_ok : (left : Option (List ℕ)) (files : Files) (name text : List ℕ) → IsAnswerOf (outside left files) name (Ok text) → IsFileOf (outside left files) name (Some text)
file_of_ok None files name text (inl h) = inl (h.0, tt)
file_of_ok (Some all) files name text (inl h) = inl (h.0, sym h.1.0)
file_of_ok left None name text (inr h) = inr (h.0, tt)
file_of_ok left (Some f) name text (inr h) = inr (h.0, sym h.1.0)

-- what was read is the text of the file
pub text_of : (left : Option (List ℕ)) (files : Files) (name text : List ℕ) → IsAnswerOf (outside left files) name (Ok text) → length text ≤ 4194304 → IsTextOf (outside left files) name text
text_of left files name text h few = record { file = file_of_ok left files name text h; few = few }

file_of_absent : (left : Option (List ℕ)) (files : Files) (name : List ℕ) → IsAnswerOf (outside left files) name (Err faults.NotThere) → IsFileOf (outside left files) name None
file_of_absent None files name (inl h) = inl (h.0, tt)
file_of_absent (Some all) files name (inl h) = inl (h.0, sym h.1)
file_of_absent left None name (inr h) = inr (h.0, tt)
file_of_absent left (Some f) name (inr h) = inr (h.0, sym h.1)

-- a text that is too long
abbrev IsLong : (left : Option (List ℕ)) (files : Files) (name : List ℕ) → Type 0
IsLong left files name = (text : List ℕ) × IsFileOf (outside left files) name (Some text) × (4194304 < length text)

-- some text is as long as that
long_text : (n : ℕ) → n ≡ 4194304 → (text : List ℕ) × (4194304 < length text)
long_text n e = (replicate (n + 1) 0, (let l = length-replicate {A = ℕ} (n + 1) 0 in omega (arith, e, l)))

some_long : (o : Option (List ℕ)) → IsSomeAnd o (λ bytes. 4194304 < length bytes) → (text : List ℕ) × (Some text ≡ o) × (4194304 < length text)
some_long None h = absurd h
some_long (Some text) h = (text, refl, h)

long_of : (left : Option (List ℕ)) (files : Files) (name : List ℕ) → IsAnswerOf (outside left files) name (Err faults.TooLong) → IsLong left files name
long_of None files name (inl h) = let t = long_text 4194304 refl in (t.0, inl (h.0, tt), t.1)
long_of (Some all) files name (inl h) = (all, inl (h.0, refl), h.1)
long_of left None name (inr h) = let t = long_text 4194304 refl in (t.0, inr (h.0, tt), t.1)
long_of left (Some f) name (inr h) = let t = some_long (f name) h.1 in (t.0, inr (h.0, t.1), t.2)

-- why it wasn't read is what the line tells
unread_of : (left : Option (List ℕ)) (files : Files) (name : List ℕ) (fault : FolderFault) (line : List ℕ) → IsAnswerOf (outside left files) name (Err fault) → IsLineOf name fault line → IsUnread (outside left files) name line
unread_of left files name faults.NotThere line h l = inl (file_of_absent left files name h, l)
unread_of left files name faults.TooLong line h l = let t = long_of left files name h in inr (t.0, t.1, t.2, l)
unread_of left files name faults.Failed line h l = absurd l
unread_of left files name faults.OutOfMemory line h l = absurd l

pub tells_unread : (left : Option (List ℕ)) (files : Files) (name : List ℕ) (fault : FolderFault) (before now : Option (List ℕ)) → IsAnswerOf (outside left files) name (Err fault)
    → (line : List ℕ) × IsLineOf name fault line × Grows before now line → TellsUnread (outside left files) name before now
tells_unread left files name fault before now h l = (l.0, unread_of left files name fault l.0 h l.1, l.2)

pub tells_partly : (left : Option (List ℕ)) (files : Files) (name : List ℕ) (fault : FolderFault) (before now : Option (List ℕ)) → IsAnswerOf (outside left files) name (Err fault)
    → (line : List ℕ) × IsLineOf name fault line × Partly line before now → TellsUnreadPartly (outside left files) name before now
tells_partly left files name fault before now h l = (l.0, unread_of left files name fault l.0 h l.1, l.2)

-- nothing came of it, or its check was cut short
pub file_cut_of : (l : Limits) (o : Outside) (name text : List ℕ) (history : List PlainEntry) (before now : Option (List ℕ)) → IsTextOf o name text → IsNothing history before now ⊎ IsTextCut l text history before now
    → IsNothing history before now ⊎ IsFileCut l o name history before now
file_cut_of l o name text history before now r (inl h) = inl h
file_cut_of l o name text history before now r (inr h) = inr record { text = text; read = r; cut = h }
