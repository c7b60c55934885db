-- What a run of the program promises, from the words and the bytes that were read to the bytes that were written.
use Rattle.std.specs.Prelude.{◌≡◌, ◌⊎◌, ◌<◌, ◌++◌, ◌∷◌, [], ℕ, List, length, take, All, Option, IfSome}
use Rattle.std.specs.List.{flat_map}
use Rattle.ag_base.specs.declared.place.Place.{Place}
use Rattle.ag_base.specs.declared.status.Status.{Status}
use Rattle.ag_small.specs.declared.package.Package.{Package}
use Rattle.ag_small.specs.Reads.{Reads}
use Rattle.ag_small.specs.Named.{IsTrueOfNamed}
use Rattle.ag_small.specs.Places.{IsPlaceIn}
use Rattle.ag_top.specs.Refusals.{not_built}
use Rattle.ag_base.specs.declared.limits.Limits.{Limits}
use Rattle.ag_board.specs.Entries.{PlainEntry}
use Rattle.ag_board.specs.Machine.{start, state_after, IsLegal, undecided, tally}
use Rattle.ag_top.specs.declared.command.Command.{Command}
use Rattle.ag_top.specs.Keeping.{listed}
use Rattle.ag_top.specs.Stages.{Partly}
use Rattle.ag_top.specs.Printing.{IsPrintBroken}
use Rattle.ag_top.specs.Words.{IsCheck, IsCommand, usage_text}
use Rattle.ag_top.specs.Files.{Outside, IsTextOf, TellsUnread, TellsUnreadPartly}
use Rattle.ag_top.specs.Commands.{starting, progress_all, editing, IsUsual, check, Said, Accepted, AllSettled, Told, Shut, text_of, listed_of, Serves, IsBegun, IsToldOf, Grows, status_by}

-- the replies, one after another
abbrev pub text_all : Limits → List Said → List ℕ
text_all l said = flat_map (text_of l) said

-- each verdict that is told is true of its key's problem, and of what the key says of the package by name
abbrev pub IsTruly : Limits → Said → Type 0
IsTruly l (Accepted r) = Unit {0}
IsTruly l (AllSettled n) = Unit {0}
IsTruly l (Told p n lines) =
    All (IsToldOf (listed_of l p)) lines × All (λ line. IfSome line.1 (λ v. IsTrueOfNamed p l.consistency line.0 v)) lines
IsTruly l (Shut t) = Unit {0}

-- What a check promises: the replies are those of one legal history that holds the commands once each; what they tell is true; after
-- the close each obligation has a verdict, and no other key has; the status is that of the verdicts
pub record IsChecked (l : Limits) (p : Package) (history : List PlainEntry) (said : List Said) (status : Status) : Type 0 where
  pub legal : IsLegal history
  pub commands : Serves (editing l) (starting p) check history said
  pub truly : All (IsTruly l) said
  pub keys : listed (state_after start history) ≡ listed_of l p
  pub decided : undecided (state_after start history) ≡ 0
  pub by_verdicts : status ≡ status_by (tally (state_after start history))

-- A check that was cut short: the first commands were served, and what is told of them is true; the entries behind theirs are
-- those with which the next command was begun.
pub record IsCutShort (l : Limits) (p : Package) (history : List PlainEntry) (said : List Said) : Type 0 where
  pub legal : IsLegal history
  pub done : List Command
  pub next : Command
  pub later : List Command
  pub all : check ≡ done ++ next ∷ later
  pub served : List PlainEntry
  pub begun : List PlainEntry
  pub whole : history ≡ served ++ begun
  pub commands : Serves (editing l) (starting p) done served said
  pub truly : All (IsTruly l) said
  pub opening : IsBegun (editing l) (progress_all (starting p) done) next begun

-- the check of a package was answered, and what is said of it was written
pub record IsCheckAnswer (l : Limits) (p : Package) (history : List PlainEntry) (status : Status) (before now : Option (List ℕ)) : Type 0 where
  pub said : List Said
  pub checked : IsChecked l p history said status
  pub written : Grows before now (text_all l said)

-- it was cut short, and what is said of the first commands was written
pub record IsCheckCut (l : Limits) (p : Package) (history : List PlainEntry) (before now : Option (List ℕ)) : Type 0 where
  pub said : List Said
  pub cut : IsCutShort l p history said
  pub written : Grows before now (text_all l said)

-- the first commands were served, and what is said of the last of them was written in part
pub record IsCheckBroken (l : Limits) (p : Package) (history : List PlainEntry) (before now : Option (List ℕ)) : Type 0 where
  pub legal : IsLegal history
  pub done : List Command
  pub ahead : List Command
  pub all : check ≡ done ++ ahead
  pub said : List Said
  pub last : Said
  pub commands : Serves (editing l) (starting p) done history (said ++ last ∷ [])
  pub truly : All (IsTruly l) (said ++ last ∷ [])
  pub taken : ℕ
  pub short : taken < length (text_of l last)
  pub written : Grows before now (text_all l said ++ take taken (text_of l last))

-- no entry was made, and nothing was written
pub record IsNothing (history : List PlainEntry) (before now : Option (List ℕ)) : Type 0 where
  pub empty : history ≡ []
  pub unwritten : now ≡ before

-- a text is a package, whose check was answered
pub record IsTextAnswer (l : Limits) (text : List ℕ) (history : List PlainEntry) (status : Status) (before now : Option (List ℕ)) : Type 0 where
  pub declared : Package
  pub reads : Reads text declared
  pub answer : IsCheckAnswer l declared history status before now

-- a text is a package, whose check was cut short
pub record IsTextCut (l : Limits) (text : List ℕ) (history : List PlainEntry) (before now : Option (List ℕ)) : Type 0 where
  pub declared : Package
  pub reads : Reads text declared
  pub cut : IsCheckCut l declared history before now

-- a text is no package of the grammar, and that was written, with a place in the text
pub record IsTextRefused (name text : List ℕ) (history : List PlainEntry) (before now : Option (List ℕ)) : Type 0 where
  pub none : (p : Package) → Reads text p → ⊥
  pub place : Place
  pub inside : IsPlaceIn text place
  pub written : Grows before now (not_built name place)
  pub empty : history ≡ []

-- of what a text gives only the first bytes were written: of its check, or of its refusal
abbrev pub IsTextBroken : Limits → List ℕ → List ℕ → List PlainEntry → Option (List ℕ) → Option (List ℕ) → Type 0
IsTextBroken l name text history before now =
    ((p : Package) × Reads text p × IsCheckBroken l p history before now)
    ⊎ (((p : Package) → Reads text p → ⊥) × ((place : Place) × IsPlaceIn text place × Partly (not_built name place) before now) × (history ≡ []))

-- the file of a name is a package, whose check was answered
pub record IsFileAnswer (l : Limits) (o : Outside) (name : List ℕ) (history : List PlainEntry) (status : Status) (before now : Option (List ℕ)) : Type 0 where
  pub text : List ℕ
  pub read : IsTextOf o name text
  pub answer : IsTextAnswer l text history status before now

-- it is a package, whose check was cut short
pub record IsFileCut (l : Limits) (o : Outside) (name : List ℕ) (history : List PlainEntry) (before now : Option (List ℕ)) : Type 0 where
  pub text : List ℕ
  pub read : IsTextOf o name text
  pub cut : IsTextCut l text history before now

-- it isn't read, or is no package of the grammar, and that was written
abbrev pub IsFileRefused : Outside → List ℕ → List PlainEntry → Option (List ℕ) → Option (List ℕ) → Type 0
IsFileRefused o name history before now =
    (TellsUnread o name before now × (history ≡ []))
    ⊎ ((text : List ℕ) × IsTextOf o name text × IsTextRefused name text history before now)

-- of what it gives only the first bytes were written
abbrev pub IsFileBroken : Limits → Outside → List ℕ → List PlainEntry → Option (List ℕ) → Option (List ℕ) → Type 0
IsFileBroken l o name history before now =
    (TellsUnreadPartly o name before now × (history ≡ []))
    ⊎ ((text : List ℕ) × IsTextOf o name text × IsTextBroken l name text history before now)

-- the words are no command: the usage is written
pub record IsUsage (words : List (List ℕ)) (history : List PlainEntry) (before now : Option (List ℕ)) : Type 0 where
  pub other : IsCommand words → ⊥
  pub written : Grows before now usage_text
  pub empty : history ≡ []

-- the file that the words name is a package, whose check was answered
pub record IsAnswer (words : List (List ℕ)) (o : Outside) (history : List PlainEntry) (status : Status) (before now : Option (List ℕ)) : Type 0 where
  pub name : List ℕ
  pub command : IsCheck words name
  pub limits : Limits
  pub usual : IsUsual limits
  pub file : IsFileAnswer limits o name history status before now

-- its check was cut short
pub record IsUnfinished (words : List (List ℕ)) (o : Outside) (history : List PlainEntry) (before now : Option (List ℕ)) : Type 0 where
  pub name : List ℕ
  pub command : IsCheck words name
  pub limits : Limits
  pub usual : IsUsual limits
  pub file : IsFileCut limits o name history before now

-- it isn't read, or is no package of the grammar, and that was written
pub record IsRefusal (words : List (List ℕ)) (o : Outside) (history : List PlainEntry) (before now : Option (List ℕ)) : Type 0 where
  pub name : List ℕ
  pub command : IsCheck words name
  pub file : IsFileRefused o name history before now

-- of what its check gives only the first bytes were written
pub record IsAnswerBroken (words : List (List ℕ)) (o : Outside) (history : List PlainEntry) (before now : Option (List ℕ)) : Type 0 where
  pub name : List ℕ
  pub command : IsCheck words name
  pub limits : Limits
  pub usual : IsUsual limits
  pub file : IsFileBroken limits o name history before now

-- of what the words ask for only the first bytes were written
abbrev pub IsBroken : List (List ℕ) → Outside → List PlainEntry → Option (List ℕ) → Option (List ℕ) → Type 0
IsBroken words o history before now =
    ((IsCommand words → ⊥) × Partly usage_text before now × (history ≡ []))
    ⊎ (IsAnswerBroken words o history before now ⊎ IsPrintBroken words o history before now)
