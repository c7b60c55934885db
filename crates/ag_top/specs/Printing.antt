-- What a print of a file promises: the canonical text of the packages that were read and of what their annexes state, or the
-- refusal that the text gets.
use Rattle.std.specs.Prelude.{◌≡◌, ◌⊎◌, [], ℕ, List, Option}
use Rattle.ag_base.specs.declared.place.Refusal.{Refusal}
use Rattle.ag_base.specs.declared.status.Status.{Status}
use Rattle.ag_base.specs.declared.status.Status.TheVariants as statuses
use Rattle.ag_lex.specs.declared.token.Language.TheVariants.{Aadl}
use Rattle.ag_lex.specs.declared.token.Token.{Token}
use Rattle.ag_lex.specs.Rules.{IsFirstBroken}
use Rattle.ag_lex.specs.Answers.{AreKept}
use Rattle.ag_aadl.specs.declared.packages.Package.{Package}
use Rattle.ag_aadl.specs.Files.{IsFile, IsFirstWrong}
use Rattle.ag_print.specs.Annexes.{Stated, PackagesState, IsAnnexRefused}
use Rattle.ag_print.specs.Printed.{IsCanonical}
use Rattle.ag_top.specs.Commands.{Grows}
use Rattle.ag_board.specs.Entries.{PlainEntry}
use Rattle.ag_top.specs.Refusals.{refusal_text}
use Rattle.ag_top.specs.Stages.{Partly}
use Rattle.ag_top.specs.Words.{IsPrint}
use Rattle.ag_top.specs.Files.{Outside, IsTextOf, TellsUnread, TellsUnreadPartly}

-- the text, the one file that is read, breaks no rule of tokens or of the grammar, and these are its packages
pub record Declares (text : List ℕ) (packages : List Package) : Type 0 where
  pub tokens : List Token
  pub kept : AreKept Aadl 0 [] text tokens
  pub file : IsFile text tokens packages

-- the text declares packages, whose annexes state clauses, and this is the canonical text of both
pub record IsPrinted (text printed : List ℕ) : Type 0 where
  pub packages : List Package
  pub declared : Declares text packages
  pub stated : Stated
  pub states : PackagesState text packages stated
  pub canonical : IsCanonical packages stated printed

-- the text breaks no rule of tokens, and this is the first broken rule of the grammar of packages
pub record IsNoFile (text : List ℕ) (r : Refusal) : Type 0 where
  pub tokens : List Token
  pub kept : AreKept Aadl 0 [] text tokens
  pub wrong : IsFirstWrong text tokens r

-- the text declares packages, and this is the first broken rule of their annexes
pub record HasWrongAnnex (text : List ℕ) (r : Refusal) : Type 0 where
  pub packages : List Package
  pub declared : Declares text packages
  pub refused : IsAnnexRefused text packages r

-- The refusal of the text: the first broken rule of the file's tokens, else of the grammar of packages, else of their annexes.
abbrev pub IsPrintRefused : List ℕ → Refusal → Type 0
IsPrintRefused text r = IsFirstBroken Aadl 0 [] text r ⊎ (IsNoFile text r ⊎ HasWrongAnnex text r)

-- a text was printed
pub record IsTextPrinted (text : List ℕ) (history : List PlainEntry) (before now : Option (List ℕ)) : Type 0 where
  pub printed : List ℕ
  pub canonical : IsPrinted text printed
  pub written : Grows before now printed
  pub empty : history ≡ []

-- the print of a text, the file of that name, was refused, and that was written
pub record IsTextUnprinted (name text : List ℕ) (history : List PlainEntry) (before now : Option (List ℕ)) : Type 0 where
  pub refusal : Refusal
  pub refused : IsPrintRefused text refusal
  pub written : Grows before now (refusal_text name refusal)
  pub empty : history ≡ []

-- of what a text's print gives only the first bytes were written: of its canonical text, or of its refusal
abbrev pub IsTextPartlyPrinted : List ℕ → List ℕ → Option (List ℕ) → Option (List ℕ) → Type 0
IsTextPartlyPrinted name text before now =
    ((printed : List ℕ) × IsPrinted text printed × Partly printed before now)
    ⊎ ((r : Refusal) × IsPrintRefused text r × Partly (refusal_text name r) before now)

-- the file of a name was printed
pub record IsFilePrinted (o : Outside) (name : List ℕ) (history : List PlainEntry) (before now : Option (List ℕ)) : Type 0 where
  pub text : List ℕ
  pub read : IsTextOf o name text
  pub print : IsTextPrinted text history before now

-- it isn't read, or its print is refused, and that was written
abbrev pub IsFileUnprinted : Outside → List ℕ → List PlainEntry → Option (List ℕ) → Option (List ℕ) → Type 0
IsFileUnprinted o name history before now =
    (TellsUnread o name before now × (history ≡ []))
    ⊎ ((text : List ℕ) × IsTextOf o name text × IsTextUnprinted name text history before now)

-- of what its print gives only the first bytes were written
abbrev pub IsFilePartlyPrinted : Outside → List ℕ → Option (List ℕ) → Option (List ℕ) → Type 0
IsFilePartlyPrinted o name before now =
    TellsUnreadPartly o name before now ⊎ ((text : List ℕ) × IsTextOf o name text × IsTextPartlyPrinted name text before now)

-- the file that the words name was printed
pub record IsPrintAnswer (words : List (List ℕ)) (o : Outside) (history : List PlainEntry) (status : Status) (before now : Option (List ℕ)) : Type 0 where
  pub name : List ℕ
  pub command : IsPrint words name
  pub good : status ≡ statuses.AllGood
  pub file : IsFilePrinted o name history before now

-- it isn't read, or its print is refused, and that was written
pub record IsPrintRefusal (words : List (List ℕ)) (o : Outside) (history : List PlainEntry) (before now : Option (List ℕ)) : Type 0 where
  pub name : List ℕ
  pub command : IsPrint words name
  pub file : IsFileUnprinted o name history before now

-- of what its print gives only the first bytes were written
pub record IsPrintBroken (words : List (List ℕ)) (o : Outside) (history : List PlainEntry) (before now : Option (List ℕ)) : Type 0 where
  pub name : List ℕ
  pub command : IsPrint words name
  pub file : IsFilePartlyPrinted o name before now
  pub empty : history ≡ []
