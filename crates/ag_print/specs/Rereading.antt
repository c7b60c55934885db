-- What is read from the words of packages, and from the annexes among them.
use Rattle.std.specs.Prelude.{◌≡◌, ℕ, List, [], map, IsTrue}
use Rattle.ag_lex.specs.declared.token.Language.TheVariants.{Aadl}
use Rattle.ag_lex.specs.declared.token.Token.{Token}
use Rattle.ag_lex.specs.Answers.{AreKept}
use Rattle.ag_aadl.specs.declared.marked.Marked.{Marked}
use Rattle.ag_aadl.specs.declared.packages.Package.{Package}
use Rattle.ag_aadl.specs.Files.{IsFile}
use Rattle.ag_aadl.specs.Meaning.{packages_of}
use Rattle.ag_aadl.specs.Rules.{Obeys}
use Rattle.ag_print.specs.Annexes.{Stated, PackagesState}
use Rattle.ag_print.specs.Canonical.{Spelled, canonical_text}
use Rattle.ag_print.specs.Layout.{word_at}
use Rattle.ag_print.specs.Printable.{are_printable}
use Rattle.ag_print.specs.Same.{SamePackages, SameStated}

-- the words stand in a text as these tokens
abbrev pub StandAs : List ℕ → List Token → List Spelled → Type 0
StandAs bytes tokens ws = map (word_at bytes) tokens ≡ map (λ w. w.word) ws

-- the marked tokens break no rule, and declare the packages but for places and annexes
abbrev pub Declare : List ℕ → List Marked → List Package → Type 0
Declare bytes ms packages = Obeys bytes ms × SamePackages (packages_of bytes ms) packages

-- The canonical text of packages as a file: it breaks no rule, and the packages that it declares are the same, are printable,
-- and with the same clauses have the same text.
pub record IsReread (file : ℕ) (packages : List Package) (stated : Stated) (tokens : List Token) (found : List Package) : Type 0 where
  pub kept : AreKept Aadl file [] (canonical_text packages stated) tokens
  pub read : IsFile (canonical_text packages stated) tokens found
  pub same : SamePackages found packages
  pub printable : IsTrue (are_printable found)
  pub again : (others : Stated) → SameStated others stated → canonical_text found others ≡ canonical_text packages stated

-- and the annexes in it state the same clauses
pub record AreStatedAgain (file : ℕ) (packages : List Package) (stated : Stated) : Type 0 where
  pub tokens : List Token
  pub found : List Package
  pub reread : IsReread file packages stated tokens found
  pub found_stated : Stated
  pub state : PackagesState (canonical_text packages stated) found found_stated
  pub same : SameStated found_stated stated
