-- What a print answers.
use Rattle.std.specs.Prelude.{◌≡◌, ℕ, List, []}
use Rattle.std.specs.List.{All}
use Rattle.ag_lex.specs.declared.token.Language.TheVariants.{Aadl}
use Rattle.ag_lex.specs.declared.token.Token.{Token}
use Rattle.ag_lex.specs.Answers.{AreKept}
use Rattle.ag_aadl.specs.declared.packages.Package.{Package}
use Rattle.ag_aadl.specs.Files.{IsFile}
use Rattle.ag_unparse.specs.Depth.{AreShallow}
use Rattle.ag_print.specs.Annexes.{Stated}
use Rattle.ag_print.specs.Canonical.{canonical_text}
use Rattle.ag_print.specs.Rereading.{IsReread, AreStatedAgain}

-- a file of these bytes breaks no rule and declares the packages
pub record IsReadOf (bytes : List ℕ) (packages : List Package) : Type 0 where
  pub file : ℕ
  pub tokens : List Token
  pub kept : AreKept Aadl file [] bytes tokens
  pub read : IsFile bytes tokens packages

-- no level of the canonical text of any clause passes the limit
abbrev pub AllShallow : Stated → Type 0
AllShallow stated = All (All AreShallow) stated

-- This is the canonical text of the packages and of what their annexes state. It reads again as the same packages. Its annexes
-- state the same clauses again, if no level of their text passes the limit.
pub record IsCanonical (packages : List Package) (stated : Stated) (text : List ℕ) : Type 0 where
  pub told : text ≡ canonical_text packages stated
  pub again : (file : ℕ) → (tokens : List Token) × (found : List Package) × IsReread file packages stated tokens found
  pub clauses : AllShallow stated → (file : ℕ) → AreStatedAgain file packages stated
