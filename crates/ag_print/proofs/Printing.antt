-- What is printed reads again.
use Rattle.std.proofs.Common.{◌≡◌, ℕ, List, Result, Ok, Err, IfOk}
use Rattle.ag_base.specs.declared.place.Refused.{Refused}
use Rattle.ag_lex.specs.declared.token.Token.{Token}
use Rattle.ag_aadl.specs.declared.packages.Package.{Package}
use Rattle.ag_print.specs.Annexes.{Stated, PackagesState}
use Rattle.ag_print.specs.Canonical.{canonical_text}
use Rattle.ag_print.specs.Printable.{StatedMayBePrinted}
use Rattle.ag_print.specs.Printed.{AllShallow, IsCanonical}
use Rattle.ag_print.specs.Rereading.{IsReread, AreStatedAgain}

pub printed-reads : (bytes : List ℕ) (packages : List Package) (result : Result (List ℕ) Refused)
    → IfOk result (λ text. (stated : Stated) × PackagesState bytes packages stated × (text ≡ canonical_text packages stated))
    → ((stated : Stated) → PackagesState bytes packages stated → StatedMayBePrinted packages stated)
    → ((file : ℕ) (stated : Stated) → StatedMayBePrinted packages stated → (tokens : List Token) × (found : List Package) × IsReread file packages stated tokens found)
    → ((file : ℕ) (stated : Stated) → StatedMayBePrinted packages stated → AllShallow stated → AreStatedAgain file packages stated)
    → IfOk result (λ text. (stated : Stated) × PackagesState bytes packages stated × IsCanonical packages stated text)
printed-reads bytes packages (Ok text) told may rereads restate = (
  told.0,
  told.1,
  record { told = told.2; again = λ file. rereads file told.0 (may told.0 told.1); clauses = λ shallow file. restate file told.0 (may told.0 told.1) shallow },
)
printed-reads bytes packages (Err e) told may rereads restate = tt
