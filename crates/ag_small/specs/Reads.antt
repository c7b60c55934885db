-- What it is to read a package.
use Rattle.std.specs.Prelude.{◌≡◌, ℕ, List, Result, Ok, Err, IsTrue}
use Rattle.std.specs.List.{list_all}
use Rattle.ag_small.specs.declared.package.Package.{Package}
use Rattle.ag_small.specs.declared.package.ReadFault.{ReadFault}
use Rattle.ag_small.specs.declared.package.ReadFault.TheVariants.{NotBuilt, OutOfMemory}
use Rattle.ag_small.specs.Characters.{is_space}
use Rattle.ag_small.specs.Grammar.{Spells, package_text}
use Rattle.ag_small.specs.Rules.{IsWellFormed}

-- the bytes spell the package's terminals with white space behind them, and the package keeps the rules
pub record Reads (bytes : List ℕ) (p : Package) : Type 0 where
  pub end : List ℕ
  pub spelled : Spells (package_text p) bytes end
  pub white : IsTrue (list_all is_space end)
  pub kept : IsWellFormed p

-- the answer is this package, or memory was wanting
abbrev pub IsReadUnlessMemory : Result Package ReadFault → Package → Type 0
IsReadUnlessMemory (Ok q) p = q ≡ p
IsReadUnlessMemory (Err OutOfMemory) p = Unit {0}
IsReadUnlessMemory (Err NotBuilt) p = ⊥
