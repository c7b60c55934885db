-- Why a rule gives no line.
use Rattle.std.specs.Prelude.{◌≡◌, ℕ, List, Option, Some, None, ⊤, nat_le, find}
use Rattle.ag_kernel.specs.declared.line.KernelFault.{KernelFault}
use Rattle.ag_kernel.specs.declared.line.KernelFault.TheVariants as fault

-- the first of these numbers that no line has, where so many lines are there
abbrev pub first_missing : ℕ → List ℕ → Option ℕ
first_missing count named = find (λ n. nat_le count n) named

-- a named line is missing; else the rule's premise fails; else a number leaves 128 bits; or memory is wanting
abbrev pub IsCause : Option ℕ → Type 0 → Type 0 → KernelFault → Type 0
IsCause missing premise fits (fault.NotThere n) = missing ≡ Some n
IsCause missing premise fits fault.NotImplied = (missing ≡ None) × ¬ premise
IsCause missing premise fits fault.Wide = (missing ≡ None) × premise × ¬ fits
IsCause missing premise fits fault.OutOfMemory = ⊤

-- nothing stands in the way
abbrev pub IsAllowed : Option ℕ → Type 0 → Type 0 → Type 0
IsAllowed missing premise fits = (missing ≡ None) × premise × fits
