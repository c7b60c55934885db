-- Causes of a fault, one from another.
use Rattle.std.proofs.Common.{◌≡◌, ℕ, Option, None, Some}
use Rattle.ag_kernel.specs.declared.line.KernelFault.{KernelFault}
use Rattle.ag_kernel.specs.declared.line.KernelFault.TheVariants as fault
use Rattle.ag_kernel.specs.Faults.{IsCause}

pub cause_weaker : (missing : Option ℕ) (P fits fits' : Type 0) (e : KernelFault) → (fits' → fits) → IsCause missing P fits e → IsCause missing P fits' e
cause_weaker missing P fits fits' (fault.NotThere n) f h = h
cause_weaker missing P fits fits' fault.NotImplied f h = h
cause_weaker missing P fits fits' fault.Wide f h = (h.0, h.1, λ g. h.2 (f g))
cause_weaker missing P fits fits' fault.OutOfMemory f h = h

-- a number that is too wide, where the lines are there and the premise holds
pub cause_within : (missing : Option ℕ) (P fits : Type 0) (e : KernelFault) → missing ≡ None → P → IsCause None (Unit {0}) fits e → IsCause missing P fits e
cause_within missing P fits (fault.NotThere n) m p h = absurd (apart n h)
  where
    apart : (n : ℕ) → None ≡ Some n → ⊥
    apart n h = cc
cause_within missing P fits fault.NotImplied m p h = absurd (h.1 tt)
cause_within missing P fits fault.Wide m p h = (m, p, h.2)
cause_within missing P fits fault.OutOfMemory m p h = tt
