-- How far a session has come.
use Rattle.std.proofs.Common.{◌≡◌, ◌<◌, Result, Ok, Err, OnOk, ℕ, zero, suc, Some, refl, ap, arith}
use Rattle.ag_small.specs.declared.package.Package.{Package}
use Rattle.ag_top.specs.Commands.{Progress}
use Rattle.ag_top.specs.Sessions.{accepted_at}

-- with a revision the package is accepted
pub accepted_some : (n : ℕ) (p : Package) → 0 < n → accepted_at n p ≡ Some p
accepted_some zero p l = absurd (omega (arith, l))
accepted_some (suc n) p l = refl

abbrev progress_by : Package → ℕ → Progress
progress_by p n = record { staged = p; accepted = accepted_at n p; revision = n }

pub same_progress : (p : Package) (m n : ℕ) → m ≡ n → progress_by p m ≡ progress_by p n
same_progress p m n e = ap (progress_by p) e

-- what holds whatever the result is
pub whatever : {A E : Type 0} {P : Type 0} (r : Result A E) → P → OnOk r P
whatever (Ok a) p = p
whatever (Err e) p = tt
