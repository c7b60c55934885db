use Rattle.std.proofs.Common.{◌≡◌, ◌==◌, take, ℕ}
use Rattle.std.specs.Prelude.{nat_eq}
use Rattle.std.specs.List.{list_any}
use Rattle.std.specs.HashSet.{contains}
use Rattle.ag_board.proofs.plan.set_of.Given as goal

-- the numbers as far as it went
abbrev pub invariant-loop-number : goal.invariant-loop-number
invariant-loop-number l = (n : ℕ) → contains nat_eq l.set n ≡ list_any (λ m. m == n) (take l.number-index l.numbers)
