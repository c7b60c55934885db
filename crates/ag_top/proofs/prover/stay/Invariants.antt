use Rattle.std.proofs.Common.{◌≡◌, replicate}
use Rattle.ag_top.proofs.Tries.{of_flags}
use Rattle.ag_top.proofs.prover.stay.Given as goal

-- the same instant so often
abbrev pub invariant-loop-n : goal.invariant-loop-n
invariant-loop-n l = l.instants ≡ replicate l.n (of_flags l.flags)
