use Rattle.std.proofs.Common.{◌≡◌, ◌+◌, drop}
use Rattle.ag_annex.specs.Annexes.{close_at}
use Rattle.ag_annex.proofs.ends.close_at.Given as goal

abbrev pub invariant-loop-at : goal.invariant-loop-at
invariant-loop-at l = close_at l.bytes ≡ l.at + close_at (drop l.at l.bytes)
