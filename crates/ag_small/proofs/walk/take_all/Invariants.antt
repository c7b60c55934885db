use Rattle.std.proofs.Common.{◌≤◌, length}
use Rattle.ag_small.proofs.walk.take_all.Given as goal

abbrev pub invariant-loop-text : goal.invariant-loop-text
invariant-loop-text l = (l.at ≤ l.next) × (l.next ≤ length l.bytes)
