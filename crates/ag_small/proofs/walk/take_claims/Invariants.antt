use Rattle.std.proofs.Common.{◌≤◌, ◌-◌, length}
use Rattle.ag_small.proofs.walk.take_claims.Given as goal

abbrev pub invariant-loop-alloc : goal.invariant-loop-alloc
invariant-loop-alloc l = (l.at ≤ l.next) × (l.next ≤ length l.bytes)

abbrev pub decreases-loop-alloc : goal.decreases-loop-alloc
decreases-loop-alloc l = length l.bytes - l.next
