use Rattle.std.proofs.Common.{◌≤◌, ◌-◌, length}
use Rattle.ag_small.proofs.walk.take_ports.Given as goal

abbrev pub invariant-loop-seen : goal.invariant-loop-seen
invariant-loop-seen l = (l.at ≤ l.next) × (l.next ≤ length l.bytes)

abbrev pub decreases-loop-seen : goal.decreases-loop-seen
decreases-loop-seen l = length l.bytes - l.next
