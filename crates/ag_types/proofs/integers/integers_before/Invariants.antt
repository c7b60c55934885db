-- What is still to be counted stands behind what is.
use Rattle.std.proofs.Common.{◌≡◌, ◌≤◌, ◌++◌, drop, map}
use Rattle.ag_types.specs.Numbers.{numbers_from}
use Rattle.ag_types.proofs.integers.integers_before.Given as goal

abbrev pub invariant-loop-stream : goal.invariant-loop-stream
invariant-loop-stream l = record {
  few : l.before ≤ l.stream-index;
  numbers : l.numbers.items ++ numbers_from l.before (map (λ v. v.now) (drop l.stream-index l.streams)) ≡ numbers_from 0 (map (λ v. v.now) l.streams);
}
