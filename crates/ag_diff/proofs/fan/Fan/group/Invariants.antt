use Rattle.std.proofs.Common.{◌≡◌, length}
use Rattle.ag_diff.specs.Fans.{AreBelow, AreBefore}
use Rattle.ag_diff.proofs.fan.Fan.group.Given as goal

abbrev pub invariant-loop-place : goal.invariant-loop-place
invariant-loop-place l = record {
  vertices : length l.last.items ≡ l.vertices;
  edges : length l.before.items ≡ l.place;
  below : AreBelow l.place l.last.items;
  before : AreBefore l.before.items;
}
