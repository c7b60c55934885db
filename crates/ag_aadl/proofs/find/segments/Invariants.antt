use Rattle.std.proofs.Common.{◌≡◌, ◌≤◌, ◌-◌, drop, take, length, map, reverse}
use Rattle.ag_aadl.specs.Marked.{segments, up_to}
use Rattle.ag_aadl.proofs.find.segments.Given as goal

-- the segments behind are found, and up to the first of them no token has one of the marks
abbrev pub invariant-loop-at : goal.invariant-loop-at
invariant-loop-at l = record {
  ordered : l.at ≤ l.end;
  within : l.end ≤ length l.marked;
  found : map (λ p. p.now) (reverse l.found.items) ≡ segments l.marks (drop l.at l.marked);
  next : take (l.end - l.at) (drop l.at l.marked) ≡ up_to l.marks (drop l.at l.marked);
}

abbrev pub decreases-loop-at : goal.decreases-loop-at
decreases-loop-at l = l.at
