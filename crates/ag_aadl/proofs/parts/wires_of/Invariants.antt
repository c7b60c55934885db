use Rattle.std.proofs.Common.{◌≡◌, ◌++◌, drop, map}
use Rattle.std.specs.List.{filter}
use Rattle.ag_aadl.specs.Marked.{has_mark}
use Rattle.ag_aadl.specs.Marks.{spot_mark}
use Rattle.ag_aadl.specs.Meaning.{wire_of, wires_of}
use Rattle.ag_aadl.proofs.parts.wires_of.Given as goal

abbrev pub invariant-loop-part : goal.invariant-loop-part
invariant-loop-part l = l.wires ++ map (wire_of l.bytes) (filter (has_mark spot_mark) (map (λ p. p.now) (drop l.part-index l.part-items))) ≡ wires_of l.bytes l.marked
