use Rattle.std.proofs.Common.{◌≡◌, ◌++◌, drop, map}
use Rattle.std.specs.List.{filter}
use Rattle.ag_aadl.specs.Marked.{has_mark}
use Rattle.ag_aadl.specs.Marks.{direction_mark}
use Rattle.ag_aadl.specs.Meaning.{port_of, ports_of}
use Rattle.ag_aadl.proofs.parts.ports_of.Given as goal

abbrev pub invariant-loop-feature : goal.invariant-loop-feature
invariant-loop-feature l = l.ports ++ map (port_of l.bytes) (filter (has_mark direction_mark) (map (λ p. p.now) (drop l.feature-index l.feature-items))) ≡ ports_of l.bytes l.marked
