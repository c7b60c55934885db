use Rattle.std.proofs.Common.{◌≡◌, ◌++◌, drop, map}
use Rattle.std.specs.List.{filter}
use Rattle.ag_aadl.specs.Meaning.{annex_of, annexes_of, is_agree}
use Rattle.ag_aadl.proofs.parts.annexes_of.Given as goal

abbrev pub invariant-loop-part : goal.invariant-loop-part
invariant-loop-part l = l.annexes ++ map (annex_of) (filter (is_agree l.bytes) (map (λ p. p.now) (drop l.part-index l.part-items))) ≡ annexes_of l.bytes l.marked
