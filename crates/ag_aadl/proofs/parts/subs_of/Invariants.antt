use Rattle.std.proofs.Common.{◌≡◌, ◌++◌, drop, map}
use Rattle.std.specs.List.{filter}
use Rattle.ag_aadl.specs.Marked.{has_mark}
use Rattle.ag_aadl.specs.Marks.{kind_mark}
use Rattle.ag_aadl.specs.Meaning.{sub_of, subs_of}
use Rattle.ag_aadl.proofs.parts.subs_of.Given as goal

abbrev pub invariant-loop-part : goal.invariant-loop-part
invariant-loop-part l = l.subs ++ map (sub_of l.bytes) (filter (has_mark kind_mark) (map (λ p. p.now) (drop l.part-index l.part-items))) ≡ subs_of l.bytes l.marked
