use Rattle.std.proofs.Common.{◌≡◌, ◌++◌, length}
use Rattle.ag_aadl.specs.Meaning.{joined}
use Rattle.ag_aadl.proofs.idents.joined.Given as goal

abbrev pub invariant-loop-part : goal.invariant-loop-part
invariant-loop-part l = l.text.items ++ joined l.bytes l.left ≡ joined l.bytes l.parts

abbrev pub decreases-loop-part : goal.decreases-loop-part
decreases-loop-part l = length l.left
