use Rattle.std.proofs.Common.{◌≡◌, drop}
use Rattle.ag_aadl.specs.Meaning.{is_outward}
use Rattle.ag_aadl.proofs.parts.is_outward.Given as goal

abbrev pub invariant-loop-token : goal.invariant-loop-token
invariant-loop-token l = is_outward (drop l.token-index l.marked) ≡ is_outward l.marked
