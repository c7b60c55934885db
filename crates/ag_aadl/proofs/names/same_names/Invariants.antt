use Rattle.std.proofs.Common.{◌≡◌, drop}
use Rattle.ag_aadl.specs.Rules.{same_names}
use Rattle.ag_aadl.proofs.names.same_names.Given as goal

-- the parts before are the same
abbrev pub invariant-loop-at : goal.invariant-loop-at
invariant-loop-at l = same_names l.bytes (drop l.at l.names) (drop l.at l.others) ≡ same_names l.bytes l.names l.others
