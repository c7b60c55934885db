use Rattle.std.proofs.Common.{◌≡◌, ◌+◌, drop}
use Rattle.ag_small.specs.Numbered.{claim_parts}
use Rattle.ag_small.proofs.numbered.claim_parts.Given as goal

abbrev pub invariant-loop-claim : goal.invariant-loop-claim
invariant-loop-claim l = l.count + claim_parts (drop l.claim-index l.claims) ≡ claim_parts l.claims
