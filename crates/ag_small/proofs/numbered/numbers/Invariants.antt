use Rattle.std.proofs.Common.{◌≡◌, ◌++◌, ◌+◌, drop}
use Rattle.ag_small.specs.Numbered.{numbers_from, claim_parts}
use Rattle.ag_small.proofs.numbered.numbers.Given as goal

abbrev pub invariant-loop-claim : goal.invariant-loop-claim
invariant-loop-claim l =
    (l.numbers ++ numbers_from l.kind l.first (drop l.claim-index l.claims) ≡ numbers_from l.kind 0 l.claims)
    × (l.first + claim_parts (drop l.claim-index l.claims) ≡ claim_parts l.claims)
