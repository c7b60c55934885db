use Rattle.std.proofs.Common.{◌≡◌, length, drop}
use Rattle.std.specs.List.{flat_map}
use Rattle.ag_small.specs.Grammar.{claim_text}
use Rattle.ag_small.specs.Reading.{left_of}
use Rattle.ag_small.proofs.rules.behind_claims.Given as goal

abbrev pub invariant-loop-claim : goal.invariant-loop-claim
invariant-loop-claim l = left_of l.left (length (flat_map claim_text (drop l.claim-index l.claims))) ≡ left_of l.tokens (length (flat_map claim_text l.claims))
