use Rattle.std.proofs.Common.{◌≡◌, take}
use Rattle.ag_board.proofs.entry.Published.share.Given as goal

-- the claims as far as it went
abbrev pub invariant-loop-claim : goal.invariant-loop-claim
invariant-loop-claim l = l.cancelled ≡ take l.claim-index l.claim-items
