use Rattle.std.proofs.Common.{◌≡◌, take}
use Rattle.ag_report.specs.Texts.{labels}
use Rattle.ag_report.proofs.key.labels_of.Given as goal

abbrev pub invariant-loop-claim : goal.invariant-loop-claim
invariant-loop-claim l = l.found ≡ labels l.kind (take l.claim-index l.claims)
