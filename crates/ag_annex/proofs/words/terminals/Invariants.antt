use Rattle.std.proofs.Common.{◌≡◌, take}
use Rattle.ag_annex.specs.Words.{terminals_of}
use Rattle.ag_annex.proofs.words.terminals.Given as goal

abbrev pub invariant-loop-token : goal.invariant-loop-token
invariant-loop-token l = l.terminals.items ≡ terminals_of l.bytes (take l.token-index l.tokens)
