use Rattle.std.proofs.Common.{length}
use Rattle.ag_top.proofs.prover.+try_free.Given as goal

abbrev pub decreases-try_free : goal.decreases-try_free
decreases-try_free l = length l.free.now
