use Rattle.ag_stream.proofs.truth.+truth.Given as goal

abbrev pub decreases-truth : goal.decreases-truth
decreases-truth l = l.part
