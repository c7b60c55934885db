use Rattle.ag_stream.proofs.dependence.+marked.Given as goal

abbrev pub decreases-marked : goal.decreases-marked
decreases-marked l = l.part
