use Rattle.std.proofs.Common.{◌≡◌, drop}
use Rattle.ag_types.specs.Firsts.{either, mismatches_in, faults_among}
use Rattle.ag_types.specs.Places.{first_broken}
use Rattle.ag_types.proofs.types.+typing.Given as goal

abbrev pub invariant-arguments-loop-arg : goal.invariant-arguments-loop-arg
invariant-arguments-loop-arg l = record {
  mismatched : either l.mismatched (first_broken (mismatches_in l.sight l.left (drop l.arg-index l.args))) ≡ first_broken (mismatches_in l.sight l.inputs l.args);
  broken : either l.broken (first_broken (faults_among l.sight (drop l.arg-index l.args))) ≡ first_broken (faults_among l.sight l.args);
}
