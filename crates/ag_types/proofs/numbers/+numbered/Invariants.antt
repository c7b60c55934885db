use Rattle.std.proofs.Common.{◌≡◌, drop}
use Rattle.ag_types.specs.Firsts.{either}
use Rattle.ag_types.specs.Numbered.{constants_among, parts_among}
use Rattle.ag_types.specs.Places.{first_broken}
use Rattle.ag_types.proofs.numbers.+numbered.Given as goal

abbrev pub invariant-arguments-loop-arg : goal.invariant-arguments-loop-arg
invariant-arguments-loop-arg l = record {
  constants : either l.faults.of_constant (first_broken (constants_among l.sight l.values (drop l.arg-index l.args))) ≡ first_broken (constants_among l.sight l.values l.args);
  parts : either l.faults.of_parts (first_broken (parts_among l.sight l.values (drop l.arg-index l.args))) ≡ first_broken (parts_among l.sight l.values l.args);
}
