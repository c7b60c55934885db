use Rattle.std.proofs.Common.{◌≡◌, drop}
use Rattle.ag_names.specs.Names.{compare_names}
use Rattle.ag_names.proofs.name.compare.Given as goal

abbrev pub invariant-loop-x : goal.invariant-loop-x
invariant-loop-x l = compare_names (drop l.x-index l.a) l.left ≡ compare_names l.fn.a l.fn.b
