use Rattle.std.proofs.Common.{◌≡◌, drop}
use Rattle.ag_kernel.specs.Sets.{joined}
use Rattle.ag_kernel.proofs.units.join.Given as goal

abbrev pub invariant-loop-lit : goal.invariant-loop-lit
invariant-loop-lit l = record {
  said : joined l.list.lits (drop l.lit-index l.lits) ≡ joined l.fn.list.lits l.lits;
  atoms : l.list.atoms ≡ l.fn.list.atoms;
}
