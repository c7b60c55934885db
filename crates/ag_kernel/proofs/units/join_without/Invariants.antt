use Rattle.std.proofs.Common.{◌≡◌, drop}
use Rattle.ag_kernel.specs.Sets.{joined, without}
use Rattle.ag_kernel.proofs.units.join_without.Given as goal

abbrev pub invariant-loop-lit : goal.invariant-loop-lit
invariant-loop-lit l = record {
  said : joined l.list.lits (without (drop l.lit-index l.lits) l.but) ≡ joined l.fn.list.lits (without l.lits l.but);
  atoms : l.list.atoms ≡ l.fn.list.atoms;
}
