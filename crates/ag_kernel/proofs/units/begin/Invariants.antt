use Rattle.std.proofs.Common.{◌≡◌, [], map, drop}
use Rattle.ag_query.specs.Meaning.{contrary}
use Rattle.ag_kernel.specs.Sets.{joined}
use Rattle.ag_kernel.proofs.units.begin.Given as goal

abbrev pub invariant-loop-lit : goal.invariant-loop-lit
invariant-loop-lit l = record {
  said : joined l.list.lits (map contrary (drop l.lit-index l.clause)) ≡ joined [] (map contrary l.clause);
  atoms : l.list.atoms ≡ l.fn.list.atoms;
}
