use Rattle.std.proofs.Common.{◌≡◌, drop, map}
use Rattle.ag_kernel.specs.Rules.{line_at}
use Rattle.ag_kernel.specs.Units.{conflict_along}
use Rattle.ag_kernel.proofs.units.conflicts_along.Given as goal

abbrev pub invariant-loop-n : goal.invariant-loop-n
invariant-loop-n l = record {
  said : conflict_along l.list.lits (map (λ n. (line_at l.lines n).lits) (drop l.n-index l.named)) ≡ conflict_along l.fn.list.lits (map (λ n. (line_at l.lines n).lits) l.named);
  atoms : l.list.atoms ≡ l.fn.list.atoms;
}
