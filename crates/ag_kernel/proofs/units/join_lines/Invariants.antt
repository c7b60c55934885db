use Rattle.std.proofs.Common.{◌≡◌, drop, []}
use Rattle.std.specs.List.{flat_map}
use Rattle.ag_kernel.specs.Rules.{line_at}
use Rattle.ag_kernel.specs.Sets.{joined}
use Rattle.ag_kernel.proofs.units.join_lines.Given as goal

abbrev pub invariant-loop-n : goal.invariant-loop-n
invariant-loop-n l = record {
  said : joined l.list.lits (flat_map (λ p. (line_at l.lines p.0).lits) (drop l.n-index l.parts)) ≡ joined [] (flat_map (λ p. (line_at l.lines p.0).lits) l.parts);
  atoms : l.list.atoms ≡ l.fn.list.atoms;
}
