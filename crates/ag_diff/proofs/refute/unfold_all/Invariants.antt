use Rattle.std.proofs.Common.{◌≡◌, ◌<◌, length, map, take, All}
use Rattle.ag_kernel.specs.Theories.{HasGrown}
use Rattle.ag_diff.specs.Unfolding.{named, unfolded_once}
use Rattle.ag_diff.proofs.refute.unfold_all.Given as goal

abbrev pub invariant-loop-edge : goal.invariant-loop-edge
invariant-loop-edge l = record {
  atoms : l.kernel.atoms ≡ l.fn.kernel.atoms;
  grown : HasGrown l.fn.kernel l.kernel;
  there : All (λ p. p.0 < length l.kernel.lines) l.parts.items;
  lines : map (named l.kernel.lines) l.parts.items ≡ map (unfolded_once l.fn.kernel.atoms) (take l.edge-index l.cycle);
}
