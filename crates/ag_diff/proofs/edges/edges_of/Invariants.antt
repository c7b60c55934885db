use Rattle.std.proofs.Common.{◌≡◌, ℕ, ℤ, pos, All, take}
use Rattle.std.specs.Prelude.{Contains}
use Rattle.ag_kernel.specs.Theories.{RowIsAsSaid}
use Rattle.ag_diff.specs.Edges.{IsSaid, HoldsAt}
use Rattle.ag_diff.proofs.edges.edges_of.Given as goal

abbrev pub invariant-loop-lit : goal.invariant-loop-lit
invariant-loop-lit l = record {
  said : All (IsSaid l.query.vars l.query.atoms) l.edges.items;
  lits : All (λ e. Contains l.lits e.lit) l.edges.items;
  whole : (x : ℕ → ℤ) → x l.query.vars ≡ pos 0 → All (HoldsAt x) l.edges.items → All (RowIsAsSaid l.query.atoms x) (take l.lit-index l.lits);
}
