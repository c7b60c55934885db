-- The limits as numbers.
use Rattle.std.specs.Prelude.{◌≡◌, ℕ}
use Rattle.ag_base.specs.declared.limits.Limits.{Limits}

-- the limits are these numbers
pub record IsLimits (l : Limits) (depth work leaf consistency workers : ℕ) : Type 0 where
  pub of_depth : l.depth ≡ depth
  pub of_work : l.work ≡ work
  pub of_leaf : l.leaf ≡ leaf
  pub of_consistency : l.consistency ≡ consistency
  pub of_workers : l.workers ≡ workers
