-- The ranges of the limits.
use Rattle.std.specs.Prelude.{◌≤◌, ℕ}

-- each limit is in its range
pub record AreInRange (depth work leaf consistency workers : ℕ) : Type 0 where
  pub some_depth : 1 ≤ depth
  pub depth_most : depth ≤ 30
  pub some_work : 1 ≤ work
  pub work_most : work ≤ 100000
  pub leaf_least : 100 ≤ leaf
  pub leaf_most : leaf ≤ 100000
  pub some_consistency : 1 ≤ consistency
  pub consistency_most : consistency ≤ 30
  pub workers_most : workers ≤ 32
