-- Vertices that wait.
use Rattle.std.specs.Prelude.{ℕ}

-- of so many vertices so many wait
pub record Queue : Type 0 where
  pub count : ℕ
  pub waiting : ℕ
