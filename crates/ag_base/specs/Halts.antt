-- A halt that says yes from some poll on.
use Rattle.std.specs.Prelude.{◌≤◌, ℕ}

-- so many polls are still answered no, and so many were answered yes
pub record Countdown : Type 0 where
  pub left : ℕ
  pub yeses : ℕ

-- no more noes are left, and no fewer yeses were said
pub record IsLater (before now : Countdown) : Type 0 where
  pub left : now.left ≤ before.left
  pub yeses : before.yeses ≤ now.yeses
