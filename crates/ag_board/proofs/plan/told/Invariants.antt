use Rattle.std.proofs.Common.{◌≡◌, take}
use Rattle.ag_board.specs.Planned.{told_cancelled}
use Rattle.ag_board.proofs.plan.told.Given as goal

-- the claims as far as it went
abbrev pub invariant-loop-place : goal.invariant-loop-place
invariant-loop-place l = l.cancelled ≡ told_cancelled (take l.place l.out) (take l.place l.handles)
