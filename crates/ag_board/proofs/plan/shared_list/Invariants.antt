use Rattle.std.proofs.Common.{◌≡◌, take}
use Rattle.ag_board.specs.Entries.{plain_list}
use Rattle.ag_board.proofs.plan.shared_list.Given as goal

-- the list as far as it went
abbrev pub invariant-loop-place : goal.invariant-loop-place
invariant-loop-place l = plain_list l.shared ≡ plain_list (take l.place l.list)
