use Rattle.std.proofs.Common.{◌≡◌, take, map}
use Rattle.ag_board.specs.Planned.{handled, retired_problem}
use Rattle.ag_board.proofs.plan.handles_of.Given as goal

-- the claims as far as it went
abbrev pub invariant-loop-claim : goal.invariant-loop-claim
invariant-loop-claim l = handled l.handles.items ≡ map (retired_problem l.table.entries l.numbers) (take l.claim-index l.out)
