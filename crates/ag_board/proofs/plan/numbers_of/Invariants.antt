use Rattle.std.proofs.Common.{◌≤◌, take, length}
use Rattle.ag_board.specs.Entries.{plain_list}
use Rattle.ag_board.specs.Inside.{problems_in}
use Rattle.ag_board.specs.Planned.{AreNumbered, problems_listed}
use Rattle.ag_board.proofs.plan.numbers_of.Given as goal

-- the list is numbered as far as it went
abbrev pub invariant-loop-problem : goal.invariant-loop-problem
invariant-loop-problem l = AreNumbered (problems_in l.table.entries) (problems_listed (plain_list (take l.problem-index l.problem-items))) l.fresh.entries l.numbers.items × (length l.fresh.entries ≤ l.problem-index)
