use Rattle.std.proofs.Common.{◌≤◌}
use Rattle.ag_board.specs.Machine.{undecided}
use Rattle.ag_top.specs.Commands.{editing}
use Rattle.ag_top.specs.Keeping.{IsIdle, KeepsKeys, weight}
use Rattle.ag_top.specs.Stages.{Decides}
use Rattle.ag_top.proofs.settle.settle.Given as goal

-- decisions were made so far, and the store waits for the next
abbrev pub invariant-loop : goal.invariant-loop
invariant-loop l =
    record {
      decides : Decides (editing l.fn.limits) l.fn.board.history l.board.history;
      idle : IsIdle l.board;
      same : KeepsKeys l.fn.board.state l.board.state;
      lighter : weight l.board ≤ weight l.fn.board;
    }

abbrev pub decreases-loop : goal.decreases-loop
decreases-loop l = undecided l.board.state
