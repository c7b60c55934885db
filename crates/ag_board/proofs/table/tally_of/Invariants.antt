use Rattle.std.proofs.Common.{◌≡◌, map, take}
use Rattle.ag_board.specs.Inside.{verdict_at, tally_in}
use Rattle.ag_board.proofs.table.tally_of.Given as goal

-- the tally of the verdicts so far
abbrev pub invariant-loop-number : goal.invariant-loop-number
invariant-loop-number l = l.tally ≡ tally_in l.revision (map (verdict_at l.history.entries l.table.entries) (take l.number-index l.numbers))
