use Rattle.std.proofs.Common.{◌≡◌, take}
use Rattle.ag_board.specs.Entries.{plain_lines}
use Rattle.ag_board.proofs.entry.Report.share.Given as goal

-- the lines as far as it went
abbrev pub invariant-loop-key : goal.invariant-loop-key
invariant-loop-key l = plain_lines l.lines ≡ plain_lines (take l.key-index l.key-items)
