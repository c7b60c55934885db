use Rattle.std.proofs.Common.{◌≡◌, map, take, Option}
use Rattle.ag_verdict.specs.declared.key.Key.{Key}
use Rattle.ag_verdict.specs.declared.verdict.Verdict.{Verdict}
use Rattle.ag_board.specs.Entries.{plain_lines}
use Rattle.ag_board.specs.Machine.{lines}
use Rattle.ag_board.proofs.board.Board.told.Given as goal

-- the lines as far as it went
abbrev pub invariant-loop-place : goal.invariant-loop-place
invariant-loop-place l = plain_lines l.lines ≡ take l.place (map {B = Key × Option Verdict} (λ x. (x.key, x.verdict)) (lines l.self.state))
