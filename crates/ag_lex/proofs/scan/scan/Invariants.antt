use Rattle.std.proofs.Common.{◌-◌, length}
use Rattle.ag_lex.proofs.Steps.{IsDone}
use Rattle.ag_lex.proofs.scan.scan.Given as goal

abbrev pub invariant-loop-cursor : goal.invariant-loop-cursor
invariant-loop-cursor l = IsDone l.language l.fn.start l.bytes l.cursor l.tokens

abbrev pub decreases-loop-cursor : goal.decreases-loop-cursor
decreases-loop-cursor l = length l.bytes - l.cursor.at
