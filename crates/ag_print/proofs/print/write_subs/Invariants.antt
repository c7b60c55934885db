use Rattle.std.proofs.Common.{◌≡◌, take, map}
use Rattle.ag_print.specs.Written.{with_lines}
use Rattle.ag_print.specs.Canonical.{sub_line}
use Rattle.ag_print.proofs.print.write_subs.Given as goal

abbrev pub invariant-loop-sub : goal.invariant-loop-sub
invariant-loop-sub l = l.writer ≡ with_lines l.initial.writer (map sub_line (take l.sub-index l.subs))
