use Rattle.std.proofs.Common.{◌≡◌, take, map}
use Rattle.ag_print.specs.Written.{with_lines}
use Rattle.ag_print.specs.Canonical.{import_line}
use Rattle.ag_print.proofs.print.write_imports.Given as goal

abbrev pub invariant-loop-import : goal.invariant-loop-import
invariant-loop-import l = l.writer ≡ with_lines l.initial.writer (map import_line (take l.import-index l.imports))
