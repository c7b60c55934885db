use Rattle.ag_print.specs.Canonical.{import_line}
use Rattle.ag_print.proofs.Writing.{line_more}
use Rattle.ag_print.proofs.print.write_imports.Goals as goal

pub loop-import-preserved : goal.loop-import-preserved
loop-import-preserved c =
    line_more import_line c.args.imports.now c.loop-import.import-index c.import-item.result _ c.loop-import.writer c.write_import.new.writer c.loop-import-test.true c.import-item.is c.loop-import.invariant c.in_ok-write_import.ensures
