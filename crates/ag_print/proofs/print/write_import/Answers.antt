use Rattle.std.proofs.Common.{◌∷◌, [], ◌++◌}
use Rattle.std.specs.Prelude.{codes}
use Rattle.ag_print.specs.Canonical.{word, pname_words, semicolon}
use Rattle.ag_print.proofs.Writing.{line_of}
use Rattle.ag_print.proofs.print.write_import.Goals as goal

pub returns : goal.returns
returns c =
    let own = pname_words c.args.import.now in
    line_of c.end_statement.result c.args.writer.now c.name.new.self c.end_statement.new.writer (word (codes "with") ∷ []) (own ++ semicolon) c.in_ok-name.ensures
    (line_of c.end_statement.result c.name.new.self c.write_package_name.new.writer c.end_statement.new.writer own semicolon c.in_ok-write_package_name.ensures c.end_statement.ensures)
