use Rattle.std.proofs.Common.{◌∷◌, [], ◌++◌}
use Rattle.std.specs.Prelude.{codes}
use Rattle.ag_aadl.specs.Marks.{close_mark}
use Rattle.ag_print.specs.Canonical.{word, sign_at, pname_words}
use Rattle.ag_print.proofs.Writing.{line_of}
use Rattle.ag_print.proofs.print.end_package.Goals as goal

pub returns : goal.returns
returns c =
    let own = pname_words c.args.name.now in
    let last = sign_at close_mark (codes ";") ∷ [] in
    line_of c.end_statement.result c.args.writer.now c.name.new.self c.end_statement.new.writer (word (codes "end") ∷ []) (own ++ last) c.in_ok-name.ensures
    (line_of c.end_statement.result c.name.new.self c.write_package_name.new.writer c.end_statement.new.writer own last c.in_ok-write_package_name.ensures c.end_statement.ensures)
