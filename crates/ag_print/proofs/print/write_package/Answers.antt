use Rattle.std.proofs.Common.{◌≡◌, ◌∷◌, [], ◌++◌, map, ap, ◌∙◌}
use Rattle.std.specs.Prelude.{codes}
use Rattle.ag_aadl.specs.Marks.{end_mark, close_mark}
use Rattle.ag_print.specs.Written.{with_lines}
use Rattle.ag_print.specs.Canonical.{word, name_at, sign_at, pname_words, import_line, items_lines}
use Rattle.ag_print.specs.Shares.{items_share}
use Rattle.ag_print.proofs.Writing.{lines_both}
use Rattle.ag_print.proofs.print.write_package.Goals as goal

pub returns-clause-written : goal.returns-clause-written
returns-clause-written c =
    let own = c.args.package.now in
    let imports = map import_line own.imports in
    let stated = items_share own.items c.args.clauses.now in
    let items = items_lines own.items stated in
    let first = word (codes "package") ∷ pname_words own.name in
    let last = name_at end_mark (codes "end") ∷ (pname_words own.name ++ sign_at close_mark (codes ";") ∷ []) in
    let public = word (codes "public") ∷ [] in
    let begun = c.begin_package.new.writer in
    let opened = c.write_heading.new.writer in
    let of_imports : c.write_imports.new.writer ≡ with_lines opened imports =
    c.in_ok-write_imports.ensures ∙ ap (λ is. with_lines opened (map import_line is)) c.as_slice.ensures in
    let of_items : c.write_items.new.writer ≡ with_lines c.write_imports.new.writer items =
    c.in_ok-rest.ensures.written ∙ ap (λ is. with_lines c.write_imports.new.writer (items_lines is (items_share is c.args.clauses.now))) c.as_slice-2.ensures in
    let head = lines_both c.args.writer.now begun opened (first ∷ []) (public ∷ []) c.in_ok-begin_package.ensures c.in_ok-write_heading.ensures in
    lines_both c.args.writer.now opened c.end_package.new.writer (first ∷ public ∷ []) (imports ++ (items ++ last ∷ [])) head
    (lines_both opened c.write_imports.new.writer c.end_package.new.writer imports (items ++ last ∷ []) of_imports
    (lines_both c.write_imports.new.writer c.write_items.new.writer c.end_package.new.writer items (last ∷ []) of_items c.in_ok-end_package.ensures))
