use Rattle.std.proofs.Common.{◌≡◌, ◌∷◌, [], ◌++◌, map, ap, ◌∙◌}
use Rattle.std.specs.Prelude.{codes}
use Rattle.ag_aadl.specs.Marks.{features_mark, end_name_mark}
use Rattle.ag_print.specs.Written.{with_lines}
use Rattle.ag_print.specs.Canonical.{word, name_at, category_word, semicolon, section, port_line, annex_lines}
use Rattle.ag_print.specs.Shares.{joined}
use Rattle.ag_print.proofs.Writing.{lines_of}
use Rattle.ag_print.proofs.print.write_frame.Goals as goal

pub returns : goal.returns
returns c =
    let frame = c.args.frame.now in
    let head = word (category_word frame.category) ∷ word frame.name.text ∷ [] in
    let end = word (codes "end") ∷ name_at end_name_mark frame.name.text ∷ semicolon in
    let ports = section (name_at features_mark (codes "features")) (map port_line frame.ports) in
    let listed : c.write_ports.new.writer ≡ with_lines c.begin_frame.new.writer ports =
    c.in_ok-write_ports.ensures ∙ ap (λ ps. with_lines c.begin_frame.new.writer (section (name_at features_mark (codes "features")) (map port_line ps))) c.as_slice.ensures in
    let annexes = annex_lines frame.annexes (joined c.args.clauses.now) in
    let annexed : c.write_annexes.new.writer ≡ with_lines c.write_ports.new.writer annexes =
    c.in_ok-write_annexes.ensures ∙ ap (λ ts. with_lines c.write_ports.new.writer (annex_lines ts (joined c.args.clauses.now))) c.as_slice-2.ensures in
    lines_of c.end_frame.result c.args.writer.now c.begin_frame.new.writer c.end_frame.new.writer (head ∷ []) (ports ++ (annexes ++ end ∷ [])) c.in_ok-begin_frame.ensures
    (lines_of c.end_frame.result c.begin_frame.new.writer c.write_ports.new.writer c.end_frame.new.writer ports (annexes ++ end ∷ []) listed
    (lines_of c.end_frame.result c.write_ports.new.writer c.write_annexes.new.writer c.end_frame.new.writer annexes (end ∷ []) annexed c.end_frame.ensures))
