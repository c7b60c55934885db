use Rattle.std.proofs.Common.{◌≡◌, ◌∷◌, [], ◌++◌, map, ap, ◌∙◌}
use Rattle.std.specs.Prelude.{codes}
use Rattle.ag_aadl.specs.Marks.{subcomponents_mark, connections_mark, end_owner_mark, end_name_mark}
use Rattle.ag_print.specs.Written.{with_lines}
use Rattle.ag_print.specs.Canonical.{word, name_at, sign, category_word, semicolon, section, sub_line, wire_line, annex_lines}
use Rattle.ag_print.specs.Shares.{joined}
use Rattle.ag_print.proofs.Writing.{lines_of}
use Rattle.ag_print.proofs.print.write_body.Goals as goal

pub returns : goal.returns
returns c =
    let body = c.args.body.now in
    let head = word (category_word body.category) ∷ word (codes "implementation") ∷ word body.frame.text ∷ sign (codes ".") ∷ word body.name.text ∷ [] in
    let end = word (codes "end") ∷ name_at end_owner_mark body.frame.text ∷ sign (codes ".") ∷ name_at end_name_mark body.name.text ∷ semicolon in
    let subs = section (name_at subcomponents_mark (codes "subcomponents")) (map sub_line body.subs) in
    let wires = section (name_at connections_mark (codes "connections")) (map wire_line body.wires) in
    let of_subs : c.write_subs.new.writer ≡ with_lines c.begin_body.new.writer subs =
    c.in_ok-write_subs.ensures ∙ ap (λ ss. with_lines c.begin_body.new.writer (section (name_at subcomponents_mark (codes "subcomponents")) (map sub_line ss))) c.as_slice.ensures in
    let of_wires : c.write_wires.new.writer ≡ with_lines c.write_subs.new.writer wires =
    c.in_ok-write_wires.ensures ∙ ap (λ ws. with_lines c.write_subs.new.writer (section (name_at connections_mark (codes "connections")) (map wire_line ws))) c.as_slice-2.ensures in
    let annexes = annex_lines body.annexes (joined c.args.clauses.now) in
    let annexed : c.write_annexes.new.writer ≡ with_lines c.write_wires.new.writer annexes =
    c.in_ok-write_annexes.ensures ∙ ap (λ ts. with_lines c.write_wires.new.writer (annex_lines ts (joined c.args.clauses.now))) c.as_slice-3.ensures in
    lines_of c.end_body.result c.args.writer.now c.begin_body.new.writer c.end_body.new.writer (head ∷ []) (subs ++ (wires ++ (annexes ++ end ∷ []))) c.in_ok-begin_body.ensures
    (lines_of c.end_body.result c.begin_body.new.writer c.write_subs.new.writer c.end_body.new.writer subs (wires ++ (annexes ++ end ∷ [])) of_subs
    (lines_of c.end_body.result c.write_subs.new.writer c.write_wires.new.writer c.end_body.new.writer wires (annexes ++ end ∷ []) of_wires
    (lines_of c.end_body.result c.write_wires.new.writer c.write_annexes.new.writer c.end_body.new.writer annexes (end ∷ []) annexed c.end_body.ensures)))
