use Rattle.std.proofs.Common.{◌≡◌, ◌∷◌, [], ◌++◌, ap, ◌∙◌, sym}
use Rattle.std.specs.Prelude.{codes}
use Rattle.std.proofs.lemmas.Result.{on_ok_weaker}
use Rattle.ag_aadl.specs.Marks.{join_mark, part_mark}
use Rattle.ag_print.specs.Written.{with_words}
use Rattle.ag_print.specs.Canonical.{name_at, sign_at, pname_words, parts_words, package_parts}
use Rattle.ag_print.proofs.Writing.{both, two_words, front_written}
use Rattle.ag_print.proofs.print.write_front.Goals as goal

pub returns : goal.returns
returns c =
    let path = c.args.path.now in
    let own = c.in-Some.package in
    let behind = sign_at join_mark (codes "::") ∷ name_at part_mark path.name.text ∷ [] in
    let is : with_words c.args.writer.now (pname_words own ++ behind) ≡ with_words c.args.writer.now (parts_words (package_parts path.package ++ path.name.text ∷ [])) =
    ap (with_words c.args.writer.now) (sym (front_written own.text path.name.text) ∙ sym (ap (λ p. parts_words (package_parts p ++ path.name.text ∷ [])) c.in-Some.is)) in
    on_ok_weaker c.write_name-2.result (λ h.
    both c.args.writer.now c.write_package_name.new.writer c.write_name-2.new.writer (pname_words own) behind c.in_ok-write_package_name.ensures
    (two_words c.write_package_name.new.writer c.symbol.new.self c.write_name-2.new.writer (sign_at join_mark (codes "::")) (name_at part_mark path.name.text) c.in_ok-symbol.ensures h)
    ∙ is) c.write_name-2.ensures
