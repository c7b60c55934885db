use Rattle.std.proofs.Common.{◌∷◌, [], ◌++◌, ap, ◌∙◌, sym}
use Rattle.ag_print.specs.Written.{with_words}
use Rattle.ag_print.specs.Canonical.{parts_words, package_parts, body_words, class_words}
use Rattle.ag_print.proofs.Writing.{both}
use Rattle.ag_print.proofs.print.write_class.Goals as goal

pub returns-in_ok-write_body_name : goal.returns-in_ok-write_body_name
returns-in_ok-write_body_name c =
    let path = c.in-Some.path in
    both c.args.writer.now c.write_front.new.writer c.write_body_name.new.writer (parts_words (package_parts path.package ++ path.name.text ∷ [])) (body_words path.body) c.in_ok-write_front.ensures c.in_ok-write_body_name.ensures
    ∙ sym (ap (λ p. with_words c.args.writer.now (class_words p)) c.in-Some.is)
