use Rattle.std.proofs.Common.{◌≡◌, ◌∷◌, [], ◌++◌, ap, ◌∙◌}
use Rattle.std.specs.Prelude.{codes}
use Rattle.ag_print.specs.Written.{name_word, with_word}
use Rattle.ag_print.specs.Canonical.{word, sign, direction_word, kind_words, class_words, semicolon}
use Rattle.ag_print.proofs.Writing.{three_words, line_of}
use Rattle.ag_print.proofs.print.write_port.Goals as goal

pub returns : goal.returns
returns c =
    let port = c.args.port.now in
    let direction = direction_word port.outward in
    let head = word port.name.text ∷ sign (codes ":") ∷ word direction ∷ [] in
    let directed : c.name.new.self ≡ with_word c.symbol.new.self (name_word direction) = c.in_ok-name.ensures ∙ ap (λ z. with_word c.symbol.new.self (name_word z)) c.direction_word.ensures in
    let named = three_words c.args.writer.now c.write_name.new.writer c.symbol.new.self c.name.new.self (word port.name.text) (sign (codes ":")) (word direction) c.in_ok-write_name.ensures c.in_ok-symbol.ensures directed in
    line_of c.end_statement.result c.args.writer.now c.name.new.self c.end_statement.new.writer head (kind_words port.kind ++ (word (codes "port") ∷ (class_words port.carries ++ semicolon))) named
    (line_of c.end_statement.result c.name.new.self c.write_kind.new.writer c.end_statement.new.writer (kind_words port.kind) (word (codes "port") ∷ (class_words port.carries ++ semicolon)) c.in_ok-write_kind.ensures
    (line_of c.end_statement.result c.write_kind.new.writer c.name-2.new.self c.end_statement.new.writer (word (codes "port") ∷ []) (class_words port.carries ++ semicolon) c.in_ok-name-2.ensures
    (line_of c.end_statement.result c.name-2.new.self c.write_class.new.writer c.end_statement.new.writer (class_words port.carries) semicolon c.in_ok-write_class.ensures c.end_statement.ensures)))
