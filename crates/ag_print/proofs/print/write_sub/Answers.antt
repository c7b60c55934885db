use Rattle.std.proofs.Common.{◌≡◌, ◌∷◌, [], ◌++◌, ap, ◌∙◌}
use Rattle.std.specs.Prelude.{codes}
use Rattle.ag_print.specs.Written.{name_word, with_word}
use Rattle.ag_print.specs.Canonical.{word, sign, category_word, class_words, semicolon}
use Rattle.ag_print.proofs.Writing.{three_words, line_of}
use Rattle.ag_print.proofs.print.write_sub.Goals as goal

pub returns : goal.returns
returns c =
    let sub = c.args.sub.now in
    let category = category_word sub.category in
    let head = word sub.name.text ∷ sign (codes ":") ∷ word category ∷ [] in
    let placed : c.name.new.self ≡ with_word c.symbol.new.self (name_word category) = c.in_ok-name.ensures ∙ ap (λ z. with_word c.symbol.new.self (name_word z)) c.category_word.ensures in
    let named = three_words c.args.writer.now c.write_name.new.writer c.symbol.new.self c.name.new.self (word sub.name.text) (sign (codes ":")) (word category) c.in_ok-write_name.ensures c.in_ok-symbol.ensures placed in
    line_of c.end_statement.result c.args.writer.now c.name.new.self c.end_statement.new.writer head (class_words sub.of ++ semicolon) named
    (line_of c.end_statement.result c.name.new.self c.write_class.new.writer c.end_statement.new.writer (class_words sub.of) semicolon c.in_ok-write_class.ensures c.end_statement.ensures)
