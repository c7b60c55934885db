use Rattle.std.proofs.Common.{◌-◌, ◌∷◌, [], ◌++◌, length, take, drop, refl}
use Rattle.ag_unparse.specs.Canonical.{close_word, term_words}
use Rattle.ag_unparse.specs.Written.{comma, listed_words}
use Rattle.ag_unparse.proofs.WritingSteps.{both_on, words_step, words_done}
use Rattle.ag_unparse.proofs.WritingTerms.{unary_written, binary_written, choice_written, call_written, arguments_written, argument_step, listed_law}
use Rattle.ag_unparse.proofs.terms.+write_term.Goals as goal

pub write_arguments-loop-arg-preserved : goal.write_arguments-loop-arg-preserved
write_arguments-loop-arg-preserved t c =
    let args = c.args.args.now in
    words_step (listed_words comma) (λ x. comma ++ term_words x) listed_law (take (length args - 1) (drop 1 args)) c.loop-arg.arg-index c.arg-item.result c.write_term.new.writer c.loop-arg.writer c.write_term-in-loop-arg.new.writer c.loop-arg-test.true
    c.arg-item.is c.loop-arg.invariant (argument_step c.loop-arg.writer c.back.new.self c.write_term-in-loop-arg.new.writer c.arg-item.result c.in_ok-back.ensures c.in_ok-write_term-2.ensures)

pub write_arguments-returns : goal.write_arguments-returns
write_arguments-returns t c =
    let args = c.args.args.now in
    arguments_written c.args.writer.now c.write_term.new.writer c.loop-arg.writer args c.first-item.result c.in-len1-up.len_at_least c.first-item.is c.in_ok-write_term.ensures
    (words_done (listed_words comma) refl (take (length args - 1) (drop 1 args)) c.loop-arg.arg-index c.write_term.new.writer c.loop-arg.writer c.loop-arg-test.false c.loop-arg.invariant)

pub write_last-returns : goal.write_last-returns
write_last-returns t c =
    both_on c.back.result c.args.writer.now c.write_term.new.writer c.back.new.self (term_words c.args.term.now) (close_word ∷ []) c.in_ok-write_term.ensures c.back.ensures

pub write_term-returns-in_ok-begin_unary-in-Unary : goal.write_term-returns-in_ok-begin_unary-in-Unary
write_term-returns-in_ok-begin_unary-in-Unary t c =
    let m = c.in-Unary in
    unary_written c.write_last.result c.args.writer.now c.begin_unary.new.writer c.write_last.new.writer m.op m.place c.get.result.now m.arg c.args.term.now m.is c.get.ensures
    c.in_ok-begin_unary-in-Unary.ensures c.write_last.ensures

pub write_term-returns-in_ok-word-in-Binary : goal.write_term-returns-in_ok-word-in-Binary
write_term-returns-in_ok-word-in-Binary t c =
    let m = c.in-Binary in
    binary_written c.write_last-in-Binary.result c.args.writer.now c.front.new.self c.write_term.new.writer c.word-in-Binary.new.self c.write_last-in-Binary.new.writer m.op c.operator_word.result.now m.place
    c.get-in-Binary.result.now c.get-in-Binary-2.result.now m.left m.right c.args.term.now m.is c.get-in-Binary.ensures c.get-in-Binary-2.ensures c.operator_word.ensures
    c.in_ok-front-in-Binary.ensures c.in_ok-write_term-in-Binary.ensures c.in_ok-word-in-Binary.ensures c.write_last-in-Binary.ensures

pub write_term-returns-in_ok-word-in-Choice-2 : goal.write_term-returns-in_ok-word-in-Choice-2
write_term-returns-in_ok-word-in-Choice-2 t c =
    let m = c.in-Choice in
    choice_written c.write_last-in-Choice.result c.args.writer.now c.begin_group.new.writer c.write_term-in-Choice.new.writer c.word-in-Choice.new.self c.write_term-in-Choice-2.new.writer c.word-in-Choice-2.new.self
    c.write_last-in-Choice.new.writer m.place c.get-in-Choice.result.now c.get-in-Choice-2.result.now c.get-in-Choice-3.result.now m.test m.yes m.no c.args.term.now m.is c.get-in-Choice.ensures c.get-in-Choice-2.ensures c.get-in-Choice-3.ensures
    c.in_ok-begin_group-in-Choice.ensures c.in_ok-write_term-in-Choice.ensures c.in_ok-word-in-Choice.ensures c.in_ok-write_term-in-Choice-2.ensures c.in_ok-word-in-Choice-2.ensures c.write_last-in-Choice.ensures

pub write_term-returns-in_ok-write_arguments-in-Call : goal.write_term-returns-in_ok-write_arguments-in-Call
write_term-returns-in_ok-write_arguments-in-Call t c =
    let m = c.in-Call in
    call_written c.back.result c.args.writer.now c.write_path-in-Call.new.writer c.joint.new.self c.write_arguments.new.writer c.back.new.self m.path c.as_slice.result.now m.args c.args.term.now m.is c.as_slice.ensures
    c.in_ok-write_path-in-Call.ensures c.in_ok-joint-in-Call.ensures c.in_ok-write_arguments-in-Call.ensures c.back.ensures
