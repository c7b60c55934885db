use Rattle.std.proofs.Common.{sym, ◌∙◌}
use Rattle.ag_types.proofs.Typing.{typed_unary, broken_unary, typed_binary, first_of_binary, broken_binary, typed_choice, broken_choice, broken_call, mismatches_more, faults_more, mismatches_end}
use Rattle.ag_types.proofs.types.+typing.Goals as goal

pub arguments-loop-arg-preserved : goal.arguments-loop-arg-preserved
arguments-loop-arg-preserved t c = record {
  mismatched = rw (c.either-mismatched.ensures, c.first_mismatch.ensures, c.behind_first-left.ensures, c.typing-typing.ensures.ty, c.typing-typing.ensures.first)
      (mismatches_more c.args.sight.now c.loop-arg.left.now c.args.args.now c.loop-arg.arg-index c.arg-item.result c.loop-arg.mismatched _ c.loop-arg-test.true c.arg-item.is c.loop-arg.invariant.mismatched);
  broken = rw (c.either-broken.ensures, c.typing-typing.ensures.broken)
      (faults_more c.args.sight.now c.args.args.now c.loop-arg.arg-index c.arg-item.result c.loop-arg.broken _ c.loop-arg-test.true c.arg-item.is c.loop-arg.invariant.broken);
}

pub arguments-returns-clause-mismatched : goal.arguments-returns-clause-mismatched
arguments-returns-clause-mismatched t c = mismatches_end c.args.sight.now c.loop-arg.left.now c.args.args.now c.loop-arg.arg-index c.loop-arg.mismatched _ c.loop-arg-test.false c.loop-arg.invariant.mismatched

pub typing-returns-in-Unary-clause-ty : goal.typing-returns-in-Unary-clause-ty
typing-returns-in-Unary-clause-ty t c =
    c.unary.ensures.ty ∙ rw (c.typing.ensures.ty, c.get.ensures, c.in-Unary.is) (sym (typed_unary c.args.sight.now c.in-Unary.op c.in-Unary.place c.in-Unary.arg))

pub typing-returns-in-Unary-clause-broken : goal.typing-returns-in-Unary-clause-broken
typing-returns-in-Unary-clause-broken t c =
    c.unary.ensures.broken ∙ rw (c.typing.ensures.broken, c.typing.ensures.ty, c.typing.ensures.first, c.get.ensures, c.in-Unary.is)
    (sym (broken_unary c.args.sight.now c.in-Unary.op c.in-Unary.place c.in-Unary.arg))

pub typing-returns-in-Binary-clause-ty : goal.typing-returns-in-Binary-clause-ty
typing-returns-in-Binary-clause-ty t c =
    c.binary.ensures.ty ∙ rw (c.typing-left.ensures.ty, c.get-in-Binary.ensures, c.in-Binary.is)
    (sym (typed_binary c.args.sight.now c.in-Binary.op c.in-Binary.place c.in-Binary.left c.in-Binary.right))

pub typing-returns-in-Binary-clause-broken : goal.typing-returns-in-Binary-clause-broken
typing-returns-in-Binary-clause-broken t c =
    c.binary.ensures.broken ∙ rw (c.typing-left.ensures.broken, c.typing-left.ensures.ty, c.typing-left.ensures.first, c.typing-right.ensures.broken, c.typing-right.ensures.ty, c.typing-right.ensures.first, c.get-in-Binary.ensures, c.get-in-Binary-2.ensures, c.in-Binary.is)
    (sym (broken_binary c.args.sight.now c.in-Binary.op c.in-Binary.place c.in-Binary.left c.in-Binary.right))

pub typing-returns-in-Binary-clause-first : goal.typing-returns-in-Binary-clause-first
typing-returns-in-Binary-clause-first t c =
    c.binary.ensures.first ∙ rw (c.typing-left.ensures.first, c.get-in-Binary.ensures, c.in-Binary.is)
    (sym (first_of_binary c.in-Binary.op c.in-Binary.place c.in-Binary.left c.in-Binary.right))

pub typing-returns-in-Choice-clause-ty : goal.typing-returns-in-Choice-clause-ty
typing-returns-in-Choice-clause-ty t c =
    c.choice.ensures.ty ∙ rw (c.typing-yes.ensures.ty, c.get-in-Choice-2.ensures, c.in-Choice.is)
    (sym (typed_choice c.args.sight.now c.in-Choice.place c.in-Choice.test c.in-Choice.yes c.in-Choice.no))

pub typing-returns-in-Choice-clause-broken : goal.typing-returns-in-Choice-clause-broken
typing-returns-in-Choice-clause-broken t c =
    c.choice.ensures.broken ∙ rw (c.typing-test.ensures.broken, c.typing-test.ensures.ty, c.typing-test.ensures.first, c.typing-yes.ensures.broken, c.typing-yes.ensures.ty, c.typing-no.ensures.broken, c.typing-no.ensures.ty, c.typing-no.ensures.first, c.get-in-Choice.ensures, c.get-in-Choice-2.ensures, c.get-in-Choice-3.ensures, c.in-Choice.is)
    (sym (broken_choice c.args.sight.now c.in-Choice.place c.in-Choice.test c.in-Choice.yes c.in-Choice.no))

pub typing-returns-in-Call-clause-broken : goal.typing-returns-in-Call-clause-broken
typing-returns-in-Call-clause-broken t c =
    c.call.ensures.broken ∙ rw (c.arguments-arguments.ensures.mismatched, c.arguments-arguments.ensures.broken, c.inputs_of.ensures, c.node_of-node.ensures, c.as_slice.ensures, c.as_slice-in-Call.ensures, c.in-Call.is)
    (sym (broken_call c.args.sight.now c.in-Call.path c.in-Call.args))
