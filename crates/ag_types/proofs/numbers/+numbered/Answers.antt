use Rattle.ag_types.proofs.Numbering.{known_named, known_unary, known_binary, known_choice, known_call, constants_more, parts_more}
use Rattle.ag_types.proofs.numbers.+numbered.Goals as goal

pub numbered-returns-in-Named : goal.numbered-returns-in-Named
numbered-returns-in-Named t c =
    rw (c.in-Named.is, known_named c.args.sight.now c.args.values.now c.in-Named.path c.requires) c.named.ensures

pub numbered-returns-in_ok-arg-in-Unary : goal.numbered-returns-in_ok-arg-in-Unary
numbered-returns-in_ok-arg-in-Unary t c =
    let e = c.in_ok-arg-in-Unary.ensures in
    rw (c.in-Unary.is, known_unary c.args.sight.now c.args.values.now c.in-Unary.op c.in-Unary.place c.in-Unary.arg) (rw (e, c.get-in-Unary.ensures, c.named_stream-stream.ensures, c.get.ensures) at c.unary.ensures)

pub numbered-returns-in_ok-right-in-Binary : goal.numbered-returns-in_ok-right-in-Binary
numbered-returns-in_ok-right-in-Binary t c =
    rw (c.in-Binary.is, known_binary c.args.sight.now c.args.values.now c.in-Binary.op c.in-Binary.place c.in-Binary.left c.in-Binary.right)
    (rw (c.in_ok-left-in-Binary.ensures, c.in_ok-right-in-Binary.ensures, c.get-in-Binary.ensures, c.get-in-Binary-2.ensures) at c.binary.ensures)

pub numbered-returns-in_ok-no-in-Choice : goal.numbered-returns-in_ok-no-in-Choice
numbered-returns-in_ok-no-in-Choice t c =
    rw (c.in-Choice.is, known_choice c.args.sight.now c.args.values.now c.in-Choice.place c.in-Choice.test c.in-Choice.yes c.in-Choice.no)
    (rw (c.in_ok-test-in-Choice.ensures, c.in_ok-yes-in-Choice.ensures, c.in_ok-no-in-Choice.ensures, c.get-in-Choice.ensures, c.get-in-Choice-2.ensures, c.get-in-Choice-3.ensures) at c.choice.ensures)

pub numbered-returns-in_ok-arguments-in-Call : goal.numbered-returns-in_ok-arguments-in-Call
numbered-returns-in_ok-arguments-in-Call t c =
    rw (c.in-Call.is, known_call c.args.sight.now c.args.values.now c.in-Call.path c.in-Call.args)
    (rw (c.in_ok-arguments-in-Call.ensures, c.as_slice.ensures, c.node_of.ensures) at c.call.ensures)

pub arguments-loop-arg-preserved : goal.arguments-loop-arg-preserved
arguments-loop-arg-preserved t c =
    let names = c.args.sight.now in
    let values = c.args.values.now in
    record {
      constants = rw (c.with_argument-faults.ensures, c.in_ok-arg.ensures)
          (constants_more names values c.args.args.now c.loop-arg.arg-index c.arg-item.result c.loop-arg.faults.of_constant _ c.loop-arg-test.true c.arg-item.is c.loop-arg.invariant.constants);
      parts = rw (c.with_argument-faults.ensures, c.in_ok-arg.ensures)
          (parts_more names values c.args.args.now c.loop-arg.arg-index c.arg-item.result c.loop-arg.faults.of_parts _ c.loop-arg-test.true c.arg-item.is c.loop-arg.invariant.parts);
    }
