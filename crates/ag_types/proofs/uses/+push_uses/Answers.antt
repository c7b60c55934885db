use Rattle.ag_types.specs.Uses.{used_in}
use Rattle.ag_types.proofs.Using.{used_unary, edges_of_binary, edges_of_choice, edges_of_call, edges_more}
use Rattle.ag_types.proofs.uses.+push_uses.Goals as goal

pub push_uses-returns-in-Unary-clause-edges : goal.push_uses-returns-in-Unary-clause-edges
push_uses-returns-in-Unary-clause-edges t c =
    rw (c.in-Unary.is, used_unary c.args.sight.now c.args.constants c.in-Unary.op c.in-Unary.place c.in-Unary.arg) (rw c.get.ensures at c.push_uses.ensures.edges)

pub push_uses-returns-in_ok-push_uses-in-Binary-clause-edges : goal.push_uses-returns-in_ok-push_uses-in-Binary-clause-edges
push_uses-returns-in_ok-push_uses-in-Binary-clause-edges t c =
    rw (c.in-Binary.is, ← edges_of_binary c.args.graph.now c.args.sight.now c.args.constants c.in-Binary.op c.in-Binary.place c.in-Binary.left c.in-Binary.right)
    (rw (c.in_ok-push_uses-in-Binary.ensures.edges, c.get-in-Binary.ensures, c.get-in-Binary-2.ensures) at c.push_uses-in-Binary-2.ensures.edges)

pub push_uses-returns-in_ok-push_uses-in-Choice-2-clause-edges : goal.push_uses-returns-in_ok-push_uses-in-Choice-2-clause-edges
push_uses-returns-in_ok-push_uses-in-Choice-2-clause-edges t c =
    rw (c.in-Choice.is, ← edges_of_choice c.args.graph.now c.args.sight.now c.args.constants c.in-Choice.place c.in-Choice.test c.in-Choice.yes c.in-Choice.no)
    (rw (c.in_ok-push_uses-in-Choice-2.ensures.edges, c.in_ok-push_uses-in-Choice.ensures.edges, c.get-in-Choice.ensures, c.get-in-Choice-2.ensures, c.get-in-Choice-3.ensures) at c.push_uses-in-Choice-3.ensures.edges)

pub push_uses-returns-in_ok-push_use-in-Call-clause-edges : goal.push_uses-returns-in_ok-push_use-in-Call-clause-edges
push_uses-returns-in_ok-push_use-in-Call-clause-edges t c =
    rw (c.in-Call.is, ← edges_of_call c.args.graph.now c.args.sight.now c.args.constants c.in-Call.path c.in-Call.args)
    (rw (c.in_ok-push_use-in-Call.ensures.edges, c.behind.ensures, c.as_slice.ensures) at c.push_argument_uses.ensures.edges)

pub push_argument_uses-loop-arg-preserved : goal.push_argument_uses-loop-arg-preserved
push_argument_uses-loop-arg-preserved t c = record {
  some = c.in_ok-push_uses.ensures.some;
  edges = rw c.in_ok-push_uses.ensures.edges
      (edges_more (used_in c.args.sight.now c.args.constants) c.loop-arg.graph _ c.args.args.now c.loop-arg.arg-index c.arg-item.result c.loop-arg-test.true c.arg-item.is c.loop-arg.invariant.edges);
}
