use Rattle.std.proofs.Common.{◌≢◌, pos, ◌∙◌, ap, arith}
use Rattle.std.proofs.lemmas.Int.{ints}
use Rattle.ag_query.specs.Rows.{sum_of}
use Rattle.ag_kernel.proofs.Merging.{sum_push, order_push, below_push}
use Rattle.ag_kernel.proofs.sums.push_nonzero.Goals as goal

pub returns-in_ok-push-clause-value : goal.returns-in_ok-push-clause-value
returns-in_ok-push-clause-value c x = ap (sum_of x) c.in_ok-push.ensures.ok ∙ sum_push x c.args.sum.now c.args.term

pub returns-in_ok-push-clause-order : goal.returns-in_ok-push-clause-order
returns-in_ok-push-clause-order c vars h below lt =
    let ne : c.args.term.factor ≢ pos 0 = λ e. omega (arith, ints, c.if-term-ne0.true) in
    rw c.in_ok-push.ensures.ok (order_push vars c.args.sum.now c.args.term h below lt ne, below_push c.args.sum.now c.args.term below)
