use Rattle.ag_query.proofs.Orders.{rise_out, rise_in}
use Rattle.std.proofs.Common.{arith}
use Rattle.ag_query.proofs.rows.LRow.is_in_order.Goals as goal

pub loop-term-init : goal.loop-term-init
loop-term-init c = record {
  out = rise_out 0 c.args.vars c.args.self.now.terms (λ k d lt. omega arith);
  into = rise_in 0 c.args.vars c.args.self.now.terms;
}
