use Rattle.std.proofs.Common.{drop}
use Rattle.ag_query.specs.Rows.{AreInOrder}
use Rattle.ag_query.proofs.Orders.{RiseFrom}
use Rattle.ag_query.proofs.rows.LRow.is_in_order.Given as goal

abbrev pub invariant-loop-term : goal.invariant-loop-term
invariant-loop-term l = record {
  out : AreInOrder l.vars l.self.terms → RiseFrom l.least l.vars (drop l.term-index l.self.terms);
  into : RiseFrom l.least l.vars (drop l.term-index l.self.terms) → AreInOrder l.vars l.self.terms;
}
