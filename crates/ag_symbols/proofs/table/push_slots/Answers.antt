use Rattle.std.proofs.Common.{◌+◌, ap}
use Rattle.ag_symbols.specs.Seen.{var_name}
use Rattle.ag_symbols.proofs.Placing.{placed_more, placed_end}
use Rattle.ag_symbols.proofs.table.push_slots.Goals as goal

pub loop-var-preserved : goal.loop-var-preserved
loop-var-preserved c = record {
  counted = ap (λ n. n + 1) c.loop-var.invariant.counted;
  placed = λ name. rw c.in_ok-push.ensures.items
      (placed_more (λ e. e.name.now) (λ e. e.at) var_name (λ v. v.now) c.loop-var.slots.items (record { name = c.as_bytes-name.result; at = c.loop-var.at }) c.args.vars.now c.loop-var.var-index c.var-item.result name _ c.loop-var-test.true c.var-item.is c.as_bytes-name.ensures (c.loop-var.invariant.placed name));
}

pub returns : goal.returns
returns c = λ name. placed_end var_name (λ v. v.now) _ _ c.args.vars.now c.loop-var.var-index c.loop-var.at name c.loop-var-test.false (c.loop-var.invariant.placed name)
