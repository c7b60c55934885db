use Rattle.std.proofs.Common.{sym, ◌∙◌}
use Rattle.ag_symbols.proofs.Orders.{longer_is_greater}
use Rattle.ag_symbols.proofs.index.compare_names.Goals as goal

pub returns-in-empty : goal.returns-in-empty
returns-in-empty c = sym (longer_is_greater c.args.a.now c.loop-x.left.now c.loop-x.x-index c.loop-x-test.true c.in-empty.len_below) ∙ c.loop-x.invariant
