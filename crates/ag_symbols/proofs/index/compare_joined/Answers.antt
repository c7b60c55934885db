use Rattle.std.proofs.Common.{sym, ◌∙◌}
use Rattle.ag_symbols.proofs.Orders.{joined_short, joined_longer}
use Rattle.ag_symbols.proofs.index.compare_joined.Goals as goal

pub returns-then-text-at : goal.returns-then-text-at
returns-then-text-at c = c.then.ensures ∙ rw c.compare_names.ensures (sym (joined_short c.args.text.now c.args.name.now c.args.body.now c.if-text-at.true))

pub returns : goal.returns
returns c = c.then-3.ensures ∙ rw (c.then-2.ensures, c.compare_names-before.ensures, c.cmp-dot.ensures, c.to_ascii_lowercase.ensures.value, c.compare_names-2.ensures) (sym (joined_longer c.args.text.now c.args.name.now c.args.body.now c.if-text-at.false))
