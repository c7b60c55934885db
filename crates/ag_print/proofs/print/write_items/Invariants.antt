use Rattle.std.proofs.Common.{◌≡◌, drop}
use Rattle.ag_print.specs.Canonical.{items_lines}
use Rattle.ag_print.specs.Shares.{items_share, behind_items}
use Rattle.ag_print.specs.Written.{with_lines}
use Rattle.ag_print.proofs.print.write_items.Given as goal

abbrev pub invariant-loop-item : goal.invariant-loop-item
invariant-loop-item l = record {
  rest : behind_items (drop l.item-index l.items) l.rest ≡ behind_items l.items l.clauses;
  written : with_lines l.writer (items_lines (drop l.item-index l.items) (items_share (drop l.item-index l.items) l.rest)) ≡ with_lines l.initial.writer (items_lines l.items (items_share l.items l.clauses));
}
