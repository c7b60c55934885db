use Rattle.ag_print.proofs.Sharing.{items_behind, items_written}
use Rattle.ag_print.proofs.print.write_items.Goals as goal
use Rattle.std.proofs.Common.{◌≡◌, ap, ◌∙◌, ℕ, take, drop, length}
use Rattle.ag_print.specs.Annexes.{item_annexes}

pub loop-item-preserved : goal.loop-item-preserved
loop-item-preserved c =
    let items = c.args.items.now in
    let i = c.loop-item.item-index in
    let item = c.item-item.result in
    let rest = c.loop-item.rest.now in
    let own : c.first_of.result.0.now ≡ take (length (item_annexes item)) rest = c.first_of.ensures.first ∙ ap (λ (n : ℕ). take n rest) c.annex_count.ensures in
    let behind : c.first_of.result.1.now ≡ drop (length (item_annexes item)) rest = c.first_of.ensures.behind ∙ ap (λ (n : ℕ). drop n rest) c.annex_count.ensures in
    record {
      rest = items_behind items i item rest c.first_of.result.1.now _ c.loop-item-test.true c.item-item.is behind c.loop-item.invariant.rest;
      written = items_written items i item rest c.first_of.result.0.now c.first_of.result.1.now c.loop-item.writer c.write_item.new.writer _ c.loop-item-test.true c.item-item.is own behind c.in_ok-write_item.ensures c.loop-item.invariant.written;
    }
