use Rattle.std.proofs.Common.{◌≡◌, length}
use Rattle.std.specs.Prelude.{vec_capacity}
use Rattle.std.specs.Vec.Iter.{into_iter_items, into_iter_len}
use Rattle.ag_board.proofs.Retiring.{AreLeft}
use Rattle.ag_board.proofs.plan.retire.Given as goal

-- what is left to be done leads to the same claims and the same rows
abbrev pub invariant-loop-handle : goal.invariant-loop-handle
invariant-loop-handle l =
    (goal.iterator-loop-handle).can_next l.handle-iterator
    × (goal.iterator-loop-handle).is_finite l.handle-iterator
    × (into_iter_len l.handle-iterator ≡ length (into_iter_items l.handle-iterator))
    × (vec_capacity l.outs ≡ vec_capacity l.initial.outs)
    × AreLeft l.table.entries l.initial.table.entries l.outs.items l.initial.outs.items l.place (into_iter_items l.handle-iterator) (into_iter_items l.initial.handle-iterator)
