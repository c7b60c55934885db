use Rattle.std.proofs.Common.{◌≡◌, ◌++◌, take}
use Rattle.ag_names.specs.Placed.{implementations_among}
use Rattle.ag_names.proofs.placed.push_implementations.Given as goal

abbrev pub invariant-loop-item : goal.invariant-loop-item
invariant-loop-item l = l.entries.items ≡ l.fn.entries.items ++ implementations_among l.«package» l.owner 0 (take l.item l.owner.items)
