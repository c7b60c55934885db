use Rattle.std.proofs.Common.{◌≡◌, take}
use Rattle.ag_board.specs.Entries.{plain_list}
use Rattle.ag_board.proofs.entry.share_list.Given as goal

-- the list as far as it went
abbrev pub invariant-loop-key : goal.invariant-loop-key
invariant-loop-key l = plain_list l.copy ≡ plain_list (take l.key-index l.key-items)
