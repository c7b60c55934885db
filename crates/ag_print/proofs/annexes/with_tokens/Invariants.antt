use Rattle.std.proofs.Common.{◌≡◌, map, take}
use Rattle.std.specs.List.{All}
use Rattle.ag_print.specs.Shares.{placed, IsRead}
use Rattle.ag_print.proofs.annexes.with_tokens.Given as goal

abbrev pub invariant-loop-text : goal.invariant-loop-text
invariant-loop-text l = record { same : map placed l.annexes ≡ take l.text-index l.places; read : All (IsRead l.bytes) l.annexes }
