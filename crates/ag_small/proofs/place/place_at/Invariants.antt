use Rattle.std.proofs.Common.{◌≡◌, ◌≤◌, ◌+◌, take, drop}
use Rattle.std.specs.Prelude.{fold}
use Rattle.ag_small.specs.Places.{place_after, place_behind}
use Rattle.ag_small.proofs.place.place_at.Given as goal

abbrev pub invariant-loop-byte : goal.invariant-loop-byte
invariant-loop-byte l =
    (fold place_after l.place (drop l.byte-index (take l.n l.bytes)) ≡ place_behind (take l.n l.bytes))
    × (l.place.line ≤ l.byte-index + 1) × (l.place.column ≤ l.byte-index + 1)
