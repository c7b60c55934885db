use Rattle.std.proofs.Common.{◌≡◌, ◌≤◌, ◌+◌, ◌-◌, length, drop}
use Rattle.std.specs.Option.{option_map}
use Rattle.ag_lex.specs.Scanning.{closes_at}
use Rattle.ag_lex.proofs.found.close_at.Given as goal

-- what is left has the first mark
abbrev pub invariant-loop-at : goal.invariant-loop-at
invariant-loop-at l = (option_map (λ n. n + l.at) (closes_at (drop l.at l.bytes)) ≡ closes_at l.bytes) × (l.at ≤ length l.bytes)

abbrev pub decreases-loop-at : goal.decreases-loop-at
decreases-loop-at l = length l.bytes - l.at
