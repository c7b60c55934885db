use Rattle.std.proofs.Common.{◌≡◌, ◌≤◌, take, min}
use Rattle.ag_lex.specs.Rules.{decimal}
use Rattle.ag_lex.proofs.number.exceeds_most.Given as goal

-- the value so far, up to one more than the largest number
abbrev pub invariant-loop-digit : goal.invariant-loop-digit
invariant-loop-digit l = (l.value ≡ min (decimal (take l.digit-index l.digits)) 140737488355329) × (l.value ≤ 140737488355329)
