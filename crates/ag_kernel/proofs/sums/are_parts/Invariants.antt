use Rattle.std.proofs.Common.{All, take, pos, ◌≤ℤ◌}
use Rattle.std.specs.Prelude.{IsSome}
use Rattle.ag_kernel.specs.Rules.{line_at}
use Rattle.ag_kernel.proofs.sums.are_parts.Given as goal

abbrev pub invariant-loop-part : goal.invariant-loop-part
invariant-loop-part l = All (λ p. IsSome (line_at l.lines p.0).row × (pos 0 ≤ℤ p.1)) (take l.part-index l.parts)
