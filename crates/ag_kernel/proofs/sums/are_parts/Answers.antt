use Rattle.std.proofs.Common.{rules, arith, refl, ℕ, ℤ, pos, ◌≤ℤ◌}
use Rattle.std.specs.Prelude.{IsSome}
use Rattle.std.proofs.lemmas.List.{take_all}
use Rattle.std.proofs.lemmas.List.Elements.{All-more}
use Rattle.ag_kernel.specs.Rules.{line_at}
use Rattle.ag_kernel.proofs.sums.are_parts.Goals as goal

pub loop-part-preserved : goal.loop-part-preserved
loop-part-preserved c = All-more (λ (p : ℕ × ℤ). IsSome (line_at c.args.lines.now p.0).row × (pos 0 ≤ℤ p.1)) c.args.parts.now c.loop-part.part-index (0, pos 0) c.loop-part-test.true c.loop-part.invariant (c.is_part.ensures.0 (search rules))

pub returns : goal.returns
returns c =
    let all = take_all c.loop-part.part-index c.args.parts.now (omega arith) in
    ((λ _. rw all at c.loop-part.invariant), λ _. refl)
