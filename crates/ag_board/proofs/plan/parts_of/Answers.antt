use Rattle.std.proofs.Common.{◌∙◌, ◌+◌, ℕ, sym, ap, arith}
use Rattle.ag_board.proofs.Plans.{parts-more}
use Rattle.ag_board.proofs.plan.parts_of.Goals as goal

pub loop-place-preserved : goal.loop-place-preserved
loop-place-preserved c =
    let m = parts-more c.args.fresh.now.entries c.loop-place.place c.parts_at-parts.result c.parts_at-parts.ensures.parts in (
      ap (λ (k : ℕ). k + c.parts_at-parts.result) c.loop-place.invariant.0 ∙ sym m,
      omega (arith, c.loop-place.invariant.1, c.parts_at-parts.ensures.few),
    )
