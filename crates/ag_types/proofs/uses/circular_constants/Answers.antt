use Rattle.std.proofs.Common.{◌+◌, ap, refl, ◌∙◌, arith}
use Rattle.std.specs.Prelude.{slice_index_or, false}
use Rattle.ag_types.specs.Places.{first_broken}
use Rattle.ag_types.specs.Uses.{Constant, circular}
use Rattle.ag_types.proofs.Circling.{circular_more}
use Rattle.ag_types.proofs.uses.circular_constants.Goals as goal

pub loop-at-preserved : goal.loop-at-preserved
loop-at-preserved c =
    rw c.either-broken.ensures
    (circular_more c.args.on_circle.now (λ z. z.var.name) c.args.constants.now c.loop-at.at c.loop-at.at (c.loop-at.at + 1) c.index-constants-at.result c.loop-at.broken c.circular.result _ (omega arith) c.index-constants-at.is refl
    (c.circular.ensures ∙ ap (λ (z : Constant). first_broken (circular (slice_index_or c.args.on_circle.now c.loop-at.at false) z.var.name.place)) c.constant.view_is)
    c.loop-at.invariant)
