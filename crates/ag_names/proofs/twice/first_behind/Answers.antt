use Rattle.std.proofs.Common.{◌≡◌, ◌+◌, ◌-◌, ◌<◌, length, ap, sym, ◌∙◌, arith}
use Rattle.ag_base.specs.declared.place.Refusal.{Refusal}
use Rattle.ag_names.specs.Order.{earlier}
use Rattle.ag_names.specs.Twice.{Declared}
use Rattle.std.specs.Prelude.{Some}
use Rattle.ag_names.proofs.Twices.{first_at_start, first_more_behind, first_more_other, first_of_names, refused_at}
use Rattle.ag_names.proofs.twice.first_behind.Goals as goal
use Rattle.ag_names.proofs.twice.first_behind.Goals.{then-is_behind, else-is_behind}

pub loop-at-init : goal.loop-at-init
loop-at-init c = first_at_start c.args.names.now

pub loop-at-preserved : goal.loop-at-preserved
loop-at-preserved c =
    let names = c.args.names.now in
    let at = c.loop-at.at in
    let next : (at - 1) + 1 ≡ at = omega arith in
    let within : at < length names = omega arith in
    let p = c.index-names-at-in-loop-at.result in
    let d = c.index-names-at.result in
    elim c.if-is_behind.branch [
      | then-is_behind w ↦ first_more_behind names at p d (at - 1) next within c.index-names-at-in-loop-at.is c.index-names-at.is c.loop-at.found c.if-is_behind.found
          (sym c.is_behind.ensures ∙ w.if-is_behind.true)
          (w.found-is ∙ w.earlier-found.ensures ∙ ap (λ (z : Refusal). earlier c.loop-at.found (Some z)) (w.twice_at.ensures ∙ ap (λ (z : Declared). refused_at z.place) c.declared.view_is)) c.loop-at.invariant
      | else-is_behind w ↦ first_more_other names at p d (at - 1) next within c.index-names-at-in-loop-at.is c.index-names-at.is c.loop-at.found c.if-is_behind.found
          (sym c.is_behind.ensures ∙ w.if-is_behind.false) w.found-is c.loop-at.invariant
    ]

pub returns : goal.returns
returns c = first_of_names c.args.names.now c.loop-at.at c.loop-at.found c.requires c.loop-at-test.false c.loop-at.invariant
