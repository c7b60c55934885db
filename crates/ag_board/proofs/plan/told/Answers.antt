use Rattle.std.proofs.Common.{◌∙◌, ◌++◌, ◌∷◌, [], List, get_or, sym, ap, false}
use Rattle.ag_board.specs.declared.entry.Cancelled.{Cancelled}
use Rattle.ag_board.specs.declared.slot.Out.{Out}
use Rattle.ag_board.proofs.Plans.{told-next, told-none}
use Rattle.ag_board.proofs.plan.told.Goals.{then-is_some+in_ok-push, else-is_some}
use Rattle.ag_board.proofs.plan.told.Goals as goal

pub loop-place-preserved : goal.loop-place-preserved
loop-place-preserved c =
    let o : Out = record { claim = 0; seat = 0; revision = 0; problem = 0; is_live = false } in
    let k : Cancelled = record { claim = (get_or c.args.out.now c.loop-place.place o).claim; seat = (get_or c.args.out.now c.loop-place.place o).seat } in
    elim c.if-is_some.branch [
      | then-is_some+in_ok-push w ↦
          w.cancelled-is ∙ (w.in_ok-push.ensures.ok ∙ (ap (λ (x : List Cancelled). x ++ k ∷ []) c.loop-place.invariant
          ∙ sym (told-next c.args.out.now c.args.handles.now c.loop-place.place o c.index-handles-place.result c.loop-place-test.true c.requires c.index-handles-place.is (sym c.is_some.ensures ∙ w.if-is_some.true))))
      | else-is_some w ↦
          w.cancelled-is ∙ (c.loop-place.invariant
          ∙ sym (told-none c.args.out.now c.args.handles.now c.loop-place.place o c.index-handles-place.result c.loop-place-test.true c.requires c.index-handles-place.is (sym c.is_some.ensures ∙ w.if-is_some.false)))
    ]
