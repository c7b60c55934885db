use Rattle.std.proofs.Common.{◌≡◌, ◌∙◌, ◌&&◌, not, Bool, false, List, Option, Some, None, get_or, ap}
use Rattle.std.specs.Prelude.{if◌then◌else◌}
use Rattle.ag_board.specs.declared.slot.Out.{Out}
use Rattle.ag_board.specs.Inside.{problem_at}
use Rattle.ag_board.specs.Planned.{handled, is_retired}
use Rattle.ag_board.proofs.Plans.{handled-more, Handle}
use Rattle.ag_board.proofs.plan.handles_of.Goals as goal

pub loop-claim-preserved : goal.loop-claim-preserved
loop-claim-preserved c =
    let d : Out = record { claim = 0; seat = 0; revision = 0; problem = 0; is_live = false } in
    let o : Out = get_or c.args.out.now c.loop-claim.claim-index d in
    let e : c.is_needless.result ≡ is_retired c.args.numbers.now o = c.is_needless.ensures ∙ ap (λ (b : Bool). o.is_live && not b) (c.in_ok-kept.ensures o.problem) in
    let f = c.in_ok-handle.ensures ∙ ap (λ (b : Bool). if b then Some (problem_at c.args.table.now.entries o.problem) else None) e in
    ap (λ (x : List (Option Handle)). handled x) c.in_ok-push.ensures.items
    ∙ handled-more c.args.table.now.entries c.args.numbers.now c.args.out.now c.loop-claim.handles.items c.loop-claim.claim-index d c.in_ok-handle.handle c.loop-claim-test.true c.loop-claim.invariant f
