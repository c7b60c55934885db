use Rattle.std.proofs.Common.{set, ◌∙◌, ◌+◌, ◌∷◌, List, length, Option, Some, ap, subst, arith}
use Rattle.ag_board.specs.Inside.{with_handle}
use Rattle.ag_board.specs.Planned.{Handle}
use Rattle.std.specs.Prelude.{vec_capacity}
use Rattle.std.specs.Vec.Iter.{into_iter_items}
use Rattle.ag_board.proofs.Retiring.{AreLeft, ended, left-same, left-some, left-none}
use Rattle.ag_board.proofs.plan.retire.Goals.{in-Some-handle, in_default}
use Rattle.ag_board.proofs.plan.retire.Goals as goal

pub loop-handle-preserved : goal.loop-handle-preserved
loop-handle-preserved c =
    let k = c.loop-handle.invariant in
    let rest = into_iter_items c.next.new.self in
    let rows0 = c.args.table.now.entries in
    let outs0 = c.args.outs.now.items in
    let hs0 = into_iter_items c.into_iter-handle-iterator.result in
    let g = c.in-Some.ensures.steps in
    let n = ap length g.0 in
    elim c.match-handle.branch [
      | in-Some-handle w ↦
          let e = g.0 ∙ ap (λ (h : Option Handle). h ∷ rest) w.in-Some-handle.is in
          let L : List (Option Handle) → Type 0 = λ hs. AreLeft c.loop-handle.table.entries rows0 c.loop-handle.outs.items outs0 c.loop-handle.place hs hs0 in
          let o = w.index_mut-out.result.now in
          let s = left-some c.loop-handle.table.entries rows0 c.loop-handle.outs.items outs0 c.loop-handle.place w.in-Some-handle.handle rest hs0 o (subst L e k.4) w.index_mut-out.ensures.value in (
            tt,
            tt,
            omega (arith, g.1, k.2, n),
            ap (λ v. vec_capacity v) w.outs-is ∙ k.3,
            left-same (with_handle c.loop-handle.table.entries o.problem (Some w.in-Some-handle.handle)) c.match-handle.table.entries rows0 (set c.loop-handle.outs.items c.loop-handle.place (ended o)) c.match-handle.outs.items outs0 (c.loop-handle.place + 1) rest hs0
                (ap (λ t. t.entries) w.table-is ∙ w.put_handle.ensures) (ap (λ v. v.items) w.outs-is) s,
          )
      | in_default w ↦
          let e = g.0 ∙ ap (λ (h : Option Handle). h ∷ rest) w.in_default.is in
          let L : List (Option Handle) → Type 0 = λ hs. AreLeft c.loop-handle.table.entries rows0 c.loop-handle.outs.items outs0 c.loop-handle.place hs hs0 in
          let s = left-none c.loop-handle.table.entries rows0 c.loop-handle.outs.items outs0 c.loop-handle.place rest hs0 (subst L e k.4) in (
            tt,
            tt,
            omega (arith, g.1, k.2, n),
            ap (λ v. vec_capacity v) w.outs-is ∙ k.3,
            left-same c.loop-handle.table.entries c.match-handle.table.entries rows0 c.loop-handle.outs.items c.match-handle.outs.items outs0 (c.loop-handle.place + 1) rest hs0
                (ap (λ t. t.entries) w.table-is) (ap (λ v. v.items) w.outs-is) s,
          )
    ]
