use Rattle.std.proofs.Common.{◌<◌, length, false, refl, sym, ◌∙◌, arith}
use Rattle.std.proofs.lemmas.Bool.{false≢true}
use Rattle.std.proofs.lemmas.List.{get_or_read}
use Rattle.ag_stream.proofs.Passes.{pass_places, pass_leaves, placing_ends, stuck_named, stuck_clear}
use Rattle.ag_stream.proofs.dependence.place_ready.Goals as goal
use Rattle.ag_stream.proofs.dependence.place_ready.Goals.{then-index+then-not-names_marked+in_ok-push, else-index, else-index-via-then-index+else-not-names_marked, else-index-via-else-index}

pub loop-k-preserved : goal.loop-k-preserved
loop-k-preserved c =
    let d = c.args.draft.now in
    let t = c.flag_equation-stream in
    let lt : t.result.0 < length c.loop-k.waits.items = omega (arith, c.loop-k.invariant.0.size) in
    let read = λ (h : t.result.0 < length c.loop-k.waits.items). get_or_read c.loop-k.waits.items t.result.0 c.index.result.now h c.index.ensures false in
    elim c.if-index.branch [
      | then-index+then-not-names_marked+in_ok-push w ↦
          pass_places d c.requires.form c.args.waits.now.items c.loop-k.order.items _ c.loop-k.waits.items _ c.loop-k.k t.result.0 t.result.1 c.loop-k.moved _ c.loop-k.invariant t.ensures.is lt (sym (read lt) ∙ w.if-index.true) (λ named. false≢true (w.if-not-names_marked.ensures.1 (rw w.deref.ensures.value named))) (rw w.order-is w.in_ok-push.ensures.items) (rw w.waits-is refl) w.moved-is
      | else-index w ↦
          pass_leaves d c.args.waits.now.items c.loop-k.order.items _ c.loop-k.waits.items _ c.loop-k.k c.loop-k.moved _ c.loop-k.invariant
          (elim w.else-index.branch [
            | else-index-via-then-index+else-not-names_marked x ↦ stuck_named d c.loop-k.k t.result.0 t.result.1 c.loop-k.waits.items t.ensures.is (rw (← x.deref.ensures.value) (x.if-not-names_marked.ensures.0 refl))
            | else-index-via-else-index x ↦ stuck_clear d c.loop-k.k t.result.0 t.result.1 c.loop-k.waits.items t.ensures.is (sym (read lt) ∙ x.if-index.false)
          ]) (rw w.order-is refl) (rw w.waits-is refl) w.moved-is
    ]

pub returns-clause-moved : goal.returns-clause-moved
returns-clause-moved c = placing_ends c.args.draft.now c.args.waits.now.items c.loop-k.waits.items c.loop-k.k c.loop-k.moved c.loop-k.invariant.1 (omega arith)
