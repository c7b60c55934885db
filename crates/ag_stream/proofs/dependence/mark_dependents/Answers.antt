use Rattle.std.proofs.Common.{◌≡◌, ℕ, ◌+◌, ◌<◌, length, subst, refl, arith}
use Rattle.std.proofs.lemmas.Bool.{false≢true}
use Rattle.ag_stream.specs.Dependence.{Leads}
use Rattle.ag_stream.proofs.Passes.{met, pass_marks, pass_on, pass_ends, spread_at, spread_none}
use Rattle.ag_stream.proofs.dependence.mark_dependents.Goals as goal
use Rattle.ag_stream.proofs.dependence.mark_dependents.Goals.{then-names_marked+else-target-stream+then-not-marks-target, then-names_marked+else-target-stream+else-not-marks-target, else-names_marked}

pub returns-then-target-stream-clause-spread : goal.returns-then-target-stream-clause-spread
returns-then-target-stream-clause-spread c =
    let d = c.args.draft.now in
    let L : ℕ → Type 0 = λ x. Leads d (d.ints + c.args.stream) (d.ints + x) in
    let same : c.flag_equation-target.result.0 ≡ c.args.stream = omega arith in
    subst L same (met d c.args.stream c.loop-k.k c.flag_equation-target.result.0 c.flag_equation-target.result.1 c.loop-k.marks c.loop-k.invariant.0 c.flag_equation-target.ensures.is (c.if-names_marked.ensures.0 refl))

pub loop-k-preserved : goal.loop-k-preserved
loop-k-preserved c =
    let d = c.args.draft.now in
    let t = c.flag_equation-target in
    let lt : t.result.0 < length c.loop-k.marks = omega (arith, c.loop-k.invariant.0.size) in
    elim c.if-names_marked.branch [
      | then-names_marked+else-target-stream+then-not-marks-target w ↦
          pass_marks d c.args.stream c.loop-k.k t.result.0 t.result.1 c.args.marks.now c.loop-k.marks _ c.loop-k.came _ c.loop-k.invariant t.ensures.is lt (w.if-names_marked.ensures.0 refl) w.if-not-marks-target.true w.marks-is w.came-is
      | then-names_marked+else-target-stream+else-not-marks-target w ↦
          pass_on d c.args.stream c.loop-k.k c.args.marks.now c.loop-k.marks _ c.loop-k.came _ c.loop-k.invariant (spread_at d c.args.stream c.loop-k.k t.result.0 t.result.1 c.loop-k.marks t.ensures.is w.if-not-marks-target.false w.if-target-stream.false) w.marks-is w.came-is
      | else-names_marked w ↦
          pass_on d c.args.stream c.loop-k.k c.args.marks.now c.loop-k.marks _ c.loop-k.came _ c.loop-k.invariant (spread_none d c.args.stream c.loop-k.k t.result.0 t.result.1 c.loop-k.marks t.ensures.is (λ named. false≢true (w.if-names_marked.ensures.1 named))) w.marks-is w.came-is
    ]

pub returns-clause-spread : goal.returns-clause-spread
returns-clause-spread c = pass_ends c.args.draft.now c.args.stream c.loop-k.k c.args.marks.now c.loop-k.marks c.loop-k.came c.loop-k.invariant.1 (omega arith)
