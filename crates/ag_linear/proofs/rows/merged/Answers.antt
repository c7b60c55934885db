-- The factors that are done, and those that are left.
use Rattle.std.proofs.Common.{◌≡◌, ap, rules, sym, true, ◌++◌, ◌∙◌}
use Rattle.std.specs.Prelude.{FitsSigned, ◌+ℤ◌}
use Rattle.std.specs.Int.{w128}
use Rattle.std.proofs.lemmas.Int.{to_z-of_z}
use Rattle.ag_linear.proofs.Parts.{step_taken, step_passed, test_step}
use Rattle.ag_linear.proofs.Wide.{nonzero_from, sum_again, zero_from}
use Rattle.ag_linear.specs.Values.{is_carried}
use Rattle.ag_linear.specs.Rows.{plus_factors}
use Rattle.ag_linear.proofs.rows.merged.Goals as goal
use Rattle.ag_linear.proofs.rows.merged.Goals.{then-factor-ne0+in_ok-push, else-factor-ne0}

pub loop-next-preserved : goal.loop-next-preserved
loop-next-preserved c =
    let p = c.in-Some.next in
    let z = p.left +ℤ p.right in
    let factor = c.in-Some-sum.factor in
    let before = c.loop-next.factors.items in
    let rest = plus_factors c.loop-next.left.now c.loop-next.right.now in
    let more = plus_factors p.more.now p.others.now in
    let split = c.in-Some.ensures.parts.sum in
    let left : FitsSigned w128 p.left = search rules in
    let right : FitsSigned w128 p.right = search rules in
    let fits : FitsSigned w128 factor = search rules in
    let same = sum_again p.left p.right left right in
    let exact : factor ≡ z = c.in-Some-sum.ensures.1 ∙ same in
    let carried : is_carried z ≡ true = sym (ap is_carried same) ∙ c.in-Some-sum.ensures.0 in
    record {
      sum = elim c.if-factor-ne0.branch [
        | then-factor-ne0+in_ok-push w ↦
            step_taken before c.if-factor-ne0.factors.items rest more _ p.stream p.before z _ c.loop-next.invariant.sum split
            (nonzero_from factor z exact w.if-factor-ne0.true) (to_z-of_z w128 factor fits ∙ exact) (ap (λ v. v.items) w.factors-is ∙ w.in_ok-push.ensures.items)
        | else-factor-ne0 w ↦
            ap (λ v. v.items ++ more) w.factors-is
            ∙ step_passed before rest more _ p.stream p.before z c.loop-next.invariant.sum split (zero_from factor z exact carried w.if-factor-ne0.false)
      ];
      carried = c.loop-next.invariant.carried ∙ test_step is_carried rest more p.stream p.before z split carried;
      rows = c.in-Some.ensures.rows;
    }
