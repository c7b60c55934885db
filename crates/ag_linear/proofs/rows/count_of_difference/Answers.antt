-- The factors that are done, and those that are left.
use Rattle.std.proofs.Common.{◌≡◌, ap, arith, map, rules, sym, true, ◌∙◌}
use Rattle.std.specs.Prelude.{FitsSigned, negsuc, ◌-ℤ◌}
use Rattle.std.specs.Int.{w128}
use Rattle.std.proofs.lemmas.Int.{to_z-of_z}
use Rattle.ag_linear.proofs.Parts.{count_more, count_same, test_step}
use Rattle.ag_linear.proofs.Wide.{difference_again, nonzero_from, zero_from}
use Rattle.ag_linear.specs.Values.{is_carried}
use Rattle.ag_linear.specs.Rows.{is_factor, plus_factors, times_factor}
use Rattle.ag_linear.proofs.rows.count_of_difference.Goals as goal
use Rattle.ag_linear.proofs.rows.count_of_difference.Goals.{then-factor-ne0, else-factor-ne0}

pub loop-next-preserved : goal.loop-next-preserved
loop-next-preserved c =
    let p = c.in-Some.next in
    let z = p.left -ℤ p.right in
    let factor = c.in-Some-difference.factor in
    let parts = c.in-Some.ensures.parts in
    let rest = plus_factors c.loop-next.left.now (map (times_factor (negsuc 0)) c.loop-next.right.now) in
    let more = plus_factors p.more.now (map (times_factor (negsuc 0)) p.others.now) in
    let left : FitsSigned w128 p.left = search rules in
    let right : FitsSigned w128 p.right = search rules in
    let fits : FitsSigned w128 factor = search rules in
    let same = difference_again p.left p.right left right in
    let exact : factor ≡ z = c.in-Some-difference.ensures.1 ∙ same in
    let carried : is_carried z ≡ true = sym (ap is_carried same) ∙ c.in-Some-difference.ensures.0 in
    let small : is_factor z ≡ true = sym (ap is_factor (to_z-of_z w128 factor fits ∙ exact)) ∙ (sym c.is_factor.ensures ∙ c.if-not-is_factor.false) in
    record {
      small = c.loop-next.invariant.small ∙ test_step is_factor rest more p.stream p.before z parts.difference small;
      count = elim c.if-factor-ne0.branch [
        | then-factor-ne0 w ↦ omega (arith, w.count-is, c.loop-next.invariant.count, count_more rest more p.stream p.before z parts.difference (nonzero_from factor z exact w.if-factor-ne0.true))
        | else-factor-ne0 w ↦ omega (arith, w.count-is, c.loop-next.invariant.count, count_same rest more p.stream p.before z parts.difference (zero_from factor z exact carried w.if-factor-ne0.false))
      ];
      bound = elim c.if-factor-ne0.branch [
        | then-factor-ne0 w ↦ omega (arith, w.count-is, c.loop-next.invariant.bound, parts.shorter)
        | else-factor-ne0 w ↦ omega (arith, w.count-is, c.loop-next.invariant.bound, parts.shorter)
      ];
      rows = c.in-Some.ensures.rows;
    }
