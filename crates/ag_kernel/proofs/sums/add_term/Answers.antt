use Rattle.std.proofs.Common.{◌≡◌, ◌<◌, ◌+◌, ℕ, ℤ, pos, ◌+ℤ◌, ◌*ℤ◌, ◌∙◌, ap, subst, refl, length, get_or, All, FitsSigned}
use Rattle.std.specs.Int.{w128}
use Rattle.std.proofs.lemmas.Bool.{both_ways}
use Rattle.std.proofs.lemmas.List.{drop_more, get_or_default}
use Rattle.ag_query.specs.declared.rows.LTerm.{LTerm}
use Rattle.ag_query.specs.Rows.{AreInOrder, sum_of}
use Rattle.ag_kernel.proofs.Merging.{value_plain, value_join, merging_next, rest_after, rest_from, unit_met}
use Rattle.ag_kernel.proofs.sums.add_term.Goals as goal

pub returns-in_default-clause-cause : goal.returns-in_default-clause-cause
returns-in_default-clause-cause c low vars m le =
    let d : LTerm = record { var = 0; factor = pos 0 } in
    let n = c.in_ok-before.before in
    let left = c.args.rest.now in
    let t : LTerm = get_or left n d in
    let at = c.stands_at.ensures.0 c.if-stands_at.true in
    let e = unit_met low vars c.args.term.now.var n c.args.sum.now left t m le at.0 (get_or_default left n d t at.0) (at.1 d) in
    let f = c.args.term.now.factor in
    let P : ℤ → Type 0 = λ z. FitsSigned w128 (z +ℤ f) in
    let not' = c.in_default.ensures in
    (refl, tt, λ g. not' (subst P e g))

pub returns-then-stands_at-clause-value : goal.returns-then-stands_at-clause-value
returns-then-stands_at-clause-value c x =
    let d : LTerm = record { var = 0; factor = pos 0 } in
    let n = c.in_ok-before.before in
    let left = c.args.rest.now in
    let t : LTerm = get_or left n d in
    let at = c.stands_at.ensures.0 c.if-stands_at.true in
    let new1 = c.copy_before.new.sum in
    let new2 = c.push_nonzero.new.sum in
    let S : LTerm → Type 0 = λ b. sum_of x new2 ≡ sum_of x new1 +ℤ b.factor *ℤ x b.var in
    let v : S (record { var = t.var; factor = t.factor +ℤ c.args.term.now.factor }) = subst S c.in-Some.ensures.1 (c.in_ok-push_nonzero.ensures.value x) in
    value_join x n c.args.term.now.var c.args.sum.now new1 new2 left t c.args.term.now.factor c.in_ok-before.ensures.sum (drop_more left n d at.0) (at.1 d) v

pub returns-then-stands_at-clause-merging : goal.returns-then-stands_at-clause-merging
returns-then-stands_at-clause-merging c low vars m le lt =
    let d : LTerm = record { var = 0; factor = pos 0 } in
    let n = c.in_ok-before.before in
    let left = c.args.rest.now in
    let t : LTerm = get_or left n d in
    let at = c.stands_at.ensures.0 c.if-stands_at.true in
    let v = c.args.term.now.var in
    let new1 = c.copy_before.new.sum in
    let new2 = c.push_nonzero.new.sum in
    let B : ℕ → Type 0 = λ k. AreInOrder vars new1 → All (λ s. s.var < k) new1 → k < vars → AreInOrder vars new2 × All (λ s. s.var < k + 1) new2 in
    let var : c.in-Some.both.var ≡ v = ap (λ (s : LTerm). s.var) c.in-Some.ensures.1 ∙ at.1 d in
    let push : B v = subst B var (c.in_ok-push_nonzero.ensures.order vars) in
    merging_next low vars v n c.args.sum.now new1 new2 left (n + 1) m le lt c.in_ok-before.ensures.sum c.in_ok-before.ensures.before (λ o b. push o b lt) (rest_after vars n v left m.rest at.1)

pub returns-clause-value : goal.returns-clause-value
returns-clause-value c x =
    value_plain x c.in_ok-before.before c.args.sum.now c.copy_before.new.sum c.push_nonzero-2.new.sum c.args.rest.now (c.args.term.now.factor *ℤ x c.args.term.now.var) c.in_ok-before.ensures.sum (c.in_ok-push_nonzero-2.ensures.value x)

pub returns-clause-merging : goal.returns-clause-merging
returns-clause-merging c low vars m le lt =
    let n = c.in_ok-before.before in
    let left = c.args.rest.now in
    let v = c.args.term.now.var in
    let apart = λ (p : (n < length left) × ((d : LTerm) → (get_or left n d).var ≡ v)). both_ways c.stands_at.result c.if-stands_at.false (c.stands_at.ensures.1 p) in
    merging_next low vars v n c.args.sum.now c.copy_before.new.sum c.push_nonzero-2.new.sum left n m le lt c.in_ok-before.ensures.sum c.in_ok-before.ensures.before (λ o b. c.in_ok-push_nonzero-2.ensures.order vars o b lt) (rest_from vars n v left m.rest c.in_ok-before.ensures.after apart)
