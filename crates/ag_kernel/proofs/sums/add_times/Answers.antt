use Rattle.std.proofs.Common.{◌≡◌, ◌<◌, ◌≤◌, ◌+◌, ℕ, ℤ, pos, ◌+ℤ◌, ◌*ℤ◌, List, ◌∙◌, ap, subst, sym, arith, rules, drop, length, get_or, All, FitsSigned, None, to_z, of_z}
use Rattle.std.specs.Prelude.{⊤}
use Rattle.std.specs.Int.{w128}
use Rattle.std.proofs.lemmas.List.{take_all, take_rest}
use Rattle.std.proofs.lemmas.Result.{err_from_is_err_and}
use Rattle.ag_query.specs.declared.rows.LTerm.{LTerm}
use Rattle.ag_query.specs.Rows.{sum_of}
use Rattle.ag_kernel.specs.Faults.{IsCause}
use Rattle.ag_kernel.specs.Rules.{times}
use Rattle.ag_kernel.specs.Sums.{FitTerms, IsMerging, unit}
use Rattle.ag_kernel.proofs.Numbers.{back}
use Rattle.ag_kernel.proofs.Causes.{cause_weaker}
use Rattle.ag_kernel.proofs.Merging.{IsAdding, adding_none, adding_more, added_value, added_order, factor_met, head_above}
use Rattle.ag_kernel.proofs.sums.add_times.Goals as goal

pub loop-term-init : goal.loop-term-init
loop-term-init c = rw c.new-sum.ensures (adding_none c.args.left.now c.args.right.now (to_z w128 (of_z w128 c.args.by)))

pub offset_bounds-rest-used : goal.offset_bounds-rest-used
offset_bounds-rest-used c =
    let le : c.in_ok-used.used ≤ length c.args.left.now = omega (arith, c.in_ok-used.ensures.count, c.loop-term.invariant.short) in
    search rules

pub returns-in_err-used-clause-cause : goal.returns-in_err-used-clause-cause
returns-in_err-used-clause-cause c vars h g =
    let p = err_from_is_err_and c.from_residual.result c.from_residual.ensures.1 in
    let d : LTerm = record { var = 0; factor = pos 0 } in
    let left = c.args.left.now in
    let right = c.args.right.now in
    let b : ℤ = to_z w128 (of_z w128 c.args.by) in
    let j = c.loop-term.term-index in
    let t : LTerm = get_or right j d in
    let sum = c.loop-term.sum in
    let rest = c.loop-term.rest.now in
    let m = c.loop-term.invariant.merging vars h g in
    let met = factor_met left right b j vars sum rest d c.loop-term-test.true c.loop-term.invariant g in
    let le : m.0 ≤ t.var = head_above right j d m.0 c.loop-term-test.true m.2 in
    let e : b ≡ c.args.by = back c.args.by c.ranges.by in
    let is : c.in-Some.product ≡ times b t = c.in-Some.ensures.1 in
    let W : LTerm → Type 0 = λ q. m.0 ≤ q.var → IsCause None ⊤ (FitsSigned w128 ((sum_of (unit q.var) sum +ℤ sum_of (unit q.var) rest) +ℤ q.factor)) c.in_err-used.field-0.0 in
    let cause : W (times b t) = subst W is (λ l. c.in_err-used.ensures.cause m.0 vars m.1 l) in
    let found = cause le in
    let weaker : FitTerms left right c.args.by → FitsSigned w128 ((sum_of (unit t.var) sum +ℤ sum_of (unit t.var) rest) +ℤ b *ℤ t.factor) = λ f.
    let S : ℤ → Type 0 = λ z. FitsSigned w128 (sum_of (unit t.var) left +ℤ z *ℤ sum_of (unit t.var) right) in
    let fit : S b = subst S (sym e) (f.sums t.var) in
    subst (FitsSigned w128) met fit in
    rw (p.1, p.2) (cause_weaker None ⊤ (FitsSigned w128 ((sum_of (unit t.var) sum +ℤ sum_of (unit t.var) rest) +ℤ b *ℤ t.factor)) (FitTerms left right c.args.by) c.in_err-used.field-0.0 weaker found)

pub loop-term-preserved : goal.loop-term-preserved
loop-term-preserved c =
    let d : LTerm = record { var = 0; factor = pos 0 } in
    let left = c.args.left.now in
    let right = c.args.right.now in
    let b : ℤ = to_z w128 (of_z w128 c.args.by) in
    let j = c.loop-term.term-index in
    let t : LTerm = get_or right j d in
    let sum = c.loop-term.sum in
    let rest = c.loop-term.rest.now in
    let n = c.in_ok-used.used in
    let new = c.add_term.new.sum in
    let is : c.in-Some.product ≡ times b t = c.in-Some.ensures.1 in
    let V : LTerm → Type 0 = λ p. (x : ℕ → ℤ) → sum_of x new +ℤ sum_of x (drop n rest) ≡ (sum_of x sum +ℤ sum_of x rest) +ℤ p.factor *ℤ x p.var in
    let M : LTerm → Type 0 = λ p. (low vars : ℕ) → IsMerging low vars sum rest → low ≤ p.var → p.var < vars → IsMerging (p.var + 1) vars new (drop n rest) in
    let F : LTerm → Type 0 = λ p. FitsSigned w128 p.factor in
    let fits : F c.in-Some.product = subst F (sym is) c.in-Some.ensures.0 in
    let all : IsAdding left right b (j + 1) new (drop n rest) =
    adding_more left right b j n sum new rest d c.loop-term-test.true c.loop-term.invariant (subst V is c.in_ok-used.ensures.value) (subst M is c.in_ok-used.ensures.merging) (c.in_ok-used.ensures.fits fits c.loop-term.invariant.fits) c.in-Some.ensures.0 in
    rw (take_rest rest n) all

whole : (left right : List LTerm) (by : ℤ) (j : ℕ) (sum rest : List LTerm) → length right ≤ j → j ≤ length right → IsAdding left right by j sum rest → IsAdding left right by (length right) sum rest
whole left right by j sum rest ge le so = let e : j ≡ length right = omega arith in subst (λ (k : ℕ). IsAdding left right by k sum rest) e so

pub returns-clause-value : goal.returns-clause-value
returns-clause-value c x =
    let b : ℤ = to_z w128 (of_z w128 c.args.by) in
    let e : b ≡ c.args.by = back c.args.by c.ranges.by in
    let so = whole c.args.left.now c.args.right.now b c.loop-term.term-index c.loop-term.sum c.loop-term.rest.now (omega arith) (omega arith) c.loop-term.invariant in
    added_value c.args.left.now c.args.right.now b c.loop-term.sum c.copy_all.new.sum c.loop-term.rest.now so c.in_ok-copy_all.ensures.sum x
    ∙ ap (λ (z : ℤ). sum_of x c.args.left.now +ℤ z *ℤ sum_of x c.args.right.now) e

pub returns-clause-order : goal.returns-clause-order
returns-clause-order c vars h g =
    added_order c.args.left.now c.args.right.now (to_z w128 (of_z w128 c.args.by)) c.loop-term.term-index c.loop-term.sum c.copy_all.new.sum c.loop-term.rest.now c.loop-term.invariant c.in_ok-copy_all.ensures.sum vars h g

pub returns-clause-products : goal.returns-clause-products
returns-clause-products c =
    let b : ℤ = to_z w128 (of_z w128 c.args.by) in
    let e : b ≡ c.args.by = back c.args.by c.ranges.by in
    let all = take_all c.loop-term.term-index c.args.right.now (omega arith) in
    let P : ℤ → Type 0 = λ z. All (λ (t : LTerm). FitsSigned w128 (z *ℤ t.factor)) c.args.right.now in
    let h : P b = subst (λ (ts : List LTerm). All (λ (t : LTerm). FitsSigned w128 (b *ℤ t.factor)) ts) all c.loop-term.invariant.products in
    subst P e h
