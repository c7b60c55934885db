use Rattle.std.proofs.Common.{ℤ, subst, sym, to_z, of_z, None}
use Rattle.std.specs.Prelude.{⊤}
use Rattle.std.specs.Int.{w128}
use Rattle.std.proofs.lemmas.Result.{err_from_is_err_and}
use Rattle.ag_query.specs.Rows.{AreInOrder}
use Rattle.ag_kernel.specs.Sums.{FitTerms, FitsAdded}
use Rattle.ag_kernel.proofs.Numbers.{back}
use Rattle.ag_kernel.proofs.Causes.{cause_weaker}
use Rattle.ag_kernel.proofs.Combining.{fits_added, fit_terms}
use Rattle.ag_kernel.proofs.sums.add_row.Goals as goal

pub returns-in_err-terms-clause-cause : goal.returns-in_err-terms-clause-cause
returns-in_err-terms-clause-cause c vars h g =
    let p = err_from_is_err_and c.from_residual.result c.from_residual.ensures.1 in
    let b : ℤ = to_z w128 (of_z w128 c.args.by) in
    let l = c.as_slice.result.now in
    let r = c.as_slice-2.result.now in
    let found = c.in_err-terms.ensures.cause vars (subst (AreInOrder vars) (sym c.as_slice.ensures) h) (subst (AreInOrder vars) (sym c.as_slice-2.ensures) g) in
    rw (p.1, p.2) (cause_weaker None ⊤ (FitTerms l r b) (FitsAdded c.args.sum.now c.args.row.now c.args.by) c.in_err-terms.field-0.0 (fit_terms c.args.sum.now c.args.row.now c.args.by b l r (back c.args.by c.ranges.by) c.as_slice.ensures c.as_slice-2.ensures) found)

pub returns-clause-order : goal.returns-clause-order
returns-clause-order c vars h g =
    let b : ℤ = to_z w128 (of_z w128 c.args.by) in
    let l = c.as_slice.result.now in
    let r = c.as_slice-2.result.now in
    let order = c.in_ok-terms.ensures.order vars (subst (AreInOrder vars) (sym c.as_slice.ensures) h) (subst (AreInOrder vars) (sym c.as_slice-2.ensures) g) in
    (order, fits_added vars c.args.sum.now c.args.row.now c.args.by b l r c.in_ok-terms.terms (back c.args.by c.ranges.by) c.as_slice.ensures c.as_slice-2.ensures order c.in_ok-terms.ensures.fits c.in_ok-terms.ensures.value c.in_ok-terms.ensures.products c.in-Some.ensures.0)
