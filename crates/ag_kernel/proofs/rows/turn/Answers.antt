use Rattle.std.proofs.Common.{neg_ℤ, FitsSigned, rules, ◌∙◌, ap, map, None, All, List, subst}
use Rattle.std.specs.Prelude.{⊤}
use Rattle.std.specs.Int.{w128}
use Rattle.std.proofs.lemmas.List.Elements.{All-map}
use Rattle.std.proofs.lemmas.Result.{err_from_is_err_and}
use Rattle.ag_query.specs.declared.rows.LTerm.{LTerm}
use Rattle.ag_kernel.specs.Rules.{negated, opposite, FitsRow}
use Rattle.ag_kernel.proofs.Causes.{cause_weaker}
use Rattle.ag_kernel.proofs.Numbers.{fits_back, turned_row, turned_fits}
use Rattle.ag_kernel.specs.Faults.{IsCause}
use Rattle.ag_kernel.proofs.rows.turn.Goals as goal

pub returns-in_err-terms-clause-cause : goal.returns-in_err-terms-clause-cause
returns-in_err-terms-clause-cause c =
    let p = err_from_is_err_and c.from_residual.result c.from_residual.ensures.1 in
    let ts = c.args.row.now.terms in
    let h : IsCause None ⊤ (All (λ t. FitsSigned w128 (neg_ℤ t.factor)) ts) c.in_err-terms.field-0.0 = subst (λ (xs : List LTerm). IsCause None ⊤ (All (λ t. FitsSigned w128 (neg_ℤ t.factor)) xs) c.in_err-terms.field-0.0) c.as_slice.ensures c.in_err-terms.ensures.cause in
    rw (p.1, p.2) (cause_weaker None ⊤ (All (λ t. FitsSigned w128 (neg_ℤ t.factor)) ts) (FitsRow (opposite c.args.row.now)) c.in_err-terms.field-0.0 (λ g. fits_back ts g.0) h)

pub returns-clause-ok : goal.returns-clause-ok
returns-clause-ok c =
    let f : FitsSigned w128 c.args.row.now.bound = search rules in
    let ts = c.args.row.now.terms in
    let h : All (λ t. FitsSigned w128 (neg_ℤ t.factor)) ts = subst (λ (xs : List LTerm). All (λ t. FitsSigned w128 (neg_ℤ t.factor)) xs) c.as_slice.ensures c.in_ok-terms.ensures.fits in
    (turned_row c.args.row.now c.in_ok-terms.terms f (c.in_ok-terms.ensures.terms ∙ ap (map negated) c.as_slice.ensures), (All-map (λ t. FitsSigned w128 t.factor) negated ts h, turned_fits c.args.row.now.bound f))
