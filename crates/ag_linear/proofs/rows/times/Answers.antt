-- The product's parts are those of the row.
use Rattle.std.proofs.Common.{◌≡◌, ap, not, of_z, refl, rules, to_z, true, ◌∙◌}
use Rattle.std.specs.Prelude.{FitsSigned, Some}
use Rattle.std.specs.Int.{w128}
use Rattle.std.proofs.lemmas.Int.{to_z-of_z}
use Rattle.ag_linear.proofs.Held.{held_row, past_passes, past_row, times_held, times_is, times_kept, times_stops}
use Rattle.ag_linear.proofs.Wide.{nonzero_from, product_again}
use Rattle.ag_linear.specs.Values.{is_carried}
use Rattle.ag_linear.specs.Rows.{carried_row, keeps_row, times}
use Rattle.ag_linear.proofs.rows.times.Goals as goal

pub returns-then-not-have_128_bits_times-clause-row : goal.returns-then-not-have_128_bits_times-clause-row
returns-then-not-have_128_bits_times-clause-row c =
    let r = c.row.inside in
    let nonzero = nonzero_from c.args.by c.args.by refl c.if-by-eq0.false in
    let past = times_stops c.args.by _ r.constant r.factors.items _ r.hidden.items _ c.args.row _ c.row.view_is nonzero (to_z-of_z w128 c.args.by c.ranges.by) c.as_slice.ensures.value c.as_slice-2.ensures.value c.have_128_bits_times.ensures c.if-not-have_128_bits_times.true in
    c.past_128_bits-then-not-have_128_bits_times.ensures.row ∙ past_row (times c.args.by c.args.row) past

pub returns-then-not-have_128_bits_times-clause-passes : goal.returns-then-not-have_128_bits_times-clause-passes
returns-then-not-have_128_bits_times-clause-passes c =
    let r = c.row.inside in
    let nonzero = nonzero_from c.args.by c.args.by refl c.if-by-eq0.false in
    let past = times_stops c.args.by _ r.constant r.factors.items _ r.hidden.items _ c.args.row _ c.row.view_is nonzero (to_z-of_z w128 c.args.by c.ranges.by) c.as_slice.ensures.value c.as_slice-2.ensures.value c.have_128_bits_times.ensures c.if-not-have_128_bits_times.true in
    c.past_128_bits-then-not-have_128_bits_times.ensures.passes ∙ past_passes (times c.args.by c.args.row) past

pub keep-requires : goal.keep-requires
keep-requires c =
    let r = c.row.inside in
    let nonzero = nonzero_from c.args.by c.args.by refl c.if-by-eq0.false in
    let by = to_z-of_z w128 c.args.by c.ranges.by in
    let kept = times_kept c.args.by _ r.factors.items _ r.hidden.items _ _ by c.as_slice.ensures.value c.as_slice-2.ensures.value c.have_128_bits_times.ensures c.if-not-have_128_bits_times.false in
    times_held c.args.by _ _ r.constant r.factors.items _ r.hidden.items _ c.row.invariant nonzero by c.scale_factors.ensures c.scale_hidden.ensures kept.0 kept.1

pub returns-clause-row : goal.returns-clause-row
returns-clause-row c =
    let r = c.row.inside in
    let nonzero = nonzero_from c.args.by c.args.by refl c.if-by-eq0.false in
    let by = to_z-of_z w128 c.args.by c.ranges.by in
    let kept = times_kept c.args.by _ r.factors.items _ r.hidden.items _ _ by c.as_slice.ensures.value c.as_slice-2.ensures.value c.have_128_bits_times.ensures c.if-not-have_128_bits_times.false in
    let fits : FitsSigned w128 c.in-Some.constant = search rules in
    let constant : FitsSigned w128 r.constant = search rules in
    let d = to_z w128 (of_z w128 c.in-Some.constant) in
    let again = to_z-of_z w128 c.in-Some.constant fits ∙ c.in-Some.ensures.1 in
    let e = times_is c.args.by _ d r.constant r.factors.items _ r.hidden.items _ c.args.row c.row.view_is nonzero by (again ∙ product_again c.args.by r.constant c.ranges.by constant) c.scale_factors.ensures c.scale_hidden.ensures in
    let carried : is_carried d ≡ true = ap is_carried again ∙ c.in-Some.ensures.0 in
    let held = times_held c.args.by _ d r.constant r.factors.items _ r.hidden.items _ c.row.invariant nonzero by c.scale_factors.ensures c.scale_hidden.ensures kept.0 kept.1 in
    c.keep.ensures.row ∙ (held_row _ carried held ∙ ap (λ s. carried_row (Some s)) e)

pub returns-clause-passes : goal.returns-clause-passes
returns-clause-passes c =
    let r = c.row.inside in
    let nonzero = nonzero_from c.args.by c.args.by refl c.if-by-eq0.false in
    let by = to_z-of_z w128 c.args.by c.ranges.by in
    let fits : FitsSigned w128 c.in-Some.constant = search rules in
    let constant : FitsSigned w128 r.constant = search rules in
    let d = to_z w128 (of_z w128 c.in-Some.constant) in
    let again = to_z-of_z w128 c.in-Some.constant fits ∙ c.in-Some.ensures.1 in
    let e = times_is c.args.by _ d r.constant r.factors.items _ r.hidden.items _ c.args.row c.row.view_is nonzero by (again ∙ product_again c.args.by r.constant c.ranges.by constant) c.scale_factors.ensures c.scale_hidden.ensures in
    c.keep.ensures.passes ∙ ap (λ s. not (keeps_row s)) e
