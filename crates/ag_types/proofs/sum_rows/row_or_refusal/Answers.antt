-- The numbered row of the sum, or the first broken rule.
use Rattle.ag_symbols.specs.Seen.{names_seen}
use Rattle.ag_types.specs.SumRows.{IsSumRow}
use Rattle.ag_types.proofs.NumberedRows.{sum_row_of, refusal_of, sum_constant, sum_terms, is_row, is_no_row}
use Rattle.ag_types.proofs.sum_rows.row_or_refusal.Goals as goal

pub numbered_row-requires-clause-kept : goal.numbered_row-requires-clause-kept
numbered_row-requires-clause-kept c =
    let names = names_seen c.args.scope.now in
    let values = c.values.result.now in
    let term = c.args.term.now in
    let found : IsSumRow names values term c.in-Ok.row =
    sum_row_of _ names values term _ c.in-Ok.row c.sight.ensures c.in-Ok.is c.in_ok-row.ensures.ok in
    sum_constant names values term c.in-Ok.row found

pub numbered_row-requires-clause-terms : goal.numbered_row-requires-clause-terms
numbered_row-requires-clause-terms c =
    let names = names_seen c.args.scope.now in
    let values = c.values.result.now in
    let term = c.args.term.now in
    let found : IsSumRow names values term c.in-Ok.row =
    sum_row_of _ names values term _ c.in-Ok.row c.sight.ensures c.in-Ok.is c.in_ok-row.ensures.ok in
    sum_terms names values term c.in-Ok.row c.requires.sum found

pub returns-in_ok-numbered_row-in-Ok-clause-ok : goal.returns-in_ok-numbered_row-in-Ok-clause-ok
returns-in_ok-numbered_row-in-Ok-clause-ok c =
    let names = names_seen c.args.scope.now in
    let values = c.values.result.now in
    let term = c.args.term.now in
    let found : IsSumRow names values term c.in-Ok.row =
    sum_row_of _ names values term _ c.in-Ok.row c.sight.ensures c.in-Ok.is c.in_ok-row.ensures.ok in
    is_row c.args.scope.now values term c.in-Ok.row _ c.values.ensures.values c.requires.sum c.numbered_row.ensures.order found
    c.in_ok-numbered_row-in-Ok.ensures.ok

pub returns-in-Err-clause-refused : goal.returns-in-Err-clause-refused
returns-in-Err-clause-refused c =
    is_no_row c.args.scope.now c.values.result.now c.args.term.now c.in-Err.refusal c.values.ensures.values
    (refusal_of _ (names_seen c.args.scope.now) c.values.result.now c.args.term.now _ c.in-Err.refusal c.sight.ensures c.in-Err.is c.in_ok-row.ensures.refused)
