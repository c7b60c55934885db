use Rattle.std.proofs.Common.{◌≡◌, ◌++◌, ap, ◌∙◌, arith}
use Rattle.std.specs.String.{string_bytes}
use Rattle.ag_report.specs.Tables.{row_text}
use Rattle.ag_report.proofs.Steps.{text_more}
use Rattle.ag_report.proofs.table.push_table.Goals as goal

pub loop-row-preserved : goal.loop-row-preserved
loop-row-preserved c =
    let name : c.as_str.result.now ≡ c.index-names-row.result = c.as_str.ensures in
    let put : string_bytes c.push_row.new.text ≡ string_bytes c.loop-row.text ++ row_text c.longest_of-width.result c.args.columns.now (c.loop-row.row, c.as_str.result.now) = c.in_ok-push_row.ensures in
    text_more (row_text c.longest_of-width.result c.args.columns.now) 0 c.loop-row.row c.args.names.now c.loop-row.row c.index-names-row.result _ _ _ c.loop-row-test.true (omega arith) c.index-names-row.is c.loop-row.invariant
    (put ∙ ap (λ n. string_bytes c.loop-row.text ++ row_text c.longest_of-width.result c.args.columns.now (c.loop-row.row, n)) name)
