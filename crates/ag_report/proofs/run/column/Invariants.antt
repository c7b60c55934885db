use Rattle.std.proofs.Common.{◌≡◌, ◌++◌, map}
use Rattle.std.specs.List.{range_with_len}
use Rattle.ag_stream.specs.Values.{flag_at}
use Rattle.ag_report.specs.Texts.{truth_text}
use Rattle.ag_report.proofs.run.column.Given as goal

abbrev pub invariant-loop-stream : goal.invariant-loop-stream
invariant-loop-stream l = l.cells ≡ l.initial.cells ++ map (λ s. truth_text (flag_at l.instant s)) (range_with_len 0 l.stream)
