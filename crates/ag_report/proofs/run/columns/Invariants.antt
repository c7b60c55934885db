use Rattle.std.proofs.Common.{◌≡◌, ◌++◌, take, map}
use Rattle.std.specs.List.{enumerate_from}
use Rattle.ag_report.specs.Texts.{column_of}
use Rattle.ag_report.proofs.run.columns.Given as goal

abbrev pub invariant-loop-index : goal.invariant-loop-index
invariant-loop-index l = l.columns ≡ l.initial.columns ++ map (column_of l.ports) (enumerate_from 1 (take l.index l.instants))
