use Rattle.std.proofs.Common.{◌≡◌, take}
use Rattle.ag_report.specs.Tables.{longest}
use Rattle.ag_report.proofs.table.longest_of.Given as goal

abbrev pub invariant-loop-text : goal.invariant-loop-text
invariant-loop-text l = l.most ≡ longest (take l.text-index l.texts)
