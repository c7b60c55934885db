use Rattle.std.proofs.Common.{◌≡◌, ◌≤◌, drop, Ok}
use Rattle.ag_annex.specs.Nesting.{levels}
use Rattle.ag_annex.specs.Rules.{run, run_from}
use Rattle.ag_annex.proofs.rules.run.Given as goal

abbrev pub invariant-loop-token : goal.invariant-loop-token
invariant-loop-token l = record {
  left : run_from l.site (Ok l.nest) (drop l.token-index l.marked) ≡ run l.fn.site l.marked;
  within : levels l.nest ≤ 200;
}
