use Rattle.std.proofs.Common.{map, take}
use Rattle.std.specs.List.{AllZip}
use Rattle.ag_print.specs.Shares.{placed, StatesThese}
use Rattle.ag_print.proofs.annexes.clauses_of.Given as goal

abbrev pub invariant-loop-annex : goal.invariant-loop-annex
invariant-loop-annex l = AllZip (StatesThese l.bytes) (map placed (take l.annex-index l.annexes)) l.clauses
