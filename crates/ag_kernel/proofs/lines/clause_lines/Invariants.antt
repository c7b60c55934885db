use Rattle.std.proofs.Common.{◌≡◌, map, take}
use Rattle.ag_kernel.specs.Rules.{clause_line}
use Rattle.ag_kernel.proofs.lines.clause_lines.Given as goal

abbrev pub invariant-loop-clause : goal.invariant-loop-clause
invariant-loop-clause l = l.lines.items ≡ map clause_line (take l.clause-index l.clauses)
