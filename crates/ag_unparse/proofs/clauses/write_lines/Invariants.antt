use Rattle.std.proofs.Common.{◌≡◌, drop, map}
use Rattle.ag_unparse.specs.Canonical.{clause_words}
use Rattle.ag_unparse.specs.Written.{with_lines}
use Rattle.ag_unparse.proofs.clauses.write_lines.Given as goal

-- what is left to write comes to the whole
abbrev pub invariant-loop-clause : goal.invariant-loop-clause
invariant-loop-clause l = with_lines l.writer (map clause_words (drop l.clause-index l.clauses)) ≡ with_lines l.initial.writer (map clause_words l.clauses)
