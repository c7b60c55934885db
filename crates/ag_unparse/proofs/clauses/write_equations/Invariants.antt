use Rattle.std.proofs.Common.{◌≡◌, drop}
use Rattle.std.specs.List.{flat_map}
use Rattle.ag_unparse.specs.Canonical.{equal_words}
use Rattle.ag_unparse.specs.Written.{with_words}
use Rattle.ag_unparse.proofs.clauses.write_equations.Given as goal

-- what is left to write comes to the whole
abbrev pub invariant-loop-equal : goal.invariant-loop-equal
invariant-loop-equal l = with_words l.writer (flat_map equal_words (drop l.equal-index l.equations)) ≡ with_words l.initial.writer (flat_map equal_words l.equations)
