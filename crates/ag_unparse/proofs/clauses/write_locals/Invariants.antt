use Rattle.std.proofs.Common.{◌≡◌, drop}
use Rattle.std.specs.List.{flat_map}
use Rattle.ag_unparse.specs.Canonical.{local_words}
use Rattle.ag_unparse.specs.Written.{with_words}
use Rattle.ag_unparse.proofs.clauses.write_locals.Given as goal

-- what is left to write comes to the whole
abbrev pub invariant-loop-local : goal.invariant-loop-local
invariant-loop-local l = with_words l.writer (flat_map local_words (drop l.local-index l.locals)) ≡ with_words l.initial.writer (flat_map local_words l.locals)
