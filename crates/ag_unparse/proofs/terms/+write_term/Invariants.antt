use Rattle.std.proofs.Common.{◌≡◌, drop}
use Rattle.ag_unparse.specs.Written.{with_words, comma, listed_words}
use Rattle.ag_unparse.proofs.terms.+write_term.Given as goal

-- what is left to write comes to the whole
abbrev pub invariant-write_arguments-loop-arg : goal.invariant-write_arguments-loop-arg
invariant-write_arguments-loop-arg l = with_words l.writer (listed_words comma (drop l.arg-index l.more)) ≡ with_words l.initial.writer (listed_words comma l.more)
