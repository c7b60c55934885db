use Rattle.std.proofs.Common.{◌≡◌, drop}
use Rattle.ag_unparse.specs.Canonical.{more_var_words}
use Rattle.ag_unparse.specs.Written.{with_words}
use Rattle.ag_unparse.proofs.words.write_more_vars.Given as goal

-- what is left to write comes to the whole
abbrev pub invariant-loop-var : goal.invariant-loop-var
invariant-loop-var l = with_words l.writer (more_var_words (drop l.var-index l.vars)) ≡ with_words l.initial.writer (more_var_words l.vars)
