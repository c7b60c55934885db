use Rattle.std.proofs.Common.{◌≡◌, take, map}
use Rattle.ag_kernel.specs.Rules.{times}
use Rattle.ag_kernel.proofs.rows.divide_terms.Given as goal

abbrev pub invariant-loop-term : goal.invariant-loop-term
invariant-loop-term l = map (times l.by) l.new ≡ take l.term-index l.terms
