use Rattle.std.proofs.Common.{◌≡◌, ◌++◌, drop, map}
use Rattle.ag_annex.specs.Clauses.{var_of, vars_of}
use Rattle.ag_annex.proofs.meaning.vars_of.Given as goal

abbrev pub invariant-loop-part : goal.invariant-loop-part
invariant-loop-part l = l.vars ++ map (var_of l.bytes) (map (λ p. p.now) (drop l.part-index l.part-items)) ≡ vars_of l.bytes l.marked
