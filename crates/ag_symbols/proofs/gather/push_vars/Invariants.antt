use Rattle.std.proofs.Common.{◌≡◌, ◌++◌, drop}
use Rattle.std.specs.Prelude.{map}
use Rattle.ag_symbols.proofs.gather.push_vars.Given as goal

abbrev pub invariant-loop-var : goal.invariant-loop-var
invariant-loop-var l = map (λ v. v.now) l.gathered.items ++ drop l.var-index l.vars ≡ map (λ v. v.now) l.fn.gathered.items ++ l.vars
