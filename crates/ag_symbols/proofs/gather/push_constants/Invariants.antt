use Rattle.std.proofs.Common.{◌≡◌, ◌++◌, drop}
use Rattle.std.specs.Prelude.{map}
use Rattle.std.specs.List.{flat_map}
use Rattle.ag_symbols.specs.Seen.{constants_in}
use Rattle.ag_symbols.proofs.gather.push_constants.Given as goal

abbrev pub invariant-loop-clause : goal.invariant-loop-clause
invariant-loop-clause l = map (λ v. v.now) l.gathered.items ++ flat_map constants_in (drop l.clause-index l.clauses) ≡ map (λ v. v.now) l.fn.gathered.items ++ flat_map constants_in l.clauses
