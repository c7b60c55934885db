use Rattle.std.proofs.Common.{◌≡◌, ◌++◌, drop}
use Rattle.std.specs.Prelude.{map}
use Rattle.std.specs.List.{flat_map}
use Rattle.ag_types.specs.ClauseFaults.{valued_streams_in}
use Rattle.ag_types.proofs.sources.push_valued_streams.Given as goal

abbrev pub invariant-loop-clause : goal.invariant-loop-clause
invariant-loop-clause l = map (λ v. v.now) l.streams.items ++ flat_map valued_streams_in (drop l.clause-index l.clauses) ≡ map (λ v. v.now) l.fn.streams.items ++ flat_map valued_streams_in l.clauses
