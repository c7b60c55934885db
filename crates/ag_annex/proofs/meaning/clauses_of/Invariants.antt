use Rattle.std.proofs.Common.{◌≡◌, ◌++◌, drop, map}
use Rattle.ag_annex.specs.Clauses.{clause_of, clauses_of}
use Rattle.ag_annex.proofs.Fitting.{AreFit}
use Rattle.ag_annex.proofs.meaning.clauses_of.Given as goal

-- the clauses so far, and the numbers of the parts that are left are at most 2^47
abbrev pub invariant-loop-part : goal.invariant-loop-part
invariant-loop-part l = record {
  made : l.clauses ++ map (clause_of l.bytes) (map (λ p. p.now) (drop l.part-index l.part-items)) ≡ clauses_of l.bytes l.marked;
  fit : AreFit l.bytes (map (λ p. p.now) (drop l.part-index l.part-items));
}
