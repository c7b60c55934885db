use Rattle.std.proofs.Common.{◌≡◌, ◌∷◌, [], ◌++◌, drop, map}
use Rattle.ag_aadl.specs.Marked.{segments}
use Rattle.ag_annex.specs.Clauses.{equal_of}
use Rattle.ag_annex.specs.Marks.{target_mark}
use Rattle.ag_annex.proofs.Fitting.{AreFit}
use Rattle.ag_annex.proofs.meaning.equations_of.Given as goal

-- the equations so far, and the numbers of the parts that are left are at most 2^47
abbrev pub invariant-loop-part : goal.invariant-loop-part
invariant-loop-part l = record {
  made : l.equations ++ map (equal_of l.bytes) (map (λ p. p.now) (drop l.part-index l.part-items)) ≡ map (equal_of l.bytes) (segments (target_mark ∷ []) l.marked);
  fit : AreFit l.bytes (map (λ p. p.now) (drop l.part-index l.part-items));
}
