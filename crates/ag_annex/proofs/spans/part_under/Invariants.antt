use Rattle.std.proofs.Common.{◌≡◌, drop, map}
use Rattle.ag_annex.specs.Clauses.{part_under}
use Rattle.ag_annex.proofs.spans.part_under.Given as goal

-- none of the parts before begins with the mark
abbrev pub invariant-loop-part : goal.invariant-loop-part
invariant-loop-part l = part_under l.mark (map (λ p. p.now) (drop l.part-index l.parts)) ≡ part_under l.mark (map (λ p. p.now) l.parts)
