use Rattle.std.proofs.Common.{◌≡◌, map, take, All, neg_ℤ, FitsSigned}
use Rattle.std.specs.Int.{w128}
use Rattle.ag_kernel.specs.Rules.{negated}
use Rattle.ag_kernel.proofs.rows.negate_all.Given as goal

abbrev pub invariant-loop-term : goal.invariant-loop-term
invariant-loop-term l = record {
  said : l.new ≡ map negated (take l.term-index l.terms);
  fits : All (λ t. FitsSigned w128 (neg_ℤ t.factor)) (take l.term-index l.terms);
}
