use Rattle.std.proofs.Common.{◌≡◌, take, All, pos}
use Rattle.std.specs.Int.RustNames.{int_rem}
use Rattle.ag_kernel.proofs.rows.divides_all.Given as goal

abbrev pub invariant-loop-term : goal.invariant-loop-term
invariant-loop-term l = All (λ t. int_rem t.factor l.by ≡ pos 0) (take l.term-index l.terms)
