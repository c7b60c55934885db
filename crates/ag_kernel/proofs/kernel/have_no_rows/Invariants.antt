use Rattle.std.proofs.Common.{All, take}
use Rattle.std.specs.Prelude.{IsNone}
use Rattle.ag_kernel.specs.Rules.{line_at}
use Rattle.ag_kernel.proofs.kernel.have_no_rows.Given as goal

abbrev pub invariant-loop-n : goal.invariant-loop-n
invariant-loop-n l = All (λ n. IsNone (line_at l.lines n).row) (take l.n-index l.named)
