use Rattle.std.proofs.Common.{subst, sym}
use Rattle.ag_kernel.specs.declared.line.Line.{Line}
use Rattle.ag_kernel.specs.State.{State, IsLineOf}
use Rattle.ag_kernel.proofs.RowLines.{unfolded_line}
use Rattle.ag_kernel.proofs.kernel.Kernel.unfold.Goals as goal

pub push-requires : goal.push-requires
push-requires c =
    let P : State → Type 0 = λ s. IsLineOf s c.in_ok-line.line in
    let Q : Line → Type 0 = IsLineOf c.args.self.now in
    subst P (sym c.self.view_is) (subst Q (sym c.in_ok-line.ensures.line) (unfolded_line c.args.self.now c.args.lit c.unfolded.ensures.sound c.in_ok-line.ensures.allowed.1))
