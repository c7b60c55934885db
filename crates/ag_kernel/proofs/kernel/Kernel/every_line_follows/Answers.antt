use Rattle.std.proofs.Common.{subst, [], None}
use Rattle.std.proofs.lemmas.List.Elements.{All-contains}
use Rattle.ag_kernel.specs.State.{State, IsSound, IsLineOf}
use Rattle.ag_kernel.proofs.Following.{empty_refutes}
use Rattle.ag_kernel.proofs.kernel.Kernel.every_line_follows.Goals as goal

pub returns-clause-empty : goal.returns-clause-empty
returns-clause-empty c h =
    let s : State = c.args.self.now in
    let sound : IsSound s = subst IsSound c.self.view_is c.as_slice.ensures.sound in
    empty_refutes s (All-contains (IsLineOf s) s.lines (record { lits = []; row = None }) sound.lines h)
