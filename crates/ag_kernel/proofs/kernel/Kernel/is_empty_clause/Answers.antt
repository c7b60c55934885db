use Rattle.std.proofs.Common.{◌≡◌, ◌<◌, subst, length, [], None, rules}
use Rattle.ag_kernel.specs.declared.line.Line.{Line}
use Rattle.ag_kernel.specs.State.{State, IsLineOf, HasNoValuation}
use Rattle.ag_kernel.proofs.Following.{empty_refutes, line_here}
use Rattle.ag_kernel.proofs.kernel.Kernel.is_empty_clause.Goals as goal

pub returns-then-line-lines-clause-refutes : goal.returns-then-line-lines-clause-refutes
returns-then-line-lines-clause-refutes c t =
    let s : State = c.self.inside.lines in
    let x : Line = c.index-lines-line.result in
    let lt : c.args.line < length c.as_slice-lines.result.now = search rules in
    let here : IsLineOf s x = line_here s c.as_slice-lines.result.now c.args.line x c.as_slice-lines.ensures.sound c.as_slice-lines.ensures.value lt c.index-lines-line.is in
    let e : x ≡ record { lits = []; row = None } = c.is_empty.ensures.0 t in
    let P : Line → Type 0 = IsLineOf s in
    let Q : State → Type 0 = λ q. HasNoValuation q.query in
    let none : HasNoValuation s.query = empty_refutes s (subst P e here) in
    subst Q c.self.view_is none
