use Rattle.std.proofs.Common.{◌<◌, length, to_z, of_z, rules}
use Rattle.std.specs.Int.{w128}
use Rattle.ag_kernel.specs.declared.line.Line.{Line}
use Rattle.ag_kernel.specs.State.{State, IsLineOf}
use Rattle.ag_kernel.proofs.RowLines.{divided_line}
use Rattle.ag_kernel.proofs.Following.{line_here}
use Rattle.ag_kernel.proofs.kernel.Kernel.divide.Goals as goal

pub push-requires : goal.push-requires
push-requires c =
    let s : State = c.self.inside.lines in
    let x : Line = c.index-as_slice-line.result in
    let lt : c.args.line < length c.as_slice.result.now = search rules in
    let here : IsLineOf s x = line_here s c.as_slice.result.now c.args.line x c.as_slice.ensures.sound c.as_slice.ensures.value lt c.index-as_slice-line.is in
    divided_line s (to_z w128 (of_z w128 c.args.by)) x c.in_ok-new.new here c.in_ok-new.ensures.allowed c.in_ok-new.ensures.line
