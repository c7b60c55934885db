use Rattle.std.proofs.Common.{◌≡◌, ◌<◌, length, subst, sym, rules, true}
use Rattle.ag_kernel.specs.declared.line.Line.{Line}
use Rattle.ag_kernel.specs.State.{State, IsLineOf}
use Rattle.ag_kernel.specs.Rules.{can_resolve}
use Rattle.ag_kernel.proofs.Following.{resolved_line, line_here}
use Rattle.ag_kernel.proofs.kernel.Kernel.resolve.Goals as goal

pub push-requires : goal.push-requires
push-requires c =
    let s : State = c.self.inside.lines in
    let a : Line = c.index-lines-a.result in
    let b : Line = c.index-lines-b.result in
    let la : c.args.a < length c.as_slice-lines.result.now = search rules in
    let lb : c.args.b < length c.as_slice-lines.result.now = search rules in
    let ha : IsLineOf s a = line_here s c.as_slice-lines.result.now c.args.a a c.as_slice-lines.ensures.sound c.as_slice-lines.ensures.value la c.index-lines-a.is in
    let hb : IsLineOf s b = line_here s c.as_slice-lines.result.now c.args.b b c.as_slice-lines.ensures.sound c.as_slice-lines.ensures.value lb c.index-lines-b.is in
    let can : can_resolve c.args.atom a b ≡ true = search rules in
    let P : Line → Type 0 = IsLineOf s in
    subst P (sym c.in_ok-line.ensures.ok) (resolved_line s c.args.atom a b ha hb can)
