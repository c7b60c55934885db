use Rattle.std.proofs.Common.{◌≡◌, length, arith, None, subst, sym}
use Rattle.ag_query.specs.Rows.{AreInOrder}
use Rattle.ag_kernel.specs.State.{State}
use Rattle.ag_kernel.proofs.Sound.{case_kept, case_line_is}
use Rattle.ag_kernel.proofs.lines.Lines.push_case.Goals as goal

pub invariant_of-self-in-Ok-push : goal.invariant_of-self-in-Ok-push
invariant_of-self-in-Ok-push c =
    let s : State = record { query = c.self.inside.query; atoms = c.self.inside.atoms.items; lines = c.self.inside.lines.items } in
    let n : c.in-Ok.atom ≡ length c.self.inside.atoms.items = omega (arith, c.in-Ok.ensures, c.len.ensures) in
    let P : State → Type 0 = λ t. AreInOrder t.query.vars c.args.row.terms in
    let order : P s = subst P (sym c.self.view_is) c.requires in
    case_kept s c.args.row (record { lits = c.in_ok-lits.lits; row = None }) c.push.new.self.items c.push-2.new.self.items c.self.invariant order
    c.in_ok-push.ensures.items (case_line_is s c.in-Ok.atom c.in_ok-lits.lits n c.in_ok-lits.ensures) c.in-Ok-push.ensures.items
