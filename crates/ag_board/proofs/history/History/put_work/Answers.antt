use Rattle.std.proofs.Common.{◌<◌, ap, sym, arith}
use Rattle.ag_board.specs.Notes.{plain_notes}
use Rattle.ag_board.specs.Entries.{Past}
use Rattle.ag_board.proofs.Pasts.{noted-push, placed-work}
use Rattle.ag_board.proofs.history.History.put_work.Goals as goal

pub invariant_of-self : goal.invariant_of-self
invariant_of-self c =
    let v = ap (λ (p : Past). p.spare) c.self.view_is in
    let some : 0 < c.self.inside.spare = omega (arith, v, c.requires.promised) in
    let there = placed-work c.args.self.now.entries (plain_notes c.self.inside.notes.items) c.args.list c.args.place _ c.requires.listed (sym (ap (λ (p : Past). p.entries) c.self.view_is)) in
    noted-push c.self.inside.notes.items c.push_reserved.new.self.items _ c.self.inside.spare _ _ c.self.invariant some there c.push_reserved.ensures.items c.push_reserved.ensures.capacity
