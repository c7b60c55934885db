use Rattle.std.proofs.Common.{◌<◌, ap, arith}
use Rattle.ag_board.specs.Entries.{Past}
use Rattle.ag_board.proofs.Pasts.{noted-push}
use Rattle.ag_board.proofs.history.History.put.Goals as goal

pub invariant_of-self : goal.invariant_of-self
invariant_of-self c =
    let v = ap (λ (p : Past). p.spare) c.self.view_is in
    let some : 0 < c.self.inside.spare = omega (arith, v, c.requires) in
    noted-push c.self.inside.notes.items c.push_reserved.new.self.items _ c.self.inside.spare _ _ c.self.invariant some tt c.push_reserved.ensures.items c.push_reserved.ensures.capacity
