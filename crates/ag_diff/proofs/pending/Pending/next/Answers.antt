use Rattle.std.proofs.Common.{◌≡◌, ◌<◌, ℕ, Bool, false, List, All, length, drop, sym, subst, arith}
use Rattle.std.proofs.lemmas.List.{length-set}
use Rattle.std.proofs.lemmas.List.Elements.{All-drop}
use Rattle.ag_diff.proofs.pending.Pending.next.Goals as goal

pub invariant_of-self-2 : goal.invariant_of-self-2
invariant_of-self-2 c k d lt =
    let queued : List Bool = c.self.inside.queued.items in
    let rest : c.pop_front.new.self.items ≡ drop 1 c.self.inside.queue.items = c.in_ok-vertex.ensures.rest in
    let A : List ℕ → Type 0 = All (λ v. v < length queued) in
    let h = (subst A (sym rest) (All-drop (λ (v : ℕ). v < length queued) 1 c.self.inside.queue.items c.self.invariant)) k d lt in
    omega (arith, h, length-set queued c.in_ok-vertex.vertex false)
