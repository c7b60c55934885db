use Rattle.std.proofs.Common.{◌≡◌, true, false, refl, sym, ap, arith, subst}
use Rattle.ag_board.specs.Entries.{Past, stop, stopped}
use Rattle.ag_board.specs.Machine.{State, start, is_over, state_after}
use Rattle.ag_board.specs.Store.{BoardState}
use Rattle.ag_board.specs.Inside.{IsMarked}
use Rattle.ag_board.proofs.Carrying.{past-next, at-next, sized-next, table-next, outs-next, last-next, kept-open, enters-seen}
use Rattle.ag_board.proofs.board.Board.stop.Goals as goal

is_open : (c : goal.After-put) → is_over (state_after start c.self.inside.history.entries) ≡ false
is_open c = subst (λ (b : BoardState). is_over b.state ≡ false) (sym c.self.view_is) c.requires

pub invariant_of-self : goal.invariant_of-self
invariant_of-self c =
    let i = c.self.inside in
    let p = c.self.inside.history in
    let q = c.put.new.self in
    let k = c.self.invariant in
    let s = state_after start c.self.inside.history.entries in
    let e = ap (λ (x : Past). x.entries) c.put.ensures in
    let n = ap (λ (x : Past). x.spare) c.put.ensures in
    let kept = kept-open s (is_open c) in
    let was = k.0.promised in (
      past-next p q c.args.seat stop stopped _ i.claims i.claims e (is_open c) refl (omega (arith, n, kept, was)) (omega (arith, n, kept, was)) (omega (arith, k.0.few_claims)) k.0,
      at-next (λ (t : State). IsMarked t i.claims i.is_closed true) p q c.args.seat stop stopped e (record { all_claims = k.1.all_claims; closed = k.1.closed; stopped = refl }),
      sized-next p q c.args.seat stop stopped i.revisions i.pairs i.parts e refl k.2,
      table-next p q c.args.seat stop stopped i.table.entries e refl k.3,
      outs-next p q c.args.seat stop stopped i.table.entries i.out.items e refl k.4,
      last-next p q c.args.seat stop stopped i.table.entries i.numbers.items i.last i.next e refl refl k.5,
    )

pub returns-clause-entry : goal.returns-clause-entry
returns-clause-entry c = enters-seen _ c.self.inside.history c.put.new.self c.args.seat stop stopped c.self.view_is (ap (λ (x : Past). x.entries) c.put.ensures) (is_open c) refl
