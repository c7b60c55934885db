use Rattle.std.proofs.Common.{◌≡◌, ◌+◌, ◌<◌, ◌≤◌, ℕ, None, false, refl, sym, arith, subst}
use Rattle.ag_board.specs.Entries.{claim, busy, settled}
use Rattle.ag_board.specs.Machine.{State, start, is_over, state_after}
use Rattle.ag_board.specs.Store.{BoardState, HasTwo, places_kept}
use Rattle.ag_board.specs.Inside.{find_place}
use Rattle.ag_board.proofs.Carrying.{quiet-next, enters-seen}
use Rattle.ag_board.proofs.Telling.{undecided-seen}
use Rattle.ag_board.proofs.Claiming.{claim-settled, claim-busy, claim-nothing}
use Rattle.ag_board.proofs.board.Board.claim_none.Goals as goal

-- what was asked of the store, of the state that its history leads to
record Asked (s : State) (spare : ℕ) : Type 0 where
  over : is_over s ≡ false
  none : find_place s ≡ None
  two : places_kept s + 2 ≤ spare

asked : (b k : BoardState) → b ≡ k → HasTwo k → is_over k.state ≡ false → find_place k.state ≡ None → Asked b.state b.spare
asked b k e two over none =
    record {
      over = subst (λ (x : BoardState). is_over x.state ≡ false) (sym e) over;
      none = subst (λ (x : BoardState). find_place x.state ≡ None) (sym e) none;
      two = subst (λ (x : BoardState). HasTwo x) (sym e) two;
    }

pub invariant_of-self : goal.invariant_of-self
invariant_of-self c =
    let i = c.self.inside in
    let k = c.self.invariant in
    let s = state_after start c.self.inside.history.entries in
    let a = asked _ _ c.self.view_is c.requires.two c.requires.open c.requires.none in
    let two = a.two in
    let n = undecided-seen s i.history.entries i.table.entries i.numbers.items _ i.last i.next c.undecided-undecided.result c.undecided-undecided.ensures c.as_slice.ensures.value k.3 k.5 in
    let e = c.put_for.ensures.entries in
    let m = c.put_for.ensures.spare in
    quiet-next i.history c.put_for.new.self c.args.seat claim settled s _ i.claims i.is_closed i.is_stopped i.is_closed i.is_stopped i.revisions i.pairs i.parts
    i.table.entries i.out.items i.numbers.items i.last i.next e tt (sym (claim-settled s a.over a.none (omega (arith, n, c.if-undecided-eq0.true)))) (claim-nothing s c.args.seat a.over a.none).1
    refl refl refl k.1 (omega (arith, two, m)) (omega (arith, two, m)) k

pub returns-then-undecided-eq0-clause-entry : goal.returns-then-undecided-eq0-clause-entry
returns-then-undecided-eq0-clause-entry c =
    let i = c.self.inside in
    let k = c.self.invariant in
    let s = state_after start c.self.inside.history.entries in
    let a = asked _ _ c.self.view_is c.requires.two c.requires.open c.requires.none in
    let n = undecided-seen s i.history.entries i.table.entries i.numbers.items _ i.last i.next c.undecided-undecided.result c.undecided-undecided.ensures c.as_slice.ensures.value k.3 k.5 in
    let e = c.put_for.ensures.entries in
    enters-seen _ i.history c.put_for.new.self c.args.seat claim settled c.self.view_is e tt (sym (claim-settled s a.over a.none (omega (arith, n, c.if-undecided-eq0.true))))

pub invariant_of-self-else-undecided-eq0 : goal.invariant_of-self-else-undecided-eq0
invariant_of-self-else-undecided-eq0 c =
    let i = c.self.inside in
    let k = c.self.invariant in
    let s = state_after start c.self.inside.history.entries in
    let a = asked _ _ c.self.view_is c.requires.two c.requires.open c.requires.none in
    let two = a.two in
    let n = undecided-seen s i.history.entries i.table.entries i.numbers.items _ i.last i.next c.undecided-undecided.result c.undecided-undecided.ensures c.as_slice.ensures.value k.3 k.5 in
    let some : 0 < c.undecided-undecided.result = omega (arith, c.if-undecided-eq0.false) in
    let e = c.put_for-else-undecided-eq0.ensures.entries in
    let m = c.put_for-else-undecided-eq0.ensures.spare in
    quiet-next i.history c.put_for-else-undecided-eq0.new.self c.args.seat claim (busy c.undecided-undecided.result) s _ i.claims i.is_closed i.is_stopped i.is_closed i.is_stopped i.revisions i.pairs i.parts
    i.table.entries i.out.items i.numbers.items i.last i.next e tt (sym (claim-busy s c.undecided-undecided.result a.over a.none (sym n) some)) (claim-nothing s c.args.seat a.over a.none).1
    refl refl refl k.1 (omega (arith, two, m)) (omega (arith, two, m)) k

pub returns-else-undecided-eq0-clause-entry : goal.returns-else-undecided-eq0-clause-entry
returns-else-undecided-eq0-clause-entry c =
    let i = c.self.inside in
    let k = c.self.invariant in
    let s = state_after start c.self.inside.history.entries in
    let a = asked _ _ c.self.view_is c.requires.two c.requires.open c.requires.none in
    let n = undecided-seen s i.history.entries i.table.entries i.numbers.items _ i.last i.next c.undecided-undecided.result c.undecided-undecided.ensures c.as_slice.ensures.value k.3 k.5 in
    let some : 0 < c.undecided-undecided.result = omega (arith, c.if-undecided-eq0.false) in
    let e = c.put_for-else-undecided-eq0.ensures.entries in
    enters-seen _ i.history c.put_for-else-undecided-eq0.new.self c.args.seat claim (busy c.undecided-undecided.result) c.self.view_is e tt (sym (claim-busy s c.undecided-undecided.result a.over a.none (sym n) some))
