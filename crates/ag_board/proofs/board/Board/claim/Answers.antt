use Rattle.std.proofs.Common.{◌≡◌, ◌∙◌, true, false, Some, None, refl, sym, arith, subst}
use Rattle.ag_board.specs.Entries.{claim, over}
use Rattle.ag_board.specs.Machine.{start, is_over, state_after}
use Rattle.ag_board.specs.Store.{BoardState, HasTwo}
use Rattle.ag_board.specs.Inside.{find_place}
use Rattle.ag_board.proofs.Carrying.{quiet-next, enters-seen}
use Rattle.ag_board.proofs.Claiming.{place-seen, is-open, claim-over, over-closed, over-stopped}
use Rattle.ag_board.proofs.board.Board.claim.Goals as goal
use Rattle.ag_board.proofs.board.Board.claim.Goals.{After-put_for, then-self-via-then-self, then-self-via-else-self+then-self-2}

pub hand_out-requires-clause-open : goal.hand_out-requires-clause-open
hand_out-requires-clause-open c =
    let i = c.self.inside in
    let s = state_after start c.self.inside.history.entries in
    subst (λ (b : BoardState). is_over b.state ≡ false) c.self.view_is (is-open s i.claims i.is_closed i.is_stopped c.self.invariant.1 c.if-self.false c.if-self-2.false)

pub hand_out-requires-clause-free : goal.hand_out-requires-clause-free
hand_out-requires-clause-free c =
    let i = c.self.inside in
    let k = c.self.invariant in
    let s = state_after start c.self.inside.history.entries in
    let place = place-seen s i.history.entries i.table.entries i.out.items i.numbers.items _ i.last i.next c.free_place.result c.free_place.ensures c.as_slice.ensures.value k.3 k.4 k.5 in
    subst (λ (b : BoardState). find_place b.state ≡ Some c.in-Some.place) c.self.view_is (sym place ∙ c.in-Some.is)

pub claim_none-requires-clause-open : goal.claim_none-requires-clause-open
claim_none-requires-clause-open c =
    let i = c.self.inside in
    let s = state_after start c.self.inside.history.entries in
    subst (λ (b : BoardState). is_over b.state ≡ false) c.self.view_is (is-open s i.claims i.is_closed i.is_stopped c.self.invariant.1 c.if-self.false c.if-self-2.false)

pub claim_none-requires-clause-none : goal.claim_none-requires-clause-none
claim_none-requires-clause-none c =
    let i = c.self.inside in
    let k = c.self.invariant in
    let s = state_after start c.self.inside.history.entries in
    let place = place-seen s i.history.entries i.table.entries i.out.items i.numbers.items _ i.last i.next c.free_place.result c.free_place.ensures c.as_slice.ensures.value k.3 k.4 k.5 in
    subst (λ (b : BoardState). find_place b.state ≡ None) c.self.view_is (sym place ∙ c.in-None.is)

-- closed or stopped
ended : (c : After-put_for) → is_over (state_after start c.self.inside.history.entries) ≡ true
ended c =
    let i = c.self.inside in
    let s = state_after start c.self.inside.history.entries in
    elim c.then-self.branch [ then-self-via-then-self w ↦ over-closed s i.claims i.is_closed i.is_stopped c.self.invariant.1 w.if-self.true | then-self-via-else-self+then-self-2 w ↦ over-stopped s i.claims i.is_closed i.is_stopped c.self.invariant.1 w.if-self-2.true ]

pub invariant_of-self : goal.invariant_of-self
invariant_of-self c =
    let i = c.self.inside in
    let k = c.self.invariant in
    let s = state_after start c.self.inside.history.entries in
    let two = subst (λ (x : BoardState). HasTwo x) (sym c.self.view_is) c.requires.two in
    let o = claim-over s c.args.seat (ended c) in
    let e = c.put_for.ensures.entries in
    let m = c.put_for.ensures.spare in
    quiet-next i.history c.put_for.new.self c.args.seat claim over s _ i.claims i.is_closed i.is_stopped i.is_closed i.is_stopped i.revisions i.pairs i.parts
    i.table.entries i.out.items i.numbers.items i.last i.next e tt (sym o.0) o.1 refl refl refl k.1 (omega (arith, two, m)) (omega (arith, two, m)) k

pub returns-then-self-clause-entry : goal.returns-then-self-clause-entry
returns-then-self-clause-entry c =
    let e = c.put_for.ensures.entries in
    enters-seen _ c.self.inside.history c.put_for.new.self c.args.seat claim over c.self.view_is e tt (sym (claim-over (state_after start c.self.inside.history.entries) c.args.seat (ended c)).0)
