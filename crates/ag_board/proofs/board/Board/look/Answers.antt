use Rattle.std.proofs.Common.{◌≡◌, ◌∙◌, ◌+◌, false, None, ℕ, length, sym, subst}
use Rattle.ag_board.specs.Machine.{State, start, is_over, claim_reply, state_after}
use Rattle.ag_board.specs.Store.{BoardState}
use Rattle.ag_board.specs.Inside.{find_place}
use Rattle.ag_board.specs.Answers.{IsWork}
use Rattle.ag_board.proofs.Claiming.{place-seen, is-open, Found, found-at, claim-found}
use Rattle.ag_board.proofs.board.Board.look.Goals as goal

is_work : (s : State) (n : ℕ) → is_over s ≡ false → Found s n → IsWork (claim_reply s)
is_work s n o f = record { claim = s.claims + 1; revision = length s.revisions; problem = f.line.problem; is = claim-found s n o f }

pub returns-in-Some : goal.returns-in-Some
returns-in-Some c =
    let i = c.self.inside in
    let k = c.self.invariant in
    let s = state_after start c.self.inside.history.entries in
    let o = is-open s i.claims i.is_closed i.is_stopped k.1 c.if-self.false c.if-self-2.false in
    let place = place-seen s i.history.entries i.table.entries i.out.items i.numbers.items _ i.last i.next c.free_place.result c.free_place.ensures c.as_slice.ensures.value k.3 k.4 k.5 in
    subst (λ (b : BoardState). IsWork (claim_reply b.state)) c.self.view_is (is_work s c.in-Some.field-0 o (found-at s c.in-Some.field-0 (sym place ∙ c.in-Some.is)))

pub look_none-requires-clause-open : goal.look_none-requires-clause-open
look_none-requires-clause-open c =
    let i = c.self.inside in
    let s = state_after start c.self.inside.history.entries in
    subst (λ (b : BoardState). is_over b.state ≡ false) c.self.view_is (is-open s i.claims i.is_closed i.is_stopped c.self.invariant.1 c.if-self.false c.if-self-2.false)

pub look_none-requires-clause-none : goal.look_none-requires-clause-none
look_none-requires-clause-none c =
    let i = c.self.inside in
    let k = c.self.invariant in
    let s = state_after start c.self.inside.history.entries in
    let place = place-seen s i.history.entries i.table.entries i.out.items i.numbers.items _ i.last i.next c.free_place.result c.free_place.ensures c.as_slice.ensures.value k.3 k.4 k.5 in
    subst (λ (b : BoardState). find_place b.state ≡ None) c.self.view_is (sym place ∙ c.in-None.is)
