use Rattle.std.proofs.Common.{◌≡◌, ◌∙◌, ◌<◌, ◌==◌, ◌++◌, ◌∷◌, [], ℕ, Bool, length, sym, ap, subst}
use Rattle.std.specs.Prelude.{IsSome, position, if◌then◌else◌}
use Rattle.ag_board.specs.declared.slot.Out.{Out}
use Rattle.ag_board.specs.declared.entry.GivenBack.{GivenBack}
use Rattle.ag_board.specs.declared.entry.GivenBack.TheVariants as given
use Rattle.ag_board.specs.Entries.{Past, PlainReply, give_back, given_back}
use Rattle.ag_board.specs.Machine.{start, reply_of, state_after}
use Rattle.ag_board.specs.Store.{BoardState, IsOut, entry}
use Rattle.ag_board.proofs.Verdicts.{each-from}
use Rattle.ag_board.proofs.Carrying.{enters-seen}
use Rattle.ag_board.proofs.Returning.{Taken, taken, is-among, same-ticket, numbered-here, given-next, may-give, gave}
use Rattle.ag_board.proofs.board.Board.give_back.Goals as goal
use Rattle.ag_board.proofs.board.Board.give_back.Goals.{After-put, then-has_number, else-has_number}

pub take_out-out-requires : goal.take_out-out-requires
take_out-out-requires c =
    let i = c.self.inside in
    let s = state_after start c.self.inside.history.entries in
    let h = subst (λ (b : BoardState). IsOut b.state c.args.ticket) (sym c.self.view_is) c.requires in
    subst (λ (n : ℕ). IsSome (position (λ (o : Out). o.claim == n) i.out.items)) (sym c.claim-claim.ensures) (is-among s i.table.entries i.out.items c.args.ticket c.self.invariant.4 h)

pub take_back-requires : goal.take_back-requires
take_back-requires c =
    let i = c.self.inside in
    let p = c.take_out-out.ensures.out in
    numbered-here i.out.items (length i.table.entries) p.0 c.take_out-out.result (each-from (λ (x : Out). x.problem < length i.table.entries) i.out.items c.self.invariant.4.numbered) p.2

-- the ticket is this store's
mine : (c : After-put) → IsOut (state_after start c.self.inside.history.entries) c.args.ticket
mine c = subst (λ (b : BoardState). IsOut b.state c.args.ticket) (sym c.self.view_is) c.requires

found : (c : After-put) → Taken (state_after start c.self.inside.history.entries) c.self.inside.table.entries c.self.inside.out.items c.args.ticket.claim c.take_out-out.ensures.out.0 c.take_out-out.result
found c =
    let i = c.self.inside in
    let p = c.take_out-out.ensures.out in
    taken (state_after start i.history.entries) i.table.entries i.out.items c.args.ticket.claim p.0 c.take_out-out.result c.self.invariant.4
    (ap (λ (n : ℕ). position (λ (o : Out). o.claim == n) i.out.items) (sym c.claim-claim.ensures) ∙ p.1) p.2

few : (c : After-put) → c.take_out-out.result.problem < length c.self.inside.table.entries
few c =
    let i = c.self.inside in
    let p = c.take_out-out.ensures.out in
    numbered-here i.out.items (length i.table.entries) p.0 c.take_out-out.result (each-from (λ (x : Out). x.problem < length i.table.entries) i.out.items c.self.invariant.4.numbered) p.2

grown : (c : After-put) → c.put.new.self.entries ≡ c.self.inside.history.entries ++ entry c.args.ticket.seat (give_back c.args.ticket.claim) (given_back c.if-has_number.answer) ∷ []
grown c =
    ap (λ (x : Past). x.entries) c.put.ensures
    ∙ (ap (λ (n : ℕ). c.self.inside.history.entries ++ entry n (give_back c.claim-claim.result) (given_back c.if-has_number.answer) ∷ []) c.seat-seat.ensures
    ∙ ap (λ (n : ℕ). c.self.inside.history.entries ++ entry c.args.ticket.seat (give_back n) (given_back c.if-has_number.answer) ∷ []) c.claim-claim.ensures)

answered : (c : After-put) → c.if-has_number.answer ≡ (if c.has_number.result then given.Alive else given.Dead c.self.inside.revisions)
answered c = elim c.if-has_number.branch [ then-has_number w ↦ w.answer-is ∙ sym (ap (λ (b : Bool). if b then given.Alive else given.Dead c.self.inside.revisions) w.if-has_number.true) | else-has_number w ↦ w.answer-is ∙ sym (ap (λ (b : Bool). if b then given.Alive else given.Dead c.self.inside.revisions) w.if-has_number.false) ]

says : (c : After-put) → ◌≡◌ {A = PlainReply} (given_back c.if-has_number.answer) (reply_of (state_after start c.self.inside.history.entries) (give_back c.args.ticket.claim))
says c =
    let i = c.self.inside in
    let p = c.take_out-out.ensures.out in
    ap (λ (a : GivenBack). given_back a) (answered c)
    ∙ (ap (λ (n : ℕ). given_back (if c.has_number.result then given.Alive else given.Dead n)) (sym c.self.invariant.2.all_revisions)
    ∙ sym (gave (state_after start i.history.entries) i.history.entries i.table.entries i.out.items i.numbers.items _ i.last i.next c.args.ticket.claim p.0 c.take_out-out.result c.has_number.result (found c) (few c) c.has_number.ensures c.as_slice.ensures.value c.self.invariant.3 c.self.invariant.5))

pub invariant_of-self : goal.invariant_of-self
invariant_of-self c =
    let i = c.self.inside in
    let s = state_after start c.self.inside.history.entries in
    let p = c.take_out-out.ensures.out in
    let f = found c in
    given-next i.history c.put.new.self c.args.ticket.seat c.args.ticket.claim (given_back c.if-has_number.answer) _ _ i.claims i.is_closed i.is_stopped i.revisions i.pairs i.parts i.table.entries c.take_back.new.table.entries i.out.items c.take_out-out.new.outs.items i.numbers.items i.last i.next
    p.0 c.take_out-out.result c.into_problem.result f (c.into_problem.ensures ∙ sym (same-ticket s c.args.ticket _ f.ticket (mine c)).problem) (few c) c.take_back.ensures p.3 c.take_out-out.ensures.room
    (grown c) (ap (λ (x : Past). x.spare) c.put.ensures) (may-give s c.args.ticket (mine c)) (says c) c.self.invariant

pub returns-clause-entry : goal.returns-clause-entry
returns-clause-entry c =
    enters-seen _ c.self.inside.history c.put.new.self c.args.ticket.seat (give_back c.args.ticket.claim) (given_back c.if-has_number.answer) c.self.view_is (grown c) (may-give (state_after start c.self.inside.history.entries) c.args.ticket (mine c)) (says c)
