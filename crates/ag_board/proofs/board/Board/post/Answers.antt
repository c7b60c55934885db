use Rattle.std.proofs.Common.{◌≡◌, ◌∙◌, ◌<◌, ◌==◌, ◌++◌, ◌∷◌, [], ℕ, List, Bool, length, sym, ap, arith, subst}
use Rattle.std.specs.Prelude.{IsSome, position, if◌then◌else◌}
use Rattle.ag_board.specs.declared.slot.Out.{Out}
use Rattle.ag_board.specs.Entries.{Past, PlainReply, post, posted}
use Rattle.ag_board.specs.Machine.{start, May, reply_of, state_after}
use Rattle.ag_board.specs.Store.{BoardState, IsOut, entry}
use Rattle.ag_board.proofs.Verdicts.{each-from}
use Rattle.ag_board.proofs.Carrying.{enters-seen}
use Rattle.ag_board.proofs.Returning.{Taken, taken, is-among, same-ticket, numbered-here, put_back, length-back}
use Rattle.ag_board.proofs.Verdicted.{posted-next, may-post, post-says}
use Rattle.ag_board.proofs.Posting.{after_rows, kept}
use Rattle.ag_board.proofs.Rows.{with-changed}
use Rattle.ag_board.specs.Inside.{Row, problem_at, is_decided_row, with_verdict}
use Rattle.ag_board.specs.declared.entry.Posted.{Posted}
use Rattle.ag_board.specs.declared.entry.Posted.TheVariants as posts
use Rattle.ag_board.proofs.board.Board.post.Goals as goal
use Rattle.ag_board.proofs.board.Board.post.Goals.{After-put}

pub take_out-out-requires : goal.take_out-out-requires
take_out-out-requires c =
    let i = c.self.inside in
    let s = state_after start c.self.inside.history.entries in
    let h = subst (λ (b : BoardState). IsOut b.state c.args.ticket) (sym c.self.view_is) c.requires.out in
    subst (λ (n : ℕ). IsSome (position (λ (o : Out). o.claim == n) i.out.items)) (sym c.claim-claim.ensures) (is-among s i.table.entries i.out.items c.args.ticket c.self.invariant.4 h)

pub take_back-requires : goal.take_back-requires
take_back-requires c =
    let i = c.self.inside in
    let p = c.take_out-out.ensures.out in
    numbered-here i.out.items (length i.table.entries) p.0 c.take_out-out.result (each-from (λ (x : Out). x.problem < length i.table.entries) i.out.items c.self.invariant.4.numbered) p.2

-- the ticket is this store's
mine : (c : After-put) → IsOut (state_after start c.self.inside.history.entries) c.args.ticket
mine c = subst (λ (b : BoardState). IsOut b.state c.args.ticket) (sym c.self.view_is) c.requires.out

found : (c : After-put) → Taken (state_after start c.self.inside.history.entries) c.self.inside.table.entries c.self.inside.out.items c.args.ticket.claim c.take_out-out.ensures.out.0 c.take_out-out.result
found c =
    let i = c.self.inside in
    let p = c.take_out-out.ensures.out in
    taken (state_after start i.history.entries) i.table.entries i.out.items c.args.ticket.claim p.0 c.take_out-out.result c.self.invariant.4
    (ap (λ (n : ℕ). position (λ (o : Out). o.claim == n) i.out.items) (sym c.claim-claim.ensures) ∙ p.1) p.2

few : (c : After-put) → c.take_out-out.result.problem < length c.self.inside.table.entries
few c =
    let i = c.self.inside in
    let p = c.take_out-out.ensures.out in
    numbered-here i.out.items (length i.table.entries) p.0 c.take_out-out.result (each-from (λ (x : Out). x.problem < length i.table.entries) i.out.items c.self.invariant.4.numbered) p.2

pub keep_verdict-answer-requires : goal.keep_verdict-answer-requires
keep_verdict-answer-requires c =
    let i = c.self.inside in
    let p = c.take_out-out.ensures.out in
    let few = numbered-here i.out.items (length i.table.entries) p.0 c.take_out-out.result (each-from (λ (x : Out). x.problem < length i.table.entries) i.out.items c.self.invariant.4.numbered) p.2 in
    let l = ap (λ (x : List Row). length x) c.take_back.ensures ∙ length-back c.take_out-out.result.is_live i.table.entries c.take_out-out.result.problem c.into_problem.result in
    omega (arith, few, l)

grown : (c : After-put) → c.put.new.self.entries ≡ c.self.inside.history.entries ++ entry c.args.ticket.seat (post c.args.ticket.claim c.args.verdict.value) (posted c.keep_verdict-answer.result) ∷ []
grown c =
    ap (λ (x : Past). x.entries) c.put.ensures
    ∙ (ap (λ (n : ℕ). c.self.inside.history.entries ++ entry n (post c.claim-claim.result c.args.verdict.value) (posted c.keep_verdict-answer.result) ∷ []) c.seat-seat.ensures
    ∙ ap (λ (n : ℕ). c.self.inside.history.entries ++ entry c.args.ticket.seat (post n c.args.verdict.value) (posted c.keep_verdict-answer.result) ∷ []) c.claim-claim.ensures)

handle : (c : After-put) → c.into_problem.result.value ≡ problem_at c.self.inside.table.entries c.take_out-out.result.problem
handle c = c.into_problem.ensures ∙ sym (same-ticket (state_after start c.self.inside.history.entries) c.args.ticket _ (found c).ticket (mine c)).problem

says : (c : After-put) → ◌≡◌ {A = PlainReply} (posted c.keep_verdict-answer.result) (reply_of (state_after start c.self.inside.history.entries) (post c.args.ticket.claim c.args.verdict.value))
says c =
    let i = c.self.inside in
    let o = c.take_out-out.result in
    let p = c.take_out-out.ensures.out in
    ap (λ (a : Posted). posted a) c.keep_verdict-answer.ensures.answer
    ∙ (ap (λ (x : List Row). posted (if is_decided_row x c.take_out-out.result.problem then posts.Already else posts.Kept)) c.take_back.ensures
    ∙ sym (post-says (state_after start i.history.entries) i.history.entries i.table.entries i.out.items c.args.ticket.claim p.0 o c.into_problem.result (found c) (handle c) (few c) c.self.invariant.3))

step_rows : (new back : List Row) (b : Bool) (n k j : ℕ) → new ≡ (if b then back else with_verdict back n k) → k ≡ j → new ≡ after_rows b back n j
step_rows new back b n k j e l = e ∙ (ap (λ (x : List Row). if b then back else x) (with-changed back n (kept k)) ∙ ap (λ (x : ℕ). after_rows b back n x) l)

rows : (c : After-put) → c.keep_verdict-answer.new.table.entries ≡ after_rows (is_decided_row (put_back c.take_out-out.result.is_live c.self.inside.table.entries c.take_out-out.result.problem c.into_problem.result) c.take_out-out.result.problem)
    (put_back c.take_out-out.result.is_live c.self.inside.table.entries c.take_out-out.result.problem c.into_problem.result) c.take_out-out.result.problem (length c.self.inside.history.entries)
rows c =
    step_rows c.keep_verdict-answer.new.table.entries c.take_back.new.table.entries (is_decided_row c.take_back.new.table.entries c.take_out-out.result.problem) c.take_out-out.result.problem c.len-entry.result (length c.self.inside.history.entries) c.keep_verdict-answer.ensures.rows c.len-entry.ensures
    ∙ ap (λ (x : List Row). after_rows (is_decided_row x c.take_out-out.result.problem) x c.take_out-out.result.problem (length c.self.inside.history.entries)) c.take_back.ensures

true_of : (c : After-put) → May (state_after start c.self.inside.history.entries) c.args.ticket.seat (post c.args.ticket.claim c.args.verdict.value)
true_of c = may-post (state_after start c.self.inside.history.entries) c.args.ticket c.args.verdict.value (mine c) c.requires.true_verdict

pub invariant_of-self : goal.invariant_of-self
invariant_of-self c =
    let i = c.self.inside in
    let p = c.take_out-out.ensures.out in
    posted-next i.history c.put.new.self c.args.ticket.seat c.args.ticket.claim c.args.verdict.value (posted c.keep_verdict-answer.result) _ _ i.claims i.is_closed i.is_stopped i.revisions i.pairs i.parts i.table.entries c.keep_verdict-answer.new.table.entries i.out.items c.take_out-out.new.outs.items i.numbers.items i.last i.next
    p.0 c.take_out-out.result c.into_problem.result (found c) (handle c) (few c) (rows c) p.3 c.take_out-out.ensures.room
    (grown c) (ap (λ (x : Past). x.spare) c.put.ensures) (true_of c) (says c) c.self.invariant

pub returns-clause-entry : goal.returns-clause-entry
returns-clause-entry c =
    enters-seen _ c.self.inside.history c.put.new.self c.args.ticket.seat (post c.args.ticket.claim c.args.verdict.value) (posted c.keep_verdict-answer.result) c.self.view_is (grown c) (true_of c) (says c)
