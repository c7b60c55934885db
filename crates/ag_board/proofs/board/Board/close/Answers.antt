use Rattle.std.proofs.Common.{◌≡◌, ◌∙◌, ◌+◌, ◌-◌, ◌≤◌, ◌++◌, ◌∷◌, [], ℕ, List, true, false, refl, sym, ap, arith, subst}
use Rattle.std.specs.Prelude.{count_by, map}
use Rattle.ag_board.specs.declared.entry.Tally.{Tally}
use Rattle.ag_board.specs.Entries.{close, closed, still_open}
use Rattle.ag_board.specs.Machine.{start, is_over, undecided, tally, reply_of, state_after}
use Rattle.ag_board.specs.Store.{BoardState, HasTwo, entry, places_kept}
use Rattle.ag_board.specs.Inside.{row_passes, is_open_row, tally_in, verdict_at}
use Rattle.ag_board.proofs.Carrying.{quiet-next, enters-seen}
use Rattle.ag_board.proofs.Telling.{tally-told, undecided-told, close-open, close-done}
use Rattle.ag_board.proofs.board.Board.close.Goals as goal

-- with a question still open

is_open : (c : goal.After-put_for) → is_over (state_after start c.self.inside.history.entries) ≡ false
is_open c = subst (λ (b : BoardState). is_over b.state ≡ false) (sym c.self.view_is) c.requires.open

has_two : (c : goal.After-put_for) → places_kept (state_after start c.self.inside.history.entries) + 2 ≤ c.self.inside.history.spare
has_two c = subst (λ (b : BoardState). HasTwo b) (sym c.self.view_is) c.requires.two

counted : (c : goal.After-put_for) → c.undecided-undecided.result ≡ undecided (state_after start c.self.inside.history.entries)
counted c =
    let i = c.self.inside in
    c.undecided-undecided.ensures ∙ (ap (λ (ns : List ℕ). count_by (row_passes is_open_row i.table.entries) ns) c.as_slice.ensures.value
    ∙ undecided-told (state_after start i.history.entries) i.history.entries i.table.entries i.numbers.items i.last i.next c.self.invariant.3 c.self.invariant.5)

grown : (c : goal.After-put_for) → c.put_for.new.self.entries ≡ c.self.inside.history.entries ++ entry c.args.seat close (still_open c.undecided-undecided.result) ∷ []
grown c = c.put_for.ensures.entries

spent : (c : goal.After-put_for) → c.put_for.new.self.spare ≡ c.self.inside.history.spare - 2
spent c = c.put_for.ensures.spare

pub invariant_of-self : goal.invariant_of-self
invariant_of-self c =
    let i = c.self.inside in
    let s = state_after start c.self.inside.history.entries in
    let left = close-open s c.args.seat c.undecided-undecided.result (counted c) c.if-undecided-gt0.true in
    let two = has_two c in
    let n = spent c in
    quiet-next i.history c.put_for.new.self c.args.seat close (still_open c.undecided-undecided.result) s _ i.claims i.is_closed i.is_stopped i.is_closed i.is_stopped i.revisions i.pairs i.parts
    i.table.entries i.out.items i.numbers.items i.last i.next (grown c) (is_open c) (sym left.1) left.0 refl refl refl c.self.invariant.1 (omega (arith, two, n)) (omega (arith, two, n)) c.self.invariant

pub returns-then-undecided-gt0-clause-still_open : goal.returns-then-undecided-gt0-clause-still_open
returns-then-undecided-gt0-clause-still_open c =
    let left = close-open (state_after start c.self.inside.history.entries) c.args.seat c.undecided-undecided.result (counted c) c.if-undecided-gt0.true in
    enters-seen _ c.self.inside.history c.put_for.new.self c.args.seat close (still_open c.undecided-undecided.result) c.self.view_is (grown c) (is_open c) (sym left.1)

-- with none

is_open-2 : (c : goal.After-put_for-2) → is_over (state_after start c.self.inside.history.entries) ≡ false
is_open-2 c = subst (λ (b : BoardState). is_over b.state ≡ false) (sym c.self.view_is) c.requires.open

has_two-2 : (c : goal.After-put_for-2) → places_kept (state_after start c.self.inside.history.entries) + 2 ≤ c.self.inside.history.spare
has_two-2 c = subst (λ (b : BoardState). HasTwo b) (sym c.self.view_is) c.requires.two

none_left : (c : goal.After-put_for-2) → undecided (state_after start c.self.inside.history.entries) ≡ 0
none_left c =
    let i = c.self.inside in
    let e = c.undecided-undecided.ensures ∙ (ap (λ (ns : List ℕ). count_by (row_passes is_open_row i.table.entries) ns) c.as_slice.ensures.value
    ∙ undecided-told (state_after start i.history.entries) i.history.entries i.table.entries i.numbers.items i.last i.next c.self.invariant.3 c.self.invariant.5) in
    omega (arith, e, c.if-undecided-gt0.false)

tallied : (c : goal.After-put_for-2) → c.tally_of-tally.result ≡ tally (state_after start c.self.inside.history.entries)
tallied c =
    let i = c.self.inside in
    c.tally_of-tally.ensures ∙ (ap (λ (ns : List ℕ). tally_in i.revisions (map (verdict_at i.history.entries i.table.entries) ns)) c.as_slice-2.ensures.value
    ∙ (ap (λ (n : ℕ). tally_in n (map (verdict_at i.history.entries i.table.entries) i.numbers.items)) (sym c.self.invariant.2.all_revisions)
    ∙ tally-told (state_after start i.history.entries) i.history.entries i.table.entries i.numbers.items i.last i.next c.self.invariant.3 c.self.invariant.5))

grown-2 : (c : goal.After-put_for-2) → c.put_for-2.new.self.entries ≡ c.self.inside.history.entries ++ entry c.args.seat close (closed c.tally_of-tally.result) ∷ []
grown-2 c = c.put_for-2.ensures.entries

spent-2 : (c : goal.After-put_for-2) → c.put_for-2.new.self.spare ≡ c.self.inside.history.spare - 2
spent-2 c = c.put_for-2.ensures.spare

says-2 : (c : goal.After-put_for-2) → closed c.tally_of-tally.result ≡ reply_of (state_after start c.self.inside.history.entries) close
says-2 c = ap (λ (t : Tally). closed t) (tallied c) ∙ sym (close-done (state_after start c.self.inside.history.entries) c.args.seat (none_left c)).1

pub invariant_of-self-2 : goal.invariant_of-self-2
invariant_of-self-2 c =
    let i = c.self.inside in
    let s = state_after start c.self.inside.history.entries in
    let marked = c.self.invariant.1 in
    let two = has_two-2 c in
    let n = spent-2 c in
    quiet-next i.history c.put_for-2.new.self c.args.seat close (closed c.tally_of-tally.result) (record s { is_closed = true }) _ i.claims i.is_closed i.is_stopped true i.is_stopped i.revisions i.pairs i.parts
    i.table.entries i.out.items i.numbers.items i.last i.next (grown-2 c) (is_open-2 c) (says-2 c) (close-done s c.args.seat (none_left c)).0 refl refl refl
    (record { all_claims = marked.all_claims; closed = refl; stopped = marked.stopped }) (omega (arith, two, n)) (omega (arith, two, n)) c.self.invariant

pub returns-clause-closed : goal.returns-clause-closed
returns-clause-closed c = enters-seen _ c.self.inside.history c.put_for-2.new.self c.args.seat close (closed c.tally_of-tally.result) c.self.view_is (grown-2 c) (is_open-2 c) (says-2 c)
