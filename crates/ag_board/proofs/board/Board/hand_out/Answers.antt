use Rattle.std.proofs.Common.{◌≡◌, ◌∙◌, ◌+◌, ◌≤◌, ◌++◌, ◌∷◌, [], ℕ, List, Some, get_or, false, sym, ap, arith, subst}
use Rattle.std.specs.Prelude.{IsSome}
use Rattle.ag_stream.specs.declared.problem.ProblemDraft.{ProblemDraft}
use Rattle.ag_board.specs.Tickets.{Handed}
use Rattle.ag_board.specs.Entries.{Past, PlainReply, claim, work}
use Rattle.ag_board.specs.Machine.{State, start, is_over, claim_reply, state_after}
use Rattle.ag_board.specs.Store.{BoardState, HasTwo, IsOut, entry, places_kept}
use Rattle.ag_board.specs.Inside.{find_place, handle_at}
use Rattle.ag_board.proofs.Carrying.{enters-seen, at-next}
use Rattle.ag_board.proofs.Claiming.{Found, found-at, claim-found, claim-leaves}
use Rattle.ag_board.proofs.Outs.{good-tickets}
use Rattle.ag_board.proofs.Handing.{lends, has-handle, handle-problem, listed-problem, handed-next, out-handed}
use Rattle.ag_board.proofs.board.Board.hand_out.Goals as goal
use Rattle.ag_board.proofs.board.Board.hand_out.Goals.{After-make}

-- what was asked of the store, of the state that its history leads to
record Asked (s : State) (spare place : ℕ) : Type 0 where
  over : is_over s ≡ false
  free : find_place s ≡ Some place
  two : places_kept s + 2 ≤ spare

asked : (b k : BoardState) (place : ℕ) → b ≡ k → HasTwo k → is_over k.state ≡ false → find_place k.state ≡ Some place → Asked b.state b.spare place
asked b k place e two over free =
    record {
      over = subst (λ (x : BoardState). is_over x.state ≡ false) (sym e) over;
      free = subst (λ (x : BoardState). find_place x.state ≡ Some place) (sym e) free;
      two = subst (λ (x : BoardState). HasTwo x) (sym e) two;
    }

pub lend_handle-handle-requires : goal.lend_handle-handle-requires
lend_handle-handle-requires c =
    let i = c.self.inside in
    let k = c.self.invariant in
    let s = state_after start c.self.inside.history.entries in
    let a = asked _ _ c.args.place c.self.view_is c.requires.two c.requires.open c.requires.free in
    let f = found-at s c.args.place a.free in
    let g = lends s i.history.entries i.table.entries i.out.items i.numbers.items i.last i.next c.args.place f a.free k.3 k.4 k.5 in
    subst (λ (ns : List ℕ). IsSome (handle_at i.table.entries (get_or ns c.args.place 0))) (sym c.as_slice.ensures.value) (has-handle i.table.entries (get_or i.numbers.items c.args.place 0) g.row g.at g.free)

pub put_work-requires-clause-listed : goal.put_work-requires-clause-listed
put_work-requires-clause-listed c =
    let i = c.self.inside in
    let k = c.self.invariant in
    let s = state_after start c.self.inside.history.entries in
    let a = asked _ _ c.args.place c.self.view_is c.requires.two c.requires.open c.requires.free in
    let f = found-at s c.args.place a.free in
    let g = lends s i.history.entries i.table.entries i.out.items i.numbers.items i.last i.next c.args.place f a.free k.3 k.4 k.5 in
    let h = ap (λ (ns : List ℕ). handle_at i.table.entries (get_or ns c.args.place 0)) (sym c.as_slice.ensures.value) ∙ c.lend_handle-handle.ensures.handle in
    listed-problem s i.history.entries i.table.entries i.numbers.items i.last i.next c.args.place f.line k.5 f.at
    ∙ ap (λ (p : ProblemDraft). Some p) (sym (handle-problem s i.history.entries i.table.entries (get_or i.numbers.items c.args.place 0) g.row c.lend_handle-handle.result k.3 g.at h ∙ g.problem))

-- the place that is handed out
found : (c : After-make) → Found (state_after start c.self.inside.history.entries) c.args.place
found c = found-at (state_after start c.self.inside.history.entries) c.args.place (asked _ _ c.args.place c.self.view_is c.requires.two c.requires.open c.requires.free).free

handle : (c : After-make) → c.lend_handle-handle.result.value ≡ (found c).line.problem
handle c =
    let i = c.self.inside in
    let k = c.self.invariant in
    let s = state_after start c.self.inside.history.entries in
    let a = asked _ _ c.args.place c.self.view_is c.requires.two c.requires.open c.requires.free in
    let g = lends s i.history.entries i.table.entries i.out.items i.numbers.items i.last i.next c.args.place (found c) a.free k.3 k.4 k.5 in
    let h = ap (λ (ns : List ℕ). handle_at i.table.entries (get_or ns c.args.place 0)) (sym c.as_slice.ensures.value) ∙ c.lend_handle-handle.ensures.handle in
    handle-problem s i.history.entries i.table.entries (get_or i.numbers.items c.args.place 0) g.row c.lend_handle-handle.result k.3 g.at h ∙ g.problem

grown : (c : After-make) → c.put_work.new.self.entries ≡ c.self.inside.history.entries ++ entry c.args.seat claim (work (c.self.inside.claims + 1) c.self.inside.revisions (found c).line.problem) ∷ []
grown c =
    ap (λ (x : Past). x.entries) c.put_work.ensures
    ∙ ap (λ (p : ProblemDraft). c.self.inside.history.entries ++ entry c.args.seat claim (work (c.self.inside.claims + 1) c.self.inside.revisions p) ∷ []) (handle c)

pub invariant_of-self : goal.invariant_of-self
invariant_of-self c =
    let i = c.self.inside in
    let a = asked _ _ c.args.place c.self.view_is c.requires.two c.requires.open c.requires.free in
    let two = a.two in
    let m = ap (λ (x : Past). x.spare) c.put_work.ensures in
    handed-next i.history c.put_work.new.self c.args.seat _ _ i.claims i.is_closed i.is_stopped i.revisions i.pairs i.parts i.table.entries c.lend_handle-handle.new.table.entries i.out.items c.push_reserved.new.self.items i.numbers.items i.last i.next
    c.args.place (get_or c.as_slice.result.now c.args.place 0) (found c) (ap (λ (ns : List ℕ). get_or ns c.args.place 0) c.as_slice.ensures.value) c.lend_handle-handle.ensures.rows c.push_reserved.ensures.items c.push_reserved.ensures.capacity
    (grown c) (omega (arith, m, two)) a.over a.free two (omega (arith, m, two)) c.self.invariant

says : (c : After-make) → ◌≡◌ {A = PlainReply} (work (c.self.inside.claims + 1) c.self.inside.revisions (found c).line.problem) (claim_reply (state_after start c.self.inside.history.entries))
says c =
    let s = state_after start c.self.inside.history.entries in
    let a = asked _ _ c.args.place c.self.view_is c.requires.two c.requires.open c.requires.free in
    ap (λ (n : ℕ). work (n + 1) c.self.inside.revisions (found c).line.problem) (sym c.self.invariant.1.all_claims)
    ∙ (ap (λ (n : ℕ). work (s.claims + 1) n (found c).line.problem) (sym c.self.invariant.2.all_revisions) ∙ sym (claim-found s c.args.place a.over (found c)))

told : (c : After-make) → ◌≡◌ {A = PlainReply} (work c.make.result.claim c.make.result.revision c.make.result.problem) (work (c.self.inside.claims + 1) c.self.inside.revisions (found c).line.problem)
told c =
    ap (λ (t : Handed). work t.claim t.revision t.problem) c.make.ensures ∙ ap (λ (p : ProblemDraft). work (c.self.inside.claims + 1) c.self.inside.revisions p) (handle c)

pub returns-clause-entry : goal.returns-clause-entry
returns-clause-entry c =
    let e = grown c ∙ ap (λ (r : PlainReply). c.self.inside.history.entries ++ entry c.args.seat claim r ∷ []) (sym (told c)) in
    enters-seen _ c.self.inside.history c.put_work.new.self c.args.seat claim _ c.self.view_is e tt (told c ∙ says c)

pub returns-clause-handed : goal.returns-clause-handed
returns-clause-handed c =
    let i = c.self.inside in
    let s = state_after start c.self.inside.history.entries in
    let a = asked _ _ c.args.place c.self.view_is c.requires.two c.requires.open c.requires.free in
    let t = c.make.result in (
      at-next (λ (x : State). IsOut x c.make.result) i.history c.put_work.new.self c.args.seat claim _ (grown c)
          (subst (λ (x : State). IsOut x c.make.result) (sym (claim-leaves s c.args.seat c.args.place a.over (found c)))
          (out-handed s c.args.seat (found c).line c.make.result (good-tickets i.history.entries).1
          (ap (λ (x : Handed). x.claim) c.make.ensures ∙ ap (λ (n : ℕ). n + 1) (sym c.self.invariant.1.all_claims)) (ap (λ (x : Handed). x.seat) c.make.ensures)
          (ap (λ (x : Handed). x.revision) c.make.ensures ∙ sym c.self.invariant.2.all_revisions) (ap (λ (x : Handed). x.problem) c.make.ensures ∙ handle c))),
      ap (λ (x : Handed). x.seat) c.make.ensures,
    )
