use Rattle.std.proofs.Common.{◌≡◌, ◌∙◌, ◌+◌, ◌≤◌, ◌++◌, ◌∷◌, [], ℕ, List, Option, length, refl, sym, ap, arith}
use Rattle.ag_verdict.specs.declared.key.Key.{Key}
use Rattle.ag_verdict.specs.declared.verdict.Verdict.{Verdict}
use Rattle.ag_board.specs.Entries.{Past, PlainReply, report, reported, plain_lines}
use Rattle.ag_board.specs.Machine.{start, reply_of, state_after}
use Rattle.ag_board.specs.Store.{BoardState, entry, most_places}
use Rattle.ag_board.proofs.Carrying.{quiet-more, enters-seen}
use Rattle.ag_board.proofs.board.Board.report.Goals as goal
use Rattle.ag_board.proofs.board.Board.report.Goals.{After-put}

-- the entry that was made says what is told
same : (c : After-put) → ◌≡◌ {A = PlainReply} (reported c.in_ok-entered.entered.revision (plain_lines c.in_ok-entered.entered.lines)) (reported c.in_ok-told.told.revision (plain_lines c.in_ok-told.told.lines))
same c =
    ap (λ (n : ℕ). reported n (plain_lines c.in_ok-entered.entered.lines)) c.in_ok-entered.ensures.revision
    ∙ ap (λ (ls : List (Key × Option Verdict)). reported c.in_ok-told.told.revision ls) c.in_ok-entered.ensures.lines

grown : (c : After-put) → c.put.new.self.entries ≡ c.self.inside.history.entries ++ entry c.args.seat report (reported c.in_ok-told.told.revision (plain_lines c.in_ok-told.told.lines)) ∷ []
grown c =
    ap (λ (x : Past). x.entries) c.put.ensures
    ∙ (ap (λ (x : Past). x.entries ++ entry c.args.seat report (reported c.in_ok-entered.entered.revision (plain_lines c.in_ok-entered.entered.lines)) ∷ []) c.in_ok-promise.ensures.ok
    ∙ ap (λ (x : PlainReply). c.self.inside.history.entries ++ entry c.args.seat report x ∷ []) (same c))

says : (c : After-put) → ◌≡◌ {A = PlainReply} (reported c.in_ok-told.told.revision (plain_lines c.in_ok-told.told.lines)) (reply_of (state_after start c.self.inside.history.entries) report)
says c = c.in_ok-told.ensures ∙ sym (ap (λ (b : BoardState). reply_of b.state report) c.self.view_is)

pub invariant_of-self-2 : goal.invariant_of-self-2
invariant_of-self-2 c =
    let i = c.self.inside in
    let k = c.self.invariant in
    let s = state_after start c.self.inside.history.entries in
    let m = ap (λ (x : Past). x.spare) c.put.ensures in
    let n = ap (λ (x : Past). x.spare) c.in_ok-promise.ensures.ok in
    let f = sym c.is_full.ensures ∙ c.if-is_full.false in
    let fits : length i.history.entries + i.history.spare + 1 ≤ most_places = grind (arith, f) in
    let kept = k.0.promised in
    quiet-more i.history c.put.new.self c.args.seat report (reported c.in_ok-told.told.revision (plain_lines c.in_ok-told.told.lines)) s _ i.claims i.is_closed i.is_stopped i.is_closed i.is_stopped i.revisions i.pairs i.parts
    i.table.entries i.out.items i.numbers.items i.last i.next (grown c) tt (says c) refl refl refl refl k.1 (omega (arith, m, n)) (omega (arith, m, n, fits)) (omega (arith, m, n, kept)) k

pub returns-clause-entry : goal.returns-clause-entry
returns-clause-entry c = enters-seen _ c.self.inside.history c.put.new.self c.args.seat report (reported c.in_ok-told.told.revision (plain_lines c.in_ok-told.told.lines)) c.self.view_is (grown c) tt (says c)
