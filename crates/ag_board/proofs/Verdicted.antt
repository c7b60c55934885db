-- All that is kept, after a post.
use Rattle.std.proofs.Common.{◌≡◌, ◌∙◌, ◌-◌, ◌<◌, ◌≤◌, ◌++◌, ◌∷◌, [], ℕ, Bool, List, length, take, Option, Some, None, refl, sym, ap, arith, subst}
use Rattle.std.specs.Prelude.{remove, is_some, IsSomeAnd, if◌then◌else◌}
use Rattle.ag_stream.specs.declared.problem.ProblemDraft.{ProblemDraft}
use Rattle.ag_verdict.specs.declared.verdict.Verdict.{Verdict}
use Rattle.ag_verdict.specs.Verdicts.{IsTrueOf}
use Rattle.ag_board.specs.declared.slot.Out.{Out}
use Rattle.ag_board.specs.declared.entry.Posted.TheVariants as posts
use Rattle.ag_board.specs.Tickets.{Handed}
use Rattle.ag_board.specs.Entries.{PlainEntry, PlainReply, Past, post, posted}
use Rattle.ag_board.specs.Machine.{State, Ticket, start, verdict_of, decided, after_post, post_reply, May, reply_of, ticket_of, state_after}
use Rattle.ag_board.specs.Store.{IsSame, IsOut, entry, places_kept}
use Rattle.ag_board.specs.Inside.{Row, problem_at, ticket_at, is_decided_row, IsRow, IsTable, AreOut, IsLast, IsSized, IsMarked}
use Rattle.ag_board.proofs.Verdicts.{each-from}
use Rattle.ag_board.proofs.Carrying.{Holds, past-next, state-next}
use Rattle.ag_board.proofs.Outs.{good-tickets}
use Rattle.ag_board.proofs.Telling.{decided-row}
use Rattle.ag_board.proofs.Returning.{Handle, Taken, put_back, table-back, problem-back, length-back, last-back, outs-back, one-fewer}
use Rattle.ag_board.proofs.Posting.{after_rows, taken-posted, outs-after, with-next, keeps}

-- whether the problem had a verdict before
pub was-decided : (s : State) (es : List PlainEntry) (rows : List Row) (b : Bool) (n : ℕ) (h : Handle) → IsTable s es (put_back b rows n h) → n < length rows → is_some (verdict_of s (problem_at rows n)) ≡ is_decided_row (put_back b rows n h) n
was-decided s es rows b n h t few =
    let l = length-back b rows n h in
    ap (λ (p : ProblemDraft). is_some (verdict_of s p)) (sym (problem-back b rows n h n))
    ∙ sym (decided-row s es (put_back b rows n h) n (each-from (IsRow s es) (put_back b rows n h) t.each) (omega (arith, l, few)))

pub may-post : (s : State) (t : Handed) (v : Verdict) → IsOut s t → IsTrueOf t.problem v → May s t.seat (post t.claim v)
may-post s t v h w = go (ticket_of s t.claim) h
  where
    go : (o : Option Ticket) → IsSomeAnd o (IsSame t) → IsSomeAnd o (λ u. (u.seat ≡ t.seat) × IsTrueOf u.problem v)
    go (Some u) k = (k.seat, subst (λ (p : ProblemDraft). IsTrueOf p v) (sym k.problem) w)
    go None k = k

pub post-says : (s : State) (es : List PlainEntry) (rows : List Row) (outs : List Out) (number place : ℕ) (o : Out) (h : Handle) → Taken s rows outs number place o → h.value ≡ problem_at rows o.problem → o.problem < length rows → IsTable s es rows
    → post_reply s (ticket_of s number) ≡ posted (if is_decided_row (put_back o.is_live rows o.problem h) o.problem then posts.Already else posts.Kept)
post-says s es rows outs number place o h f v few t =
    ap (λ (x : Option Ticket). post_reply s x) f.ticket
    ∙ ap (λ (x : Bool). posted (if x then posts.Already else posts.Kept)) (was-decided s es rows o.is_live o.problem h (table-back o.is_live s es rows o.problem h v t) few)

pub posted-next : (p q : Past) (seat number : ℕ) (verdict : Verdict) (reply : PlainReply) (room new_room claims : ℕ) (is_closed is_stopped : Bool) (revisions pairs parts : ℕ) (rows new_rows : List Row) (outs new_outs : List Out) (numbers : List ℕ) (at next place : ℕ) (o : Out) (h : Handle)
    → Taken (state_after start p.entries) rows outs number place o → h.value ≡ problem_at rows o.problem → o.problem < length rows
    → new_rows ≡ after_rows (is_decided_row (put_back o.is_live rows o.problem h) o.problem) (put_back o.is_live rows o.problem h) o.problem (length p.entries) → new_outs ≡ remove outs place → new_room ≡ room
    → q.entries ≡ p.entries ++ entry seat (post number verdict) reply ∷ [] → q.spare ≡ p.spare - 1 → May (state_after start p.entries) seat (post number verdict) → reply ≡ reply_of (state_after start p.entries) (post number verdict)
    → Holds p room claims is_closed is_stopped revisions pairs parts rows outs numbers at next
    → Holds q new_room claims is_closed is_stopped revisions pairs parts new_rows new_outs numbers at next
posted-next p q seat number verdict reply room new_room claims is_closed is_stopped revisions pairs parts rows new_rows outs new_outs numbers at next place o h f v few rows-are outs-are same_room e m may says k =
    let s = state_after start p.entries in
    let n = o.problem in
    let back = put_back o.is_live rows o.problem h in
    let b = is_decided_row (put_back o.is_live rows o.problem h) o.problem in
    let t : State = after_post (state_after start p.entries) number verdict (Some (ticket_at rows o)) in
    let left = ap (λ (x : Option Ticket). after_post (state_after start p.entries) number verdict x) f.ticket in
    let st = state-next p q seat (post number verdict) reply e ∙ left in
    let table = table-back o.is_live s p.entries rows o.problem h v k.3 in
    let revs = ap (λ (x : Bool). if x then (state_after start p.entries).revisions else decided (problem_at rows o.problem) verdict (state_after start p.entries).revisions) (was-decided s p.entries rows o.is_live o.problem h table few)
    ∙ ap (λ (x : ProblemDraft). if is_decided_row (put_back o.is_live rows o.problem h) o.problem then (state_after start p.entries).revisions else decided x verdict (state_after start p.entries).revisions) (sym (problem-back o.is_live rows o.problem h o.problem)) in
    let l = length-back o.is_live rows o.problem h in
    let c = keeps b s t p.entries (entry seat (post number verdict) reply) back n verdict numbers at revisions pairs parts revs refl refl (omega (arith, l, few)) k.2 table (last-back o.is_live s p.entries rows o.problem h numbers at next k.5) in
    let fewer = one-fewer number (state_after start p.entries).tickets (ticket_at rows o) f.ticket in
    let was = k.0.promised in
    let kept : places_kept t ≤ q.spare = omega (arith, m, was, fewer) in
    let now = after_rows b back n (length p.entries) in
    let lasts = with-next t (p.entries ++ entry seat (post number verdict) reply ∷ []) now numbers at next c.lines_kept k.5.within (taken-posted b o.is_live rows n h (length p.entries) (take next numbers) refl k.5.taken) in
    let core : Holds q room claims is_closed is_stopped revisions pairs parts now (remove outs place) numbers at next = (
      past-next p q seat (post number verdict) reply room claims claims e may says (omega (arith, m, was, fewer)) (subst (λ (x : State). places_kept x ≤ q.spare) (sym left) kept) (omega (arith, k.0.few_claims)) k.0,
      subst (λ (x : State). IsMarked x claims is_closed is_stopped) (sym st) (record { all_claims = k.1.all_claims; closed = k.1.closed; stopped = k.1.stopped }),
      subst (λ (x : State). IsSized x revisions pairs parts) (sym st) c.sized,
      subst (λ (x : State). IsTable x q.entries now) (sym st) (subst (λ (x : List PlainEntry). IsTable t x now) (sym e) c.table),
      subst (λ (x : State). AreOut x now (remove outs place)) (sym st) (outs-after b t back n (length p.entries) (remove outs place) (outs-back s t rows outs number place o h refl (good-tickets p.entries).0 k.4 f few)),
      subst (λ (x : State). IsLast x q.entries now numbers at next) (sym st) (subst (λ (x : List PlainEntry). IsLast t x now numbers at next) (sym e) lasts),
    ) in
    subst (λ (x : List Row). Holds q new_room claims is_closed is_stopped revisions pairs parts x new_outs numbers at next) (sym rows-are)
    (subst (λ (x : List Out). Holds q new_room claims is_closed is_stopped revisions pairs parts now x numbers at next) (sym outs-are)
    (subst (λ (x : ℕ). Holds q x claims is_closed is_stopped revisions pairs parts now (remove outs place) numbers at next) (sym same_room) core))
