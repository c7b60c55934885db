-- What is kept in memory, carried over one entry that leaves the revisions as they are.
use Rattle.std.proofs.Common.{◌≡◌, ◌∙◌, ◌+◌, ◌≤◌, ◌++◌, ◌∷◌, ◌||◌, [], ℕ, zero, suc, Bool, true, false, List, length, map, Option, Some, None, refl, sym, ap, arith, subst, length-append}
use Rattle.std.proofs.lemmas.Bool.{false≢true}
use Rattle.std.specs.Prelude.{All, option_and_then, sum_by, IfSome, IsSome, unwrap_or, if◌then◌else◌}
use Rattle.std.specs.List.{flat_map}
use Rattle.ag_stream.specs.declared.problem.ProblemDraft.{ProblemDraft}
use Rattle.ag_stream.specs.Runs.{last}
use Rattle.ag_verdict.specs.declared.key.Key.{Key}
use Rattle.ag_verdict.specs.declared.verdict.Verdict.{Verdict}
use Rattle.ag_board.specs.declared.slot.Out.{Out}
use Rattle.ag_board.specs.Entries.{PlainCall, PlainReply, PlainEntry, Past}
use Rattle.ag_board.specs.Machine.{State, Line, start, May, reply_of, after, verdict_in, verdict_of, is_over, IsLegal, state_after}
use Rattle.ag_board.specs.Notes.{list_of, listed_in, posted_in}
use Rattle.ag_board.specs.Store.{BoardState, Enters, most_places, entry, places_kept, parts_of}
use Rattle.ag_board.specs.Inside.{Row, different, IsRow, IsTable, AreOut, IsLast, IsSized, IsMarked, IsPast}
use Rattle.ag_board.proofs.Histories.{state_after-snoc, legal-snoc}
use Rattle.ag_board.proofs.Verdicts.{each-from, each-to, each-same}

-- entries

pub posted-grows : (es : List PlainEntry) (e : PlainEntry) (n : ℕ) → IsSome (posted_in es n) → posted_in (es ++ e ∷ []) n ≡ posted_in es n
posted-grows [] e n h = absurd (false≢true h)
posted-grows (x ∷ es) e zero h = refl
posted-grows (x ∷ es) e (suc n) h = posted-grows es e n h

pub listed-grows : (es : List PlainEntry) (e : PlainEntry) (n : ℕ) → list_of e.call ≡ [] → listed_in (es ++ e ∷ []) n ≡ listed_in es n
listed-grows [] e zero h = h
listed-grows [] e (suc n) h = refl
listed-grows (x ∷ es) e zero h = refl
listed-grows (x ∷ es) e (suc n) h = listed-grows es e n h

pub posted-stays : (es : List PlainEntry) (e : PlainEntry) (o : Option ℕ) → IfSome o (λ n. IsSome (posted_in es n)) → IfSome o (λ n. IsSome (posted_in (es ++ e ∷ []) n))
posted-stays es e None h = tt
posted-stays es e (Some n) h =
    let P : Option Verdict → Type 0 = λ v. IsSome v in
    subst P (sym (posted-grows es e n h)) h

pub posted-same : (es : List PlainEntry) (e : PlainEntry) (o : Option ℕ) → IfSome o (λ n. IsSome (posted_in es n)) → option_and_then (posted_in (es ++ e ∷ [])) o ≡ option_and_then (posted_in es) o
posted-same es e None h = refl
posted-same es e (Some n) h = posted-grows es e n h

-- the state

pub state-next : (p q : Past) (seat : ℕ) (call : PlainCall) (reply : PlainReply) → q.entries ≡ p.entries ++ entry seat call reply ∷ []
    → state_after start q.entries ≡ after (state_after start p.entries) seat call
state-next p q seat call reply e = ap (λ (es : List PlainEntry). state_after start es) e ∙ state_after-snoc start p.entries (entry seat call reply)

pub revisions-next : (p q : Past) (seat : ℕ) (call : PlainCall) (reply : PlainReply) → q.entries ≡ p.entries ++ entry seat call reply ∷ []
    → (after (state_after start p.entries) seat call).revisions ≡ (state_after start p.entries).revisions
    → (state_after start q.entries).revisions ≡ (state_after start p.entries).revisions
revisions-next p q seat call reply e r = ap (λ (s : State). s.revisions) (state-next p q seat call reply e) ∙ r

-- rows

pub row-carry : (s t : State) (es : List PlainEntry) (e : PlainEntry) (r : Row) → verdict_of t r.0.value ≡ verdict_of s r.0.value → IsRow s es r → IsRow t (es ++ e ∷ []) r
row-carry s t es e r v k =
    record {
      handle = k.handle;
      posted = posted-stays es e r.1.verdict k.posted;
      verdict = posted-same es e r.1.verdict k.posted ∙ (k.verdict ∙ sym v);
    }

pub table-carry : (s t : State) (es : List PlainEntry) (e : PlainEntry) (rows : List Row) → t.revisions ≡ s.revisions → IsTable s es rows → IsTable t (es ++ e ∷ []) rows
table-carry s t es e rows q k =
    let V : List (List Line) → ProblemDraft → Option Verdict = λ rs p. verdict_in (flat_map (λ (r : List Line). r) rs) p in
    record {
      problems = k.problems ∙ sym (ap (λ (rs : List (List Line)). different (map {B = ProblemDraft} (λ (l : Line). l.problem) (flat_map (λ (r : List Line). r) rs))) q);
      each = each-to (IsRow t (es ++ e ∷ [])) rows
          (each-same (IsRow s es) (IsRow t (es ++ e ∷ [])) rows (λ r h. row-carry s t es e r (ap (λ (rs : List (List Line)). V rs r.0.value) q) h) (each-from (IsRow s es) rows k.each));
      few_rows = k.few_rows;
    }

pub table-next : (p q : Past) (seat : ℕ) (call : PlainCall) (reply : PlainReply) (rows : List Row) → q.entries ≡ p.entries ++ entry seat call reply ∷ []
    → (after (state_after start p.entries) seat call).revisions ≡ (state_after start p.entries).revisions
    → IsTable (state_after start p.entries) p.entries rows → IsTable (state_after start q.entries) q.entries rows
table-next p q seat call reply rows e r k =
    let P : List PlainEntry → Type 0 = λ es. IsTable (state_after start q.entries) es rows in
    subst P (sym e) (table-carry (state_after start p.entries) (state_after start q.entries) p.entries (entry seat call reply) rows (revisions-next p q seat call reply e r) k)

-- the claims that are out

pub outs-next : (p q : Past) (seat : ℕ) (call : PlainCall) (reply : PlainReply) (rows : List Row) (outs : List Out) → q.entries ≡ p.entries ++ entry seat call reply ∷ []
    → (after (state_after start p.entries) seat call).tickets ≡ (state_after start p.entries).tickets
    → AreOut (state_after start p.entries) rows outs → AreOut (state_after start q.entries) rows outs
outs-next p q seat call reply rows outs e r k =
    record {
      tickets = ap (λ (s : State). s.tickets) (state-next p q seat call reply e) ∙ (r ∙ k.tickets);
      numbered = k.numbered;
      live = k.live;
    }

-- the last revision

pub last-carry : (s t : State) (es : List PlainEntry) (e : PlainEntry) (rows : List Row) (numbers : List ℕ) (at next : ℕ) → t.revisions ≡ s.revisions → list_of e.call ≡ []
    → IsLast s es rows numbers at next → IsLast t (es ++ e ∷ []) rows numbers at next
last-carry s t es e rows numbers at next q h k =
    let A : List (List Line) → Type 0 = λ rs. All (λ (l : Line). l.verdict ≡ verdict_in (flat_map (λ (r : List Line). r) rs) l.problem) (unwrap_or (last rs) []) in
    record {
      problems = k.problems ∙ sym (ap (λ (rs : List (List Line)). map {B = ProblemDraft} (λ (l : Line). l.problem) (unwrap_or (last rs) [])) q);
      numbered = k.numbered;
      few = k.few;
      listed = listed-grows es e at h ∙ (k.listed ∙ sym (ap (λ (rs : List (List Line)). map {B = Key × ProblemDraft} (λ (l : Line). (l.key, l.problem)) (unwrap_or (last rs) [])) q));
      verdicts = subst A (sym q) k.verdicts;
      within = k.within;
      taken = k.taken;
    }

pub last-next : (p q : Past) (seat : ℕ) (call : PlainCall) (reply : PlainReply) (rows : List Row) (numbers : List ℕ) (at next : ℕ) → q.entries ≡ p.entries ++ entry seat call reply ∷ []
    → (after (state_after start p.entries) seat call).revisions ≡ (state_after start p.entries).revisions → list_of call ≡ []
    → IsLast (state_after start p.entries) p.entries rows numbers at next → IsLast (state_after start q.entries) q.entries rows numbers at next
last-next p q seat call reply rows numbers at next e r h k =
    let P : List PlainEntry → Type 0 = λ es. IsLast (state_after start q.entries) es rows numbers at next in
    subst P (sym e) (last-carry (state_after start p.entries) (state_after start q.entries) p.entries (entry seat call reply) rows numbers at next (revisions-next p q seat call reply e r) h k)

-- sizes

pub sized-next : (p q : Past) (seat : ℕ) (call : PlainCall) (reply : PlainReply) (revisions pairs parts : ℕ) → q.entries ≡ p.entries ++ entry seat call reply ∷ []
    → (after (state_after start p.entries) seat call).revisions ≡ (state_after start p.entries).revisions
    → IsSized (state_after start p.entries) revisions pairs parts → IsSized (state_after start q.entries) revisions pairs parts
sized-next p q seat call reply revisions pairs parts e r k =
    let same = revisions-next p q seat call reply e r in
    record {
      all_revisions = ap (λ (rs : List (List Line)). length rs) same ∙ k.all_revisions;
      few_revisions = k.few_revisions;
      all_pairs = ap (λ (rs : List (List Line)). sum_by (λ (r : List Line). length r) rs) same ∙ k.all_pairs;
      few_pairs = k.few_pairs;
      all_parts = ap (λ (rs : List (List Line)). parts_of (map {B = ProblemDraft} (λ (l : Line). l.problem) (flat_map (λ (r : List Line). r) rs))) same ∙ k.all_parts;
      few_parts = k.few_parts;
    }

-- the history

pub past-more : (p q : Past) (seat : ℕ) (call : PlainCall) (reply : PlainReply) (room claims more : ℕ) → q.entries ≡ p.entries ++ entry seat call reply ∷ []
    → May (state_after start p.entries) seat call → reply ≡ reply_of (state_after start p.entries) call
    → q.spare ≤ p.spare → length p.entries + 1 + q.spare ≤ most_places → places_kept (after (state_after start p.entries) seat call) ≤ q.spare → more ≤ length p.entries + 1
    → IsPast p room claims → IsPast q room more
past-more p q seat call reply room claims more e m r less fits kept few k =
    let L : List PlainEntry → Type 0 = λ es. IsLegal es in
    let S : State → Type 0 = λ s. places_kept s ≤ q.spare in
    let n = ap (λ (es : List PlainEntry). length es) e in
    let l = length-append p.entries (entry seat call reply ∷ []) in
    record {
      legal = subst L (sym e) (legal-snoc start p.entries (entry seat call reply) k.legal m r);
      places = omega (arith, n, l, fits);
      promised = subst S (sym (state-next p q seat call reply e)) kept;
      enough = omega (arith, less, k.enough);
      few_claims = omega (arith, n, l, few);
    }

pub past-next : (p q : Past) (seat : ℕ) (call : PlainCall) (reply : PlainReply) (room claims more : ℕ) → q.entries ≡ p.entries ++ entry seat call reply ∷ []
    → May (state_after start p.entries) seat call → reply ≡ reply_of (state_after start p.entries) call
    → q.spare + 1 ≤ p.spare → places_kept (after (state_after start p.entries) seat call) ≤ q.spare → more ≤ length p.entries + 1
    → IsPast p room claims → IsPast q room more
past-next p q seat call reply room claims more e m r less kept few k = past-more p q seat call reply room claims more e m r (omega (arith, less)) (omega (arith, less, k.places)) kept few k

-- what holds of the machine's next state holds of what the history leads to
pub at-next : (P : State → Type 0) (p q : Past) (seat : ℕ) (call : PlainCall) (reply : PlainReply) → q.entries ≡ p.entries ++ entry seat call reply ∷ []
    → P (after (state_after start p.entries) seat call) → P (state_after start q.entries)
at-next P p q seat call reply e h = subst P (sym (state-next p q seat call reply e)) h

or-parts : (a b : Bool) → (a || b) ≡ false → (a ≡ false) × (b ≡ false)
or-parts true b h = absurd (false≢true (sym h))
or-parts false b h = (refl, h)

-- neither closed nor stopped
pub open-parts : (s : State) → is_over s ≡ false → (s.is_closed ≡ false) × (s.is_stopped ≡ false)
open-parts s h = or-parts s.is_closed s.is_stopped h

-- before it is over a place is kept for a stop
pub kept-open : (s : State) → is_over s ≡ false → places_kept s ≡ length s.tickets + 1
kept-open s h = ap (λ (b : Bool). length s.tickets + (if b then 0 else 1)) (open-parts s h).1

-- a history as the store is seen by it
abbrev pub seen : Past → BoardState
seen p = record { state = state_after start p.entries; history = p.entries; spare = p.spare }

pub enters-next : (p q : Past) (seat : ℕ) (call : PlainCall) (reply : PlainReply) → q.entries ≡ p.entries ++ entry seat call reply ∷ []
    → May (state_after start p.entries) seat call → reply ≡ reply_of (state_after start p.entries) call → Enters (seen p) (seen q) seat call reply
enters-next p q seat call reply e m r =
    record {
      may = m;
      says = r;
      state = state-next p q seat call reply e;
      history = e;
    }

-- the same, where the store was seen as `old`
pub enters-seen : (old : BoardState) (p q : Past) (seat : ℕ) (call : PlainCall) (reply : PlainReply) → seen p ≡ old → q.entries ≡ p.entries ++ entry seat call reply ∷ []
    → May (state_after start p.entries) seat call → reply ≡ reply_of (state_after start p.entries) call → Enters old (seen q) seat call reply
enters-seen old p q seat call reply v e m r =
    let P : BoardState → Type 0 = λ b. Enters b (seen q) seat call reply in
    subst P v (enters-next p q seat call reply e m r)

-- all that is kept of a store
abbrev pub Holds : Past → ℕ → ℕ → Bool → Bool → ℕ → ℕ → ℕ → List Row → List Out → List ℕ → ℕ → ℕ → Type 0
Holds p room claims is_closed is_stopped revisions pairs parts rows outs numbers at next =
    IsPast p room claims
    × IsMarked (state_after start p.entries) claims is_closed is_stopped
    × IsSized (state_after start p.entries) revisions pairs parts
    × IsTable (state_after start p.entries) p.entries rows
    × AreOut (state_after start p.entries) rows outs
    × IsLast (state_after start p.entries) p.entries rows numbers at next

-- the same after an entry that leaves revisions, claims and tickets as they are
pub quiet-more : (p q : Past) (seat : ℕ) (call : PlainCall) (reply : PlainReply) (t : State) (room claims : ℕ) (is_closed is_stopped now_closed now_stopped : Bool) (revisions pairs parts : ℕ)
    (rows : List Row) (outs : List Out) (numbers : List ℕ) (at next : ℕ)
    → q.entries ≡ p.entries ++ entry seat call reply ∷ [] → May (state_after start p.entries) seat call → reply ≡ reply_of (state_after start p.entries) call
    → after (state_after start p.entries) seat call ≡ t → t.revisions ≡ (state_after start p.entries).revisions → t.tickets ≡ (state_after start p.entries).tickets → list_of call ≡ []
    → IsMarked t claims now_closed now_stopped → q.spare ≤ p.spare → length p.entries + 1 + q.spare ≤ most_places → places_kept t ≤ q.spare
    → Holds p room claims is_closed is_stopped revisions pairs parts rows outs numbers at next
    → Holds q room claims now_closed now_stopped revisions pairs parts rows outs numbers at next
quiet-more p q seat call reply t room claims is_closed is_stopped now_closed now_stopped revisions pairs parts rows outs numbers at next e m r n rs ts none marked less fits kept k =
    let same = ap (λ (s : State). s.revisions) n ∙ rs in (
      past-more p q seat call reply room claims claims e m r less fits (subst (λ (s : State). places_kept s ≤ q.spare) (sym n) kept) (omega (arith, k.0.few_claims)) k.0,
      at-next (λ (s : State). IsMarked s claims now_closed now_stopped) p q seat call reply e (subst (λ (s : State). IsMarked s claims now_closed now_stopped) (sym n) marked),
      sized-next p q seat call reply revisions pairs parts e same k.2,
      table-next p q seat call reply rows e same k.3,
      outs-next p q seat call reply rows outs e (ap (λ (s : State). s.tickets) n ∙ ts) k.4,
      last-next p q seat call reply rows numbers at next e same none k.5,
    )

-- on a promised place
pub quiet-next : (p q : Past) (seat : ℕ) (call : PlainCall) (reply : PlainReply) (t : State) (room claims : ℕ) (is_closed is_stopped now_closed now_stopped : Bool) (revisions pairs parts : ℕ)
    (rows : List Row) (outs : List Out) (numbers : List ℕ) (at next : ℕ)
    → q.entries ≡ p.entries ++ entry seat call reply ∷ [] → May (state_after start p.entries) seat call → reply ≡ reply_of (state_after start p.entries) call
    → after (state_after start p.entries) seat call ≡ t → t.revisions ≡ (state_after start p.entries).revisions → t.tickets ≡ (state_after start p.entries).tickets → list_of call ≡ []
    → IsMarked t claims now_closed now_stopped → q.spare + 1 ≤ p.spare → places_kept t ≤ q.spare
    → Holds p room claims is_closed is_stopped revisions pairs parts rows outs numbers at next
    → Holds q room claims now_closed now_stopped revisions pairs parts rows outs numbers at next
quiet-next p q seat call reply t room claims is_closed is_stopped now_closed now_stopped revisions pairs parts rows outs numbers at next e m r n rs ts none marked less kept k =
    quiet-more p q seat call reply t room claims is_closed is_stopped now_closed now_stopped revisions pairs parts rows outs numbers at next e m r n rs ts none marked (omega (arith, less)) (omega (arith, less, k.0.places)) kept k
