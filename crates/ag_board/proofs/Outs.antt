-- Tickets in the states that legal histories lead to: their numbers differ, and so do the problems of live ones.
use Rattle.std.proofs.Common.{◌≡◌, ◌∙◌, ◌+◌, ◌≤◌, ◌==◌, ◌&&◌, ◌||◌, ◌++◌, ◌∷◌, [], ℕ, Bool, true, false, not, cond, List, map, filter, Option, Some, None, refl, sym, ap, arith}
use Rattle.std.proofs.lemmas.Bool.{false≢true}
use Rattle.std.specs.Prelude.{find, if◌then◌else◌}
use Rattle.std.specs.List.{list_any}
use Rattle.ag_stream.specs.declared.problem.ProblemDraft.{ProblemDraft}
use Rattle.ag_verdict.specs.declared.key.Key.{Key}
use Rattle.ag_verdict.specs.declared.verdict.Verdict.{Verdict}
use Rattle.ag_board.specs.Entries.{PlainCall, publish, claim, post, give_back, report, close, stop, PlainEntry}
use Rattle.ag_board.specs.Machine.{State, Line, Ticket, start, same_problem, is_cancelled, cancel, is_over, is_undecided, undecided, lines, is_free, claim_ticket, after_found, after, after_post, without, ticket_of, state_after}
use Rattle.ag_board.proofs.Verdicts.{same-itself, Each, each-append, each-same, each-map}

-- two tickets have different numbers, and only one of them is live where their problems are equal
pub record Differ (t u : Ticket) : Type 0 where
  pub numbers : t.claim ≡ u.claim → ⊥
  pub live : t.is_live ≡ true → u.is_live ≡ true → t.problem ≡ u.problem → ⊥

abbrev pub AllDiffer : List Ticket → Type 0
AllDiffer [] = Unit {0}
AllDiffer (t ∷ ts) = Each (Differ t) ts × AllDiffer ts

-- so many claims have been made
abbrev pub AreGood : List Ticket → ℕ → Type 0
AreGood ts n = AllDiffer ts × Each (λ t. t.claim ≤ n) ts

-- publish

pub cancel-if : (b : Bool) (t : Ticket) → ((if b then record t { is_live = false } else t).claim ≡ t.claim) × ((if b then record t { is_live = false } else t).problem ≡ t.problem) × ((if b then record t { is_live = false } else t).is_live ≡ true → t.is_live ≡ true)
cancel-if true t = (refl, refl, λ h. absurd (false≢true h))
cancel-if false t = (refl, refl, λ h. h)

cancel-differ : (list : List (Key × ProblemDraft)) (t u : Ticket) → Differ t u → Differ (cancel list t) (cancel list u)
cancel-differ list t u d =
    let a = cancel-if (is_cancelled list t) t in
    let b = cancel-if (is_cancelled list u) u in
    record {
      numbers = λ e. d.numbers (sym a.0 ∙ (e ∙ b.0));
      live = λ x y e. d.live (a.2 x) (b.2 y) (sym a.1 ∙ (e ∙ b.1));
    }

differ-cancel : (list : List (Key × ProblemDraft)) (ts : List Ticket) → AllDiffer ts → AllDiffer (map (cancel list) ts)
differ-cancel list [] d = tt
differ-cancel list (t ∷ ts) d = (
  each-map (Differ (cancel list t)) (cancel list) ts (each-same (Differ t) (λ u. Differ (cancel list t) (cancel list u)) ts (λ u h. cancel-differ list t u h) d.0),
  differ-cancel list ts d.1,
)

few-cancel : (list : List (Key × ProblemDraft)) (n : ℕ) (ts : List Ticket) → Each (λ t. t.claim ≤ n) ts → Each (λ t. t.claim ≤ n) (map (cancel list) ts)
few-cancel list n ts h = each-map (λ t. t.claim ≤ n) (cancel list) ts (each-same (λ t. t.claim ≤ n) (λ t. (cancel list t).claim ≤ n) ts (λ t k. let e = (cancel-if (is_cancelled list t) t).0 in omega (arith, e, k)) h)

-- claim

differ-snoc : (ts : List Ticket) (u : Ticket) → AllDiffer ts → Each (λ t. Differ t u) ts → AllDiffer (ts ++ u ∷ [])
differ-snoc [] u d h = (tt, tt)
differ-snoc (t ∷ ts) u d h = (each-append (Differ t) ts (u ∷ []) d.0 (h.0, tt), differ-snoc ts u d.1 h.1)

or-parts : (a b : Bool) → (a || b) ≡ false → (a ≡ false) × (b ≡ false)
or-parts true b h = absurd (false≢true (sym h))
or-parts false b h = (refl, h)

and-both : (a b : Bool) → a && b ≡ false → a ≡ true → b ≡ true → ⊥
and-both true true h x y = false≢true (sym h)
and-both true false h x y = false≢true y
and-both false b h x y = false≢true x

new-differ : (s : State) (seat : ℕ) (l : Line) (ts : List Ticket) → list_any (λ t. t.is_live && same_problem t.problem l.problem) ts ≡ false → Each (λ t. t.claim ≤ s.claims) ts → Each (λ t. Differ t (claim_ticket s seat l)) ts
new-differ s seat l [] f h = tt
new-differ s seat l (t ∷ ts) f h =
    let p = or-parts (t.is_live && same_problem t.problem l.problem) (list_any (λ u. u.is_live && same_problem u.problem l.problem) ts) f in
    let k = h.0 in (
      record {
        numbers = λ e. absurd (omega (arith, e, k));
        live = λ x y e. and-both t.is_live (same_problem t.problem l.problem) p.0 x (same-itself t.problem l.problem e);
      },
      new-differ s seat l ts p.1 h.1,
    )

free-none : (a b : Bool) → a && not b ≡ true → b ≡ false
free-none true true h = absurd (false≢true h)
free-none true false h = refl
free-none false b h = absurd (false≢true h)

pub good-claim : (s : State) (seat : ℕ) (l : Line) → is_free s l ≡ true → AreGood s.tickets s.claims → AreGood (s.tickets ++ claim_ticket s seat l ∷ []) (s.claims + 1)
good-claim s seat l f g = (
  differ-snoc s.tickets (claim_ticket s seat l) g.0 (new-differ s seat l s.tickets (free-none (is_undecided l) (list_any (λ t. t.is_live && same_problem t.problem l.problem) s.tickets) f) g.1),
  each-append (λ t. t.claim ≤ s.claims + 1) s.tickets (claim_ticket s seat l ∷ []) (each-same (λ t. t.claim ≤ s.claims) (λ t. t.claim ≤ s.claims + 1) s.tickets (λ t k. omega (arith, k)) g.1) (omega arith, tt),
)

find-passes : (p : Line → Bool) (ls : List Line) (l : Line) → find p ls ≡ Some l → p l ≡ true
find-passes p [] l h = cc
find-passes p (x ∷ xs) l h = go (p x) refl (λ k. find-passes p xs l k)
  where
    go : (b : Bool) → p x ≡ b → (find p xs ≡ Some l → p l ≡ true) → p l ≡ true
    go true e f =
        let here : Some x ≡ Some l = sym (ap (λ (b : Bool). cond b (Some x) (find p xs)) e) ∙ h in
        let same : x ≡ l = cc in
        sym (ap p same) ∙ e
    go false e f = f (sym (ap (λ (b : Bool). cond b (Some x) (find p xs)) e) ∙ h)

good-found : (s : State) (seat : ℕ) (o : Option Line) → ((l : Line) → o ≡ Some l → is_free s l ≡ true) → AreGood s.tickets s.claims → AreGood (after_found s seat o).tickets (after_found s seat o).claims
good-found s seat None f g = g
good-found s seat (Some l) f g = good-claim s seat l (f l refl) g

-- post and give_back

pub filter-each : (P : Ticket → Type 0) (p : Ticket → Bool) (ts : List Ticket) → Each P ts → Each P (filter p ts)
filter-each P p [] h = tt
filter-each P p (t ∷ ts) h = go (p t) (filter-each P p ts h.1)
  where
    go : (b : Bool) → Each P (filter p ts) → Each P (cond b (t ∷ filter p ts) (filter p ts))
    go true k = (h.0, k)
    go false k = k

filter-differ : (p : Ticket → Bool) (ts : List Ticket) → AllDiffer ts → AllDiffer (filter p ts)
filter-differ p [] d = tt
filter-differ p (t ∷ ts) d = go (p t) (filter-differ p ts d.1)
  where
    go : (b : Bool) → AllDiffer (filter p ts) → AllDiffer (cond b (t ∷ filter p ts) (filter p ts))
    go true k = (filter-each (Differ t) p ts d.0, k)
    go false k = k

pub good-without : (n k : ℕ) (ts : List Ticket) → AreGood ts k → AreGood (without n ts) k
good-without n k ts g = (filter-differ (λ t. not (t.claim == n)) ts g.0, filter-each (λ t. t.claim ≤ k) (λ t. not (t.claim == n)) ts g.1)

good-post : (s : State) (n : ℕ) (v : Verdict) (o : Option Ticket) → AreGood s.tickets s.claims → AreGood (after_post s n v o).tickets (after_post s n v o).claims
good-post s n v None g = g
good-post s n v (Some t) g = good-without n s.claims s.tickets g

good-if : (b : Bool) (s t : State) → AreGood s.tickets s.claims → AreGood t.tickets t.claims → AreGood (if b then s else t).tickets (if b then s else t).claims
good-if true s t g h = g
good-if false s t g h = h

good-after : (s : State) (seat : ℕ) (call : PlainCall) → AreGood s.tickets s.claims → AreGood (after s seat call).tickets (after s seat call).claims
good-after s seat (publish list) g = (differ-cancel list s.tickets g.0, few-cancel list s.claims s.tickets g.1)
good-after s seat claim g = good-if (is_over s) s (after_found s seat (find (is_free s) (lines s))) g (good-found s seat (find (is_free s) (lines s)) (λ l e. find-passes (is_free s) (lines s) l e) g)
good-after s seat (post n v) g = good-post s n v (ticket_of s n) g
good-after s seat (give_back n) g = good-without n s.claims s.tickets g
good-after s seat report g = g
good-after s seat close g = good-if (undecided s == 0) (record s { is_closed = true }) s g g
good-after s seat stop g = g

good-from : (s : State) (es : List PlainEntry) → AreGood s.tickets s.claims → AreGood (state_after s es).tickets (state_after s es).claims
good-from s [] g = g
good-from s (e ∷ es) g = good-from (after s e.seat e.call) es (good-after s e.seat e.call g)

-- wherever a history leads, tickets differ
pub good-tickets : (es : List PlainEntry) → AreGood (state_after start es).tickets (state_after start es).claims
good-tickets es = good-from start es (tt, tt)
