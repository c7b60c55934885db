-- Tickets' numbers rise, and a ticket stays out until a call ends its claim.
use Rattle.std.proofs.Common.{◌≡◌, ◌∙◌, ◌+◌, ◌<◌, ◌≤◌, ◌==◌, ◌++◌, ◌∷◌, [], ℕ, Bool, true, false, not, cond, List, map, filter, Option, Some, None, refl, sym, ap, subst, arith, AllPairs}
use Rattle.std.proofs.lemmas.Bool.Decides.{nat_tests}
use Rattle.std.proofs.lemmas.List.Kept.{AllPairs-cons}
use Rattle.std.specs.Prelude.{find, IsSomeAnd, if◌then◌else◌}
use Rattle.ag_stream.specs.declared.problem.ProblemDraft.{ProblemDraft}
use Rattle.ag_verdict.specs.declared.key.Key.{Key}
use Rattle.ag_verdict.specs.declared.verdict.Verdict.{Verdict}
use Rattle.ag_board.specs.Tickets.{Handed}
use Rattle.ag_board.specs.Entries.{PlainCall, publish, claim, post, give_back, report, close, stop, PlainEntry}
use Rattle.ag_board.specs.Machine.{State, Line, Ticket, start, is_cancelled, cancel, is_over, undecided, lines, is_free, claim_ticket, after_found, after, after_post, without, ticket_of, state_after}
use Rattle.ag_board.specs.Store.{IsSame, IsOut}
use Rattle.ag_board.specs.Laws.{DoRise, Ends}
use Rattle.ag_board.proofs.Verdicts.{Each, each-to, each-append, each-same, each-map}
use Rattle.ag_board.proofs.Outs.{cancel-if, filter-each}

-- each number is below the later ones
abbrev Rising : List Ticket → Type 0
Rising [] = Unit {0}
Rising (t ∷ ts) = Each (λ u. t.claim < u.claim) ts × Rising ts

abbrev IsWithin : ℕ → Ticket → Type 0
IsWithin n t = (1 ≤ t.claim) × (t.claim ≤ n)

abbrev AreRising : List Ticket → ℕ → Type 0
AreRising ts n = Rising ts × Each (IsWithin n) ts

-- publish

cancel-below : (list : List (Key × ProblemDraft)) (t u : Ticket) → t.claim < u.claim → (cancel list t).claim < (cancel list u).claim
cancel-below list t u k =
    let a = (cancel-if (is_cancelled list t) t).0 in
    let b = (cancel-if (is_cancelled list u) u).0 in
    omega (arith, a, b, k)

cancel-within : (list : List (Key × ProblemDraft)) (n : ℕ) (t : Ticket) → IsWithin n t → IsWithin n (cancel list t)
cancel-within list n t k =
    let a = (cancel-if (is_cancelled list t) t).0 in
    let low = k.0 in
    let high = k.1 in
    (omega (arith, a, low), omega (arith, a, high))

rising-cancel : (list : List (Key × ProblemDraft)) (ts : List Ticket) → Rising ts → Rising (map (cancel list) ts)
rising-cancel list [] h = tt
rising-cancel list (t ∷ ts) h = (
  each-map (λ u. (cancel list t).claim < u.claim) (cancel list) ts (each-same (λ u. t.claim < u.claim) (λ u. (cancel list t).claim < (cancel list u).claim) ts (λ u k. cancel-below list t u k) h.0),
  rising-cancel list ts h.1,
)

within-cancel : (list : List (Key × ProblemDraft)) (n : ℕ) (ts : List Ticket) → Each (IsWithin n) ts → Each (IsWithin n) (map (cancel list) ts)
within-cancel list n ts h = each-map (IsWithin n) (cancel list) ts (each-same (IsWithin n) (λ t. IsWithin n (cancel list t)) ts (λ t k. cancel-within list n t k) h)

-- claim

rising-snoc : (ts : List Ticket) (u : Ticket) → Rising ts → Each (λ t. t.claim < u.claim) ts → Rising (ts ++ u ∷ [])
rising-snoc [] u h k = (tt, tt)
rising-snoc (t ∷ ts) u h k = (each-append (λ x. t.claim < x.claim) ts (u ∷ []) h.0 (k.0, tt), rising-snoc ts u h.1 k.1)

below-next : (n : ℕ) (t : Ticket) → IsWithin n t → t.claim < n + 1
below-next n t k = let high = k.1 in omega (arith, high)

within-next : (n : ℕ) (t : Ticket) → IsWithin n t → IsWithin (n + 1) t
within-next n t k = let high = k.1 in (k.0, omega (arith, high))

rising-found : (s : State) (seat : ℕ) (o : Option Line) → AreRising s.tickets s.claims → AreRising (after_found s seat o).tickets (after_found s seat o).claims
rising-found s seat None g = g
rising-found s seat (Some l) g = (
  rising-snoc s.tickets (claim_ticket s seat l) g.0 (each-same (IsWithin s.claims) (λ t. t.claim < s.claims + 1) s.tickets (λ t k. below-next s.claims t k) g.1),
  each-append (IsWithin (s.claims + 1)) s.tickets (claim_ticket s seat l ∷ []) (each-same (IsWithin s.claims) (IsWithin (s.claims + 1)) s.tickets (λ t k. within-next s.claims t k) g.1) ((omega arith, omega arith), tt),
)

-- post and give_back

rising-filter : (p : Ticket → Bool) (ts : List Ticket) → Rising ts → Rising (filter p ts)
rising-filter p [] h = tt
rising-filter p (t ∷ ts) h = go (p t) (rising-filter p ts h.1)
  where
    go : (b : Bool) → Rising (filter p ts) → Rising (cond b (t ∷ filter p ts) (filter p ts))
    go true k = (filter-each (λ u. t.claim < u.claim) p ts h.0, k)
    go false k = k

rising-without : (n k : ℕ) (ts : List Ticket) → AreRising ts k → AreRising (without n ts) k
rising-without n k ts g = (rising-filter (λ t. not (t.claim == n)) ts g.0, filter-each (IsWithin k) (λ t. not (t.claim == n)) ts g.1)

rising-post : (s : State) (n : ℕ) (v : Verdict) (o : Option Ticket) → AreRising s.tickets s.claims → AreRising (after_post s n v o).tickets (after_post s n v o).claims
rising-post s n v None g = g
rising-post s n v (Some t) g = rising-without n s.claims s.tickets g

rising-if : (b : Bool) (s t : State) → AreRising s.tickets s.claims → AreRising t.tickets t.claims → AreRising (if b then s else t).tickets (if b then s else t).claims
rising-if true s t g h = g
rising-if false s t g h = h

rising-after : (s : State) (seat : ℕ) (call : PlainCall) → AreRising s.tickets s.claims → AreRising (after s seat call).tickets (after s seat call).claims
rising-after s seat (publish list) g = (rising-cancel list s.tickets g.0, within-cancel list s.claims s.tickets g.1)
rising-after s seat claim g = rising-if (is_over s) s (after_found s seat (find (is_free s) (lines s))) g (rising-found s seat (find (is_free s) (lines s)) g)
rising-after s seat (post n v) g = rising-post s n v (ticket_of s n) g
rising-after s seat (give_back n) g = rising-without n s.claims s.tickets g
rising-after s seat report g = g
rising-after s seat close g = rising-if (undecided s == 0) (record s { is_closed = true }) s g g
rising-after s seat stop g = g

rising-from : (s : State) (es : List PlainEntry) → AreRising s.tickets s.claims → AreRising (state_after s es).tickets (state_after s es).claims
rising-from s [] g = g
rising-from s (e ∷ es) g = rising-from (after s e.seat e.call) es (rising-after s e.seat e.call g)

rising-pairs : (ts : List Ticket) → Rising ts → AllPairs (λ t u. t.claim < u.claim) ts
rising-pairs [] h = λ i j d lt within. absurd (omega arith)
rising-pairs (t ∷ ts) h = AllPairs-cons (λ (x y : Ticket). x.claim < y.claim) t ts (each-to (λ (u : Ticket). t.claim < u.claim) ts h.0) (rising-pairs ts h.1)

-- wherever a history leads, tickets' numbers rise
pub rising-tickets : (es : List PlainEntry) → DoRise (state_after start es)
rising-tickets es =
    let s = state_after start es in
    let g : AreRising s.tickets s.claims = rising-from start es (tt, tt) in
    record { rising = rising-pairs s.tickets g.0; within = each-to (IsWithin s.claims) s.tickets g.1 }

-- a ticket that is out stays out

abbrev IsAmong : List Ticket → Handed → Type 0
IsAmong ts t = IsSomeAnd (find (λ x. x.claim == t.claim) ts) (IsSame t)

same-cancel : (b : Bool) (x : Ticket) (t : Handed) → IsSame t x → IsSame t (if b then record x { is_live = false } else x)
same-cancel true x t k = record { seat = k.seat; revision = k.revision; problem = k.problem }
same-cancel false x t k = k

stay-cancel : (list : List (Key × ProblemDraft)) (t : Handed) (ts : List Ticket) → IsAmong ts t → IsAmong (map (cancel list) ts) t
stay-cancel list t [] h = h
stay-cancel list t (x ∷ xs) h =
    let e = ap (λ (n : ℕ). n == t.claim) (cancel-if (is_cancelled list x) x).0 in
    subst (λ (b : Bool). IsSomeAnd (cond b (Some (cancel list x)) (find (λ (y : Ticket). y.claim == t.claim) (map (cancel list) xs))) (IsSame t)) (sym e) (go (x.claim == t.claim) h (λ k. stay-cancel list t xs k))
  where
    go : (b : Bool) → IsSomeAnd (cond b (Some x) (find (λ y. y.claim == t.claim) xs)) (IsSame t) → (IsAmong xs t → IsAmong (map (cancel list) xs) t)
        → IsSomeAnd (cond b (Some (cancel list x)) (find (λ y. y.claim == t.claim) (map (cancel list) xs))) (IsSame t)
    go true k f = same-cancel (is_cancelled list x) x t k
    go false k f = f k

stay-append : (t : Handed) (ts us : List Ticket) → IsAmong ts t → IsAmong (ts ++ us) t
stay-append t [] us h = absurd h
stay-append t (x ∷ xs) us h = go (x.claim == t.claim) h (λ k. stay-append t xs us k)
  where
    go : (b : Bool) → IsSomeAnd (cond b (Some x) (find (λ y. y.claim == t.claim) xs)) (IsSame t) → (IsAmong xs t → IsAmong (xs ++ us) t)
        → IsSomeAnd (cond b (Some x) (find (λ y. y.claim == t.claim) (xs ++ us))) (IsSame t)
    go true k f = k
    go false k f = f k

stay-without : (n : ℕ) (t : Handed) (ts : List Ticket) → (n ≡ t.claim → ⊥) → IsAmong ts t → IsAmong (without n ts) t
stay-without n t [] d h = h
stay-without n t (x ∷ xs) d h = go (x.claim == n) refl (x.claim == t.claim) refl h (λ k. stay-without n t xs d k)
  where
    go : (a : Bool) → (x.claim == n) ≡ a → (b : Bool) → (x.claim == t.claim) ≡ b → IsSomeAnd (cond b (Some x) (find (λ y. y.claim == t.claim) xs)) (IsSame t)
        → (IsAmong xs t → IsAmong (without n xs) t) → IsAmong (cond (not a) (x ∷ without n xs) (without n xs)) t
    go true e true f k g =
        let i : x.claim ≡ n = grind (arith, nat_tests, e) in
        let j : x.claim ≡ t.claim = grind (arith, nat_tests, f) in
        absurd (d (sym i ∙ j))
    go true e false f k g = g k
    go false e true f k g = subst (λ (b : Bool). IsSomeAnd (cond b (Some x) (find (λ (y : Ticket). y.claim == t.claim) (without n xs))) (IsSame t)) (sym f) k
    go false e false f k g = subst (λ (b : Bool). IsSomeAnd (cond b (Some x) (find (λ (y : Ticket). y.claim == t.claim) (without n xs))) (IsSame t)) (sym f) (g k)

stay-found : (s : State) (t : Handed) (seat : ℕ) (o : Option Line) → IsOut s t → IsOut (after_found s seat o) t
stay-found s t seat None h = h
stay-found s t seat (Some l) h = stay-append t s.tickets (claim_ticket s seat l ∷ []) h

stay-post : (s : State) (t : Handed) (n : ℕ) (v : Verdict) (o : Option Ticket) → (n ≡ t.claim → ⊥) → IsOut s t → IsOut (after_post s n v o) t
stay-post s t n v None d h = h
stay-post s t n v (Some u) d h = stay-without n t s.tickets d h

stay-if : (b : Bool) (s r : State) (t : Handed) → IsOut s t → IsOut r t → IsOut (if b then s else r) t
stay-if true s r t h k = h
stay-if false s r t h k = k

pub stays-out : (s : State) (t : Handed) (seat : ℕ) (call : PlainCall) → IsOut s t → (Ends t call → ⊥) → IsOut (after s seat call) t
stays-out s t seat (publish list) h d = stay-cancel list t s.tickets h
stays-out s t seat claim h d = stay-if (is_over s) s (after_found s seat (find (is_free s) (lines s))) t h (stay-found s t seat (find (is_free s) (lines s)) h)
stays-out s t seat (post n v) h d = stay-post s t n v (ticket_of s n) d h
stays-out s t seat (give_back n) h d = stay-without n t s.tickets d h
stays-out s t seat report h d = h
stays-out s t seat close h d = stay-if (undecided s == 0) (record s { is_closed = true }) s t h h
stays-out s t seat stop h d = h
