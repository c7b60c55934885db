-- What deciding a key leaves of the store's state.
use Rattle.std.proofs.Common.{◌≡◌, ◌+◌, ◌<◌, ◌≤◌, ◌==◌, ◌∙◌, ◌&&◌, ◌++◌, ◌∷◌, [], ℕ, Bool, true, false, List, length, map, Option, Some, None, refl, sym, ap, arith, subst, if◌then◌else◌, eq-eqb}
use Rattle.std.specs.Prelude.{find, filter, count_by, unwrap_or, is_some, ◌↔◌}
use Rattle.std.specs.List.{AllByRecursion, flat_map}
use Rattle.std.proofs.Math.Bool.{and-true}
use Rattle.std.proofs.lemmas.List.{length-map}
use Rattle.std.proofs.lemmas.List.Sums.{length-filter}
use Rattle.ag_stream.specs.declared.problem.ProblemDraft.{ProblemDraft}
use Rattle.ag_stream.specs.Runs.{last}
use Rattle.ag_verdict.specs.declared.key.Key.{Key}
use Rattle.ag_verdict.specs.declared.verdict.Verdict.{Verdict}
use Rattle.ag_board.specs.Machine.{State, Line, Ticket, same_problem, is_undecided, is_free, undecided, verdict_in, claim_ticket, after_found, ticket_of, without, decided_line, decided, after_post}
use Rattle.ag_top.specs.Keeping.{KeepsKeys}

-- ---- lists

pub found_has : {A : Type 0} (P : A → Type 0) (q : A → Bool) (xs : List A) (x : A) → find q xs ≡ Some x → AllByRecursion P xs → P x
found_has P q [] x e h = cc
found_has {A} P q (y ∷ ys) x e h = found_in (q y) e (λ f. found_has P q ys x f h.1)
  where
    found_in : (b : Bool) → (if b then Some y else find q ys) ≡ Some x → (find q ys ≡ Some x → P x) → P x
    found_in true f more = let s : y ≡ x = cc in subst P s h.0
    found_in false f more = more f

pub found_passes : {A : Type 0} (q : A → Bool) (xs : List A) (x : A) → find q xs ≡ Some x → q x ≡ true
found_passes q [] x e = cc
found_passes {A} q (y ∷ ys) x e = passes_by (q y) refl e (found_passes q ys x)
  where
    passes_by : (b : Bool) → q y ≡ b → (if b then Some y else find q ys) ≡ Some x → (find q ys ≡ Some x → q x ≡ true) → q x ≡ true
    passes_by true is f more = let s : y ≡ x = cc in subst (λ (z : A). q z ≡ true) s is
    passes_by false is f more = more f

pub none_passes : {A : Type 0} (q : A → Bool) (xs : List A) → find q xs ≡ None → length (filter q xs) ≡ 0
none_passes q [] e = refl
none_passes q (y ∷ ys) e = none_by (q y) e (none_passes q ys)
  where
    none_by : (b : Bool) → (if b then Some y else find q ys) ≡ None → (find q ys ≡ None → length (filter q ys) ≡ 0) → length (if b then y ∷ filter q ys else filter q ys) ≡ 0
    none_by true f more = cc
    none_by false f more = more f

find_same : {A : Type 0} (p q : A → Bool) → ((x : A) → p x ≡ q x) → (xs : List A) → find p xs ≡ find q xs
find_same p q h [] = refl
find_same {A} p q h (x ∷ xs) = ap (λ (b : Bool). if b then Some x else find p xs) (h x) ∙ ap (λ (o : Option A). if q x then Some x else o) (find_same p q h xs)

-- what all lines of all lists have those of the last one have
append_right : {A : Type 0} (P : A → Type 0) (xs ys : List A) → AllByRecursion P (xs ++ ys) → AllByRecursion P ys
append_right P [] ys h = h
append_right P (x ∷ xs) ys h = append_right P xs ys h.1

append_left : {A : Type 0} (P : A → Type 0) (xs ys : List A) → AllByRecursion P (xs ++ ys) → AllByRecursion P xs
append_left P [] ys h = tt
append_left P (x ∷ xs) ys h = (h.0, append_left P xs ys h.1)

pub last_has : {A : Type 0} (P : A → Type 0) (rs : List (List A)) → AllByRecursion P (flat_map (λ r. r) rs) → AllByRecursion P (unwrap_or (last rs) [])
last_has P [] h = tt
last_has P (r ∷ []) h = append_left P r [] h
last_has P (r ∷ s ∷ rs) h = last_has P (s ∷ rs) (append_right P r (flat_map (λ x. x) (s ∷ rs)) h)

last-map : (f : Line → Line) (rs : List (List Line)) → unwrap_or (last (map (map f) rs)) [] ≡ map f (unwrap_or (last rs) [])
last-map f [] = refl
last-map f (r ∷ []) = refl
last-map f (r ∷ s ∷ rs) = last-map f (s ∷ rs)

-- ---- a verdict that goes to a problem's lines

-- the verdicts of a problem, where no line of it has one
pub no_verdict : ((p q : ProblemDraft) → (same_problem p q ≡ true) ↔ (p ≡ q)) → (ls : List Line) (p : ProblemDraft) → AllByRecursion (λ (l : Line). p ≡ l.problem → None ≡ l.verdict) ls → verdict_in ls p ≡ None
no_verdict same [] p h = refl
no_verdict same (l ∷ ls) p h = by_case (same_problem l.problem p) refl (no_verdict same ls p h.1)
  where
    by_case : (b : Bool) → same_problem l.problem p ≡ b → verdict_in ls p ≡ None → (if b && is_some l.verdict then l.verdict else verdict_in ls p) ≡ None
    by_case true e more = unsaid l.verdict (h.0 (sym ((same l.problem p).0 e))) more
      where
        unsaid : (o : Option Verdict) → None ≡ o → verdict_in ls p ≡ None → (if is_some o then o else verdict_in ls p) ≡ None
        unsaid None n more = more
        unsaid (Some v) n more = cc
    by_case false e more = more

abbrev open_count : List Line → ℕ
open_count ls = length (filter is_undecided ls)

decided_keeps : (p : ProblemDraft) (v : Verdict) (ls : List Line) → open_count (map (decided_line p v) ls) ≤ open_count ls
decided_keeps p v [] = omega arith
decided_keeps p v (l ∷ ls) = by_case (same_problem l.problem p) (is_undecided l) refl refl (decided_keeps p v ls)
  where
    by_case : (b c : Bool) → same_problem l.problem p ≡ b → is_undecided l ≡ c → open_count (map (decided_line p v) ls) ≤ open_count ls
        → open_count (map (decided_line p v) (l ∷ ls)) ≤ open_count (l ∷ ls)
    by_case true true e f more = rw (e, f) (omega (arith, more))
    by_case true false e f more = rw (e, f) more
    by_case false true e f more = rw e (rw f (omega (arith, more)))
    by_case false false e f more = rw e (rw f more)

-- where a free line is found, one undecided line less is left
decided_falls : ((p q : ProblemDraft) → (same_problem p q ≡ true) ↔ (p ≡ q)) → (v : Verdict) (ls : List Line) (l : Line) → find is_undecided ls ≡ Some l
    → open_count (map (decided_line l.problem v) ls) < open_count ls
decided_falls same v [] l e = cc
decided_falls same v (m ∷ ls) l e = by_case (is_undecided m) refl e (decided_falls same v ls l)
  where
    by_case : (b : Bool) → is_undecided m ≡ b → (if b then Some m else find is_undecided ls) ≡ Some l
        → (find is_undecided ls ≡ Some l → open_count (map (decided_line l.problem v) ls) < open_count ls) → open_count (map (decided_line l.problem v) (m ∷ ls)) < open_count (m ∷ ls)
    by_case true f g more =
        let is : m ≡ l = cc in
        let s : same_problem m.problem l.problem ≡ true = (same m.problem l.problem).1 (ap (λ (x : Line). x.problem) is) in
        rw (s, f) (omega (arith, decided_keeps l.problem v ls))
    by_case false f g more = other (same_problem m.problem l.problem) refl f (more g)
      where
        other : (c : Bool) → same_problem m.problem l.problem ≡ c → is_undecided m ≡ false → open_count (map (decided_line l.problem v) ls) < open_count ls
            → open_count (map (decided_line l.problem v) (m ∷ ls)) < open_count (m ∷ ls)
        other true s f less = rw (s, f) less
        other false s f less = rw s (rw f less)

decided_listed : (p : ProblemDraft) (v : Verdict) (ls : List Line) → map {B = Key × ProblemDraft} (λ (l : Line). (l.key, l.problem)) (map (decided_line p v) ls) ≡ map (λ l. (l.key, l.problem)) ls
decided_listed p v [] = refl
decided_listed p v (l ∷ ls) = by_case (same_problem l.problem p) refl (ap (λ (ks : List (Key × ProblemDraft)). (l.key, l.problem) ∷ ks) (decided_listed p v ls))
  where
    by_case : (b : Bool) → same_problem l.problem p ≡ b → (l.key, l.problem) ∷ map {B = Key × ProblemDraft} (λ (x : Line). (x.key, x.problem)) (map (decided_line p v) ls) ≡ (l.key, l.problem) ∷ map (λ x. (x.key, x.problem)) ls
        → map {B = Key × ProblemDraft} (λ (x : Line). (x.key, x.problem)) (map (decided_line p v) (l ∷ ls)) ≡ map (λ x. (x.key, x.problem)) (l ∷ ls)
    by_case true e more = rw e more
    by_case false e more = rw e more

-- ---- states

-- open, with no ticket out
abbrev pub at_rest : List (List Line) → ℕ → State
at_rest rs n = record { revisions = rs; tickets = []; claims = n; is_closed = false; is_stopped = false }

-- what is known of a state behind a decision, or behind a claim that came back
pub record Left (s new : State) : Type 0 where
  pub tickets : new.tickets ≡ []
  pub still_open : new.is_closed ≡ false
  pub not_stopped : new.is_stopped ≡ false
  pub keys : KeepsKeys s new

pub record LeftDecided (s new : State) : Type 0 where
  pub left : Left s new
  pub fewer : undecided new < undecided s

pub record LeftAsIs (s new : State) : Type 0 where
  pub left : Left s new
  pub as_many : undecided new ≡ undecided s

pub literal : (s : State) → s.tickets ≡ [] → s.is_closed ≡ false → s.is_stopped ≡ false → s ≡ at_rest s.revisions s.claims
literal s t c p =
    ap (λ (x : List Ticket × (Bool × Bool)). record { revisions = s.revisions; tickets = x.0; claims = s.claims; is_closed = x.1.0; is_stopped = x.1.1 }) (cc (t, c, p))

-- the first line without a verdict is the first that is free
pub free-undecided : (rs : List (List Line)) (n : ℕ) → find (is_free (at_rest rs n)) (unwrap_or (last rs) []) ≡ find is_undecided (unwrap_or (last rs) [])
free-undecided rs n = find_same (is_free (at_rest rs n)) is_undecided (λ l. and-true (is_undecided l)) (unwrap_or (last rs) [])

ticket-own : (t : Ticket) (ts : List Ticket) (n : ℕ) → n ≡ t.claim → find (λ (u : Ticket). u.claim == n) (t ∷ ts) ≡ Some t
ticket-own t ts n e = let s : (t.claim == n) ≡ true = eq-eqb t.claim n (sym e) in rw s refl

without-own : (t : Ticket) (n : ℕ) → n ≡ t.claim → without n (t ∷ []) ≡ []
without-own t n e = let s : (t.claim == n) ≡ true = eq-eqb t.claim n (sym e) in rw s refl

-- a verdict for the one ticket that is out
pub post_rest : ((p q : ProblemDraft) → (same_problem p q ≡ true) ↔ (p ≡ q)) → (rs : List (List Line)) (n : ℕ) (l : Line) (v : Verdict) → find is_undecided (unwrap_or (last rs) []) ≡ Some l
    → verdict_in (flat_map (λ r. r) rs) l.problem ≡ None → (seat : ℕ) (new : State)
    → new ≡ after_post (after_found (at_rest rs n) seat (Some l)) (n + 1) v (ticket_of (after_found (at_rest rs n) seat (Some l)) (n + 1)) → LeftDecided (at_rest rs n) new
post_rest same rs n l v found none seat new is =
    let t : Ticket = claim_ticket (at_rest rs n) seat l in
    let own : ticket_of (after_found (at_rest rs n) seat (Some l)) (n + 1) ≡ Some t = ticket-own t [] (n + 1) refl in
    let gone : without (n + 1) (t ∷ []) ≡ [] = without-own t (n + 1) refl in
    let state : new ≡ record { revisions = decided l.problem v rs; tickets = []; claims = n + 1; is_closed = false; is_stopped = false } =
    is ∙ rw own (rw none (ap (λ (ts : List Ticket). record { revisions = decided l.problem v rs; tickets = ts; claims = n + 1; is_closed = false; is_stopped = false }) gone)) in
    subst (LeftDecided (at_rest rs n)) (sym state) (record {
      left = record {
        tickets = refl;
        still_open = refl;
        not_stopped = refl;
        keys = record {
          keys = ap (λ (ls : List Line). map {B = Key × ProblemDraft} (λ (x : Line). (x.key, x.problem)) ls) (last-map (decided_line l.problem v) rs) ∙ decided_listed l.problem v (unwrap_or (last rs) []);
          revisions = length-map rs (map (decided_line l.problem v));
        };
      };
      fewer =
          let a = length-filter is_undecided (map (decided_line l.problem v) (unwrap_or (last rs) [])) in
          let b = length-filter is_undecided (unwrap_or (last rs) []) in
          let c : count_by is_undecided (unwrap_or (last (decided l.problem v rs)) []) ≡ count_by is_undecided (map (decided_line l.problem v) (unwrap_or (last rs) [])) =
          ap (λ (ls : List Line). count_by is_undecided ls) (last-map (decided_line l.problem v) rs) in
          let less = decided_falls same v (unwrap_or (last rs) []) l found in
          omega (arith, a, b, c, less);
    })

pub return_rest : (rs : List (List Line)) (n : ℕ) (l : Line) (seat : ℕ) (new : State)
    → new ≡ record (after_found (at_rest rs n) seat (Some l)) { tickets = without (n + 1) (after_found (at_rest rs n) seat (Some l)).tickets } → LeftAsIs (at_rest rs n) new
return_rest rs n l seat new is =
    let t : Ticket = claim_ticket (at_rest rs n) seat l in
    let gone : without (n + 1) (t ∷ []) ≡ [] = without-own t (n + 1) refl in
    let state : new ≡ at_rest rs (n + 1) = is ∙ ap (λ (ts : List Ticket). record { revisions = rs; tickets = ts; claims = n + 1; is_closed = false; is_stopped = false }) gone in
    subst (LeftAsIs (at_rest rs n)) (sym state) (record {
      left = record { tickets = refl; still_open = refl; not_stopped = refl; keys = record { keys = refl; revisions = refl } };
      as_many = refl;
    })
