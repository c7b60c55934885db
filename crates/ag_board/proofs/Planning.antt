-- A plan for a list as the table stands is one as the state stands.
use Rattle.std.proofs.Common.{◌≡◌, ◌∙◌, ◌||◌, ◌&&◌, ◌++◌, ◌∷◌, ◌<◌, ◌≤◌, ◌+◌, ◌==◌, [], ℕ, zero, suc, Bool, true, false, not, cond, List, length, map, Option, Some, None, refl, sym, ap, subst, arith, eq-eqb}
use Rattle.std.proofs.lemmas.Bool.{false≢true, eqb-true, le-leb, lt-leb}
use Rattle.std.proofs.lemmas.List.Sums.{sum_by-cons}
use Rattle.std.specs.Prelude.{nat_le, nat_lt, slice_get, if◌then◌else◌, is_some, count_by, filter, option_and_then, IfSome, IsSome}
use Rattle.std.specs.Option.{option_map, option_map_or}
use Rattle.std.specs.List.{list_any, flat_map}
use Rattle.ag_stream.specs.declared.problem.ProblemDraft.{ProblemDraft}
use Rattle.ag_verdict.specs.declared.key.Key.{Key}
use Rattle.ag_verdict.specs.declared.verdict.Verdict.{Verdict}
use Rattle.ag_board.specs.declared.entry.Cancelled.{Cancelled}
use Rattle.ag_board.specs.declared.entry.Published.{Published}
use Rattle.ag_board.specs.declared.slot.Out.{Out}
use Rattle.ag_board.specs.declared.plan.Plan.{Plan}
use Rattle.ag_board.specs.Entries.{PlainEntry, plain_list}
use Rattle.ag_board.specs.Notes.{posted_in}
use Rattle.ag_board.specs.Machine.{start, state_after, is_over, State, Line, Ticket, same_problem, verdict_in, verdict_of, is_cancelled}
use Rattle.ag_board.specs.Store.{BoardState, parts_of, problems_of, pairs_of, most_parts, most_pairs, most_places, most_revisions, does_fit, refusal_of}
use Rattle.ag_board.specs.declared.entry.PublishFault.TheVariants as faults
use Rattle.ag_board.proofs.Histories.{kept_of}
use Rattle.ag_board.specs.Inside.{Row, problems_in, problem_at, with_problems, different, ticket_at, is_decided_row, IsRow, IsTable, AreOut, IsMarked, IsSized}
use Rattle.ag_board.specs.Planned.{AreNumbered, IsPlanOf, IsPlan, problems_listed, Handle, handled, retired_problem, cancelled_problem, is_retired, told_cancelled, parts_in}
use Rattle.ag_board.proofs.Verdicts.{same-itself, by-same, Each, each-from}
use Rattle.ag_board.proofs.Plans.{slice-front, some-same}
use Rattle.ag_board.proofs.Different.{AreApart, apart-all, apart-different, apart-place, any-different, different-append, parts-different, total, total-append, total-rows}

-- the problems of the table and the new ones
abbrev pub all_of : List Row → List Row → List ProblemDraft
all_of rows fresh = problems_in rows ++ problems_in fresh

pub apart-numbered : (table ps : List ProblemDraft) (fresh : List Row) (ns : List ℕ) → AreApart table → AreNumbered table ps fresh ns → AreApart (table ++ problems_in fresh)
apart-numbered table ps fresh ns h k = subst AreApart (sym k.problems) (apart-all table ps h)

-- two numbers are equal where their problems are
pub number-tells : (all : List ProblemDraft) (n m : ℕ) (p q : ProblemDraft) → AreApart all → slice_get all n ≡ Some p → slice_get all m ≡ Some q → (n == m) ≡ same_problem p q
number-tells all n m p q h e f =
    by-same p q
    (λ s. eq-eqb n m (apart-place all p n m h e (f ∙ ap (λ (x : ProblemDraft). Some x) (sym s))) ∙ sym (same-itself p q s))
    (λ s. go (n == m) refl s)
  where
    go : (b : Bool) → (n == m) ≡ b → same_problem p q ≡ false → (n == m) ≡ same_problem p q
    go false t s = t ∙ sym s
    go true t s =
        let i : n ≡ m = eqb-true n m t in
        let j : slice_get all m ≡ Some p = ap (λ (k : ℕ). slice_get all k) (sym i) ∙ e in
        let l : p ≡ q = cc in
        absurd (false≢true (sym s ∙ same-itself p q l))

-- a number is among a list's where its problem is in the list
pub number-listed : (all : List ProblemDraft) (ns : List ℕ) (list : List (Key × ProblemDraft)) (m : ℕ) (q : ProblemDraft) → AreApart all
    → map (slice_get all) ns ≡ map (λ (x : ProblemDraft). Some x) (problems_listed list) → slice_get all m ≡ Some q
    → list_any (λ n. n == m) ns ≡ list_any (λ (k : Key × ProblemDraft). same_problem k.1 q) list
number-listed all [] [] m q h e f = refl
number-listed all [] (k ∷ ks) m q h e f = cc
number-listed all (n ∷ ns) [] m q h e f = cc
number-listed all (n ∷ ns) (k ∷ ks) m q h e f =
    let s = some-same k.1 k.1 (map (slice_get all) ns) (map (λ (x : ProblemDraft). Some x) (problems_listed ks)) (slice_get all n) e in
    ap (λ (b : Bool). b || list_any (λ j. j == m) ns) (number-tells all n m k.1 q h s.0 f)
    ∙ ap (λ (b : Bool). same_problem k.1 q || b) (number-listed all ns ks m q h s.1 f)

pub problem-found : (rows : List Row) (n : ℕ) → n < length rows → slice_get (problems_in rows) n ≡ Some (problem_at rows n)
problem-found [] n l = absurd (omega arith)
problem-found (r ∷ rs) zero l = refl
problem-found (r ∷ rs) (suc n) l = problem-found rs n (omega arith)

retired-is : (rows fresh : List Row) (ns : List ℕ) (list : List (Key × ProblemDraft)) (o : Out) → AreApart (all_of rows fresh)
    → map (slice_get (all_of rows fresh)) ns ≡ map (λ (x : ProblemDraft). Some x) (problems_listed list) → o.problem < length rows
    → is_retired ns o ≡ is_cancelled list (ticket_at rows o)
retired-is rows fresh ns list o h e l =
    ap (λ (b : Bool). o.is_live && not b) (number-listed (all_of rows fresh) ns list o.problem (problem_at rows o.problem) h e
    (slice-front (problems_in rows) (problems_in fresh) o.problem (problem_at rows o.problem) (problem-found rows o.problem l)))

abbrev pub HasNumber : List Row → Out → Type 0
HasNumber rows o = o.problem < length rows

pub retired-all : (rows fresh : List Row) (ns : List ℕ) (list : List (Key × ProblemDraft)) (os : List Out) → AreApart (all_of rows fresh)
    → map (slice_get (all_of rows fresh)) ns ≡ map (λ (x : ProblemDraft). Some x) (problems_listed list) → Each (HasNumber rows) os
    → map (retired_problem rows ns) os ≡ map (cancelled_problem list) (map (ticket_at rows) os)
retired-all rows fresh ns list [] h e l = refl
retired-all rows fresh ns list (o ∷ os) h e l =
    ap (λ (b : Bool). (if b then Some (problem_at rows o.problem) else None) ∷ map (retired_problem rows ns) os) (retired-is rows fresh ns list o h e l.0)
    ∙ ap (λ (x : List (Option ProblemDraft)). cancelled_problem list (ticket_at rows o) ∷ x) (retired-all rows fresh ns list os h e l.1)

pub if-none : (b : Bool) (p : ProblemDraft) → None ≡ (if b then Some p else None) → b ≡ false
if-none true p e = cc
if-none false p e = refl

pub if-some : (b : Bool) (p q : ProblemDraft) → Some q ≡ (if b then Some p else None) → b ≡ true
if-some true p q e = refl
if-some false p q e = cc

pub heads : (x y : Option ProblemDraft) (xs ys : List (Option ProblemDraft)) → ◌≡◌ {A = List (Option ProblemDraft)} (x ∷ xs) (y ∷ ys) → (x ≡ y) × (xs ≡ ys)
heads x y xs ys e = (cc, cc)

abbrev cancelled_of : Ticket → Cancelled
cancelled_of t = record { claim = t.claim; seat = t.seat }

told-is : (rows : List Row) (list : List (Key × ProblemDraft)) (os : List Out) (hs : List (Option Handle))
    → handled hs ≡ map (cancelled_problem list) (map (ticket_at rows) os)
    → told_cancelled os hs ≡ map cancelled_of (filter (is_cancelled list) (map (ticket_at rows) os))
told-is rows list [] hs e = refl
told-is rows list (o ∷ os) [] e = cc
told-is rows list (o ∷ os) (None ∷ hs) e =
    let s = heads None (cancelled_problem list (ticket_at rows o)) (handled hs) (map (cancelled_problem list) (map (ticket_at rows) os)) e in
    let n = if-none (is_cancelled list (ticket_at rows o)) (problem_at rows o.problem) s.0 in
    told-is rows list os hs s.1
    ∙ ap (λ (b : Bool). map cancelled_of (cond b (ticket_at rows o ∷ filter (is_cancelled list) (map (ticket_at rows) os)) (filter (is_cancelled list) (map (ticket_at rows) os)))) (sym n)
told-is rows list (o ∷ os) (Some h ∷ hs) e =
    let s = heads (Some h.value) (cancelled_problem list (ticket_at rows o)) (handled hs) (map (cancelled_problem list) (map (ticket_at rows) os)) e in
    let n = if-some (is_cancelled list (ticket_at rows o)) (problem_at rows o.problem) h.value s.0 in
    ap (λ (x : List Cancelled). record { claim = o.claim; seat = o.seat } ∷ x) (told-is rows list os hs s.1)
    ∙ ap (λ (b : Bool). map cancelled_of (cond b (ticket_at rows o ∷ filter (is_cancelled list) (map (ticket_at rows) os)) (filter (is_cancelled list) (map (ticket_at rows) os)))) (sym n)

-- verdicts

and-left : (a b : Bool) → a ≡ false → (a && b) ≡ false
and-left true b e = absurd (false≢true (sym e))
and-left false b e = refl

pub or-neither : (a b : Bool) → (a || b) ≡ false → (a ≡ false) × (b ≡ false)
or-neither true b h = absurd (false≢true (sym h))
or-neither false b h = (refl, h)

pub flip : (p q : ProblemDraft) → same_problem p q ≡ false → same_problem q p ≡ false
flip p q f = by-same q p (λ e. absurd (false≢true (sym f ∙ same-itself p q (sym e)))) (λ e. e)

no-verdict : (ls : List Line) (p : ProblemDraft) → list_any (same_problem p) (map (λ (l : Line). l.problem) ls) ≡ false → verdict_in ls p ≡ None
no-verdict [] p e = refl
no-verdict (l ∷ ls) p e =
    let n = or-neither (same_problem p l.problem) (list_any (same_problem p) (map (λ (x : Line). x.problem) ls)) e in
    ap (λ (b : Bool). if b then l.verdict else verdict_in ls p) (and-left (same_problem l.problem p) (is_some l.verdict) (flip p l.problem n.0))
    ∙ no-verdict ls p n.1

-- a problem that no revision has has no verdict
pub verdict-new : (s : State) (p : ProblemDraft) → list_any (same_problem p) (different (problems_of s)) ≡ false → verdict_of s p ≡ None
verdict-new s p e = no-verdict (flat_map (λ r. r) s.revisions) p (sym (any-different (problems_of s) p) ∙ e)

posted-some : (entries : List PlainEntry) (o : Option ℕ) → IfSome o (λ n. IsSome (posted_in entries n)) → is_some o ≡ is_some (option_and_then (posted_in entries) o)
posted-some entries None h = refl
posted-some entries (Some n) h = sym h

decided-is : (s : State) (entries : List PlainEntry) (rows : List Row) (n : ℕ) (p : ProblemDraft) → Each (IsRow s entries) rows → slice_get (problems_in rows) n ≡ Some p
    → is_decided_row rows n ≡ is_some (verdict_of s p)
decided-is s entries [] n p h e = cc
decided-is s entries (r ∷ rs) zero p h e =
    let i : r.0.value ≡ p = cc in
    posted-some entries r.1.verdict h.0.posted ∙ (ap (λ (o : Option Verdict). is_some o) h.0.verdict ∙ ap (λ (x : ProblemDraft). is_some (verdict_of s x)) i)
decided-is s entries (r ∷ rs) (suc n) p h e = decided-is s entries rs n p h.1 e

any-place : (p : ProblemDraft) (ps : List ProblemDraft) → list_any (same_problem p) ps ≡ true → (m : ℕ) × (slice_get ps m ≡ Some p)
any-place p [] e = absurd (false≢true e)
any-place p (q ∷ qs) e =
    by-same p q
    (λ i. (0, ap (λ (x : ProblemDraft). Some x) (sym i)))
    (λ f. let r = any-place p qs (sym (ap (λ (b : Bool). b || list_any (same_problem p) qs) f) ∙ e) in (suc r.0, r.1))

row-problem : (rows : List Row) (n : ℕ) → slice_get (problems_in rows) n ≡ option_map (λ (r : Row). r.0.value) (slice_get rows n)
row-problem [] n = refl
row-problem (r ∷ rs) zero = refl
row-problem (r ∷ rs) (suc n) = row-problem rs n

bool-not : (b : Bool) → (b ≡ true → ⊥) → b ≡ false
bool-not true h = absurd (h refl)
bool-not false h = refl

-- a number behind the table is of a problem that the table lacks
pub behind-new : (rows fresh : List Row) (n : ℕ) (p : ProblemDraft) → AreApart (all_of rows fresh) → slice_get (all_of rows fresh) n ≡ Some p → slice_get rows n ≡ None
    → list_any (same_problem p) (problems_in rows) ≡ false
behind-new rows fresh n p h e g = bool-not (list_any (same_problem p) (problems_in rows)) (λ t.
    let m = any-place p (problems_in rows) t in
    let f = slice-front (problems_in rows) (problems_in fresh) m.0 p m.1 in
    let i = apart-place (all_of rows fresh) p n m.0 h e f in
    let j : slice_get (problems_in rows) n ≡ Some p = ap (λ (k : ℕ). slice_get (problems_in rows) k) i ∙ m.1 in
    let l : None ≡ Some p = sym (row-problem rows n ∙ ap (λ (o : Option Row). option_map (λ (r : Row). r.0.value) o) g) ∙ j in
    cc)

decided-at : (s : State) (entries : List PlainEntry) (rows fresh : List Row) (n : ℕ) (p : ProblemDraft) → Each (IsRow s entries) rows → problems_in rows ≡ different (problems_of s)
    → AreApart (all_of rows fresh) → slice_get (all_of rows fresh) n ≡ Some p → is_decided_row rows n ≡ is_some (verdict_of s p)
decided-at s entries rows fresh n p k d h e = go (slice_get rows n) refl
  where
    go : (o : Option Row) → slice_get rows n ≡ o → is_decided_row rows n ≡ is_some (verdict_of s p)
    go None g =
        let v = verdict-new s p (ap (λ (x : List ProblemDraft). list_any (same_problem p) x) (sym d) ∙ behind-new rows fresh n p h e g) in
        ap (λ (o : Option Row). option_map_or (λ (r : Row). is_some r.1.verdict) o false) g ∙ sym (ap (λ (o : Option Verdict). is_some o) v)
    go (Some r) g =
        let f : slice_get (problems_in rows) n ≡ Some r.0.value = row-problem rows n ∙ ap (λ (o : Option Row). option_map (λ (x : Row). x.0.value) o) g in
        let i = slice-front (problems_in rows) (problems_in fresh) n r.0.value f in
        let j : Some r.0.value ≡ Some p = sym i ∙ e in
        decided-is s entries rows n p k (f ∙ j)

carried-is : (s : State) (entries : List PlainEntry) (rows fresh : List Row) (ns : List ℕ) (list : List (Key × ProblemDraft)) → Each (IsRow s entries) rows → problems_in rows ≡ different (problems_of s)
    → AreApart (all_of rows fresh) → map (slice_get (all_of rows fresh)) ns ≡ map (λ (x : ProblemDraft). Some x) (problems_listed list)
    → count_by (is_decided_row rows) ns ≡ count_by (λ (k : Key × ProblemDraft). is_some (verdict_of s k.1)) list
carried-is s entries rows fresh [] [] k d h e = refl
carried-is s entries rows fresh [] (x ∷ xs) k d h e = cc
carried-is s entries rows fresh (n ∷ ns) [] k d h e = cc
carried-is s entries rows fresh (n ∷ ns) (x ∷ xs) k d h e =
    let t = some-same x.1 x.1 (map (slice_get (all_of rows fresh)) ns) (map (λ (y : ProblemDraft). Some y) (problems_listed xs)) (slice_get (all_of rows fresh) n) e in
    let a = sum_by-cons (λ (m : ℕ). cond (is_decided_row rows m) 1 0) n ns in
    let b = sum_by-cons (λ (y : Key × ProblemDraft). cond (is_some (verdict_of s y.1)) 1 0) x xs in
    let i = carried-is s entries rows fresh ns xs k d h t.1 in
    let f = ap (λ (y : Bool). cond {A = ℕ} y 1 0) (decided-at s entries rows fresh n x.1 k d h t.0) in
    omega (arith, a, b, i, f)

-- the parts with those of a list
pub parts-listed : (s : State) (rows fresh : List Row) (list : List (Key × ProblemDraft)) (ns : List ℕ) → problems_in rows ≡ different (problems_of s)
    → AreNumbered (problems_in rows) (problems_listed list) fresh ns → parts_of (problems_of s ++ problems_listed list) ≡ parts_of (problems_of s) + parts_in fresh
parts-listed s rows fresh list ns d k =
    let a = parts-different (problems_of s ++ problems_listed list) in
    let b = ap (λ (x : List ProblemDraft). total x) (different-append (problems_of s) (problems_listed list)) in
    let e = ap (λ (x : List ProblemDraft). total (with_problems x (problems_listed list))) d in
    let f = ap (λ (x : List ProblemDraft). total x) k.problems in
    let g = total-append (problems_in rows) (problems_in fresh) in
    let h = ap (λ (x : List ProblemDraft). total x) d in
    let i = parts-different (problems_of s) in
    let j = total-rows fresh in
    omega (arith, a, b, e, f, g, h, i, j)

abbrev made : ℕ → ℕ → ℕ → List Cancelled → Published
made r n c l = record { revision = r; count = n; carried = c; cancelled = l }

published-is : (p : Published) (r n c : ℕ) (l : List Cancelled) → p.revision ≡ r → p.count ≡ n → p.carried ≡ c → p.cancelled ≡ l
    → p ≡ made r n c l
published-is p r n c l e f g h =
    ap (λ (x : ℕ). made x p.count p.carried p.cancelled) e
    ∙ (ap (λ (x : ℕ). made r x p.carried p.cancelled) f
    ∙ (ap (λ (x : ℕ). made r n x p.cancelled) g
    ∙ ap (λ (x : List Cancelled). made r n c x) h))

pub plan-is : (s : State) (entries : List PlainEntry) (rows : List Row) (outs : List Out) (list : List (Key × ProblemDraft)) (revision : ℕ) (p : Plan)
    → IsTable s entries rows → AreOut s rows outs → length s.revisions + 1 ≡ revision → IsPlanOf rows outs list revision p → IsPlan s list p
plan-is s entries rows outs list revision p t o r k =
    let fresh = p.fresh.entries in
    let ns = p.numbers.items in
    let N : List ProblemDraft → Type 0 = λ x. AreNumbered x (problems_listed list) fresh ns in
    let h = apart-numbered (problems_in rows) (problems_listed list) fresh ns (subst AreApart (sym t.problems) (apart-different (problems_of s))) k.numbered in
    let a = retired-all rows fresh ns list outs h k.numbered.numbers (each-from (HasNumber rows) outs o.numbered) in
    let c = told-is rows list outs p.handles.items (k.handles ∙ a) in
    let w = published-is p.answer (length s.revisions + 1) (length list) (count_by (λ (x : Key × ProblemDraft). is_some (verdict_of s x.1)) list) (map cancelled_of (filter (is_cancelled list) s.tickets))
    (k.answer.revision ∙ sym r) k.answer.count (k.answer.carried ∙ carried-is s entries rows fresh ns list (each-from (IsRow s entries) rows t.each) t.problems h k.numbered.numbers)
    (k.cancelled ∙ (c ∙ ap (λ (x : List Ticket). map cancelled_of (filter (is_cancelled list) x)) (sym o.tickets))) in
    record {
      numbered = subst N t.problems k.numbered;
      shared = k.shared;
      handles = k.handles ∙ (a ∙ ap (map (cancelled_problem list)) (sym o.tickets));
      parts = k.parts;
      answer = w;
      entered = k.entered ∙ w;
    }

-- refusals

over-not : (s : State) (claims : ℕ) (is_closed is_stopped : Bool) → IsMarked s claims is_closed is_stopped → is_closed ≡ false → is_stopped ≡ false → is_over s ≡ false
over-not s claims is_closed is_stopped m e f = ap (λ (b : Bool). b || s.is_stopped) (m.closed ∙ e) ∙ (m.stopped ∙ f)

pub fits : (s : State) (list : List (Key × ProblemDraft)) (pairs parts more : ℕ) → pairs_of s ≡ pairs → parts_of (problems_of s ++ problems_listed list) ≡ parts + more
    → pairs + length list ≤ most_pairs → parts + more ≤ most_parts → does_fit s list ≡ true
fits s list pairs parts more a b l m =
    ap (λ (x : Bool). x && nat_le (parts_of (problems_of s ++ problems_listed list)) most_parts) (le-leb (pairs_of s + length list) most_pairs (omega (arith, a, l)))
    ∙ le-leb (parts_of (problems_of s ++ problems_listed list)) most_parts (omega (arith, b, m))

pub fits-not : (s : State) (list : List (Key × ProblemDraft)) (parts more : ℕ) → parts_of (problems_of s ++ problems_listed list) ≡ parts + more → most_parts < parts + more → does_fit s list ≡ false
fits-not s list parts more b m =
    ap (λ (x : Bool). nat_le (pairs_of s + length list) most_pairs && x) (lt-leb (parts_of (problems_of s ++ problems_listed list)) most_parts (omega (arith, b, m)))
    ∙ none (nat_le (pairs_of s + length list) most_pairs)
  where
    none : (b : Bool) → (b && false) ≡ false
    none true = refl
    none false = refl

-- how a store stands whose list passes the first tests
pub record IsTested (k : BoardState) : Type 0 where
  pub open_still : is_over k.state ≡ false
  pub few : nat_le most_revisions (length k.state.revisions) ≡ false

pub tested : (es : List PlainEntry) (spare claims revisions pairs parts : ℕ) (is_closed is_stopped : Bool) → IsMarked (state_after start es) claims is_closed is_stopped → IsSized (state_after start es) revisions pairs parts
    → is_closed ≡ false → is_stopped ≡ false → revisions < most_revisions → IsTested (kept_of es spare)
tested es spare claims revisions pairs parts is_closed is_stopped m z e f l =
    record {
      open_still = over-not (state_after start es) claims is_closed is_stopped m e f;
      few = lt-leb most_revisions (length (state_after start es).revisions) (omega (arith, l, z.all_revisions));
    }

pub refused-store : (k : BoardState) (list : List (Key × ProblemDraft)) → IsTested k → does_fit k.state list ≡ false → refusal_of k list ≡ Some faults.StoreFull
refused-store k list t e = rw (t.open_still, t.few, e) refl

pub refused-history : (k : BoardState) (list : List (Key × ProblemDraft)) → IsTested k → does_fit k.state list ≡ true → nat_lt most_places (length k.history + k.spare + 1) ≡ true → refusal_of k list ≡ Some faults.HistoryFull
refused-history k list t e f = rw (t.open_still, t.few, e, f) refl

pub accepted : (k : BoardState) (list : List (Key × ProblemDraft)) → IsTested k → does_fit k.state list ≡ true → nat_lt most_places (length k.history + k.spare + 1) ≡ false → refusal_of k list ≡ None
accepted k list t e f = rw (t.open_still, t.few, e, f) refl

pub length-plain : (xs : List (Key × Handle)) → length (plain_list xs) ≡ length xs
length-plain [] = refl
length-plain (x ∷ xs) = ap suc (length-plain xs)

-- the parts with those of a plan
pub parts-planned : (s : State) (entries : List PlainEntry) (rows : List Row) (revisions pairs parts : ℕ) (list : List (Key × ProblemDraft)) (p : Plan) → IsSized s revisions pairs parts → IsTable s entries rows
    → AreNumbered (problems_in rows) (problems_listed list) p.fresh.entries p.numbers.items → p.parts ≡ parts_in p.fresh.entries → parts_of (problems_of s ++ problems_listed list) ≡ parts + p.parts
parts-planned s entries rows revisions pairs parts list p z t k e =
    let a = parts-listed s rows p.fresh.entries list p.numbers.items t.problems k in
    omega (arith, a, z.all_parts, e)
