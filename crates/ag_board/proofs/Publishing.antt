-- How what the store keeps stands for the machine's state once a list is entered.
use Rattle.std.proofs.Common.{Result, Ok, Err, ◌-◌, ◌≡◌, ◌∙◌, ◌||◌, ◌&&◌, ◌++◌, ◌∷◌, ◌<◌, ◌≤◌, ◌+◌, ◌==◌, [], ℕ, zero, suc, Bool, true, false, not, List, length, map, Option, Some, None, refl, sym, ap, subst, arith, length-append}
use Rattle.std.proofs.lemmas.Bool.{false≢true, leb-true, leb-false, ltb-false, ne_eqb, and_parts}
use Rattle.std.proofs.lemmas.List.{map-append, length-map, get_or-map}
use Rattle.std.proofs.lemmas.List.Sums.{sum_by-append}
use Rattle.std.proofs.lemmas.List.Concat.{length-flat_map}
use Rattle.std.proofs.lemmas.Option.{slice_get_within}
use Rattle.std.specs.Prelude.{◌≢◌, AllPairs, OnOk, All, slice_get, if◌then◌else◌, is_none, option_and_then, IfSome, IsSome, unwrap_or, nat_le, nat_lt}
use Rattle.std.specs.Option.{option_map, option_map_or}
use Rattle.std.specs.List.{list_any, flat_map}
use Rattle.indexmap.specs.IndexMap.{insert_all}
use Rattle.ag_stream.specs.declared.problem.ProblemDraft.{ProblemDraft}
use Rattle.ag_stream.specs.Runs.{last}
use Rattle.ag_verdict.specs.declared.key.Key.{Key}
use Rattle.ag_verdict.specs.declared.verdict.Verdict.{Verdict}
use Rattle.ag_board.specs.declared.slot.Out.{Out}
use Rattle.ag_board.specs.declared.plan.Plan.{Plan}
use Rattle.ag_board.specs.declared.entry.Published.{Published}
use Rattle.ag_board.specs.declared.entry.PublishFault.TheVariants as faults
use Rattle.ag_board.specs.Entries.{PlainEntry, PlainCall, publish, published, Past, plain_list}
use Rattle.ag_board.specs.Machine.{State, Line, start, state_after, after, same_problem, verdict_of, new_line, after_publish, cancel, is_over, lines, May, reply_of}
use Rattle.ag_board.specs.Notes.{with_spare, with_entry, nothing, listed_in, posted_in, list_of}
use Rattle.ag_board.specs.Store.{Enters, entry, BoardState, problems_of, parts_of, pairs_of, places_kept, most_places, most_revisions, most_pairs, most_parts, does_fit, refusal_of}
use Rattle.ag_board.specs.Inside.{Row, problems_in, problem_at, with_problems, different, is_claimed, IsRow, IsTable, AreOut, IsLast, IsMarked, IsSized, IsPast}
use Rattle.ag_board.specs.Planned.{IsNew, IsPlan, AreNumbered, problems_listed, Handle, handled, retired_problem, cancelled_problem, outs_retired, rows_retired, parts_in}
use Rattle.ag_board.proofs.Histories.{state_after-snoc, legal-snoc, enters-snoc}
use Rattle.ag_board.proofs.Verdicts.{Each, each-from, each-to, each-append, each-same, each-map, each-any, lines-publish, verdict-publish}
use Rattle.ag_board.proofs.Plans.{same_handle, some-same, problems-append, length-problems, slice-last, length-with_problems}
use Rattle.ag_board.proofs.Different.{AreApart, apart-different, different-append}
use Rattle.ag_board.proofs.Planning.{all_of, apart-numbered, or-neither, flip, verdict-new, retired-all, parts-listed, HasNumber}
use Rattle.ag_board.proofs.Entering.{insert-all, retired-problems, at-in, at-same, retired-rows, lacks, live-after, tickets-after}

-- no two have one key
abbrev pub HasKeysOnce : List (Key × ProblemDraft) → Type 0
HasKeysOnce list = AllPairs (λ a b. a.0 ≢ b.0) list

-- the keys are the same where problems are seen by their values
pub keys-plain : (list : List (Key × Handle)) → AllPairs (λ a b. a.0 ≢ b.0) list → HasKeysOnce (plain_list list)
keys-plain [] h i j d lt within = absurd (omega arith)
keys-plain (x ∷ xs) h i j d lt within =
    let plain : Key × Handle → Key × ProblemDraft = λ k. (k.0, k.1.value) in
    let n = length-map (x ∷ xs) plain in
    let a = ap (λ (k : Key × ProblemDraft). k.0) (get_or-map plain (x ∷ xs) i x d (omega (arith, n, lt, within))) in
    let b = ap (λ (k : Key × ProblemDraft). k.0) (get_or-map plain (x ∷ xs) j x d (omega (arith, n, within))) in
    λ e. h i j x lt (omega (arith, n, within)) (sym a ∙ (e ∙ b))

-- a list that isn't refused

pub record IsAccepted (k : BoardState) (list : List (Key × ProblemDraft)) : Type 0 where
  pub open_still : is_over k.state ≡ false
  pub few_revisions : length k.state.revisions < most_revisions
  pub few_pairs : pairs_of k.state + length list ≤ most_pairs
  pub few_parts : parts_of (problems_of k.state ++ problems_listed list) ≤ most_parts
  pub places : length k.history + k.spare + 1 ≤ most_places

pub accepted-means : (k : BoardState) (list : List (Key × ProblemDraft)) → refusal_of k list ≡ None → IsAccepted k list
accepted-means k list e = go (is_over k.state) (nat_le most_revisions (length k.state.revisions)) (does_fit k.state list) (nat_lt most_places (length k.history + k.spare + 1)) refl refl refl refl e
  where
    go : (a b c d : Bool) → is_over k.state ≡ a → nat_le most_revisions (length k.state.revisions) ≡ b → does_fit k.state list ≡ c → nat_lt most_places (length k.history + k.spare + 1) ≡ d
        → (if a then Some faults.Closed else if b then Some faults.TooManyRevisions else if not c then Some faults.StoreFull else if d then Some faults.HistoryFull else None) ≡ None → IsAccepted k list
    go true b c d f g h i j = cc
    go false true c d f g h i j = cc
    go false false false d f g h i j = cc
    go false false true true f g h i j = cc
    go false false true false f g h i j =
        let p = and_parts (nat_le (pairs_of k.state + length list) most_pairs) (nat_le (parts_of (problems_of k.state ++ problems_listed list)) most_parts) h in
        record {
          open_still = f;
          few_revisions = leb-false most_revisions (length k.state.revisions) g;
          few_pairs = leb-true (pairs_of k.state + length list) most_pairs p.0;
          few_parts = leb-true (parts_of (problems_of k.state ++ problems_listed list)) most_parts p.1;
          places = ltb-false most_places (length k.history + k.spare + 1) i;
        }

-- rows as an entry comes

posted-append : (es : List PlainEntry) (e : PlainEntry) (n : ℕ) → IsSome (posted_in es n) → posted_in (es ++ e ∷ []) n ≡ posted_in es n
posted-append [] e n h = absurd (false≢true h)
posted-append (x ∷ xs) e zero h = refl
posted-append (x ∷ xs) e (suc n) h = posted-append xs e n h

posted-still : (es : List PlainEntry) (e : PlainEntry) (o : Option ℕ) → IfSome o (λ n. IsSome (posted_in es n)) → IfSome o (λ n. IsSome (posted_in (es ++ e ∷ []) n))
posted-still es e None h = tt
posted-still es e (Some n) h = let P : Option Verdict → Type 0 = λ v. IsSome v in subst P (sym (posted-append es e n h)) h

posted-same : (es : List PlainEntry) (e : PlainEntry) (o : Option ℕ) → IfSome o (λ n. IsSome (posted_in es n)) → option_and_then (posted_in (es ++ e ∷ [])) o ≡ option_and_then (posted_in es) o
posted-same es e None h = refl
posted-same es e (Some n) h = posted-append es e n h

old-row : (s : State) (es : List PlainEntry) (list : List (Key × ProblemDraft)) (e : PlainEntry) (r : Row) → IsRow s es r → IsRow (after_publish s list) (es ++ e ∷ []) r
old-row s es list e r k =
    record {
      handle = k.handle;
      posted = posted-still es e r.1.verdict k.posted;
      verdict = posted-same es e r.1.verdict k.posted ∙ (k.verdict ∙ sym (verdict-publish s list r.0.value));
    }

new-handle : (o : Option Handle) (p : ProblemDraft) → option_map (λ (h : Handle). h.value) o ≡ Some p → option_map_or (λ (h : Handle). h.value) o p ≡ p
new-handle None p e = refl
new-handle (Some h) p e = cc

new-row : (s : State) (es : List PlainEntry) (list : List (Key × ProblemDraft)) (r : Row) → IsNew r → list_any (same_problem r.0.value) (different (problems_of s)) ≡ false → IsRow (after_publish s list) es r
new-row s es list r k e =
    let P : Option ℕ → Type 0 = λ o. IfSome o (λ n. IsSome (posted_in es n)) in
    record {
      handle = new-handle r.1.handle r.0.value k.handle;
      posted = subst P (sym k.verdict) tt;
      verdict = ap (λ (o : Option ℕ). option_and_then (posted_in es) o) k.verdict ∙ sym (verdict-publish s list r.0.value ∙ verdict-new s r.0.value e);
    }

each-none : (f : ProblemDraft → Bool) (xs ys : List ProblemDraft) → list_any f (xs ++ ys) ≡ false → Each (λ y. f y ≡ false) ys
each-none f [] [] e = tt
each-none f [] (y ∷ ys) e = let n = or-neither (f y) (list_any f ys) e in (n.0, each-none f [] ys n.1)
each-none f (x ∷ xs) ys e = each-none f xs ys (or-neither (f x) (list_any f (xs ++ ys)) e).1

each-two : {A : Type 0} (P Q R : A → Type 0) (xs : List A) → ((x : A) → P x → Q x → R x) → Each P xs → Each Q xs → Each R xs
each-two P Q R [] f h g = tt
each-two P Q R (x ∷ xs) f h g = (f x h.0 g.0, each-two P Q R xs f h.1 g.1)

fresh-apart : (ps qs : List ProblemDraft) → AreApart (ps ++ qs) → Each (λ q. list_any (same_problem q) ps ≡ false) qs
fresh-apart [] qs h = each-any (λ q. list_any (same_problem q) [] ≡ false) qs (λ q. refl)
fresh-apart (p ∷ ps) qs h =
    each-two (λ q. same_problem p q ≡ false) (λ q. list_any (same_problem q) ps ≡ false) (λ q. list_any (same_problem q) (p ∷ ps) ≡ false) qs
    (λ q a b. ap (λ (x : Bool). x || list_any (same_problem q) ps) (flip p q a) ∙ b) (each-none (same_problem p) ps qs h.0) (fresh-apart ps qs h.1)

each-problems : (P : ProblemDraft → Type 0) (rows : List Row) → Each P (problems_in rows) → Each (λ r. P r.0.value) rows
each-problems P [] h = tt
each-problems P (r ∷ rs) h = (h.0, each-problems P rs h.1)

-- a list that was planned, as the table stands
pub record IsMade (s : State) (es : List PlainEntry) (rows : List Row) (outs : List Out) (list : List (Key × ProblemDraft)) (fresh : List Row) (ns : List ℕ) (hs : List (Option Handle)) : Type 0 where
  pub table : IsTable s es rows
  pub out : AreOut s rows outs
  pub numbered : AreNumbered (problems_in rows) (problems_listed list) fresh ns
  pub is_apart : AreApart (all_of rows fresh)
  pub handles : handled hs ≡ map (retired_problem rows ns) outs

pub made : (s : State) (es : List PlainEntry) (rows : List Row) (outs : List Out) (list : List (Key × ProblemDraft)) (p : Plan) → IsTable s es rows → AreOut s rows outs → IsPlan s list p
    → IsMade s es rows outs list p.fresh.entries p.numbers.items p.handles.items
made s es rows outs list p t o k =
    let N : List ProblemDraft → Type 0 = λ x. AreNumbered x (problems_listed list) p.fresh.entries p.numbers.items in
    let n = subst N (sym t.problems) k.numbered in
    let h = apart-numbered (problems_in rows) (problems_listed list) p.fresh.entries p.numbers.items (subst AreApart (sym t.problems) (apart-different (problems_of s))) n in
    record {
      table = t;
      out = o;
      numbered = n;
      is_apart = h;
      handles = k.handles ∙ (ap (map (cancelled_problem list)) o.tickets
          ∙ sym (retired-all rows p.fresh.entries p.numbers.items list outs h n.numbers (each-from (HasNumber rows) outs o.numbered)));
    }

-- the rows once the list is entered
abbrev pub rows_of : List Row → List Row → List Out → List (Option Handle) → List Row
rows_of rows fresh outs hs = rows_retired (rows ++ fresh) outs hs

problems-publish : (s : State) (list : List (Key × ProblemDraft)) → problems_of (after_publish s list) ≡ problems_of s ++ problems_listed list
problems-publish s list =
    ap (λ (ls : List Line). map {B = ProblemDraft} (λ (l : Line). l.problem) ls) (lines-publish s list)
    ∙ (map-append (λ (l : Line). l.problem) (flat_map (λ r. r) s.revisions) (map (new_line s) list)
    ∙ ap (λ (x : List ProblemDraft). problems_of s ++ x) (go list))
  where
    go : (ks : List (Key × ProblemDraft)) → map {B = ProblemDraft} (λ (l : Line). l.problem) (map (new_line s) ks) ≡ problems_listed ks
    go [] = refl
    go (k ∷ ks) = ap (λ (x : List ProblemDraft). k.1 ∷ x) (go ks)

all-problems : (s : State) (es : List PlainEntry) (rows : List Row) (outs : List Out) (list : List (Key × ProblemDraft)) (fresh : List Row) (ns : List ℕ) (hs : List (Option Handle))
    → IsMade s es rows outs list fresh ns hs → problems_in (rows_of rows fresh outs hs) ≡ all_of rows fresh
all-problems s es rows outs list fresh ns hs m = retired-problems (rows ++ fresh) outs hs ∙ problems-append rows fresh

problems-entered : (s : State) (es : List PlainEntry) (rows : List Row) (outs : List Out) (list : List (Key × ProblemDraft)) (fresh : List Row) (ns : List ℕ) (hs : List (Option Handle))
    → IsMade s es rows outs list fresh ns hs → problems_in (rows_of rows fresh outs hs) ≡ different (problems_of (after_publish s list))
problems-entered s es rows outs list fresh ns hs m =
    all-problems s es rows outs list fresh ns hs m
    ∙ (m.numbered.problems
    ∙ (ap (λ (x : List ProblemDraft). with_problems x (problems_listed list)) m.table.problems
    ∙ (sym (different-append (problems_of s) (problems_listed list)) ∙ ap (λ (x : List ProblemDraft). different x) (sym (problems-publish s list)))))

front-at : (rows fresh : List Row) (n : ℕ) → n < length rows → problem_at (rows ++ fresh) n ≡ problem_at rows n
front-at [] fresh n l = absurd (omega arith)
front-at (r ∷ rs) fresh zero l = refl
front-at (r ∷ rs) fresh (suc n) l = front-at rs fresh n (omega arith)

front-retired : (rows fresh : List Row) (ns : List ℕ) (os : List Out) → Each (HasNumber rows) os → map (retired_problem rows ns) os ≡ map (retired_problem (rows ++ fresh) ns) os
front-retired rows fresh ns [] h = refl
front-retired rows fresh ns (o ∷ os) h =
    ap (λ (p : ProblemDraft). (if o.is_live && not (list_any (λ n. n == o.problem) ns) then Some p else None) ∷ map (retired_problem rows ns) os) (sym (front-at rows fresh o.problem h.0))
    ∙ ap (λ (x : List (Option ProblemDraft)). retired_problem (rows ++ fresh) ns o ∷ x) (front-retired rows fresh ns os h.1)

pub length-pairs : (s : State) → length (problems_of s) ≡ pairs_of s
length-pairs s = length-map (flat_map (λ r. r) s.revisions) (λ (l : Line). l.problem) ∙ length-flat_map (λ (r : List Line). r) s.revisions

pairs-publish : (s : State) (list : List (Key × ProblemDraft)) → pairs_of (after_publish s list) ≡ pairs_of s + length list
pairs-publish s list =
    let a = sum_by-append {X = List Line} length s.revisions (map (new_line s) list ∷ []) in
    let b = length-map list (new_line s) in
    omega (arith, a, b)

length-rows : (s : State) (es : List PlainEntry) (rows : List Row) (outs : List Out) (list : List (Key × ProblemDraft)) (fresh : List Row) (ns : List ℕ) (hs : List (Option Handle))
    → IsMade s es rows outs list fresh ns hs → length (rows_of rows fresh outs hs) ≡ length rows + length fresh
length-rows s es rows outs list fresh ns hs m =
    let a = length-problems (rows_of rows fresh outs hs) in
    let b = ap (λ (x : List ProblemDraft). length x) (all-problems s es rows outs list fresh ns hs m) in
    let c = length-append (problems_in rows) (problems_in fresh) in
    let d = length-problems rows in
    let e = length-problems fresh in
    omega (arith, a, b, c, d, e)

pub table-entered : (s : State) (es : List PlainEntry) (rows : List Row) (outs : List Out) (list : List (Key × ProblemDraft)) (fresh : List Row) (ns : List ℕ) (hs : List (Option Handle)) (e : PlainEntry)
    → IsMade s es rows outs list fresh ns hs → pairs_of s + length list ≤ most_pairs → IsTable (after_publish s list) (es ++ e ∷ []) (rows_of rows fresh outs hs)
table-entered s es rows outs list fresh ns hs e m l =
    let s' = after_publish s list in
    let R : Row → Type 0 = λ r. IsRow s' (es ++ e ∷ []) r in
    let D : List ProblemDraft → Type 0 = λ ps. Each (λ q. list_any (same_problem q) ps ≡ false) (problems_in fresh) in
    let news = each-problems (λ q. list_any (same_problem q) (different (problems_of s)) ≡ false) fresh (subst D m.table.problems (fresh-apart (problems_in rows) (problems_in fresh) m.is_apart)) in
    let behind = each-two IsNew (λ (r : Row). list_any (same_problem r.0.value) (different (problems_of s)) ≡ false) R fresh (λ r a b. new-row s (es ++ e ∷ []) list r a b) (each-from IsNew fresh m.numbered.each) news in
    let front = each-same (IsRow s es) R rows (λ r k. old-row s es list e r k) (each-from (IsRow s es) rows m.table.each) in
    let h = m.handles ∙ front-retired rows fresh ns outs (each-from (HasNumber rows) outs m.out.numbered) in
    let p = problems-entered s es rows outs list fresh ns hs m in
    let a = length-problems (rows_of rows fresh outs hs) in
    let b = ap (λ (x : List ProblemDraft). length x) p in
    let c = length-with_problems [] (problems_of s') in
    let d = length-pairs s' in
    let f = pairs-publish s list in
    record {
      problems = p;
      each = each-to R (rows_of rows fresh outs hs) (retired-rows s' (es ++ e ∷ []) (rows ++ fresh) (rows ++ fresh) ns outs hs refl h (each-append R rows fresh front behind));
      few_rows = omega (arith, a, b, c, d, f, l);
    }

-- claims

past-none : (rows : List Row) (n : ℕ) → slice_get rows n ≡ None → length rows ≤ n
past-none [] n e = omega arith
past-none (r ∷ rs) zero e = cc
past-none (r ∷ rs) (suc n) e = let i = past-none rs n e in omega (arith, i)

and-false : (b : Bool) → (b && false) ≡ false
and-false true = refl
and-false false = refl

claimed-none : (rows : List Row) (n : ℕ) (os : List Out) → Each (HasNumber rows) os → length rows ≤ n → is_claimed os n ≡ false
claimed-none rows n [] h l = refl
claimed-none rows n (o ∷ os) h l =
    let d : o.problem ≡ n → ⊥ = λ e. omega (arith, e, l, h.0) in
    ap (λ (b : Bool). (o.is_live && b) || is_claimed os n) (ne_eqb o.problem n d)
    ∙ (ap (λ (b : Bool). b || is_claimed os n) (and-false o.is_live) ∙ claimed-none rows n os h.1 l)

some-there : (o : Option Handle) (p : ProblemDraft) → option_map (λ (h : Handle). h.value) o ≡ Some p → is_none o ≡ false
some-there None p e = cc
some-there (Some h) p e = refl

lacks-fresh : (fresh : List Row) (n : ℕ) → Each IsNew fresh → lacks fresh n ≡ false
lacks-fresh [] n h = refl
lacks-fresh (r ∷ rs) zero h = some-there r.1.handle r.0.value h.0.handle
lacks-fresh (r ∷ rs) (suc n) h = lacks-fresh rs n h.1

lacks-behind : (rows fresh : List Row) (n : ℕ) → Each IsNew fresh → slice_get rows n ≡ None → lacks (rows ++ fresh) n ≡ false
lacks-behind [] fresh n h e = lacks-fresh fresh n h
lacks-behind (r ∷ rs) fresh zero h e = cc
lacks-behind (r ∷ rs) fresh (suc n) h e = lacks-behind rs fresh n h e

lacks-front : (rows fresh : List Row) (n : ℕ) (r : Row) → slice_get rows n ≡ Some r → lacks (rows ++ fresh) n ≡ is_none r.1.handle
lacks-front [] fresh n r e = cc
lacks-front (x ∷ xs) fresh zero r e = let i : x ≡ r = cc in ap (λ (y : Row). is_none y.1.handle) i
lacks-front (x ∷ xs) fresh (suc n) r e = lacks-front xs fresh n r e

claimed-lacks : (s : State) (rows fresh : List Row) (os : List Out) (n : ℕ) → AreOut s rows os → Each IsNew fresh → is_claimed os n ≡ lacks (rows ++ fresh) n
claimed-lacks s rows fresh os n k h = go (slice_get rows n) refl
  where
    go : (o : Option Row) → slice_get rows n ≡ o → is_claimed os n ≡ lacks (rows ++ fresh) n
    go None e = claimed-none rows n os (each-from (HasNumber rows) os k.numbered) (past-none rows n e) ∙ sym (lacks-behind rows fresh n h e)
    go (Some r) e = k.live n r e ∙ sym (lacks-front rows fresh n r e)

each-retired : (rows : List Row) (os : List Out) (hs : List (Option Handle)) → Each (HasNumber rows) os → Each (HasNumber rows) (outs_retired os hs)
each-retired rows [] hs h = h
each-retired rows (o ∷ os) [] h = h
each-retired rows (o ∷ os) (None ∷ hs) h = (h.0, each-retired rows os hs h.1)
each-retired rows (o ∷ os) (Some x ∷ hs) h = (h.0, each-retired rows os hs h.1)

pub out-entered : (s : State) (es : List PlainEntry) (rows : List Row) (outs : List Out) (list : List (Key × ProblemDraft)) (fresh : List Row) (ns : List ℕ) (hs : List (Option Handle))
    → IsMade s es rows outs list fresh ns hs → AreOut (after_publish s list) (rows_of rows fresh outs hs) (outs_retired outs hs)
out-entered s es rows outs list fresh ns hs m =
    let new = rows_of rows fresh outs hs in
    let l = length-rows s es rows outs list fresh ns hs m in
    let numbered = each-from (HasNumber rows) outs m.out.numbered in
    let h = m.handles ∙ front-retired rows fresh ns outs numbered in
    let at = each-same (HasNumber rows) (λ (o : Out). problem_at new o.problem ≡ problem_at rows o.problem) outs
    (λ o k. at-same (rows ++ fresh) new o.problem (retired-problems (rows ++ fresh) outs hs) ∙ front-at rows fresh o.problem k) numbered in
    let c = m.handles ∙ retired-all rows fresh ns list outs m.is_apart m.numbered.numbers numbered in
    record {
      tickets = ap (map (cancel list)) m.out.tickets ∙ sym (tickets-after rows new list outs hs c at);
      numbered = each-to (HasNumber new) (outs_retired outs hs) (each-retired new outs hs (each-same (HasNumber rows) (HasNumber new) outs (λ o k. omega (arith, k, l)) numbered));
      live = λ n r e. live-after (rows ++ fresh) (rows ++ fresh) ns n outs hs h (claimed-lacks s rows fresh outs n m.out (each-from IsNew fresh m.numbered.each))
          ∙ ap (λ (o : Option Row). option_map_or (λ (x : Row). is_none x.1.handle) o false) e;
    }

-- the last revision

last-snoc : {A : Type 0} (xs : List A) (x : A) → last (xs ++ x ∷ []) ≡ Some x
last-snoc [] x = refl
last-snoc (y ∷ []) x = refl
last-snoc (y ∷ z ∷ ys) x = last-snoc (z ∷ ys) x

lines-last : (s : State) (list : List (Key × ProblemDraft)) → lines (after_publish s list) ≡ map (new_line s) list
lines-last s list = ap (λ (o : Option (List Line)). unwrap_or o []) (last-snoc s.revisions (map (new_line s) list))

numbers-at : (all : List ProblemDraft) (rows : List Row) (ns : List ℕ) (ps : List ProblemDraft) → problems_in rows ≡ all → map (slice_get all) ns ≡ map (λ (x : ProblemDraft). Some x) ps → map (problem_at rows) ns ≡ ps
numbers-at all rows [] [] d e = refl
numbers-at all rows [] (p ∷ ps) d e = cc
numbers-at all rows (n ∷ ns) [] d e = cc
numbers-at all rows (n ∷ ns) (p ∷ ps) d e =
    let t = some-same p p (map (slice_get all) ns) (map (λ (x : ProblemDraft). Some x) ps) (slice_get all n) e in
    let a : problem_at rows n ≡ p = at-in rows n ∙ (ap (λ (x : List ProblemDraft). option_map_or (λ (q : ProblemDraft). q) (slice_get x n) nothing) d ∙ ap (λ (o : Option ProblemDraft). option_map_or (λ (q : ProblemDraft). q) o nothing) t.0) in
    ap (λ (x : ProblemDraft). x ∷ map (problem_at rows) ns) a ∙ ap (λ (x : List ProblemDraft). p ∷ x) (numbers-at all rows ns ps d t.1)

numbers-within : (all : List ProblemDraft) (ns : List ℕ) (ps : List ProblemDraft) → map (slice_get all) ns ≡ map (λ (x : ProblemDraft). Some x) ps → Each (λ n. n < length all) ns
numbers-within all [] ps e = tt
numbers-within all (n ∷ ns) [] e = cc
numbers-within all (n ∷ ns) (p ∷ ps) e =
    let t = some-same p p (map (slice_get all) ns) (map (λ (x : ProblemDraft). Some x) ps) (slice_get all n) e in
    (slice_get_within all n p t.0, numbers-within all ns ps t.1)

listed-last : (es : List PlainEntry) (e : PlainEntry) → listed_in (es ++ e ∷ []) (length es) ≡ list_of e.call
listed-last es e = ap (λ (o : Option PlainEntry). option_map_or (λ (x : PlainEntry). list_of x.call) o []) (slice-last es e)

pairs-of-lines : (s : State) (ks : List (Key × ProblemDraft)) → map {B = Key × ProblemDraft} (λ (l : Line). (l.key, l.problem)) (map (new_line s) ks) ≡ ks
pairs-of-lines s [] = refl
pairs-of-lines s (k ∷ ks) = ap (λ (x : List (Key × ProblemDraft)). k ∷ x) (pairs-of-lines s ks)

problems-of-lines : (s : State) (ks : List (Key × ProblemDraft)) → map {B = ProblemDraft} (λ (l : Line). l.problem) (map (new_line s) ks) ≡ problems_listed ks
problems-of-lines s [] = refl
problems-of-lines s (k ∷ ks) = ap (λ (x : List ProblemDraft). k.1 ∷ x) (problems-of-lines s ks)

length-numbers : (all : List ProblemDraft) (ns : List ℕ) (ps : List ProblemDraft) → map (slice_get all) ns ≡ map (λ (x : ProblemDraft). Some x) ps → length ns ≡ length ps
length-numbers all ns ps e = sym (length-map ns (slice_get all)) ∙ (ap (λ (x : List (Option ProblemDraft)). length x) e ∙ length-map ps (λ (x : ProblemDraft). Some x))

pub length-made : (s : State) (es : List PlainEntry) (rows : List Row) (outs : List Out) (list : List (Key × ProblemDraft)) (fresh : List Row) (ns : List ℕ) (hs : List (Option Handle))
    → IsMade s es rows outs list fresh ns hs → length ns ≡ length list
length-made s es rows outs list fresh ns hs m = length-numbers (all_of rows fresh) ns (problems_listed list) m.numbered.numbers ∙ length-map list (λ (k : Key × ProblemDraft). k.1)

pub last-entered : (s : State) (es : List PlainEntry) (rows : List Row) (outs : List Out) (list : List (Key × ProblemDraft)) (fresh : List Row) (ns : List ℕ) (hs : List (Option Handle)) (e : PlainEntry)
    → IsMade s es rows outs list fresh ns hs → length list ≤ 1024 → e.call ≡ publish list → IsLast (after_publish s list) (es ++ e ∷ []) (rows_of rows fresh outs hs) ns (length es) 0
last-entered s es rows outs list fresh ns hs e m few c =
    let s' = after_publish s list in
    let new = rows_of rows fresh outs hs in
    let ls = lines-last s list in
    let p = all-problems s es rows outs list fresh ns hs m in
    let n = length-made s es rows outs list fresh ns hs m in
    let a = length-problems new in
    let b = ap (λ (x : List ProblemDraft). length x) p in
    let V : List Line → Type 0 = λ x. All (λ l. l.verdict ≡ verdict_of s' l.problem) x in
    record {
      problems = numbers-at (all_of rows fresh) new ns (problems_listed list) p m.numbered.numbers
          ∙ sym (ap (λ (x : List Line). map {B = ProblemDraft} (λ (l : Line). l.problem) x) ls ∙ problems-of-lines s list);
      numbered = each-to (λ k. k < length new) ns (each-same (λ k. k < length (all_of rows fresh)) (λ k. k < length new) ns (λ k h. omega (arith, h, a, b)) (numbers-within (all_of rows fresh) ns (problems_listed list) m.numbered.numbers));
      few = omega (arith, n, few);
      listed = listed-last es e ∙ (ap (λ x. list_of x) c ∙ sym (ap (λ (x : List Line). map {B = Key × ProblemDraft} (λ (l : Line). (l.key, l.problem)) x) ls ∙ pairs-of-lines s list));
      verdicts = subst V (sym ls) (each-to (λ (l : Line). l.verdict ≡ verdict_of s' l.problem) (map (new_line s) list)
          (each-map (λ (l : Line). l.verdict ≡ verdict_of s' l.problem) (new_line s) list (each-any (λ k. (new_line s k).verdict ≡ verdict_of s' (new_line s k).problem) list (λ k. sym (verdict-publish s list k.1)))));
      within = omega arith;
      taken = λ k d l. absurd (omega arith);
    }

-- sizes and marks

pub sized-entered : (s : State) (es : List PlainEntry) (rows : List Row) (outs : List Out) (list : List (Key × ProblemDraft)) (fresh : List Row) (ns : List ℕ) (hs : List (Option Handle)) (k : BoardState) (revisions pairs parts more : ℕ)
    → IsMade s es rows outs list fresh ns hs → k.state ≡ s → IsAccepted k list → IsSized s revisions pairs parts → more ≡ parts_in fresh
    → IsSized (after_publish s list) (revisions + 1) (pairs + length ns) (parts + more)
sized-entered s es rows outs list fresh ns hs k revisions pairs parts more m v a z e =
    let A : State → Type 0 = λ x. (length x.revisions < most_revisions) × (pairs_of x + length list ≤ most_pairs) × (parts_of (problems_of x ++ problems_listed list) ≤ most_parts) in
    let t = subst A v (a.few_revisions, a.few_pairs, a.few_parts) in
    let n = length-made s es rows outs list fresh ns hs m in
    let l = length-append s.revisions (map (new_line s) list ∷ []) in
    let p = pairs-publish s list in
    let q = ap (λ (x : List ProblemDraft). parts_of x) (problems-publish s list) in
    let r = parts-listed s rows fresh list ns m.table.problems m.numbered in
    record {
      all_revisions = omega (arith, l, z.all_revisions);
      few_revisions = omega (arith, t.0, z.all_revisions);
      all_pairs = omega (arith, p, n, z.all_pairs);
      few_pairs = omega (arith, t.1, n, z.all_pairs);
      all_parts = omega (arith, q, r, e, z.all_parts);
      few_parts = omega (arith, t.2, r, e, z.all_parts);
    }

pub marked-entered : (s : State) (list : List (Key × ProblemDraft)) (claims : ℕ) (is_closed is_stopped : Bool) → IsMarked s claims is_closed is_stopped → IsMarked (after_publish s list) claims is_closed is_stopped
marked-entered s list claims is_closed is_stopped m = record { all_claims = m.all_claims; closed = m.closed; stopped = m.stopped }

pub kept-entered : (s : State) (list : List (Key × ProblemDraft)) → places_kept (after_publish s list) ≡ places_kept s
kept-entered s list = ap (λ (n : ℕ). n + (if s.is_stopped then 0 else 1)) (length-map s.tickets (cancel list))

-- all that is kept

abbrev pub Stands : Past → ℕ → ℕ → Bool → Bool → ℕ → ℕ → ℕ → List Row → List Out → List ℕ → ℕ → ℕ → Type 0
Stands h room claims is_closed is_stopped revisions pairs parts rows outs ns last next =
    IsPast h room claims
    × IsMarked (state_after start h.entries) claims is_closed is_stopped
    × IsSized (state_after start h.entries) revisions pairs parts
    × IsTable (state_after start h.entries) h.entries rows
    × AreOut (state_after start h.entries) rows outs
    × IsLast (state_after start h.entries) h.entries rows ns last next

abbrev pub kept : Past → BoardState
kept h = record { state = state_after start h.entries; history = h.entries; spare = h.spare }

past-entered : (h : Past) (room claims : ℕ) (list : List (Key × ProblemDraft)) (e : PlainEntry) → IsPast h room claims → IsAccepted (kept h) list → HasKeysOnce list
    → e.call ≡ publish list → e.reply ≡ reply_of (state_after start h.entries) e.call → state_after start (h.entries ++ e ∷ []) ≡ after_publish (state_after start h.entries) list
    → IsPast (record { entries = h.entries ++ e ∷ []; spare = h.spare }) room claims
past-entered h room claims list e k a once c r t =
    let s = state_after start h.entries in
    let l = length-append h.entries (e ∷ []) in
    let m = ap places_kept t ∙ kept-entered s list in
    let M = λ (x : PlainCall). May s e.seat x in
    record {
      legal = legal-snoc start h.entries e k.legal (subst M (sym c) (a.open_still, once)) r;
      places = omega (arith, l, a.places);
      promised = omega (arith, m, k.promised);
      enough = k.enough;
      few_claims = omega (arith, l, k.few_claims);
    }

pub stands-entered : (h : Past) (room claims : ℕ) (is_closed is_stopped : Bool) (revisions pairs parts : ℕ) (rows : List Row) (outs : List Out) (ns0 : List ℕ) (last0 next0 : ℕ)
    (list : List (Key × ProblemDraft)) (p : Plan) (e : PlainEntry) → Stands h room claims is_closed is_stopped revisions pairs parts rows outs ns0 last0 next0
    → IsPlan (state_after start h.entries) list p → IsAccepted (kept h) list → length list ≤ 1024 → HasKeysOnce list → e.call ≡ publish list → e.reply ≡ reply_of (state_after start h.entries) e.call
    → Stands (record { entries = h.entries ++ e ∷ []; spare = h.spare }) room claims is_closed is_stopped (revisions + 1) (pairs + length p.numbers.items) (parts + p.parts)
    (rows_of rows p.fresh.entries outs p.handles.items) (outs_retired outs p.handles.items) p.numbers.items (length h.entries) 0
stands-entered h room claims is_closed is_stopped revisions pairs parts rows outs ns0 last0 next0 list p e k plan a few once c r =
    let s = state_after start h.entries in
    let es = h.entries in
    let fresh = p.fresh.entries in
    let ns = p.numbers.items in
    let hs = p.handles.items in
    let m = made s es rows outs list p k.3 k.4 plan in
    let A = λ (x : PlainCall). state_after start (es ++ e ∷ []) ≡ after s e.seat x in
    let t : state_after start (es ++ e ∷ []) ≡ after_publish s list = subst A c (state_after-snoc start es e) in
    let M : State → Type 0 = λ x. IsMarked x claims is_closed is_stopped in
    let Z : State → Type 0 = λ x. IsSized x (revisions + 1) (pairs + length ns) (parts + p.parts) in
    let T : State → Type 0 = λ x. IsTable x (es ++ e ∷ []) (rows_of rows fresh outs hs) in
    let O : State → Type 0 = λ x. AreOut x (rows_of rows fresh outs hs) (outs_retired outs hs) in
    let L : State → Type 0 = λ x. IsLast x (es ++ e ∷ []) (rows_of rows fresh outs hs) ns (length es) 0 in
    let u = sym t in (
      past-entered h room claims list e k.0 a once c r t,
      subst M u (marked-entered s list claims is_closed is_stopped k.1),
      subst Z u (sized-entered s es rows outs list fresh ns hs (kept h) revisions pairs parts p.parts m refl a k.2 plan.parts),
      subst T u (table-entered s es rows outs list fresh ns hs e m a.few_pairs),
      subst O u (out-entered s es rows outs list fresh ns hs m),
      subst L u (last-entered s es rows outs list fresh ns hs e m few c),
    )

-- the same, as the calls leave it

pub on-ok : {T E : Type 0} (r : Result T E) (x : T) (P : Type 0) → r ≡ Ok x → OnOk r P → P
on-ok (Ok y) x P e h = h
on-ok (Err y) x P e h = cc

pub appended : (s : State) (es : List PlainEntry) (rows old new : List Row) (outs : List Out) (list : List (Key × ProblemDraft)) (p : Plan) → IsTable s es rows → AreOut s rows outs → IsPlan s list p
    → old ≡ rows → new ≡ insert_all same_handle old p.fresh.entries → new ≡ rows ++ p.fresh.entries
appended s es rows old new outs list p t o k e f =
    let m = made s es rows outs list p t o k in
    f ∙ (ap (λ (x : List Row). insert_all same_handle x p.fresh.entries) e ∙ insert-all rows p.fresh.entries m.is_apart)

pub put-after : (h p n : Past) (e : PlainEntry) → p ≡ with_spare h (h.spare + 1) → n ≡ with_entry p e → n ≡ record { entries = h.entries ++ e ∷ []; spare = h.spare }
put-after h p n e f g =
    let k : h.spare + 1 - 1 ≡ h.spare = omega arith in
    g ∙ (ap (λ (x : Past). with_entry x e) f ∙ ap (λ (x : ℕ). record { entries = h.entries ++ e ∷ []; spare = x }) k)

pub stands-same : (h new : Past) (room room1 claims : ℕ) (is_closed is_stopped : Bool) (revisions pairs pairs1 parts : ℕ) (rows rows1 : List Row) (outs outs1 : List Out) (ns : List ℕ) (last last1 next : ℕ)
    → new ≡ h → room1 ≡ room → pairs1 ≡ pairs → rows1 ≡ rows → outs1 ≡ outs → last1 ≡ last
    → Stands h room claims is_closed is_stopped revisions pairs parts rows outs ns last next → Stands new room1 claims is_closed is_stopped revisions pairs1 parts rows1 outs1 ns last1 next
stands-same h new room room1 claims is_closed is_stopped revisions pairs pairs1 parts rows rows1 outs outs1 ns last last1 next a b d e f g k =
    let A : Past → Type 0 = λ x. Stands x room claims is_closed is_stopped revisions pairs parts rows outs ns last next in
    let B : ℕ → Type 0 = λ x. Stands new x claims is_closed is_stopped revisions pairs parts rows outs ns last next in
    let D : ℕ → Type 0 = λ x. Stands new room1 claims is_closed is_stopped revisions x parts rows outs ns last next in
    let E : List Row → Type 0 = λ x. Stands new room1 claims is_closed is_stopped revisions pairs1 parts x outs ns last next in
    let F : List Out → Type 0 = λ x. Stands new room1 claims is_closed is_stopped revisions pairs1 parts rows1 x ns last next in
    let G : ℕ → Type 0 = λ x. Stands new room1 claims is_closed is_stopped revisions pairs1 parts rows1 outs1 ns x next in
    subst G (sym g) (subst F (sym f) (subst E (sym e) (subst D (sym d) (subst B (sym b) (subst A (sym a) k)))))

pub length-planned : (s : State) (es : List PlainEntry) (rows : List Row) (outs : List Out) (list : List (Key × ProblemDraft)) (p : Plan) → IsTable s es rows → AreOut s rows outs → IsPlan s list p → length p.numbers.items ≡ length list
length-planned s es rows outs list p t o k = length-made s es rows outs list p.fresh.entries p.numbers.items p.handles.items (made s es rows outs list p t o k)

pub parts-entered : (s : State) (es : List PlainEntry) (rows : List Row) (outs : List Out) (list : List (Key × ProblemDraft)) (p : Plan) → IsTable s es rows → AreOut s rows outs → IsPlan s list p
    → parts_of (problems_of s ++ problems_listed list) ≡ parts_of (problems_of s) + p.parts
parts-entered s es rows outs list p t o k =
    let m = made s es rows outs list p t o k in
    let a = parts-listed s rows p.fresh.entries list p.numbers.items t.problems m.numbered in
    omega (arith, a, k.parts)

-- an event, whichever of two equal answers is entered
pub enters-published : (h new : Past) (seat : ℕ) (list : List (Key × ProblemDraft)) (p : Plan) → IsPlan (state_after start h.entries) list p → IsAccepted (kept h) list → HasKeysOnce list
    → new ≡ record { entries = h.entries ++ entry seat (publish list) (published p.entered) ∷ []; spare = h.spare } → Enters (kept h) (kept new) seat (publish list) (published p.answer)
enters-published h new seat list p k a once e =
    let N : Past → Type 0 = λ x. Enters (kept h) (kept x) seat (publish list) (published p.answer) in
    let R : Published → Type 0 = λ r. Enters (kept h) (kept (record { entries = h.entries ++ entry seat (publish list) (published r) ∷ []; spare = h.spare })) seat (publish list) (published p.answer) in
    subst N (sym e) (subst R (k.answer ∙ sym k.entered) (enters-snoc h.entries h.spare h.spare seat (publish list) (published p.answer) (a.open_still, once) (ap published k.answer)))
