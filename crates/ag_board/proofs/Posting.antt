-- A verdict is posted: it goes to all lines with its problem, and to the problem's row.
use Rattle.std.proofs.Common.{◌≡◌, ◌∙◌, ◌<◌, ◌≤◌, ◌==◌, ◌&&◌, ◌||◌, ◌++◌, ◌∷◌, [], ℕ, zero, suc, Bool, true, false, List, length, map, take, Option, Some, None, refl, sym, ap, arith, subst}
use Rattle.std.proofs.lemmas.Bool.{false≢true}
use Rattle.std.proofs.lemmas.Bool.Decides.{nat_tests}
use Rattle.std.proofs.lemmas.List.{length-map}
use Rattle.std.proofs.lemmas.List.Sums.{sum_by-cons}
use Rattle.std.proofs.lemmas.List.Folds.{list_any-append}
use Rattle.std.specs.Prelude.{All, slice_get, sum_by, is_none, is_some, if◌then◌else◌, unwrap_or}
use Rattle.std.specs.List.{list_any, flat_map}
use Rattle.std.specs.Option.{option_map_or}
use Rattle.ag_stream.specs.declared.problem.ProblemDraft.{ProblemDraft}
use Rattle.ag_stream.specs.Runs.{last}
use Rattle.ag_verdict.specs.declared.key.Key.{Key}
use Rattle.ag_verdict.specs.declared.verdict.Verdict.{Verdict}
use Rattle.ag_board.specs.declared.slot.Slot.{Slot}
use Rattle.ag_board.specs.Entries.{PlainEntry}
use Rattle.ag_board.specs.Machine.{State, Line, same_problem, lines, verdict_in, verdict_of, decided_line, decided}
use Rattle.ag_board.specs.Notes.{nothing, list_of, verdict_posted, posted_in}
use Rattle.ag_board.specs.Store.{problems_of, parts_of}
use Rattle.ag_board.specs.Inside.{Row, with_problem, with_problems, different, problems_in, problem_at, is_free_row, is_decided_row, row_passes, is_claimed, AreTaken, IsRow, IsTable, AreOut, IsLast, IsSized}
use Rattle.ag_board.proofs.Verdicts.{Each, each-from, each-to, each-same, each-map, same-itself, by-same, lines-decided, line-is, line-stays}
use Rattle.ag_board.proofs.Truths.{verdict-decided-here, verdict-decided-other}
use Rattle.ag_board.proofs.Carrying.{row-carry, table-carry, last-carry, listed-grows}
use Rattle.ag_board.proofs.Returning.{Handle, returned, put_back}
use Rattle.ag_board.specs.declared.slot.Out.{Out}
use Rattle.ag_board.proofs.Claiming.{table-apart, same-number}
use Rattle.ag_board.proofs.Rows.{changed, with-changed, problems-changed, length-changed, other-changed, each-changed, tickets-changed, listed-changed}

abbrev pub kept : ℕ → Slot → Slot
kept n s = record s { verdict = Some n }

-- the problem of a row is one of the state's

or-right : (a b : Bool) → b ≡ true → (a || b) ≡ true
or-right true b h = refl
or-right false b h = h

any-row : (rows : List Row) (n : ℕ) → n < length rows → list_any (same_problem (problem_at rows n)) (problems_in rows) ≡ true
any-row [] n h = absurd (omega arith)
any-row (r ∷ rs) zero h = ap (λ (b : Bool). b || list_any (same_problem r.0.value) (problems_in rs)) (same-itself r.0.value r.0.value refl)
any-row (r ∷ rs) (suc n) h = or-right (same_problem (problem_at rs n) r.0.value) (list_any (same_problem (problem_at rs n)) (problems_in rs)) (any-row rs n (omega arith))

any-with : (f : ProblemDraft → Bool) (b : Bool) (qs : List ProblemDraft) (p : ProblemDraft) → f p ≡ false → list_any f qs ≡ false → list_any f (if b then qs else qs ++ p ∷ []) ≡ false
any-with f true qs p e h = h
any-with f false qs p e h = list_any-append f qs (p ∷ []) ∙ (ap (λ (b : Bool). b || (f p || false)) h ∙ ap (λ (b : Bool). b || false) e)

any-fold : (f : ProblemDraft → Bool) (qs ps : List ProblemDraft) → list_any f (with_problems qs ps) ≡ true → list_any f qs ≡ false → list_any f ps ≡ true
any-fold f qs [] h e = absurd (false≢true (sym e ∙ h))
any-fold f qs (p ∷ ps) h e = go (f p) refl (λ k. any-fold f (with_problem qs p) ps h k)
  where
    go : (b : Bool) → f p ≡ b → (list_any f (with_problem qs p) ≡ false → list_any f ps ≡ true) → (f p || list_any f ps) ≡ true
    go true x g = ap (λ (b : Bool). b || list_any f ps) x
    go false x g = or-right (f p) (list_any f ps) (g (any-with f (list_any (same_problem p) qs) qs p x e))

turned : (p q : ProblemDraft) → same_problem p q ≡ same_problem q p
turned p q = by-same p q (λ e. same-itself p q e ∙ sym (same-itself q p (sym e))) (λ e. by-same q p (λ f. absurd (false≢true (sym e ∙ same-itself p q (sym f)))) (λ f. e ∙ sym f))

any-line : (p : ProblemDraft) (ls : List Line) → list_any (same_problem p) (map {B = ProblemDraft} (λ l. l.problem) ls) ≡ list_any (λ m. same_problem m.problem p) ls
any-line p [] = refl
any-line p (l ∷ ls) = ap (λ (b : Bool). b || list_any (same_problem p) (map {B = ProblemDraft} (λ (m : Line). m.problem) ls)) (turned p l.problem) ∙ ap (λ (b : Bool). same_problem l.problem p || b) (any-line p ls)

pub is-there : (s : State) (es : List PlainEntry) (rows : List Row) (n : ℕ) → IsTable s es rows → n < length rows → list_any (λ m. same_problem m.problem (problem_at rows n)) (flat_map (λ r. r) s.revisions) ≡ true
is-there s es rows n t h =
    let a = sym (ap (λ (x : List ProblemDraft). list_any (same_problem (problem_at rows n)) x) t.problems) ∙ any-row rows n h in
    sym (any-line (problem_at rows n) (flat_map (λ (r : List Line). r) s.revisions)) ∙ any-fold (same_problem (problem_at rows n)) [] (problems_of s) a refl

-- sizes and lists of problems stay

line-if : (b : Bool) (v : Verdict) (l : Line) → ((if b then record l { verdict = Some v } else l).key ≡ l.key) × ((if b then record l { verdict = Some v } else l).problem ≡ l.problem)
line-if true v l = (refl, refl)
line-if false v l = (refl, refl)

problems-same : (p : ProblemDraft) (v : Verdict) (ls : List Line) → map {B = ProblemDraft} (λ l. l.problem) (map (decided_line p v) ls) ≡ map {B = ProblemDraft} (λ l. l.problem) ls
problems-same p v [] = refl
problems-same p v (l ∷ ls) = ap (λ (q : ProblemDraft). q ∷ map {B = ProblemDraft} (λ (m : Line). m.problem) (map (decided_line p v) ls)) (line-if (same_problem l.problem p) v l).1 ∙ ap (λ (qs : List ProblemDraft). l.problem ∷ qs) (problems-same p v ls)

abbrev pub pair_of : Key → ProblemDraft → Key × ProblemDraft
pair_of k p = (k, p)

pairs-same : (p : ProblemDraft) (v : Verdict) (ls : List Line) → map {B = Key × ProblemDraft} (λ l. (l.key, l.problem)) (map (decided_line p v) ls) ≡ map {B = Key × ProblemDraft} (λ l. (l.key, l.problem)) ls
pairs-same p v [] = refl
pairs-same p v (l ∷ ls) =
    let i = line-if (same_problem l.problem p) v l in
    ap (λ (k : Key). pair_of k (decided_line p v l).problem ∷ map {B = Key × ProblemDraft} (λ (m : Line). (m.key, m.problem)) (map (decided_line p v) ls)) i.0
    ∙ (ap (λ (q : ProblemDraft). pair_of l.key q ∷ map {B = Key × ProblemDraft} (λ (m : Line). (m.key, m.problem)) (map (decided_line p v) ls)) i.1
    ∙ ap (λ (x : List (Key × ProblemDraft)). pair_of l.key l.problem ∷ x) (pairs-same p v ls))

sums-same : (p : ProblemDraft) (v : Verdict) (rs : List (List Line)) → sum_by length (decided p v rs) ≡ sum_by length rs
sums-same p v [] = refl
sums-same p v (r ∷ rs) =
    let a = sum_by-cons (λ (x : List Line). length x) (map (decided_line p v) r) (decided p v rs) in
    let b = sum_by-cons (λ (x : List Line). length x) r rs in
    let c = length-map r (decided_line p v) in
    let d = sums-same p v rs in
    omega (arith, a, b, c, d)

lines-same : (p : ProblemDraft) (v : Verdict) (rs : List (List Line)) → unwrap_or (last (decided p v rs)) [] ≡ map (decided_line p v) (unwrap_or (last rs) [])
lines-same p v [] = refl
lines-same p v (r ∷ []) = refl
lines-same p v (r ∷ q ∷ rs) = lines-same p v (q ∷ rs)

pub sized-decided : (s t : State) (p : ProblemDraft) (v : Verdict) (revisions pairs parts : ℕ) → t.revisions ≡ decided p v s.revisions → IsSized s revisions pairs parts → IsSized t revisions pairs parts
sized-decided s t p v revisions pairs parts e k =
    record {
      all_revisions = ap (λ (x : List (List Line)). length x) e ∙ (length-map s.revisions (map (decided_line p v)) ∙ k.all_revisions);
      few_revisions = k.few_revisions;
      all_pairs = ap (λ (x : List (List Line)). sum_by length x) e ∙ (sums-same p v s.revisions ∙ k.all_pairs);
      few_pairs = k.few_pairs;
      all_parts = ap (λ (x : List ProblemDraft). parts_of x) (problems-of s t p v e) ∙ k.all_parts;
      few_parts = k.few_parts;
    }
  where
    problems-of : (a b : State) (q : ProblemDraft) (w : Verdict) → b.revisions ≡ decided q w a.revisions → problems_of b ≡ problems_of a
    problems-of a b q w h = ap (λ (x : List (List Line)). map {B = ProblemDraft} (λ (l : Line). l.problem) (flat_map (λ (r : List Line). r) x)) h
        ∙ (ap (λ (x : List Line). map {B = ProblemDraft} (λ (l : Line). l.problem) x) (lines-decided q w a.revisions) ∙ problems-same q w (flat_map (λ (r : List Line). r) a.revisions))

pub posted-last : (es : List PlainEntry) (e : PlainEntry) (v : Verdict) → verdict_posted e.call ≡ Some v → posted_in (es ++ e ∷ []) (length es) ≡ Some v
posted-last [] e v h = h
posted-last (x ∷ es) e v h = posted-last es e v h

-- verdicts after it
pub decided-here : (s t : State) (p : ProblemDraft) (v : Verdict) → t.revisions ≡ decided p v s.revisions → list_any (λ m. same_problem m.problem p) (flat_map (λ r. r) s.revisions) ≡ true → verdict_of t p ≡ Some v
decided-here s t p v e h = ap (λ (x : List (List Line)). verdict_in (flat_map (λ (r : List Line). r) x) p) e ∙ (ap (λ (x : List Line). verdict_in x p) (lines-decided p v s.revisions) ∙ verdict-decided-here p v (flat_map (λ r. r) s.revisions) h)

pub decided-other : (s t : State) (p : ProblemDraft) (v : Verdict) (q : ProblemDraft) → t.revisions ≡ decided p v s.revisions → (q ≡ p → ⊥) → verdict_of t q ≡ verdict_of s q
decided-other s t p v q e n = ap (λ (x : List (List Line)). verdict_in (flat_map (λ (r : List Line). r) x) q) e ∙ (ap (λ (x : List Line). verdict_in x q) (lines-decided p v s.revisions) ∙ verdict-decided-other p v q (flat_map (λ r. r) s.revisions) n)

within : (rows : List Row) (n : ℕ) (r : Row) → slice_get rows n ≡ Some r → n < length rows
within [] n r h = cc
within (x ∷ rs) zero r h = omega arith
within (x ∷ rs) (suc n) r h = let i = within rs n r h in omega (arith, i)

-- the table after it
pub table-decided : (s t : State) (es : List PlainEntry) (e : PlainEntry) (rows : List Row) (n : ℕ) (v : Verdict) → t.revisions ≡ decided (problem_at rows n) v s.revisions → verdict_posted e.call ≡ Some v → n < length rows
    → IsTable s es rows → IsTable t (es ++ e ∷ []) (changed rows n (kept (length es)))
table-decided s t es e rows n v q w few k =
    let p = problem_at rows n in
    let l = length-changed rows n (kept (length es)) in
    let posted = posted-last es e v w in
    record {
      problems = problems-changed rows n (kept (length es)) ∙ (k.problems ∙ sym (ap (λ (x : List ProblemDraft). different x)
          (ap (λ (x : List (List Line)). map {B = ProblemDraft} (λ (m : Line). m.problem) (flat_map (λ (r : List Line). r) x)) q
          ∙ (ap (λ (x : List Line). map {B = ProblemDraft} (λ (m : Line). m.problem) x) (lines-decided p v s.revisions) ∙ problems-same p v (flat_map (λ (r : List Line). r) s.revisions)))));
      each = each-to (IsRow t (es ++ e ∷ [])) (changed rows n (kept (length es)))
          (each-changed (IsRow s es) (IsRow t (es ++ e ∷ [])) rows n (kept (length es)) (each-from (IsRow s es) rows k.each)
          (λ m r d h i. row-carry s t es e r (decided-other s t p v r.0.value q (λ x. d (same-row m r h x))) i)
          (λ r h i. record {
            handle = i.handle;
            posted = ap (λ (o : Option Verdict). is_some o) posted;
            verdict = posted ∙ sym (ap (λ (x : ProblemDraft). verdict_of t x) (sym (value r h)) ∙ decided-here s t p v q (is-there s es rows n k few));
          }));
      few_rows = omega (arith, l, k.few_rows);
    }
  where
    value : (r : Row) → slice_get rows n ≡ Some r → problem_at rows n ≡ r.0.value
    value r h = ap (λ (o : Option Row). option_map_or (λ (x : Row). x.0.value) o nothing) h

    same-row : (m : ℕ) (r : Row) → slice_get rows m ≡ Some r → r.0.value ≡ problem_at rows n → n ≡ m
    same-row m r h x =
        let a = sym (same-number rows n m (table-apart s es rows k) few (within rows m r h)) ∙ same-itself (problem_at rows n) (problem_at rows m) (sym x ∙ sym (ap (λ (o : Option Row). option_map_or (λ (y : Row). y.0.value) o nothing) h)) in
        grind (arith, nat_tests, a)

still-taken : (rows : List Row) (n k m : ℕ) → row_passes is_free_row rows m ≡ false → row_passes is_free_row (changed rows n (kept k)) m ≡ false
still-taken [] n k m h = h
still-taken (r ∷ rs) zero k zero h = refl
still-taken (r ∷ rs) zero k (suc m) h = h
still-taken (r ∷ rs) (suc n) k zero h = h
still-taken (r ∷ rs) (suc n) k (suc m) h = still-taken rs n k m h

now-taken : (rows : List Row) (n k : ℕ) → row_passes is_free_row (changed rows n (kept k)) n ≡ false
now-taken [] n k = refl
now-taken (r ∷ rs) zero k = refl
now-taken (r ∷ rs) (suc n) k = now-taken rs n k

decided-taken : (o : Option Row) → option_map_or (λ r. is_some r.1.verdict) o false ≡ true → option_map_or is_free_row o false ≡ false
decided-taken None h = refl
decided-taken (Some r) h = go r.1.verdict h
  where
    go : (v : Option ℕ) → is_some v ≡ true → (is_none v && is_some r.1.handle) ≡ false
    go None k = absurd (false≢true k)
    go (Some n) k = refl

other-back : (b : Bool) (rows : List Row) (n : ℕ) (h : Handle) (m : ℕ) → (n ≡ m → ⊥) → slice_get (put_back b rows n h) m ≡ slice_get rows m
other-back true rows n h m d = ap (λ (x : List Row). slice_get x m) (with-changed rows n (returned h)) ∙ other-changed rows n (returned h) m d
other-back false rows n h m d = refl

-- the rows after a post
abbrev pub after_rows : Bool → List Row → ℕ → ℕ → List Row
after_rows b rows n k = if b then rows else changed rows n (kept k)

taken-here : (b : Bool) (rows : List Row) (n k : ℕ) → is_decided_row rows n ≡ b → row_passes is_free_row (after_rows b rows n k) n ≡ false
taken-here true rows n k e = decided-taken (slice_get rows n) e
taken-here false rows n k e = now-taken rows n k

taken-other : (b : Bool) (rows : List Row) (n k m : ℕ) → row_passes is_free_row rows m ≡ false → row_passes is_free_row (after_rows b rows n k) m ≡ false
taken-other true rows n k m h = h
taken-other false rows n k m h = still-taken rows n k m h

test-apart : (n m : ℕ) → (n == m) ≡ false → n ≡ m → ⊥
test-apart n m h e = grind (arith, nat_tests, h, e)

taken-one : (b c : Bool) (rows : List Row) (n : ℕ) (h : Handle) (k : ℕ) → is_decided_row (put_back c rows n h) n ≡ b → (m : ℕ) → row_passes is_free_row rows m ≡ false → row_passes is_free_row (after_rows b (put_back c rows n h) n k) m ≡ false
taken-one b c rows n h k e m f = go (n == m) refl
  where
    go : (d : Bool) → (n == m) ≡ d → row_passes is_free_row (after_rows b (put_back c rows n h) n k) m ≡ false
    go true t =
        let same : n ≡ m = grind (arith, nat_tests, t) in
        subst (λ (i : ℕ). row_passes is_free_row (after_rows b (put_back c rows n h) n k) i ≡ false) same (taken-here b (put_back c rows n h) n k e)
    go false t =
        let differ = test-apart n m t in
        taken-other b (put_back c rows n h) n k m (ap (λ (o : Option Row). option_map_or is_free_row o false) (other-back c rows n h m differ) ∙ f)

pub taken-posted : (b c : Bool) (rows : List Row) (n : ℕ) (h : Handle) (k : ℕ) (xs : List ℕ) → is_decided_row (put_back c rows n h) n ≡ b → AreTaken rows xs → AreTaken (after_rows b (put_back c rows n h) n k) xs
taken-posted b c rows n h k xs e f = each-to (λ m. row_passes is_free_row (after_rows b (put_back c rows n h) n k) m ≡ false) xs
    (each-same (λ m. row_passes is_free_row rows m ≡ false) (λ m. row_passes is_free_row (after_rows b (put_back c rows n h) n k) m ≡ false) xs (λ m g. taken-one b c rows n h k e m g) (each-from (λ m. row_passes is_free_row rows m ≡ false) xs f))

-- the claims that are out don't see a verdict
live-kept : (c : ℕ → Bool) (rows : List Row) (n k m : ℕ) (r : Row) → ((i : ℕ) (q : Row) → slice_get rows i ≡ Some q → c i ≡ is_none q.1.handle) → slice_get (changed rows n (kept k)) m ≡ Some r → c m ≡ is_none r.1.handle
live-kept c [] n k m r f e = cc
live-kept c (x ∷ rs) zero k zero r f e = f 0 x refl ∙ ap (λ (o : Option Row). option_map_or (λ (y : Row). is_none y.1.handle) o false) e
live-kept c (x ∷ rs) zero k (suc m) r f e = f (suc m) r e
live-kept c (x ∷ rs) (suc n) k zero r f e = f 0 r e
live-kept c (x ∷ rs) (suc n) k (suc m) r f e = live-kept (λ i. c (suc i)) rs n k m r (λ i q d. f (suc i) q d) e

outs-kept : (t : State) (rows : List Row) (n k : ℕ) (outs : List Out) → AreOut t rows outs → AreOut t (changed rows n (kept k)) outs
outs-kept t rows n k outs o =
    let l = length-changed rows n (kept k) in
    record {
      tickets = o.tickets ∙ sym (tickets-changed rows n (kept k) outs);
      numbered = each-to (λ x. x.problem < length (changed rows n (kept k))) outs (each-same (λ x. x.problem < length rows) (λ x. x.problem < length (changed rows n (kept k))) outs (λ x j. omega (arith, j, l)) (each-from (λ x. x.problem < length rows) outs o.numbered));
      live = λ m r e. live-kept (λ i. is_claimed outs i) rows n k m r o.live e;
    }

pub outs-after : (b : Bool) (t : State) (rows : List Row) (n k : ℕ) (outs : List Out) → AreOut t rows outs → AreOut t (after_rows b rows n k) outs
outs-after true t rows n k outs o = o
outs-after false t rows n k outs o = outs-kept t rows n k outs o

verdict-line : (s t : State) (p : ProblemDraft) (v : Verdict) → t.revisions ≡ decided p v s.revisions → list_any (λ m. same_problem m.problem p) (flat_map (λ r. r) s.revisions) ≡ true
    → (l : Line) → l.verdict ≡ verdict_of s l.problem → (decided_line p v l).verdict ≡ verdict_of t (decided_line p v l).problem
verdict-line s t p v q there l h =
    let N : Line → Type 0 = λ (m : Line). m.verdict ≡ verdict_of t m.problem in
    by-same l.problem p
    (λ e. subst N (sym (line-is p v l (same-itself l.problem p e))) (sym (ap (λ (x : ProblemDraft). verdict_of t x) e ∙ decided-here s t p v q there)))
    (λ e. subst N (sym (line-stays p v l e)) (h ∙ sym (decided-other s t p v l.problem q (λ f. false≢true (sym e ∙ same-itself l.problem p f)))))

last-decided : (s t : State) (es : List PlainEntry) (e : PlainEntry) (rows : List Row) (n k : ℕ) (v : Verdict) (numbers : List ℕ) (at : ℕ) → t.revisions ≡ decided (problem_at rows n) v s.revisions → list_of e.call ≡ []
    → list_any (λ m. same_problem m.problem (problem_at rows n)) (flat_map (λ r. r) s.revisions) ≡ true → IsLast s es rows numbers at 0 → IsLast t (es ++ e ∷ []) (changed rows n (kept k)) numbers at 0
last-decided s t es e rows n k v numbers at q none there i =
    let p = problem_at rows n in
    let l = length-changed rows n (kept k) in
    let ls : lines t ≡ map (decided_line (problem_at rows n) v) (lines s) = ap (λ (x : List (List Line)). unwrap_or (last x) []) q ∙ lines-same (problem_at rows n) v s.revisions in
    record {
      problems = listed-changed rows n (kept k) numbers ∙ (i.problems ∙ sym (ap (λ (x : List Line). map {B = ProblemDraft} (λ (m : Line). m.problem) x) ls ∙ problems-same p v (lines s)));
      numbered = each-to (λ m. m < length (changed rows n (kept k))) numbers (each-same (λ m. m < length rows) (λ m. m < length (changed rows n (kept k))) numbers (λ m j. omega (arith, j, l)) (each-from (λ m. m < length rows) numbers i.numbered));
      few = i.few;
      listed = listed-grows es e at none ∙ (i.listed ∙ sym (ap (λ (x : List Line). map {B = Key × ProblemDraft} (λ (m : Line). (m.key, m.problem)) x) ls ∙ pairs-same p v (lines s)));
      verdicts = subst (λ (x : List Line). All (λ (m : Line). m.verdict ≡ verdict_of t m.problem) x) (sym ls)
          (each-to (λ (m : Line). m.verdict ≡ verdict_of t m.problem) (map (decided_line p v) (lines s))
          (each-map (λ (m : Line). m.verdict ≡ verdict_of t m.problem) (decided_line p v) (lines s)
          (each-same (λ (m : Line). m.verdict ≡ verdict_of s m.problem) (λ (m : Line). (decided_line p v m).verdict ≡ verdict_of t (decided_line p v m).problem) (lines s) (λ m h. verdict-line s t p v q there m h) (each-from (λ (m : Line). m.verdict ≡ verdict_of s m.problem) (lines s) i.verdicts))));
      within = omega arith;
      taken = each-to (λ m. row_passes is_free_row (changed rows n (kept k)) m ≡ false) (take 0 numbers) (none-yet (λ m. row_passes is_free_row (changed rows n (kept k)) m ≡ false) numbers);
    }
  where
    none-yet : (P : ℕ → Type 0) (xs : List ℕ) → Each P (take 0 xs)
    none-yet P [] = tt
    none-yet P (x ∷ xs) = tt

pub with-next : (s : State) (es : List PlainEntry) (rows : List Row) (numbers : List ℕ) (at next : ℕ) → IsLast s es rows numbers at 0 → next ≤ length numbers → AreTaken rows (take next numbers) → IsLast s es rows numbers at next
with-next s es rows numbers at next k w t = record { problems = k.problems; numbered = k.numbered; few = k.few; listed = k.listed; verdicts = k.verdicts; within = w; taken = t }

sized-same : (s t : State) (revisions pairs parts : ℕ) → t.revisions ≡ s.revisions → IsSized s revisions pairs parts → IsSized t revisions pairs parts
sized-same s t revisions pairs parts e k =
    record {
      all_revisions = ap (λ (x : List (List Line)). length x) e ∙ k.all_revisions;
      few_revisions = k.few_revisions;
      all_pairs = ap (λ (x : List (List Line)). sum_by length x) e ∙ k.all_pairs;
      few_pairs = k.few_pairs;
      all_parts = ap (λ (x : List (List Line)). parts_of (map {B = ProblemDraft} (λ (l : Line). l.problem) (flat_map (λ (r : List Line). r) x))) e ∙ k.all_parts;
      few_parts = k.few_parts;
    }

-- what a post leaves of revisions, table and last list
pub record Kept (s t : State) (es : List PlainEntry) (e : PlainEntry) (rows : List Row) (numbers : List ℕ) (at revisions pairs parts : ℕ) : Type 0 where
  pub sized : IsSized t revisions pairs parts
  pub table : IsTable t (es ++ e ∷ []) rows
  pub lines_kept : IsLast t (es ++ e ∷ []) rows numbers at 0

pub keeps : (b : Bool) (s t : State) (es : List PlainEntry) (e : PlainEntry) (rows : List Row) (n : ℕ) (v : Verdict) (numbers : List ℕ) (at revisions pairs parts : ℕ) → t.revisions ≡ (if b then s.revisions else decided (problem_at rows n) v s.revisions)
    → list_of e.call ≡ [] → verdict_posted e.call ≡ Some v → n < length rows → IsSized s revisions pairs parts → IsTable s es rows → IsLast s es rows numbers at 0
    → Kept s t es e (after_rows b rows n (length es)) numbers at revisions pairs parts
keeps true s t es e rows n v numbers at revisions pairs parts q none w few z k i =
    record {
      sized = sized-same s t revisions pairs parts q z;
      table = table-carry s t es e rows q k;
      lines_kept = last-carry s t es e rows numbers at 0 q none i;
    }
keeps false s t es e rows n v numbers at revisions pairs parts q none w few z k i =
    record {
      sized = sized-decided s t (problem_at rows n) v revisions pairs parts q z;
      table = table-decided s t es e rows n v q w few k;
      lines_kept = last-decided s t es e rows n (length es) v numbers at q none (is-there s es rows n k few) i;
    }
