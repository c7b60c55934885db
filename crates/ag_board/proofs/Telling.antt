-- The verdicts of the last revision's keys, as the table tells them.
use Rattle.std.proofs.Common.{◌≡◌, ◌∙◌, ◌+◌, ◌<◌, ◌==◌, ◌++◌, ◌∷◌, [], ℕ, zero, suc, Bool, true, false, cond, List, length, map, Option, Some, None, refl, sym, ap, arith, subst, take, Global}
use Rattle.std.proofs.lemmas.Bool.{false≢true}
use Rattle.std.proofs.lemmas.Bool.Decides.{nat_tests}
use Rattle.std.proofs.lemmas.List.{take_more, length-map}
use Rattle.std.proofs.lemmas.Option.{slice_get_within, get_or_from_slice_get}
use Rattle.std.proofs.lemmas.List.Sums.{sum_by-cons}
use Rattle.std.specs.Prelude.{slice_get, option_and_then, count_by, IfSome, IsSome, is_some, is_none, if◌then◌else◌}
use Rattle.std.specs.declared.sync.Arc.{Arc}
use Rattle.ag_stream.specs.declared.problem.Problem.{Problem}
use Rattle.ag_stream.specs.declared.problem.ProblemDraft.{ProblemDraft}
use Rattle.ag_verdict.specs.declared.verdict.Verdict.{Verdict}
use Rattle.ag_verdict.specs.declared.key.Key.{Key}
use Rattle.ag_board.specs.Entries.{plain_list, PlainEntry, close, closed, still_open}
use Rattle.ag_board.specs.Machine.{State, Line, verdict_of, lines, is_undecided, undecided, passes, count_of, is_proved, is_refuted, is_consistent, is_inconsistent, is_unknown, tally, after, reply_of}
use Rattle.ag_board.specs.Notes.{posted_in, listed_in}
use Rattle.ag_board.specs.Inside.{Row, problem_at, verdict_at, is_open_row, row_passes, is_decided_row, count_in, tally_in, IsRow, IsTable, IsLast}
use Rattle.ag_board.proofs.Verdicts.{Each, each-from}

-- what holds of each row holds of the one with a number
pub row-at : (s : State) (es : List PlainEntry) (rows : List Row) (n : ℕ) (r : Row) → Each (IsRow s es) rows → slice_get rows n ≡ Some r → IsRow s es r
row-at s es [] n r k h = absurd (false≢true (ap (λ (o : Option Row). is_some o) h))
row-at s es (x ∷ rs) zero r k h =
    let P : Row → Type 0 = λ y. IsRow s es y in
    let same : x ≡ r = cc in
    subst P same k.0
row-at s es (x ∷ rs) (suc n) r k h = row-at s es rs n r k.1 h

-- the verdict of a row is the state's
pub verdict-row : (s : State) (es : List PlainEntry) (rows : List Row) (n : ℕ) → Each (IsRow s es) rows → n < length rows → verdict_at es rows n ≡ verdict_of s (problem_at rows n)
verdict-row s es [] n k h = absurd (omega arith)
verdict-row s es (r ∷ rs) zero k h = k.0.verdict
verdict-row s es (r ∷ rs) (suc n) k h = verdict-row s es rs n k.1 (omega arith)

-- a row has a verdict where it names an entry
some-posted : (es : List PlainEntry) (o : Option ℕ) → IfSome o (λ n. IsSome (posted_in es n)) → is_some o ≡ is_some (option_and_then (posted_in es) o)
some-posted es None h = refl
some-posted es (Some n) h = sym h

none-posted : (es : List PlainEntry) (o : Option ℕ) → IfSome o (λ n. IsSome (posted_in es n)) → is_none o ≡ is_none (option_and_then (posted_in es) o)
none-posted es None h = refl
none-posted es (Some n) h = none-some (posted_in es n) h
  where
    none-some : (v : Option Verdict) → IsSome v → false ≡ is_none v
    none-some None g = absurd (false≢true g)
    none-some (Some v) g = refl

pub row-open : (s : State) (es : List PlainEntry) (r : Row) → IsRow s es r → is_open_row r ≡ is_none (verdict_of s r.0.value)
row-open s es r k = none-posted es r.1.verdict k.posted ∙ ap (λ (v : Option Verdict). is_none v) k.verdict

pub open-row : (s : State) (es : List PlainEntry) (rows : List Row) (n : ℕ) → Each (IsRow s es) rows → n < length rows → row_passes is_open_row rows n ≡ is_none (verdict_of s (problem_at rows n))
open-row s es [] n k h = absurd (omega arith)
open-row s es (r ∷ rs) zero k h = row-open s es r k.0
open-row s es (r ∷ rs) (suc n) k h = open-row s es rs n k.1 (omega arith)

pub decided-row : (s : State) (es : List PlainEntry) (rows : List Row) (n : ℕ) → Each (IsRow s es) rows → n < length rows → is_decided_row rows n ≡ is_some (verdict_of s (problem_at rows n))
decided-row s es [] n k h = absurd (omega arith)
decided-row s es (r ∷ rs) zero k h = some-posted es r.1.verdict k.0.posted ∙ ap (λ (v : Option Verdict). is_some v) k.0.verdict
decided-row s es (r ∷ rs) (suc n) k h = decided-row s es rs n k.1 (omega arith)

-- the lines of the last revision, beside the numbers of their problems
abbrev pub AreBeside : State → List Row → List ℕ → List Line → Type 0
AreBeside s rows [] [] = Unit {0}
AreBeside s rows [] (l ∷ ls) = ⊥
AreBeside s rows (n ∷ ns) [] = ⊥
AreBeside s rows (n ∷ ns) (l ∷ ls) = (n < length rows) × (problem_at rows n ≡ l.problem) × (l.verdict ≡ verdict_of s l.problem) × AreBeside s rows ns ls

beside : (s : State) (rows : List Row) (ns : List ℕ) (ls : List Line) → map {B = ProblemDraft} (problem_at rows) ns ≡ map {B = ProblemDraft} (λ l. l.problem) ls
    → Each (λ n. n < length rows) ns → Each (λ l. l.verdict ≡ verdict_of s l.problem) ls → AreBeside s rows ns ls
beside s rows [] [] e a b = tt
beside s rows [] (l ∷ ls) e a b = cc
beside s rows (n ∷ ns) [] e a b = cc
beside s rows (n ∷ ns) (l ∷ ls) e a b = (a.0, cc, b.0, beside s rows ns ls (cc) a.1 b.1)

pub last-beside : (s : State) (es : List PlainEntry) (rows : List Row) (numbers : List ℕ) (at next : ℕ) → IsLast s es rows numbers at next → AreBeside s rows numbers (lines s)
last-beside s es rows numbers at next k = beside s rows numbers (lines s) k.problems (each-from (λ n. n < length rows) numbers k.numbered) (each-from (λ l. l.verdict ≡ verdict_of s l.problem) (lines s) k.verdicts)

-- the verdict at a number is the one of its line
pub verdict-beside : (s : State) (es : List PlainEntry) (rows : List Row) (n : ℕ) (l : Line) → Each (IsRow s es) rows → n < length rows → problem_at rows n ≡ l.problem → l.verdict ≡ verdict_of s l.problem
    → verdict_at es rows n ≡ l.verdict
verdict-beside s es rows n l k h p v = verdict-row s es rows n k h ∙ (ap (λ (q : ProblemDraft). verdict_of s q) p ∙ sym v)

pub verdicts-beside : (s : State) (es : List PlainEntry) (rows : List Row) (ns : List ℕ) (ls : List Line) → Each (IsRow s es) rows → AreBeside s rows ns ls
    → map (verdict_at es rows) ns ≡ map {B = Option Verdict} (λ l. l.verdict) ls
verdicts-beside s es rows [] [] k b = refl
verdicts-beside s es rows [] (l ∷ ls) k b = absurd b
verdicts-beside s es rows (n ∷ ns) [] k b = absurd b
verdicts-beside s es rows (n ∷ ns) (l ∷ ls) k b =
    let h = verdict-beside s es rows n l k b.0 b.1 b.2 in
    let t = verdicts-beside s es rows ns ls k b.3 in
    ap (λ (v : Option Verdict). v ∷ map (verdict_at es rows) ns) h ∙ ap (λ (vs : List (Option Verdict)). l.verdict ∷ vs) t

pub count-cons : {A : Type 0} (p : A → Bool) (x : A) (xs : List A) → count_by p (x ∷ xs) ≡ cond (p x) 1 0 + count_by p xs
count-cons {A} p x xs = sum_by-cons (λ (y : A). cond (p y) 1 0) x xs

-- tests that agree beside one another count the same
pub undecided-beside : (s : State) (es : List PlainEntry) (rows : List Row) (ns : List ℕ) (ls : List Line) → Each (IsRow s es) rows → AreBeside s rows ns ls
    → count_by (row_passes is_open_row rows) ns ≡ count_by is_undecided ls
undecided-beside s es rows [] [] k b = refl
undecided-beside s es rows [] (l ∷ ls) k b = absurd b
undecided-beside s es rows (n ∷ ns) [] k b = absurd b
undecided-beside s es rows (n ∷ ns) (l ∷ ls) k b =
    let h : row_passes is_open_row rows n ≡ is_undecided l = open-row s es rows n k b.0 ∙ ap (λ (v : Option Verdict). is_none v) (ap (λ (q : ProblemDraft). verdict_of s q) b.1 ∙ sym b.2) in
    let t = undecided-beside s es rows ns ls k b.3 in
    count-cons (row_passes is_open_row rows) n ns
    ∙ (ap (λ (x : Bool). cond x 1 0 + count_by (row_passes is_open_row rows) ns) h ∙ (ap (λ (x : ℕ). cond (is_undecided l) 1 0 + x) t ∙ sym (count-cons is_undecided l ls)))

pub undecided-told : (s : State) (es : List PlainEntry) (rows : List Row) (numbers : List ℕ) (at next : ℕ) → IsTable s es rows → IsLast s es rows numbers at next
    → count_by (row_passes is_open_row rows) numbers ≡ undecided s
undecided-told s es rows numbers at next t k = undecided-beside s es rows numbers (lines s) (each-from (IsRow s es) rows t.each) (last-beside s es rows numbers at next k)

count-lines : (test : Verdict → Bool) (ls : List Line) → count_in test (map {B = Option Verdict} (λ l. l.verdict) ls) ≡ count_of test ls
count-lines test [] = refl
count-lines test (l ∷ ls) =
    count-cons (passes test) l.verdict (map {B = Option Verdict} (λ (m : Line). m.verdict) ls)
    ∙ (ap (λ (x : ℕ). cond (passes test l.verdict) 1 0 + x) (count-lines test ls) ∙ sym (count-cons (λ (m : Line). passes test m.verdict) l ls))

tally-lines : (s : State) → tally_in (length s.revisions) (map {B = Option Verdict} (λ l. l.verdict) (lines s)) ≡ tally s
tally-lines s =
    rw (count-lines is_proved (lines s), count-lines is_refuted (lines s), count-lines is_consistent (lines s), count-lines is_inconsistent (lines s), count-lines is_unknown (lines s)) refl

pub tally-told : (s : State) (es : List PlainEntry) (rows : List Row) (numbers : List ℕ) (at next : ℕ) → IsTable s es rows → IsLast s es rows numbers at next
    → tally_in (length s.revisions) (map (verdict_at es rows) numbers) ≡ tally s
tally-told s es rows numbers at next t k =
    ap (λ (vs : List (Option Verdict)). tally_in (length s.revisions) vs) (verdicts-beside s es rows numbers (lines s) (each-from (IsRow s es) rows t.each) (last-beside s es rows numbers at next k)) ∙ tally-lines s

-- a close that finds undecided keys, and one that finds none

test-zero : (n : ℕ) → 0 < n → (n == 0) ≡ false
test-zero n h = grind (arith, nat_tests)

pub close-open : (s : State) (seat n : ℕ) → n ≡ undecided s → 0 < n → (after s seat close ≡ s) × (reply_of s close ≡ still_open n)
close-open s seat n e h =
    let b = test-zero (undecided s) (omega (arith, e, h)) in (
      ap (λ (x : Bool). if x then record s { is_closed = true } else s) b,
      ap (λ (x : Bool). if x then closed (tally s) else still_open (undecided s)) b ∙ ap (λ (x : ℕ). still_open x) (sym e),
    )

pub close-done : (s : State) (seat : ℕ) → undecided s ≡ 0 → (after s seat close ≡ record s { is_closed = true }) × (reply_of s close ≡ closed (tally s))
close-done s seat e =
    let b = ap (λ (x : ℕ). x == 0) e in (
      ap (λ (x : Bool). if x then record s { is_closed = true } else s) b,
      ap (λ (x : Bool). if x then closed (tally s) else still_open (undecided s)) b,
    )

-- a report's lines, one by one

abbrev pub line_told : Line → Key × Option Verdict
line_told l = (l.key, l.verdict)

abbrev pair : Key → Option Verdict → Option (Key × Option Verdict)
pair a b = Some (a, b)

no-item : {A : Type 0} (x : A) (T : Type 0) → None ≡ Some x → T
no-item {A} x T h = absurd (false≢true (ap (λ (o : Option A). is_some o) h))

pub lines-told : (f : ℕ → Option Verdict) (keys : List (Key × Arc Problem Global)) (ns : List ℕ) (ls : List Line) (place n : ℕ) (k : Key × Arc Problem Global)
    → plain_list keys ≡ map {B = Key × ProblemDraft} (λ l. (l.key, l.problem)) ls → map f ns ≡ map {B = Option Verdict} (λ l. l.verdict) ls
    → slice_get keys place ≡ Some k → slice_get ns place ≡ Some n → slice_get (map {B = Key × Option Verdict} line_told ls) place ≡ Some (k.0, f n)
lines-told f [] ns ls place n k a b x y = no-item k _ x
lines-told f (j ∷ js) [] ls place n k a b x y = no-item n _ y
lines-told f (j ∷ js) (m ∷ ms) [] place n k a b x y = cc
lines-told f (j ∷ js) (m ∷ ms) (l ∷ ls) zero n k a b x y =
    let h : ◌≡◌ {A = Key × ProblemDraft} (j.0, j.1.value) (l.key, l.problem) = cc in
    let v : f m ≡ l.verdict = cc in
    let same : j ≡ k = cc in
    let number : m ≡ n = cc in
    let key = sym (ap (λ (w : Key × ProblemDraft). w.0) h) ∙ ap (λ (w : Key × Arc Problem Global). w.0) same in
    let verdict = sym v ∙ ap f number in
    ap (λ (w : Key). pair w l.verdict) key ∙ ap (λ (w : Option Verdict). pair k.0 w) verdict
lines-told f (j ∷ js) (m ∷ ms) (l ∷ ls) (suc place) n k a b x y = lines-told f js ms ls place n k (cc) (cc) x y

-- the line at a place, by the key there and the number of its problem
pub line-told : (s : State) (es : List PlainEntry) (rows : List Row) (numbers : List ℕ) (at next : ℕ) (keys : List (Key × Arc Problem Global)) (place n : ℕ) (k : Key × Arc Problem Global)
    → IsTable s es rows → IsLast s es rows numbers at next → plain_list keys ≡ listed_in es at → slice_get keys place ≡ Some k → slice_get numbers place ≡ Some n
    → slice_get (map {B = Key × Option Verdict} line_told (lines s)) place ≡ Some (k.0, verdict_at es rows n)
line-told s es rows numbers at next keys place n k t h e x y =
    lines-told (verdict_at es rows) keys numbers (lines s) place n k (e ∙ h.listed) (verdicts-beside s es rows numbers (lines s) (each-from (IsRow s es) rows t.each) (last-beside s es rows numbers at next h)) x y

pub take-step : {A : Type 0} (xs : List A) (i : ℕ) (x : A) → slice_get xs i ≡ Some x → take (i + 1) xs ≡ take i xs ++ x ∷ []
take-step {A} xs i x h = take_more xs i x (slice_get_within xs i x h) ∙ ap (λ (y : A). take i xs ++ y ∷ []) (get_or_from_slice_get xs i x x h)

pub keys-long : (s : State) (es : List PlainEntry) (rows : List Row) (numbers : List ℕ) (at next : ℕ) (keys : List (Key × Arc Problem Global)) → IsLast s es rows numbers at next → plain_list keys ≡ listed_in es at → length keys ≡ length numbers
keys-long s es rows numbers at next keys h e =
    let a = ap (λ (x : List (Key × ProblemDraft)). length x) (e ∙ h.listed) in
    let b = ap (λ (x : List ProblemDraft). length x) h.problems in
    let k = length-map {B = Key × ProblemDraft} keys (λ (j : Key × Arc Problem Global). (j.0, j.1.value)) in
    let l = length-map {B = Key × ProblemDraft} (lines s) (λ (j : Line). (j.key, j.problem)) in
    let m = length-map {B = ProblemDraft} numbers (problem_at rows) in
    let n = length-map {B = ProblemDraft} (lines s) (λ (j : Line). j.problem) in
    omega (arith, a, b, k, l, m, n)

-- what the code counts is the machine's number
pub undecided-seen : (s : State) (es : List PlainEntry) (rows : List Row) (numbers slice : List ℕ) (at next n : ℕ) → n ≡ count_by (row_passes is_open_row rows) slice → slice ≡ numbers
    → IsTable s es rows → IsLast s es rows numbers at next → n ≡ undecided s
undecided-seen s es rows numbers slice at next n e v t k = e ∙ (ap (λ (ns : List ℕ). count_by (row_passes is_open_row rows) ns) v ∙ undecided-told s es rows numbers at next t k)
