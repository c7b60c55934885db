-- Which key a claim hands out: the machine's is the one that the table finds.
use Rattle.std.proofs.Common.{◌≡◌, ◌∙◌, ◌+◌, ◌-◌, ◌<◌, ◌≤◌, ◌==◌, ◌&&◌, ◌||◌, ◌++◌, ◌∷◌, [], ℕ, zero, suc, Bool, true, false, not, cond, List, length, get_or, map, Option, Some, None, refl, sym, ap, arith, subst, take, drop, length-drop}
use Rattle.std.proofs.lemmas.Bool.{false≢true}
use Rattle.std.proofs.lemmas.Bool.Decides.{nat_tests}
use Rattle.std.proofs.lemmas.List.{length-map}
use Rattle.std.proofs.lemmas.List.Folds.{find_at, list_any-append}
use Rattle.std.proofs.lemmas.Option.{cond_some, slice_get_past, get_or_from_slice_get}
use Rattle.std.proofs.lemmas.List.Sums.{passes_at_first}
use Rattle.std.specs.Prelude.{All, slice_get, find, position, nat_lt, is_some, is_none, if◌then◌else◌}
use Rattle.std.specs.Option.{option_map_or}
use Rattle.std.specs.List.{list_any, position_or_len, prefix_len}
use Rattle.ag_stream.specs.declared.problem.ProblemDraft.{ProblemDraft}
use Rattle.ag_verdict.specs.declared.verdict.Verdict.{Verdict}
use Rattle.ag_board.specs.declared.slot.Out.{Out}
use Rattle.ag_board.specs.Entries.{PlainEntry, work, busy, settled, over}
use Rattle.ag_board.specs.Machine.{State, Line, Ticket, same_problem, verdict_of, lines, is_free, is_over, undecided, claim_ticket, claim_found, claim_reply, after_found, after_claim}
use Rattle.ag_board.specs.Store.{problems_of}
use Rattle.ag_board.specs.Inside.{Row, find_place, with_problem, with_problems, different, problems_in, problem_at, is_open_row, is_free_row, row_passes, ticket_at, is_claimed, IsRow, IsTable, AreOut, IsLast, IsMarked}
use Rattle.ag_board.proofs.Verdicts.{same-itself, not-same, Each, each-from}
use Rattle.ag_board.proofs.Telling.{AreBeside, last-beside, open-row}

-- the first place that passes, and the first item

pub position-found : {A : Type 0} (p : A → Bool) (xs : List A) (n : ℕ) → position p xs ≡ Some n → find p xs ≡ slice_get xs n
position-found p xs n h = find_at p xs ∙ ap (λ (k : ℕ). slice_get xs k) (cond_some (nat_lt (position_or_len p xs) (length xs)) (position_or_len p xs) n h).1

no-place : (b : Bool) (n : ℕ) → cond b (Some n) None ≡ None → b ≡ false
no-place true n e = cc
no-place false n e = refl

pub position-none : {A : Type 0} (p : A → Bool) (xs : List A) → position p xs ≡ None → find p xs ≡ None
position-none p xs h =
    let n = no-place (nat_lt (position_or_len p xs) (length xs)) (position_or_len p xs) h in
    let past : length xs ≤ position_or_len p xs = grind (arith, n) in
    find_at p xs ∙ slice_get_past xs (position_or_len p xs) past

-- tests that agree one by one pass at the same place first

same-prefix : {A B : Type 0} (p : A → Bool) (q : B → Bool) (xs : List A) (ys : List B) → map p xs ≡ map q ys → prefix_len (λ x. not (p x)) xs ≡ prefix_len (λ y. not (q y)) ys
same-prefix p q [] [] h = refl
same-prefix p q [] (y ∷ ys) h = cc
same-prefix p q (x ∷ xs) [] h = cc
same-prefix {A} {B} p q (x ∷ xs) (y ∷ ys) h =
    let e : p x ≡ q y = cc in
    let t : map p xs ≡ map q ys = cc in
    ap (λ (b : Bool). cond (not b) (1 + prefix_len (λ (z : A). not (p z)) xs) 0) e ∙ ap (λ (n : ℕ). cond (not (q y)) (1 + n) 0) (same-prefix p q xs ys t)

pub same-position : {A B : Type 0} (p : A → Bool) (q : B → Bool) (xs : List A) (ys : List B) → map p xs ≡ map q ys → position p xs ≡ position q ys
same-position p q xs ys h =
    let n = same-prefix p q xs ys h in
    let a = ap (λ (bs : List Bool). length bs) h in
    let l : length xs ≡ length ys = omega (arith, a, length-map xs p, length-map ys q) in
    ap (λ (k : ℕ). cond (nat_lt k (length xs)) (Some k) None) n ∙ ap (λ (k : ℕ). cond (nat_lt (position_or_len q ys) k) (Some (position_or_len q ys)) None) l

-- the problems of a table are different

abbrev pub Apart : List ProblemDraft → Type 0
Apart [] = Unit {0}
Apart (p ∷ ps) = (list_any (same_problem p) ps ≡ false) × Apart ps

or-parts : (a b : Bool) → (a || b) ≡ false → (a ≡ false) × (b ≡ false)
or-parts true b h = absurd (false≢true (sym h))
or-parts false b h = (refl, h)

turned : (p q : ProblemDraft) → same_problem p q ≡ false → same_problem q p ≡ false
turned p q h = not-same q p (λ e. false≢true (sym h ∙ same-itself p q (sym e)))

apart-snoc : (ps : List ProblemDraft) (p : ProblemDraft) → list_any (same_problem p) ps ≡ false → Apart ps → Apart (ps ++ p ∷ [])
apart-snoc [] p h a = (refl, tt)
apart-snoc (q ∷ qs) p h a =
    let parts = or-parts (same_problem p q) (list_any (same_problem p) qs) h in
    let t = turned p q parts.0 in (
      list_any-append (same_problem q) qs (p ∷ []) ∙ (ap (λ (b : Bool). b || (same_problem q p || false)) a.0 ∙ ap (λ (b : Bool). b || false) t),
      apart-snoc qs p parts.1 a.1,
    )

apart-with : (ps : List ProblemDraft) (p : ProblemDraft) → Apart ps → Apart (with_problem ps p)
apart-with ps p a = go (list_any (same_problem p) ps) refl
  where
    go : (b : Bool) → list_any (same_problem p) ps ≡ b → Apart (if b then ps else ps ++ p ∷ [])
    go true e = a
    go false e = apart-snoc ps p e a

apart-fold : (qs ps : List ProblemDraft) → Apart qs → Apart (with_problems qs ps)
apart-fold qs [] a = a
apart-fold qs (p ∷ ps) a = apart-fold (with_problem qs p) ps (apart-with qs p a)

pub apart-different : (ps : List ProblemDraft) → Apart (different ps)
apart-different ps = apart-fold [] ps tt

pub table-apart : (s : State) (es : List PlainEntry) (rows : List Row) → IsTable s es rows → Apart (problems_in rows)
table-apart s es rows t = subst Apart (sym t.problems) (apart-different (problems_of s))

apart-at : (q : ProblemDraft) (rows : List Row) (n : ℕ) → list_any (same_problem q) (problems_in rows) ≡ false → n < length rows → same_problem q (problem_at rows n) ≡ false
apart-at q [] n h l = absurd (omega arith)
apart-at q (r ∷ rs) zero h l = (or-parts (same_problem q r.0.value) (list_any (same_problem q) (problems_in rs)) h).0
apart-at q (r ∷ rs) (suc n) h l = apart-at q rs n (or-parts (same_problem q r.0.value) (list_any (same_problem q) (problems_in rs)) h).1 (omega arith)

test-front : (n : ℕ) → false ≡ (0 == suc n)
test-front n = grind (arith, nat_tests)

test-back : (n : ℕ) → false ≡ (suc n == 0)
test-back n = grind (arith, nat_tests)

test-next : (m n : ℕ) → (m == n) ≡ (suc m == suc n)
test-next m n = grind (arith, nat_tests)

-- problems of a table are equal where their numbers are
pub same-number : (rows : List Row) (m n : ℕ) → Apart (problems_in rows) → m < length rows → n < length rows → same_problem (problem_at rows m) (problem_at rows n) ≡ (m == n)
same-number [] m n a h l = absurd (omega arith)
same-number (r ∷ rs) zero zero a h l = same-itself r.0.value r.0.value refl
same-number (r ∷ rs) zero (suc n) a h l = apart-at r.0.value rs n a.0 (omega arith) ∙ test-front n
same-number (r ∷ rs) (suc m) zero a h l = turned r.0.value (problem_at rs m) (apart-at r.0.value rs m a.0 (omega arith)) ∙ test-back m
same-number (r ∷ rs) (suc m) (suc n) a h l = same-number rs m n a.1 (omega arith) (omega arith) ∙ test-next m n

-- a live claim is out on the problem with a number where a live ticket has that problem
pub claimed-tickets : (rows : List Row) (outs : List Out) (n : ℕ) (p : ProblemDraft) → problem_at rows n ≡ p → Apart (problems_in rows) → n < length rows → Each (λ o. o.problem < length rows) outs
    → is_claimed outs n ≡ list_any (λ t. t.is_live && same_problem t.problem p) (map (ticket_at rows) outs)
claimed-tickets rows [] n p e a h k = refl
claimed-tickets rows (o ∷ os) n p e a h k =
    let same = sym (same-number rows o.problem n a k.0 h) ∙ ap (λ (q : ProblemDraft). same_problem (problem_at rows o.problem) q) e in
    ap (λ (b : Bool). (o.is_live && b) || is_claimed os n) same
    ∙ ap (λ (b : Bool). (o.is_live && same_problem (problem_at rows o.problem) p) || b) (claimed-tickets rows os n p e a h k.1)

some-not : {A : Type 0} (o : Option A) → is_some o ≡ not (is_none o)
some-not None = refl
some-not (Some x) = refl

-- a row is free where it is open and no live claim is out on it
pub free-row : (rows : List Row) (n : ℕ) (b : Bool) → ((r : Row) → slice_get rows n ≡ Some r → b ≡ is_none r.1.handle) → row_passes is_free_row rows n ≡ (row_passes is_open_row rows n && not b)
free-row rows n b f = go (slice_get rows n) f
  where
    go : (o : Option Row) → ((r : Row) → o ≡ Some r → b ≡ is_none r.1.handle) → option_map_or is_free_row o false ≡ (option_map_or is_open_row o false && not b)
    go None g = refl
    go (Some r) g = ap (λ (x : Bool). is_none r.1.verdict && x) (some-not r.1.handle ∙ ap (λ (x : Bool). not x) (sym (g r refl)))

free-beside : (s : State) (es : List PlainEntry) (rows : List Row) (outs : List Out) (n : ℕ) (l : Line) → IsTable s es rows → AreOut s rows outs
    → n < length rows → problem_at rows n ≡ l.problem → l.verdict ≡ verdict_of s l.problem → row_passes is_free_row rows n ≡ is_free s l
free-beside s es rows outs n l t k h p v =
    let c = claimed-tickets rows outs n l.problem p (table-apart s es rows t) h (each-from (λ o. o.problem < length rows) outs k.numbered)
    ∙ ap (λ (ts : List Ticket). list_any (λ (x : Ticket). x.is_live && same_problem x.problem l.problem) ts) (sym k.tickets) in
    let o = open-row s es rows n (each-from (IsRow s es) rows t.each) h ∙ ap (λ (x : Option Verdict). is_none x) (ap (λ (q : ProblemDraft). verdict_of s q) p ∙ sym v) in
    free-row rows n (is_claimed outs n) (k.live n)
    ∙ (ap (λ (b : Bool). b && not (is_claimed outs n)) o ∙ ap (λ (b : Bool). is_none l.verdict && not b) c)

frees-beside : (s : State) (es : List PlainEntry) (rows : List Row) (outs : List Out) (ns : List ℕ) (ls : List Line) → IsTable s es rows → AreOut s rows outs → AreBeside s rows ns ls
    → map (row_passes is_free_row rows) ns ≡ map (is_free s) ls
frees-beside s es rows outs [] [] t k b = refl
frees-beside s es rows outs [] (l ∷ ls) t k b = absurd b
frees-beside s es rows outs (n ∷ ns) [] t k b = absurd b
frees-beside s es rows outs (n ∷ ns) (l ∷ ls) t k b =
    ap (λ (x : Bool). x ∷ map (row_passes is_free_row rows) ns) (free-beside s es rows outs n l t k b.0 b.1 b.2)
    ∙ ap (λ (xs : List Bool). is_free s l ∷ xs) (frees-beside s es rows outs ns ls t k b.3)

-- the table finds the machine's place
pub place-found : (s : State) (es : List PlainEntry) (rows : List Row) (outs : List Out) (numbers : List ℕ) (at next : ℕ) → IsTable s es rows → AreOut s rows outs → IsLast s es rows numbers at next
    → position (row_passes is_free_row rows) numbers ≡ find_place s
place-found s es rows outs numbers at next t k h = same-position (row_passes is_free_row rows) (is_free s) numbers (lines s) (frees-beside s es rows outs numbers (lines s) t k (last-beside s es rows numbers at next h))

-- what a claim is answered, and what it leaves

pub is-open : (s : State) (claims : ℕ) (a b : Bool) → IsMarked s claims a b → a ≡ false → b ≡ false → is_over s ≡ false
is-open s claims a b k x y = ap (λ (c : Bool). c || s.is_stopped) (k.closed ∙ x) ∙ (k.stopped ∙ y)

pub some-at : {A : Type 0} (xs : List A) (n : ℕ) → n < length xs → (x : A) × (slice_get xs n ≡ Some x)
some-at [] n h = absurd (omega arith)
some-at (x ∷ xs) zero h = (x, refl)
some-at (x ∷ xs) (suc n) h = some-at xs n (omega arith)

-- the line that a claim hands out
pub record Found (s : State) (n : ℕ) : Type 0 where
  pub line : Line
  pub at : slice_get (lines s) n ≡ Some line
  pub found : find (is_free s) (lines s) ≡ Some line
  pub free : is_free s line ≡ true

pub found-at : (s : State) (n : ℕ) → find_place s ≡ Some n → Found s n
found-at s n h =
    let e = (cond_some (nat_lt (position_or_len (is_free s) (lines s)) (length (lines s))) (position_or_len (is_free s) (lines s)) n h).1 in
    let b = (cond_some (nat_lt (position_or_len (is_free s) (lines s)) (length (lines s))) (position_or_len (is_free s) (lines s)) n h).0 in
    let inside : position_or_len (is_free s) (lines s) < length (lines s) = grind (arith, b, nat_tests) in
    let l = some-at (lines s) n (omega (arith, inside, e)) in
    let same = ap (λ (k : ℕ). get_or (lines s) k l.0) e ∙ get_or_from_slice_get (lines s) n l.0 l.0 l.1 in
    record {
      line = l.0;
      at = l.1;
      found = position-found (is_free s) (lines s) n h ∙ l.1;
      free = ap (λ (x : Line). is_free s x) (sym same) ∙ passes_at_first (is_free s) (lines s) l.0 inside;
    }

pub claim-found : (s : State) (n : ℕ) → is_over s ≡ false → (f : Found s n) → claim_reply s ≡ work (s.claims + 1) (length s.revisions) f.line.problem
claim-found s n o f = ap (λ (b : Bool). if b then over else claim_found s (find (is_free s) (lines s))) o ∙ ap (λ (l : Option Line). claim_found s l) f.found

pub claim-leaves : (s : State) (seat n : ℕ) → is_over s ≡ false → (f : Found s n) → after_claim s seat ≡ record s { tickets = s.tickets ++ claim_ticket s seat f.line ∷ []; claims = s.claims + 1 }
claim-leaves s seat n o f = ap (λ (b : Bool). if b then s else after_found s seat (find (is_free s) (lines s))) o ∙ ap (λ (l : Option Line). after_found s seat l) f.found

pub claim-nothing : (s : State) (seat : ℕ) → is_over s ≡ false → find_place s ≡ None → (claim_reply s ≡ (if undecided s == 0 then settled else busy (undecided s))) × (after_claim s seat ≡ s)
claim-nothing s seat o h =
    let f = position-none (is_free s) (lines s) h in (
      ap (λ (b : Bool). if b then over else claim_found s (find (is_free s) (lines s))) o ∙ ap (λ (l : Option Line). claim_found s l) f,
      ap (λ (b : Bool). if b then s else after_found s seat (find (is_free s) (lines s))) o ∙ ap (λ (l : Option Line). after_found s seat l) f,
    )

test-some : (n : ℕ) → 0 < n → (n == 0) ≡ false
test-some n h = grind (arith, nat_tests)

pub claim-settled : (s : State) → is_over s ≡ false → find_place s ≡ None → undecided s ≡ 0 → claim_reply s ≡ settled
claim-settled s o h e = (claim-nothing s 0 o h).0 ∙ ap (λ (n : ℕ). if n == 0 then settled else busy (undecided s)) e

pub claim-busy : (s : State) (n : ℕ) → is_over s ≡ false → find_place s ≡ None → undecided s ≡ n → 0 < n → claim_reply s ≡ busy n
claim-busy s n o h e l = (claim-nothing s 0 o h).0 ∙ (ap (λ (k : ℕ). if k == 0 then settled else busy k) e ∙ ap (λ (b : Bool). if b then settled else busy n) (test-some n l))

pub claim-over : (s : State) (seat : ℕ) → is_over s ≡ true → (claim_reply s ≡ over) × (after_claim s seat ≡ s)
claim-over s seat o = (ap (λ (b : Bool). if b then over else claim_found s (find (is_free s) (lines s))) o, ap (λ (b : Bool). if b then s else after_found s seat (find (is_free s) (lines s))) o)

-- what the code finds is the machine's place
pub place-seen : (s : State) (es : List PlainEntry) (rows : List Row) (outs : List Out) (numbers slice : List ℕ) (at next : ℕ) (r : Option ℕ) → r ≡ position (row_passes is_free_row rows) slice → slice ≡ numbers
    → IsTable s es rows → AreOut s rows outs → IsLast s es rows numbers at next → r ≡ find_place s
place-seen s es rows outs numbers slice at next r e v t k h = e ∙ (ap (λ (ns : List ℕ). position (row_passes is_free_row rows) ns) v ∙ place-found s es rows outs numbers at next t k h)

pub over-closed : (s : State) (claims : ℕ) (a b : Bool) → IsMarked s claims a b → a ≡ true → is_over s ≡ true
over-closed s claims a b k x = ap (λ (c : Bool). c || s.is_stopped) (k.closed ∙ x)

pub over-stopped : (s : State) (claims : ℕ) (a b : Bool) → IsMarked s claims a b → b ≡ true → is_over s ≡ true
over-stopped s claims a b k x = or-last s.is_closed s.is_stopped (k.stopped ∙ x)
  where
    or-last : (c d : Bool) → d ≡ true → (c || d) ≡ true
    or-last true d h = refl
    or-last false d h = h

-- a look that begins behind items that don't pass

skipped : {A : Type 0} (p : A → Bool) (n : ℕ) (xs : List A) → n ≤ length xs → Each (λ x. p x ≡ false) (take n xs) → position_or_len p xs ≡ n + position_or_len p (drop n xs)
skipped p zero xs h k = omega arith
skipped p (suc n) [] h k = absurd (omega arith)
skipped p (suc n) (x ∷ xs) h k =
    let i = skipped p n xs (omega arith) k.1 in
    let e = ap (λ (b : Bool). cond (not b) (1 + position_or_len p xs) 0) k.0 in
    omega (arith, i, e)

pub skipped-some : {A : Type 0} (p : A → Bool) (n place : ℕ) (xs : List A) → n ≤ length xs → All (λ x. p x ≡ false) (take n xs) → position p (drop n xs) ≡ Some place → position p xs ≡ Some (n + place)
skipped-some {A} p n place xs h k e =
    let c = cond_some (nat_lt (position_or_len p (drop n xs)) (length (drop n xs))) (position_or_len p (drop n xs)) place e in
    let s = skipped p n xs h (each-from (λ x. p x ≡ false) (take n xs) k) in
    let l = length-drop n xs in
    let inside : position_or_len p (drop n xs) < length (drop n xs) = grind (arith, c.0, nat_tests) in
    let same = c.1 in
    let t : nat_lt (position_or_len p xs) (length xs) ≡ true = grind (arith, nat_tests, inside, s, l) in
    let r : position_or_len p xs ≡ n + place = omega (arith, s, same) in
    ap (λ (b : Bool). cond b (Some (position_or_len p xs)) None) t ∙ ap (λ (i : ℕ). Some i) r

pub skipped-none : {A : Type 0} (p : A → Bool) (n : ℕ) (xs : List A) → n ≤ length xs → All (λ x. p x ≡ false) (take n xs) → position p (drop n xs) ≡ None → position p xs ≡ None
skipped-none p n xs h k e =
    let c = no-place (nat_lt (position_or_len p (drop n xs)) (length (drop n xs))) (position_or_len p (drop n xs)) e in
    let s = skipped p n xs h (each-from (λ x. p x ≡ false) (take n xs) k) in
    let l = length-drop n xs in
    let past : length (drop n xs) ≤ position_or_len p (drop n xs) = grind (arith, c) in
    let t : nat_lt (position_or_len p xs) (length xs) ≡ false = grind (arith, nat_tests, past, s, l) in
    ap (λ (b : Bool). cond b (Some (position_or_len p xs)) None) t

pub take-whole : {A : Type 0} (n : ℕ) (xs : List A) → length xs ≤ n → take n xs ≡ xs
take-whole zero [] h = refl
take-whole (suc n) [] h = refl
take-whole zero (x ∷ xs) h = absurd (omega arith)
take-whole {A} (suc n) (x ∷ xs) h = ap (λ (ys : List A). x ∷ ys) (take-whole n xs (omega arith))

pub tail-whole : {A : Type 0} (n : ℕ) (xs : List A) → take (length xs - n) (drop n xs) ≡ drop n xs
tail-whole n xs = let l = length-drop n xs in take-whole (length xs - n) (drop n xs) (omega (arith, l))
