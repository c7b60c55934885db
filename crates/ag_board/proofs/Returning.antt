-- A ticket comes back: its claim is taken out, and its handle put back.
use Rattle.std.proofs.Common.{◌≡◌, ◌∙◌, ◌+◌, ◌-◌, ◌<◌, ◌≤◌, ◌==◌, ◌&&◌, ◌||◌, ◌++◌, ◌∷◌, [], ℕ, zero, suc, Bool, true, false, not, cond, List, length, map, filter, take, Option, Some, None, refl, sym, ap, arith, subst, Global}
use Rattle.std.proofs.lemmas.Bool.Decides.{nat_tests}
use Rattle.std.specs.Prelude.{slice_get, find, position, remove, is_none, IsSome, IsSomeAnd, if◌then◌else◌}
use Rattle.std.specs.List.{list_any}
use Rattle.std.specs.Option.{option_map, option_map_or}
use Rattle.std.specs.declared.sync.Arc.{Arc}
use Rattle.ag_stream.specs.declared.problem.Problem.{Problem}
use Rattle.ag_stream.specs.declared.problem.ProblemDraft.{ProblemDraft}
use Rattle.ag_board.specs.declared.slot.Slot.{Slot}
use Rattle.ag_board.specs.declared.slot.Out.{Out}
use Rattle.ag_board.specs.Tickets.{Handed}
use Rattle.ag_board.specs.Entries.{PlainEntry, PlainReply, Past, give_back, given_back}
use Rattle.ag_board.specs.Machine.{State, Line, Ticket, start, same_problem, lines, without, ticket_of, give_back_reply, May, reply_of, state_after}
use Rattle.ag_board.specs.declared.entry.GivenBack.TheVariants as given
use Rattle.ag_board.specs.Notes.{nothing}
use Rattle.ag_board.specs.Store.{IsSame, IsOut, entry}
use Rattle.ag_board.specs.Inside.{Row, problems_in, problem_at, with_handle, ticket_at, is_claimed, is_free_row, row_passes, IsRow, IsTable, AreOut, IsLast, IsMarked}
use Rattle.ag_board.proofs.Verdicts.{Each, each-from, each-to, each-same}
use Rattle.ag_board.proofs.Outs.{Differ, AllDiffer, good-tickets}
use Rattle.ag_board.proofs.Carrying.{Holds, past-next, at-next, sized-next, table-next, last-next}
use Rattle.ag_board.proofs.Telling.{AreBeside, last-beside}
use Rattle.ag_board.proofs.Claiming.{Apart, table-apart, same-number, position-none, position-found}
use Rattle.ag_board.proofs.Rows.{changed, with-changed, problems-changed, length-changed, problem-changed, at-changed, other-changed, each-changed, tickets-changed, listed-changed}

abbrev pub Handle : Type 0
Handle = Arc Problem Global

abbrev pub returned : Handle → Slot → Slot
returned h s = record s { handle = Some h }

-- which claim it is

find-tickets : (rows : List Row) (number : ℕ) (outs : List Out) → find (λ t. t.claim == number) (map (ticket_at rows) outs) ≡ option_map (ticket_at rows) (find (λ o. o.claim == number) outs)
find-tickets rows number [] = refl
find-tickets rows number (o ∷ os) = go (o.claim == number) (find-tickets rows number os)
  where
    go : (b : Bool) → find (λ t. t.claim == number) (map (ticket_at rows) os) ≡ option_map (ticket_at rows) (find (λ x. x.claim == number) os)
        → cond b (Some (ticket_at rows o)) (find (λ t. t.claim == number) (map (ticket_at rows) os)) ≡ option_map (ticket_at rows) (cond b (Some o) (find (λ x. x.claim == number) os))
    go true h = refl
    go false h = h

pub ticket-found : (s : State) (rows : List Row) (outs : List Out) (number : ℕ) → AreOut s rows outs → ticket_of s number ≡ option_map (ticket_at rows) (find (λ o. o.claim == number) outs)
ticket-found s rows outs number k = ap (λ (ts : List Ticket). find (λ (t : Ticket). t.claim == number) ts) k.tickets ∙ find-tickets rows number outs

pub is-among : (s : State) (rows : List Row) (outs : List Out) (t : Handed) → AreOut s rows outs → IsOut s t → IsSome (position (λ o. o.claim == t.claim) outs)
is-among s rows outs t k h = go (position (λ o. o.claim == t.claim) outs) refl
  where
    go : (o : Option ℕ) → position (λ x. x.claim == t.claim) outs ≡ o → IsSome o
    go (Some n) e = refl
    go None e =
        let f = ticket-found s rows outs t.claim k ∙ ap (λ (x : Option Out). option_map (ticket_at rows) x) (position-none (λ (x : Out). x.claim == t.claim) outs e) in
        absurd (subst (λ (x : Option Ticket). IsSomeAnd x (IsSame t)) f h)

-- the claim at its place, and what is known of it
pub record Taken (s : State) (rows : List Row) (outs : List Out) (number at : ℕ) (o : Out) : Type 0 where
  pub here : slice_get outs at ≡ Some o
  pub ticket : ticket_of s number ≡ Some (ticket_at rows o)
  pub same : o.claim ≡ number

find-claim : (number : ℕ) (outs : List Out) (o : Out) → find (λ x. x.claim == number) outs ≡ Some o → o.claim ≡ number
find-claim number [] o h = cc
find-claim number (x ∷ xs) o h = go (x.claim == number) refl (λ k. find-claim number xs o k)
  where
    go : (b : Bool) → (x.claim == number) ≡ b → (find (λ y. y.claim == number) xs ≡ Some o → o.claim ≡ number) → o.claim ≡ number
    go true e f =
        let here : Some x ≡ Some o = sym (ap (λ (b : Bool). cond b (Some x) (find (λ (y : Out). y.claim == number) xs)) e) ∙ h in
        let same : x ≡ o = cc in
        let n : x.claim ≡ number = grind (arith, nat_tests, e) in
        sym (ap (λ (y : Out). y.claim) same) ∙ n
    go false e f = f (sym (ap (λ (b : Bool). cond b (Some x) (find (λ (y : Out). y.claim == number) xs)) e) ∙ h)

pub taken : (s : State) (rows : List Row) (outs : List Out) (number at : ℕ) (o : Out) → AreOut s rows outs → position (λ x. x.claim == number) outs ≡ Some at → slice_get outs at ≡ Some o → Taken s rows outs number at o
taken s rows outs number at o k e h =
    let f = position-found (λ (x : Out). x.claim == number) outs at e ∙ h in
    record {
      here = h;
      ticket = ticket-found s rows outs number k ∙ ap (λ (x : Option Out). option_map (ticket_at rows) x) f;
      same = find-claim number outs o f;
    }

pub same-ticket : (s : State) (t : Handed) (u : Ticket) → ticket_of s t.claim ≡ Some u → IsOut s t → IsSame t u
same-ticket s t u e h = subst (λ (x : Option Ticket). IsSomeAnd x (IsSame t)) e h

-- the others

each-item : {A B : Type 0} (P : B → Type 0) (f : A → B) (xs : List A) (n : ℕ) (x : A) → Each P (map f xs) → slice_get xs n ≡ Some x → P (f x)
each-item P f [] n x k h = cc
each-item {A} P f (y ∷ ys) zero x k h =
    let same : y ≡ x = cc in
    subst (λ (z : A). P (f z)) same k.0
each-item P f (y ∷ ys) (suc n) x k h = each-item P f ys n x k.1 h

none-dropped : (number : ℕ) (ts : List Ticket) → Each (λ t. t.claim ≡ number → ⊥) ts → without number ts ≡ ts
none-dropped number [] h = refl
none-dropped number (t ∷ ts) h =
    let differ = h.0 in
    let b : (t.claim == number) ≡ false = not-equal t.claim number differ in
    ap (λ (x : Bool). cond (not x) (t ∷ without number ts) (without number ts)) b ∙ ap (λ (x : List Ticket). t ∷ x) (none-dropped number ts h.1)
  where
    not-equal : (m n : ℕ) → (m ≡ n → ⊥) → (m == n) ≡ false
    not-equal m n d = go (m == n) refl
      where
        go : (b : Bool) → (m == n) ≡ b → b ≡ false
        go true e = let s : m ≡ n = grind (arith, nat_tests, e) in absurd (d s)
        go false e = refl

pub removed : (rows : List Row) (number : ℕ) (outs : List Out) (at : ℕ) (o : Out) → slice_get outs at ≡ Some o → o.claim ≡ number → AllDiffer (map (ticket_at rows) outs)
    → without number (map (ticket_at rows) outs) ≡ map (ticket_at rows) (remove outs at)
removed rows number [] at o h e d = cc
removed rows number (x ∷ os) zero o h e d =
    let same : x ≡ o = cc in
    let n : x.claim ≡ number = ap (λ (y : Out). y.claim) same ∙ e in
    let b : (x.claim == number) ≡ true = grind (arith, nat_tests, n) in
    ap (λ (y : Bool). cond (not y) (ticket_at rows x ∷ without number (map (ticket_at rows) os)) (without number (map (ticket_at rows) os))) b
    ∙ none-dropped number (map (ticket_at rows) os) (each-same (Differ (ticket_at rows x)) (λ t. t.claim ≡ number → ⊥) (map (ticket_at rows) os) (λ t k c. k.numbers (n ∙ sym c)) d.0)
removed rows number (x ∷ os) (suc at) o h e d =
    let k = each-item (Differ (ticket_at rows x)) (ticket_at rows) os at o d.0 h in
    let b : (x.claim == number) ≡ false = apart x.claim number (λ c. k.numbers (c ∙ sym e)) in
    ap (λ (y : Bool). cond (not y) (ticket_at rows x ∷ without number (map (ticket_at rows) os)) (without number (map (ticket_at rows) os))) b
    ∙ ap (λ (ts : List Ticket). ticket_at rows x ∷ ts) (removed rows number os at o h e d.1)
  where
    apart : (m n : ℕ) → (m ≡ n → ⊥) → (m == n) ≡ false
    apart m n f = go (m == n) refl
      where
        go : (b : Bool) → (m == n) ≡ b → b ≡ false
        go true q = let s : m ≡ n = grind (arith, nat_tests, q) in absurd (f s)
        go false q = refl

any-removed : (p : Out → Bool) (outs : List Out) (at : ℕ) (o : Out) → slice_get outs at ≡ Some o → p o ≡ false → list_any p (remove outs at) ≡ list_any p outs
any-removed p [] at o h e = cc
any-removed p (x ∷ os) zero o h e =
    let same : x ≡ o = cc in
    sym (ap (λ (b : Bool). b || list_any p os) (ap p same ∙ e))
any-removed p (x ∷ os) (suc at) o h e = ap (λ (b : Bool). p x || b) (any-removed p os at o h e)

test-live : (rows : List Row) (o x : Out) → (o.is_live ≡ true → x.is_live ≡ true → problem_at rows o.problem ≡ problem_at rows x.problem → ⊥) → o.is_live ≡ true → (x.is_live && (x.problem == o.problem)) ≡ false
test-live rows o x d l = go x.is_live (x.problem == o.problem) refl refl
  where
    go : (a b : Bool) → x.is_live ≡ a → (x.problem == o.problem) ≡ b → a && b ≡ false
    go true true e f =
        let n : x.problem ≡ o.problem = grind (arith, nat_tests, f) in
        absurd (d l e (ap (λ (m : ℕ). problem_at rows m) (sym n)))
    go true false e f = refl
    go false b e f = refl

none-live : (rows : List Row) (o : Out) (outs : List Out) → o.is_live ≡ true → Each (Differ (ticket_at rows o)) (map (ticket_at rows) outs) → is_claimed outs o.problem ≡ false
none-live rows o [] l d = refl
none-live rows o (x ∷ os) l d = ap (λ (b : Bool). b || is_claimed os o.problem) (test-live rows o x d.0.live l) ∙ none-live rows o os l d.1

none-else : (rows : List Row) (outs : List Out) (at : ℕ) (o : Out) → slice_get outs at ≡ Some o → o.is_live ≡ true → AllDiffer (map (ticket_at rows) outs) → is_claimed (remove outs at) o.problem ≡ false
none-else rows [] at o h l d = cc
none-else rows (x ∷ os) zero o h l d =
    let same : x ≡ o = cc in
    subst (λ (y : Out). is_claimed os y.problem ≡ false) same (none-live rows x os (ap (λ (y : Out). y.is_live) same ∙ l) d.0)
none-else rows (x ∷ os) (suc at) o h l d =
    let k = each-item (Differ (ticket_at rows x)) (ticket_at rows) os at o d.0 h in
    ap (λ (b : Bool). b || is_claimed (remove os at) o.problem) (test-live rows o x (λ a b e. k.live b a (sym e)) l) ∙ none-else rows os at o h l d.1

-- the table with the handle back

table-returned : (s : State) (es : List PlainEntry) (rows : List Row) (n : ℕ) (h : Handle) → h.value ≡ problem_at rows n → IsTable s es rows → IsTable s es (changed rows n (returned h))
table-returned s es rows n h p t =
    let l = length-changed rows n (returned h) in
    record {
      problems = problems-changed rows n (returned h) ∙ t.problems;
      each = each-to (IsRow s es) (changed rows n (returned h)) (each-changed (IsRow s es) (IsRow s es) rows n (returned h) (each-from (IsRow s es) rows t.each) (λ m r d e k. k)
          (λ r e k. record { handle = p ∙ ap (λ (o : Option Row). option_map_or (λ (x : Row). x.0.value) o nothing) e; posted = k.posted; verdict = k.verdict }));
      few_rows = omega (arith, l, t.few_rows);
    }

abbrev pub put_back : Bool → List Row → ℕ → Handle → List Row
put_back b rows n h = if b then with_handle rows n (Some h) else rows

pub table-back : (b : Bool) (s : State) (es : List PlainEntry) (rows : List Row) (n : ℕ) (h : Handle) → h.value ≡ problem_at rows n → IsTable s es rows → IsTable s es (put_back b rows n h)
table-back true s es rows n h p t = subst (λ (x : List Row). IsTable s es x) (sym (with-changed rows n (returned h))) (table-returned s es rows n h p t)
table-back false s es rows n h p t = t

pub problem-back : (b : Bool) (rows : List Row) (n : ℕ) (h : Handle) (m : ℕ) → problem_at (put_back b rows n h) m ≡ problem_at rows m
problem-back true rows n h m = ap (λ (x : List Row). problem_at x m) (with-changed rows n (returned h)) ∙ problem-changed rows n (returned h) m
problem-back false rows n h m = refl

pub length-back : (b : Bool) (rows : List Row) (n : ℕ) (h : Handle) → length (put_back b rows n h) ≡ length rows
length-back true rows n h = ap (λ (x : List Row). length x) (with-changed rows n (returned h)) ∙ length-changed rows n (returned h)
length-back false rows n h = refl

tickets-back : (b : Bool) (rows : List Row) (n : ℕ) (h : Handle) (outs : List Out) → map (ticket_at (put_back b rows n h)) outs ≡ map (ticket_at rows) outs
tickets-back true rows n h outs = ap (λ (x : List Row). map (ticket_at x) outs) (with-changed rows n (returned h)) ∙ tickets-changed rows n (returned h) outs
tickets-back false rows n h outs = refl

pub listed-back : (b : Bool) (rows : List Row) (n : ℕ) (h : Handle) (ns : List ℕ) → map (problem_at (put_back b rows n h)) ns ≡ map (problem_at rows) ns
listed-back true rows n h ns = ap (λ (x : List Row). map (problem_at x) ns) (with-changed rows n (returned h)) ∙ listed-changed rows n (returned h) ns
listed-back false rows n h ns = refl

each-removed : (P : Out → Type 0) (outs : List Out) (at : ℕ) → Each P outs → Each P (remove outs at)
each-removed P [] zero k = k
each-removed P [] (suc at) k = k
each-removed P (o ∷ os) zero k = k.1
each-removed P (o ∷ os) (suc at) k = (k.0, each-removed P os at k.1)

test-true : (n m : ℕ) → (n == m) ≡ true → n ≡ m
test-true n m h = grind (arith, nat_tests, h)

test-false : (n m : ℕ) → (n == m) ≡ false → n ≡ m → ⊥
test-false n m h e = grind (arith, nat_tests, h, e)

slice-some : {A : Type 0} (xs : List A) (n : ℕ) → n < length xs → (x : A) × (slice_get xs n ≡ Some x)
slice-some [] n h = absurd (omega arith)
slice-some (x ∷ xs) zero h = (x, refl)
slice-some (x ∷ xs) (suc n) h = slice-some xs n (omega arith)

and-none : (a : Bool) → a && false ≡ false
and-none true = refl
and-none false = refl

live-back : (b : Bool) (rows : List Row) (outs : List Out) (at : ℕ) (o : Out) (h : Handle) → o.is_live ≡ b → slice_get outs at ≡ Some o → o.problem < length rows → AllDiffer (map (ticket_at rows) outs)
    → ((m : ℕ) (r : Row) → slice_get rows m ≡ Some r → is_claimed outs m ≡ is_none r.1.handle)
    → (m : ℕ) (r : Row) → slice_get (put_back b rows o.problem h) m ≡ Some r → is_claimed (remove outs at) m ≡ is_none r.1.handle
live-back false rows outs at o h l here few d live m r e = any-removed (λ x. x.is_live && (x.problem == m)) outs at o here (ap (λ (b : Bool). b && (o.problem == m)) l) ∙ live m r e
live-back true rows outs at o h l here few d live m r e = go (o.problem == m) refl
  where
    go : (b : Bool) → (o.problem == m) ≡ b → is_claimed (remove outs at) m ≡ is_none r.1.handle
    go true t =
        let same = test-true o.problem m t in
        let row = slice-some rows o.problem few in
        let now = sym (at-changed rows o.problem (returned h) row.0 row.1) ∙ (ap (λ (k : ℕ). slice_get (changed rows o.problem (returned h)) k) same ∙ (sym (ap (λ (x : List Row). slice_get x m) (with-changed rows o.problem (returned h))) ∙ e)) in
        ap (λ (k : ℕ). is_claimed (remove outs at) k) (sym same) ∙ (none-else rows outs at o here l d ∙ ap (λ (x : Option Row). option_map_or (λ (y : Row). is_none y.1.handle) x false) now)
    go false t =
        let before = sym (other-changed rows o.problem (returned h) m (test-false o.problem m t)) ∙ (sym (ap (λ (x : List Row). slice_get x m) (with-changed rows o.problem (returned h))) ∙ e) in
        any-removed (λ x. x.is_live && (x.problem == m)) outs at o here (ap (λ (b : Bool). o.is_live && b) t ∙ and-none o.is_live) ∙ live m r before

pub outs-back : (s t : State) (rows : List Row) (outs : List Out) (number at : ℕ) (o : Out) (h : Handle) → t.tickets ≡ without number s.tickets → AllDiffer s.tickets → AreOut s rows outs → Taken s rows outs number at o
    → o.problem < length rows → AreOut t (put_back o.is_live rows o.problem h) (remove outs at)
outs-back s t rows outs number at o h q d k f few =
    let differ = subst AllDiffer k.tickets d in
    let l = length-back o.is_live rows o.problem h in
    record {
      tickets = q ∙ (ap (λ (ts : List Ticket). without number ts) k.tickets ∙ (removed rows number outs at o f.here f.same differ ∙ sym (tickets-back o.is_live rows o.problem h (remove outs at))));
      numbered = each-to (λ x. x.problem < length (put_back o.is_live rows o.problem h)) (remove outs at)
          (each-same (λ x. x.problem < length rows) (λ x. x.problem < length (put_back o.is_live rows o.problem h)) (remove outs at) (λ x j. omega (arith, j, l)) (each-removed (λ x. x.problem < length rows) outs at (each-from (λ x. x.problem < length rows) outs k.numbered)));
      live = live-back o.is_live rows outs at o h refl f.here few differ k.live;
    }

none-before : (P : ℕ → Type 0) (xs : List ℕ) → Each P (take 0 xs)
none-before P [] = tt
none-before P (x ∷ xs) = tt

pub last-back : (b : Bool) (s : State) (es : List PlainEntry) (rows : List Row) (n : ℕ) (h : Handle) (numbers : List ℕ) (at next : ℕ) → IsLast s es rows numbers at next → IsLast s es (put_back b rows n h) numbers at 0
last-back b s es rows n h numbers at next k =
    let l = length-back b rows n h in
    let few = k.within in
    record {
      problems = listed-back b rows n h numbers ∙ k.problems;
      numbered = each-to (λ m. m < length (put_back b rows n h)) numbers (each-same (λ m. m < length rows) (λ m. m < length (put_back b rows n h)) numbers (λ m j. omega (arith, j, l)) (each-from (λ m. m < length rows) numbers k.numbered));
      few = k.few;
      listed = k.listed;
      verdicts = k.verdicts;
      within = omega arith;
      taken = each-to (λ m. row_passes is_free_row (put_back b rows n h) m ≡ false) (take 0 numbers) (none-before (λ m. row_passes is_free_row (put_back b rows n h) m ≡ false) numbers);
    }

pub numbered-here : (outs : List Out) (k : ℕ) (at : ℕ) (o : Out) → Each (λ x. x.problem < k) outs → slice_get outs at ≡ Some o → o.problem < k
numbered-here [] k at o h e = cc
numbered-here (x ∷ os) k zero o h e =
    let same : x ≡ o = cc in
    subst (λ (y : Out). y.problem < k) same h.0
numbered-here (x ∷ os) k (suc at) o h e = numbered-here os k at o h.1 e

-- whether the last revision still has the problem
pub any-beside : (s : State) (rows : List Row) (n : ℕ) (ns : List ℕ) (ls : List Line) → Apart (problems_in rows) → n < length rows → AreBeside s rows ns ls → list_any (λ k. k == n) ns ≡ list_any (λ l. same_problem l.problem (problem_at rows n)) ls
any-beside s rows n [] [] a h b = refl
any-beside s rows n [] (l ∷ ls) a h b = absurd b
any-beside s rows n (m ∷ ms) [] a h b = absurd b
any-beside s rows n (m ∷ ms) (l ∷ ls) a h b =
    ap (λ (x : Bool). x || list_any (λ (k : ℕ). k == n) ms) (sym (same-number rows m n a b.0 h) ∙ ap (λ (p : ProblemDraft). same_problem p (problem_at rows n)) b.1)
    ∙ ap (λ (x : Bool). same_problem l.problem (problem_at rows n) || x) (any-beside s rows n ms ls a h b.3)

fewer : (p : Ticket → Bool) (ts : List Ticket) → length (filter p ts) ≤ length ts
fewer p [] = omega arith
fewer p (t ∷ ts) = go (p t) (fewer p ts)
  where
    go : (b : Bool) → length (filter p ts) ≤ length ts → length (cond b (t ∷ filter p ts) (filter p ts)) ≤ length (t ∷ ts)
    go true h = omega arith
    go false h = omega arith

-- one ticket fewer
pub one-fewer : (number : ℕ) (ts : List Ticket) (u : Ticket) → find (λ t. t.claim == number) ts ≡ Some u → length (without number ts) + 1 ≤ length ts
one-fewer number [] u h = cc
one-fewer number (t ∷ ts) u h = go (t.claim == number) refl (λ k. one-fewer number ts u k)
  where
    go : (b : Bool) → (t.claim == number) ≡ b → (find (λ x. x.claim == number) ts ≡ Some u → length (without number ts) + 1 ≤ length ts) → length (cond (not (t.claim == number)) (t ∷ without number ts) (without number ts)) + 1 ≤ length (t ∷ ts)
    go true e f =
        let l = ap (λ (b : Bool). length (cond (not b) (t ∷ without number ts) (without number ts))) e in
        let k = fewer (λ x. not (x.claim == number)) ts in
        omega (arith, l, k)
    go false e f =
        let l = ap (λ (b : Bool). length (cond (not b) (t ∷ without number ts) (without number ts))) e in
        let k = f (sym (ap (λ (b : Bool). cond b (Some t) (find (λ (x : Ticket). x.claim == number) ts)) e) ∙ h) in
        omega (arith, l, k)

-- all that is kept, after a claim is given back
pub given-next : (p q : Past) (seat number : ℕ) (reply : PlainReply) (room new_room claims : ℕ) (is_closed is_stopped : Bool) (revisions pairs parts : ℕ) (rows new_rows : List Row) (outs new_outs : List Out) (numbers : List ℕ) (at next place : ℕ) (o : Out) (h : Handle)
    → Taken (state_after start p.entries) rows outs number place o → h.value ≡ problem_at rows o.problem → o.problem < length rows → new_rows ≡ put_back o.is_live rows o.problem h → new_outs ≡ remove outs place → new_room ≡ room
    → q.entries ≡ p.entries ++ entry seat (give_back number) reply ∷ [] → q.spare ≡ p.spare - 1 → May (state_after start p.entries) seat (give_back number) → reply ≡ reply_of (state_after start p.entries) (give_back number)
    → Holds p room claims is_closed is_stopped revisions pairs parts rows outs numbers at next
    → Holds q new_room claims is_closed is_stopped revisions pairs parts new_rows new_outs numbers at 0
given-next p q seat number reply room new_room claims is_closed is_stopped revisions pairs parts rows new_rows outs new_outs numbers at next place o h f v few rows-are outs-are same_room e m may says k =
    let s = state_after start p.entries in
    let t : State = record (state_after start p.entries) { tickets = without number (state_after start p.entries).tickets } in
    let fewer = one-fewer number (state_after start p.entries).tickets (ticket_at rows o) f.ticket in
    let was = k.0.promised in
    let core : Holds q room claims is_closed is_stopped revisions pairs parts (put_back o.is_live rows o.problem h) (remove outs place) numbers at 0 = (
      past-next p q seat (give_back number) reply room claims claims e may says (omega (arith, m, was, fewer)) (omega (arith, m, was, fewer)) (omega (arith, k.0.few_claims)) k.0,
      at-next (λ (x : State). IsMarked x claims is_closed is_stopped) p q seat (give_back number) reply e (record { all_claims = k.1.all_claims; closed = k.1.closed; stopped = k.1.stopped }),
      sized-next p q seat (give_back number) reply revisions pairs parts e refl k.2,
      table-next p q seat (give_back number) reply (put_back o.is_live rows o.problem h) e refl (table-back o.is_live s p.entries rows o.problem h v k.3),
      at-next (λ (x : State). AreOut x (put_back o.is_live rows o.problem h) (remove outs place)) p q seat (give_back number) reply e (outs-back s t rows outs number place o h refl (good-tickets p.entries).0 k.4 f few),
      last-next p q seat (give_back number) reply (put_back o.is_live rows o.problem h) numbers at 0 e refl refl (last-back o.is_live s p.entries rows o.problem h numbers at next k.5),
    ) in
    subst (λ (x : List Row). Holds q new_room claims is_closed is_stopped revisions pairs parts x new_outs numbers at 0) (sym rows-are)
    (subst (λ (x : List Out). Holds q new_room claims is_closed is_stopped revisions pairs parts (put_back o.is_live rows o.problem h) x numbers at 0) (sym outs-are)
    (subst (λ (x : ℕ). Holds q x claims is_closed is_stopped revisions pairs parts (put_back o.is_live rows o.problem h) (remove outs place) numbers at 0) (sym same_room) core))

-- the seat that has the ticket may give it back
pub may-give : (s : State) (t : Handed) → IsOut s t → May s t.seat (give_back t.claim)
may-give s t h = go (ticket_of s t.claim) h
  where
    go : (o : Option Ticket) → IsSomeAnd o (IsSame t) → IsSomeAnd o (λ u. u.seat ≡ t.seat)
    go (Some u) k = k.seat
    go None k = k

pub gave : (s : State) (es : List PlainEntry) (rows : List Row) (outs : List Out) (numbers slice : List ℕ) (at next number place : ℕ) (o : Out) (b : Bool) → Taken s rows outs number place o → o.problem < length rows
    → b ≡ list_any (λ n. n == o.problem) slice → slice ≡ numbers → IsTable s es rows → IsLast s es rows numbers at next
    → give_back_reply s (ticket_of s number) ≡ given_back (if b then given.Alive else given.Dead (length s.revisions))
gave s es rows outs numbers slice at next number place o b f few e v t k =
    let a = e ∙ (ap (λ (ns : List ℕ). list_any (λ (n : ℕ). n == o.problem) ns) v ∙ any-beside s rows o.problem numbers (lines s) (table-apart s es rows t) few (last-beside s es rows numbers at next k)) in
    ap (λ (x : Option Ticket). give_back_reply s x) f.ticket ∙ ap (λ (x : Bool). given_back (if x then given.Alive else given.Dead (length s.revisions))) (sym a)
