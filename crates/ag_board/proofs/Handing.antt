-- A claim that is answered by work: the row that lends its handle, and the ticket.
use Rattle.std.proofs.Common.{◌≡◌, ◌∙◌, ◌+◌, ◌<◌, ◌≤◌, ◌==◌, ◌&&◌, ◌||◌, ◌++◌, ◌∷◌, [], ℕ, zero, suc, Bool, true, false, cond, List, length, get_or, take, Option, Some, None, refl, sym, ap, arith, subst, Global, add-one, length-append}
use Rattle.std.proofs.lemmas.Bool.{false≢true}
use Rattle.std.proofs.lemmas.Bool.Decides.{nat_tests}
use Rattle.std.proofs.lemmas.List.{map-append}
use Rattle.std.proofs.lemmas.List.Folds.{list_any-append}
use Rattle.std.proofs.lemmas.List.Quantifiers.{position-Some}
use Rattle.std.proofs.lemmas.Option.{slice_get-map, slice_get-get_or}
use Rattle.std.specs.Prelude.{slice_get, find, is_none, is_some, option_and_then, IsSome, IsSomeAnd}
use Rattle.std.specs.Option.{option_map, option_map_or}
use Rattle.std.specs.declared.sync.Arc.{Arc}
use Rattle.ag_stream.specs.declared.problem.Problem.{Problem}
use Rattle.ag_stream.specs.declared.problem.ProblemDraft.{ProblemDraft}
use Rattle.ag_verdict.specs.declared.key.Key.{Key}
use Rattle.ag_board.specs.declared.slot.Slot.{Slot}
use Rattle.ag_board.specs.declared.slot.Out.{Out}
use Rattle.ag_board.specs.Tickets.{Handed}
use Rattle.ag_board.specs.Entries.{PlainEntry, Past, claim as claim_call, work}
use Rattle.ag_board.specs.Machine.{State, Line, Ticket, start, lines, is_over, claim_ticket, state_after}
use Rattle.ag_board.specs.Notes.{nothing, problem_in}
use Rattle.ag_board.specs.Store.{IsSame, IsOut, entry, places_kept}
use Rattle.ag_board.specs.Inside.{Row, problem_at, with_handle, handle_at, is_free_row, row_passes, ticket_at, is_claimed, find_place, AreTaken, IsRow, IsTable, AreOut, IsLast, IsMarked}
use Rattle.ag_board.proofs.Verdicts.{Each, each-from, each-to, each-append, each-same}
use Rattle.ag_board.proofs.Claiming.{Found, place-found, claim-found, claim-leaves}
use Rattle.ag_board.proofs.Carrying.{Holds, past-next, at-next, sized-next, table-next, last-next}
use Rattle.ag_board.proofs.Telling.{row-at}
use Rattle.ag_board.proofs.Rows.{changed, with-changed, problems-changed, length-changed, problem-changed, at-changed, other-changed, each-changed, tickets-changed, listed-changed}

abbrev pub lent : Slot → Slot
lent s = record s { handle = None }

-- what is known of the key that is handed out
pub record Lends (s : State) (rows : List Row) (numbers : List ℕ) (place n : ℕ) (l : Line) : Type 0 where
  pub inside : place < length numbers
  pub row : Row
  pub at : slice_get rows n ≡ Some row
  pub free : is_free_row row ≡ true
  pub before : (k : ℕ) → k < place → row_passes is_free_row rows (get_or numbers k 0) ≡ false
  pub problem : row.0.value ≡ l.problem

passing-row : (test : Row → Bool) (o : Option Row) → option_map_or test o false ≡ true → (r : Row) × (o ≡ Some r) × (test r ≡ true)
passing-row test None h = absurd (false≢true h)
passing-row test (Some r) h = (r, refl, h)

pub lends : (s : State) (es : List PlainEntry) (rows : List Row) (outs : List Out) (numbers : List ℕ) (at next place : ℕ) (f : Found s place) → find_place s ≡ Some place
    → IsTable s es rows → AreOut s rows outs → IsLast s es rows numbers at next → Lends s rows numbers place (get_or numbers place 0) f.line
lends s es rows outs numbers at next place f e t k h =
    let p = position-Some (row_passes is_free_row rows) numbers place 0 (place-found s es rows outs numbers at next t k h ∙ e) in
    let r = passing-row is_free_row (slice_get rows (get_or numbers place 0)) p.1 in
    let number = slice_get-get_or numbers place 0 p.0 in
    let q = sym (slice_get-map (problem_at rows) numbers place) ∙ (ap (λ (x : List ProblemDraft). slice_get x place) h.problems ∙ slice_get-map (λ (l : Line). l.problem) (lines s) place) in
    let both : Some (problem_at rows (get_or numbers place 0)) ≡ Some f.line.problem =
    sym (ap (λ (o : Option ℕ). option_map (problem_at rows) o) number) ∙ (q ∙ ap (λ (o : Option Line). option_map (λ (l : Line). l.problem) o) f.at) in
    let same : problem_at rows (get_or numbers place 0) ≡ f.line.problem = cc in
    let here = ap (λ (o : Option Row). option_map_or (λ (x : Row). x.0.value) o nothing) r.1 in
    record {
      inside = p.0;
      row = r.0;
      at = r.1;
      free = r.2;
      before = p.2;
      problem = sym here ∙ same;
    }

and-last : (a b : Bool) → a && b ≡ true → b ≡ true
and-last true b h = h
and-last false b h = absurd (false≢true h)

-- the handle is there
pub has-handle : (rows : List Row) (n : ℕ) (r : Row) → slice_get rows n ≡ Some r → is_free_row r ≡ true → IsSome (handle_at rows n)
has-handle rows n r h f = ap (λ (o : Option Row). is_some (option_and_then (λ (x : Row). x.1.handle) o)) h ∙ and-last (is_none r.1.verdict) (is_some r.1.handle) f

-- and it is of the row's problem
pub handle-problem : (s : State) (es : List PlainEntry) (rows : List Row) (n : ℕ) (r : Row) (a : Arc Problem Global) → IsTable s es rows → slice_get rows n ≡ Some r → handle_at rows n ≡ Some a → a.value ≡ r.0.value
handle-problem s es rows n r a t h e =
    let k = (row-at s es rows n r (each-from (IsRow s es) rows t.each) h).handle in
    let o = sym (ap (λ (x : Option Row). option_and_then (λ (y : Row). y.1.handle) x) h) ∙ e in
    sym (ap (λ (x : Option (Arc Problem Global)). option_map_or (λ (y : Arc Problem Global). y.value) x r.0.value) o) ∙ k

-- the entry that published the list names it
pub listed-problem : (s : State) (es : List PlainEntry) (rows : List Row) (numbers : List ℕ) (at next place : ℕ) (l : Line) → IsLast s es rows numbers at next → slice_get (lines s) place ≡ Some l → problem_in es at place ≡ Some l.problem
listed-problem s es rows numbers at next place l h e =
    ap (λ (x : List (Key × ProblemDraft)). option_map (λ (k : Key × ProblemDraft). k.1) (slice_get x place)) h.listed
    ∙ (ap (λ (o : Option (Key × ProblemDraft)). option_map (λ (k : Key × ProblemDraft). k.1) o) (slice_get-map (λ (m : Line). (m.key, m.problem)) (lines s) place)
    ∙ ap (λ (o : Option Line). option_map (λ (k : Key × ProblemDraft). k.1) (option_map (λ (m : Line). (m.key, m.problem)) o)) e)

-- the table with the handle lent
pub table-lent : (s : State) (es : List PlainEntry) (rows : List Row) (n : ℕ) → IsTable s es rows → IsTable s es (changed rows n lent)
table-lent s es rows n t =
    let l = length-changed rows n lent in
    record {
      problems = problems-changed rows n lent ∙ t.problems;
      each = each-to (IsRow s es) (changed rows n lent) (each-changed (IsRow s es) (IsRow s es) rows n lent (each-from (IsRow s es) rows t.each) (λ m r d e k. k)
          (λ r e k. record { handle = refl; posted = k.posted; verdict = k.verdict }));
      few_rows = omega (arith, l, t.few_rows);
    }

test-true : (n m : ℕ) → (n == m) ≡ true → n ≡ m
test-true n m h = grind (arith, nat_tests, h)

test-false : (n m : ℕ) → (n == m) ≡ false → n ≡ m → ⊥
test-false n m h e = grind (arith, nat_tests, h, e)

or-true : (a b : Bool) → b ≡ true → (a || b) ≡ true
or-true true b h = refl
or-true false b h = h

or-false : (a b : Bool) → b ≡ false → (a || b) ≡ a
or-false true b h = refl
or-false false b h = h

abbrev pub ticket : ℕ → ℕ → ℕ → ProblemDraft → Ticket
ticket claim seat revision p = record { claim = claim; seat = seat; revision = revision; problem = p; is_live = true }

-- the claims with the new one
abbrev pub new_out : ℕ → ℕ → ℕ → ℕ → Out
new_out claim seat revision n = record { claim = claim; seat = seat; revision = revision; problem = n; is_live = true }

live-lent : (rows : List Row) (outs : List Out) (claim seat revision n : ℕ) (row : Row) → slice_get rows n ≡ Some row → ((m : ℕ) (r : Row) → slice_get rows m ≡ Some r → is_claimed outs m ≡ is_none r.1.handle)
    → (m : ℕ) (r : Row) → slice_get (changed rows n lent) m ≡ Some r → is_claimed (outs ++ new_out claim seat revision n ∷ []) m ≡ is_none r.1.handle
live-lent rows outs claim seat revision n row at live m r e = list_any-append (λ (o : Out). o.is_live && (o.problem == m)) outs (new_out claim seat revision n ∷ []) ∙ go (n == m) refl
  where
    go : (b : Bool) → (n == m) ≡ b → (is_claimed outs m || ((n == m) || false)) ≡ is_none r.1.handle
    go true t =
        let same = test-true n m t in
        let here = sym (at-changed rows n lent row at) ∙ (ap (λ (k : ℕ). slice_get (changed rows n lent) k) same ∙ e) in
        or-true (is_claimed outs m) ((n == m) || false) (ap (λ (b : Bool). b || false) t) ∙ ap (λ (o : Option Row). option_map_or (λ (x : Row). is_none x.1.handle) o true) here
    go false t = or-false (is_claimed outs m) ((n == m) || false) (ap (λ (b : Bool). b || false) t) ∙ live m r (sym (other-changed rows n lent m (test-false n m t)) ∙ e)

within : (rows : List Row) (n : ℕ) (r : Row) → slice_get rows n ≡ Some r → n < length rows
within [] n r h = cc
within (x ∷ rs) zero r h = omega arith
within (x ∷ rs) (suc n) r h = let i = within rs n r h in omega (arith, i)

pub outs-lent : (s : State) (rows : List Row) (outs : List Out) (claim seat n : ℕ) (row : Row) (l : Line) → slice_get rows n ≡ Some row → row.0.value ≡ l.problem → claim ≡ s.claims + 1 → (revision : ℕ) → revision ≡ length s.revisions → AreOut s rows outs
    → AreOut (record s { tickets = s.tickets ++ claim_ticket s seat l ∷ []; claims = s.claims + 1 }) (changed rows n lent) (outs ++ new_out claim seat revision n ∷ [])
outs-lent s rows outs claim seat n row l at p c revision v k =
    let problem = problem-changed rows n lent n ∙ (ap (λ (o : Option Row). option_map_or (λ (x : Row). x.0.value) o nothing) at ∙ p) in
    let last = ap (λ (x : ProblemDraft). ticket claim seat revision x) problem ∙ (ap (λ (x : ℕ). ticket x seat revision l.problem) c ∙ ap (λ (x : ℕ). ticket (s.claims + 1) seat x l.problem) v) in
    let few = length-changed rows n lent in
    let here = within rows n row at in
    record {
      tickets = sym (map-append (ticket_at (changed rows n lent)) outs (new_out claim seat revision n ∷ [])
          ∙ (ap (λ (x : List Ticket). x ++ ticket_at (changed rows n lent) (new_out claim seat revision n) ∷ []) (tickets-changed rows n lent outs ∙ sym k.tickets)
          ∙ ap (λ (x : Ticket). s.tickets ++ x ∷ []) last));
      numbered = each-to (λ o. o.problem < length (changed rows n lent)) (outs ++ new_out claim seat revision n ∷ [])
          (each-append (λ o. o.problem < length (changed rows n lent)) outs (new_out claim seat revision n ∷ [])
          (each-same (λ o. o.problem < length rows) (λ o. o.problem < length (changed rows n lent)) outs (λ o h. omega (arith, h, few)) (each-from (λ o. o.problem < length rows) outs k.numbered))
          (omega (arith, here, few), tt));
      live = live-lent rows outs claim seat revision n row at k.live;
    }

and-none : (a : Bool) → a && false ≡ false
and-none true = refl
and-none false = refl

still-taken : (rows : List Row) (n m : ℕ) → row_passes is_free_row rows m ≡ false → row_passes is_free_row (changed rows n lent) m ≡ false
still-taken [] n m h = h
still-taken (r ∷ rs) zero zero h = and-none (is_none r.1.verdict)
still-taken (r ∷ rs) zero (suc m) h = h
still-taken (r ∷ rs) (suc n) zero h = h
still-taken (r ∷ rs) (suc n) (suc m) h = still-taken rs n m h

now-taken : (rows : List Row) (n : ℕ) → row_passes is_free_row (changed rows n lent) n ≡ false
now-taken [] n = refl
now-taken (r ∷ rs) zero = and-none (is_none r.1.verdict)
now-taken (r ∷ rs) (suc n) = now-taken rs n

take-each : (P : ℕ → Type 0) (xs : List ℕ) (place : ℕ) → place < length xs → ((k : ℕ) → k < place → P (get_or xs k 0)) → P (get_or xs place 0) → Each P (take (suc place) xs)
take-each P [] place h b a = absurd (omega arith)
take-each P (x ∷ xs) zero h b a = (a, tt)
take-each P (x ∷ xs) (suc p) h b a = (b 0 (omega arith), take-each P xs p (omega arith) (λ k l. b (suc k) (omega arith)) a)

pub last-lent : (s : State) (es : List PlainEntry) (rows : List Row) (numbers : List ℕ) (at next place : ℕ) (l : Line) → Lends s rows numbers place (get_or numbers place 0) l → IsLast s es rows numbers at next
    → IsLast s es (changed rows (get_or numbers place 0) lent) numbers at (place + 1)
last-lent s es rows numbers at next place l f h =
    let n = get_or numbers place 0 in
    let few = length-changed rows (get_or numbers place 0) lent in
    let inside = f.inside in
    let P : ℕ → Type 0 = λ m. row_passes is_free_row (changed rows (get_or numbers place 0) lent) m ≡ false in
    record {
      problems = listed-changed rows n lent numbers ∙ h.problems;
      numbered = each-to (λ m. m < length (changed rows n lent)) numbers (each-same (λ m. m < length rows) (λ m. m < length (changed rows n lent)) numbers (λ m k. omega (arith, k, few)) (each-from (λ m. m < length rows) numbers h.numbered));
      few = h.few;
      listed = h.listed;
      verdicts = h.verdicts;
      within = omega (arith, inside);
      taken = subst (λ (k : ℕ). AreTaken (changed rows n lent) (take k numbers)) (sym (add-one place)) (each-to P (take (suc place) numbers) (take-each P numbers place inside (λ k d. still-taken rows n (get_or numbers k 0) (f.before k d)) (now-taken rows n)));
    }

-- the new ticket is found under its number
find-new : (n m : ℕ) (ts : List Ticket) (u : Ticket) → m ≡ n + 1 → u.claim ≡ n + 1 → Each (λ t. t.claim ≤ n) ts → find (λ t. t.claim == m) (ts ++ u ∷ []) ≡ Some u
find-new n m [] u a e h = let b : (u.claim == m) ≡ true = grind (arith, nat_tests, a, e) in ap (λ (x : Bool). cond x (Some u) None) b
find-new n m (t ∷ ts) u a e h =
    let k = h.0 in
    let b : (t.claim == m) ≡ false = grind (arith, nat_tests, a, k) in
    ap (λ (x : Bool). cond x (Some t) (find (λ (y : Ticket). y.claim == m) (ts ++ u ∷ []))) b ∙ find-new n m ts u a e h.1

pub out-handed : (s : State) (seat : ℕ) (l : Line) (t : Handed) → Each (λ x. x.claim ≤ s.claims) s.tickets → t.claim ≡ s.claims + 1 → t.seat ≡ seat → t.revision ≡ length s.revisions → t.problem ≡ l.problem
    → IsOut (record s { tickets = s.tickets ++ claim_ticket s seat l ∷ []; claims = s.claims + 1 }) t
out-handed s seat l t g a b r p =
    subst (λ (o : Option Ticket). IsSomeAnd o (IsSame t)) (sym (find-new s.claims t.claim s.tickets (claim_ticket s seat l) a refl g)) (record { seat = sym b; revision = sym r; problem = sym p })

-- all that is kept, after work is handed out
pub handed-next : (p q : Past) (seat room new_room claims : ℕ) (is_closed is_stopped : Bool) (revisions pairs parts : ℕ) (rows new_rows : List Row) (outs new_outs : List Out) (numbers : List ℕ) (at next place n : ℕ)
    (f : Found (state_after start p.entries) place) → n ≡ get_or numbers place 0 → new_rows ≡ with_handle rows n None → new_outs ≡ outs ++ new_out (claims + 1) seat revisions n ∷ [] → new_room ≡ room
    → q.entries ≡ p.entries ++ entry seat claim_call (work (claims + 1) revisions f.line.problem) ∷ [] → q.spare + 1 ≤ p.spare
    → is_over (state_after start p.entries) ≡ false → find_place (state_after start p.entries) ≡ Some place → places_kept (state_after start p.entries) + 2 ≤ p.spare → p.spare ≤ q.spare + 1
    → Holds p room claims is_closed is_stopped revisions pairs parts rows outs numbers at next
    → Holds q new_room (claims + 1) is_closed is_stopped revisions pairs parts new_rows new_outs numbers at (place + 1)
handed-next p q seat room new_room claims is_closed is_stopped revisions pairs parts rows new_rows outs new_outs numbers at next place n f number changes pushed same_room e less o found two near k =
    let s = state_after start p.entries in
    let t : State = record (state_after start p.entries) { tickets = (state_after start p.entries).tickets ++ claim_ticket (state_after start p.entries) seat f.line ∷ []; claims = (state_after start p.entries).claims + 1 } in
    let m = get_or numbers place 0 in
    let g = lends s p.entries rows outs numbers at next place f found k.3 k.4 k.5 in
    let r = work (claims + 1) revisions f.line.problem in
    let left = claim-leaves s seat place o f in
    let c = ap (λ (x : ℕ). x + 1) (sym k.1.all_claims) in
    let v = sym k.2.all_revisions in
    let says = ap (λ (x : ℕ). work x revisions f.line.problem) c ∙ (ap (λ (x : ℕ). work (s.claims + 1) x f.line.problem) v ∙ sym (claim-found s place o f)) in
    let kept : places_kept t ≤ q.spare = let l = length-append s.tickets (claim_ticket s seat f.line ∷ []) in omega (arith, l, two, near) in
    let core : Holds q room (claims + 1) is_closed is_stopped revisions pairs parts (changed rows m lent) (outs ++ new_out (claims + 1) seat revisions m ∷ []) numbers at (place + 1) = (
      past-next p q seat claim_call r room claims (claims + 1) e tt says less (subst (λ (x : State). places_kept x ≤ q.spare) (sym left) kept) (omega (arith, k.0.few_claims)) k.0,
      at-next (λ (x : State). IsMarked x (claims + 1) is_closed is_stopped) p q seat claim_call r e (subst (λ (x : State). IsMarked x (claims + 1) is_closed is_stopped) (sym left) (record { all_claims = sym c; closed = k.1.closed; stopped = k.1.stopped })),
      sized-next p q seat claim_call r revisions pairs parts e (ap (λ (x : State). x.revisions) left) k.2,
      table-next p q seat claim_call r (changed rows m lent) e (ap (λ (x : State). x.revisions) left) (table-lent s p.entries rows m k.3),
      at-next (λ (x : State). AreOut x (changed rows m lent) (outs ++ new_out (claims + 1) seat revisions m ∷ [])) p q seat claim_call r e
          (subst (λ (x : State). AreOut x (changed rows m lent) (outs ++ new_out (claims + 1) seat revisions m ∷ [])) (sym left) (outs-lent s rows outs (claims + 1) seat m g.row f.line g.at g.problem c revisions v k.4)),
      last-next p q seat claim_call r (changed rows m lent) numbers at (place + 1) e (ap (λ (x : State). x.revisions) left) refl (last-lent s p.entries rows numbers at next place f.line g k.5),
    ) in
    let rows-are = changes ∙ (with-changed rows n lent ∙ ap (λ (x : ℕ). changed rows x lent) number) in
    let outs-are = pushed ∙ ap (λ (x : ℕ). outs ++ new_out (claims + 1) seat revisions x ∷ []) number in
    subst (λ (x : List Row). Holds q new_room (claims + 1) is_closed is_stopped revisions pairs parts x new_outs numbers at (place + 1)) (sym rows-are)
    (subst (λ (x : List Out). Holds q new_room (claims + 1) is_closed is_stopped revisions pairs parts (changed rows m lent) x numbers at (place + 1)) (sym outs-are)
    (subst (λ (x : ℕ). Holds q x (claims + 1) is_closed is_stopped revisions pairs parts (changed rows m lent) (outs ++ new_out (claims + 1) seat revisions m ∷ []) numbers at (place + 1)) (sym same_room) core))
