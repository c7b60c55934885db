-- How the table and the claims that are out change where a list is entered.
use Rattle.std.proofs.Common.{◌≡◌, ◌∙◌, ◌||◌, ◌&&◌, ◌++◌, ◌∷◌, ◌==◌, [], ℕ, zero, suc, Bool, true, false, not, List, map, Option, Some, None, refl, sym, ap, subst, arith, append_assoc, append-nil, eq-eqb}
use Rattle.std.proofs.lemmas.Bool.{false≢true, eqb-true, eqb-false, ne_eqb}
use Rattle.std.specs.Prelude.{slice_get, if◌then◌else◌, is_none}
use Rattle.std.specs.Option.{option_map_or}
use Rattle.std.specs.List.{list_any}
use Rattle.indexmap.specs.IndexMap.{set_value_at, insert_all}
use Rattle.ag_stream.specs.declared.problem.ProblemDraft.{ProblemDraft}
use Rattle.ag_verdict.specs.declared.key.Key.{Key}
use Rattle.ag_board.specs.declared.slot.Slot.{Slot}
use Rattle.ag_board.specs.declared.slot.Out.{Out}
use Rattle.ag_board.specs.Entries.{PlainEntry}
use Rattle.ag_board.specs.Machine.{State, Ticket, same_problem, is_cancelled, cancel}
use Rattle.ag_board.specs.Inside.{Row, problems_in, problem_at, with_slot, with_handle, ticket_at, is_claimed, IsRow}
use Rattle.ag_board.specs.Notes.{nothing}
use Rattle.ag_board.specs.Planned.{Handle, handled, retired_problem, cancelled_problem, is_retired, outs_retired, rows_retired}
use Rattle.ag_board.proofs.Verdicts.{Each}
use Rattle.ag_board.proofs.Plans.{same_handle, insert-new, problems-append}
use Rattle.ag_board.proofs.Different.{AreApart}
use Rattle.ag_board.proofs.Planning.{all_of, heads, if-none, if-some, or-neither, flip}

any-middle : (f : ProblemDraft → Bool) (xs : List ProblemDraft) (p : ProblemDraft) (ys : List ProblemDraft) → list_any f (xs ++ p ∷ ys) ≡ false → f p ≡ false
any-middle f [] p ys e = (or-neither (f p) (list_any f ys) e).0
any-middle f (x ∷ xs) p ys e = any-middle f xs p ys (or-neither (f x) (list_any f (xs ++ p ∷ ys)) e).1

apart-middle : (xs : List ProblemDraft) (p : ProblemDraft) (ys : List ProblemDraft) → AreApart (xs ++ p ∷ ys) → list_any (same_problem p) xs ≡ false
apart-middle [] p ys h = refl
apart-middle (x ∷ xs) p ys h =
    ap (λ (b : Bool). b || list_any (same_problem p) xs) (flip x p (any-middle (same_problem x) xs p ys h.0)) ∙ apart-middle xs p ys h.1

-- new rows go behind the others
pub insert-all : (rows fresh : List Row) → AreApart (all_of rows fresh) → insert_all same_handle rows fresh ≡ rows ++ fresh
insert-all rows [] h = sym (append-nil rows)
insert-all rows (r ∷ rs) h =
    let n = apart-middle (problems_in rows) r.0.value (problems_in rs) h in
    let e : all_of (rows ++ r ∷ []) rs ≡ all_of rows (r ∷ rs) = ap (λ (x : List ProblemDraft). x ++ problems_in rs) (problems-append rows (r ∷ [])) ∙ append_assoc (problems_in rows) (r.0.value ∷ []) (problems_in rs) in
    ap (λ (x : List Row). insert_all same_handle x rs) (insert-new r.0 r.1 rows n)
    ∙ (insert-all (rows ++ r ∷ []) rs (subst AreApart (sym e) h) ∙ append_assoc rows (r ∷ []) rs)

-- a row's handle

pub slot-step : (r : Row) (rs : List Row) (n : ℕ) (f : Slot → Slot) → with_slot (r ∷ rs) (suc n) f ≡ r ∷ with_slot rs n f
slot-step r rs n f = go (slice_get rs n)
  where
    go : (o : Option Row) → option_map_or (λ (x : Row). set_value_at (r ∷ rs) (suc n) (f x.1)) o (r ∷ rs) ≡ r ∷ option_map_or (λ (x : Row). set_value_at rs n (f x.1)) o rs
    go None = refl
    go (Some x) = refl

pub slot-problems : (rows : List Row) (n : ℕ) (f : Slot → Slot) → problems_in (with_slot rows n f) ≡ problems_in rows
slot-problems [] n f = refl
slot-problems (r ∷ rs) zero f = refl
slot-problems (r ∷ rs) (suc n) f =
    ap (λ (x : List Row). problems_in x) (slot-step r rs n f) ∙ ap (λ (x : List ProblemDraft). r.0.value ∷ x) (slot-problems rs n f)

abbrev handle_slot : Handle → Slot → Slot
handle_slot h s = record s { handle = Some h }

pub retired-problems : (rows : List Row) (os : List Out) (hs : List (Option Handle)) → problems_in (rows_retired rows os hs) ≡ problems_in rows
retired-problems rows [] hs = refl
retired-problems rows (o ∷ os) [] = refl
retired-problems rows (o ∷ os) (None ∷ hs) = retired-problems rows os hs
retired-problems rows (o ∷ os) (Some h ∷ hs) = retired-problems (with_handle rows o.problem (Some h)) os hs ∙ slot-problems rows o.problem (handle_slot h)

pub at-in : (rows : List Row) (n : ℕ) → problem_at rows n ≡ option_map_or (λ (p : ProblemDraft). p) (slice_get (problems_in rows) n) nothing
at-in [] n = refl
at-in (r ∷ rs) zero = refl
at-in (r ∷ rs) (suc n) = at-in rs n

-- a number's problem, by the rows' problems
pub at-same : (rows new : List Row) (n : ℕ) → problems_in new ≡ problems_in rows → problem_at new n ≡ problem_at rows n
at-same rows new n e = at-in new n ∙ (ap (λ (x : List ProblemDraft). option_map_or (λ (p : ProblemDraft). p) (slice_get x n) nothing) e ∙ sym (at-in rows n))

row-handle : (s : State) (es : List PlainEntry) (rows : List Row) (n : ℕ) (h : Handle) → Each (IsRow s es) rows → h.value ≡ problem_at rows n → Each (IsRow s es) (with_handle rows n (Some h))
row-handle s es [] n h k e = tt
row-handle s es (r ∷ rs) zero h k e = (record { handle = e; posted = k.0.posted; verdict = k.0.verdict }, k.1)
row-handle s es (r ∷ rs) (suc n) h k e =
    let E : List Row → Type 0 = λ x. Each (IsRow s es) x in
    subst E (sym (slot-step r rs n (handle_slot h))) (k.0, row-handle s es rs n h k.1 e)

if-value : (b : Bool) (p q : ProblemDraft) → Some q ≡ (if b then Some p else None) → q ≡ p
if-value true p q e = cc
if-value false p q e = cc

-- rows stay as they should be where claims are retired
pub retired-rows : (s : State) (es : List PlainEntry) (rows rows0 : List Row) (ns : List ℕ) (os : List Out) (hs : List (Option Handle)) → problems_in rows ≡ problems_in rows0
    → handled hs ≡ map (retired_problem rows0 ns) os → Each (IsRow s es) rows → Each (IsRow s es) (rows_retired rows os hs)
retired-rows s es rows rows0 ns [] hs d e k = k
retired-rows s es rows rows0 ns (o ∷ os) [] d e k = k
retired-rows s es rows rows0 ns (o ∷ os) (None ∷ hs) d e k =
    retired-rows s es rows rows0 ns os hs d (heads None (retired_problem rows0 ns o) (handled hs) (map (retired_problem rows0 ns) os) e).1 k
retired-rows s es rows rows0 ns (o ∷ os) (Some h ∷ hs) d e k =
    let t = heads (Some h.value) (retired_problem rows0 ns o) (handled hs) (map (retired_problem rows0 ns) os) e in
    let v = if-value (is_retired ns o) (problem_at rows0 o.problem) h.value t.0 ∙ sym (at-same rows0 rows o.problem d) in
    retired-rows s es (with_handle rows o.problem (Some h)) rows0 ns os hs (slot-problems rows o.problem (handle_slot h) ∙ d) t.1 (row-handle s es rows o.problem h k v)

-- a row with a number lacks its handle
abbrev pub lacks : List Row → ℕ → Bool
lacks rows n = option_map_or (λ (r : Row). is_none r.1.handle) (slice_get rows n) false

and-false : (b : Bool) → false ≡ (b && false)
and-false true = refl
and-false false = refl

and-true : (b : Bool) → b ≡ (b && true)
and-true true = refl
and-true false = refl

not-equal : (b l : Bool) → b ≡ false → l ≡ (l && not b)
not-equal b l e = and-true l ∙ ap (λ (x : Bool). l && not x) (sym e)

eq-suc : (m n : ℕ) → (m == n) ≡ (suc m == suc n)
eq-suc m n = go (m == n) refl
  where
    go : (b : Bool) → (m == n) ≡ b → (m == n) ≡ (suc m == suc n)
    go true e = e ∙ sym (eq-eqb (suc m) (suc n) (ap suc (eqb-true m n e)))
    go false e = e ∙ sym (ne_eqb (suc m) (suc n) (λ i. eqb-false m n e (omega (arith, i))))

lacks-handle : (rows : List Row) (m : ℕ) (h : Handle) (n : ℕ) → lacks (with_handle rows m (Some h)) n ≡ (lacks rows n && not (m == n))
lacks-handle [] m h n = refl
lacks-handle (r ∷ rs) zero h zero = and-false (is_none r.1.handle)
lacks-handle (r ∷ rs) zero h (suc n) = not-equal (zero == suc n) (lacks rs n) (ne_eqb zero (suc n) (λ e. omega (arith, e)))
lacks-handle (r ∷ rs) (suc m) h zero =
    ap (λ (x : List Row). lacks x zero) (slot-step r rs m (handle_slot h)) ∙ not-equal (suc m == zero) (is_none r.1.handle) (ne_eqb (suc m) zero (λ e. omega (arith, e)))
lacks-handle (r ∷ rs) (suc m) h (suc n) =
    ap (λ (x : List Row). lacks x (suc n)) (slot-step r rs m (handle_slot h)) ∙ (lacks-handle rs m h n ∙ ap (λ (b : Bool). lacks rs n && not b) (eq-suc m n))

-- a claim's number is among these
abbrev pub has : List ℕ → ℕ → Bool
has ns n = list_any (λ k. k == n) ns

-- the same number is found or not
found-same : (ns : List ℕ) (m n : ℕ) → (m == n) ≡ true → has ns m ≡ has ns n
found-same ns m n e = ap (λ (k : ℕ). has ns k) (eqb-true m n e)

stays : (a b z w c d : Bool) → (b ≡ true → w ≡ z) → (a && not w) ≡ false → d ≡ (c && z) → ((a && b) || d) ≡ (((a && b) || c) && z)
stays false b z w c d f e g = g
stays true false z w c d f e g = g
stays true true true w c d f e g = refl
stays true true false w c d f e g = absurd (false≢true (sym e ∙ ap (λ (x : Bool). not x) (f refl)))

ends : (a b z w c d : Bool) → (b ≡ true → w ≡ z) → (a && not w) ≡ true → d ≡ (c && z) → d ≡ (((a && b) || c) && z)
ends false b z w c d f e g = absurd (false≢true e)
ends true false z w c d f e g = g
ends true true false w c d f e g = g ∙ sym (and-false c)
ends true true true w c d f e g = absurd (false≢true (sym (ap (λ (x : Bool). not x) (f refl)) ∙ e))

-- a claim is live after a list where it was and the list has its number
pub claimed-after : (rows0 : List Row) (ns : List ℕ) (n : ℕ) (os : List Out) (hs : List (Option Handle)) → handled hs ≡ map (retired_problem rows0 ns) os
    → is_claimed (outs_retired os hs) n ≡ (is_claimed os n && has ns n)
claimed-after rows0 ns n [] hs e = refl
claimed-after rows0 ns n (o ∷ os) [] e = cc
claimed-after rows0 ns n (o ∷ os) (None ∷ hs) e =
    let t = heads None (retired_problem rows0 ns o) (handled hs) (map (retired_problem rows0 ns) os) e in
    stays o.is_live (o.problem == n) (has ns n) (has ns o.problem) (is_claimed os n) (is_claimed (outs_retired os hs) n) (found-same ns o.problem n)
    (if-none (is_retired ns o) (problem_at rows0 o.problem) t.0) (claimed-after rows0 ns n os hs t.1)
claimed-after rows0 ns n (o ∷ os) (Some h ∷ hs) e =
    let t = heads (Some h.value) (retired_problem rows0 ns o) (handled hs) (map (retired_problem rows0 ns) os) e in
    ends o.is_live (o.problem == n) (has ns n) (has ns o.problem) (is_claimed os n) (is_claimed (outs_retired os hs) n) (found-same ns o.problem n)
    (if-some (is_retired ns o) (problem_at rows0 o.problem) h.value t.0) (claimed-after rows0 ns n os hs t.1)

lack-stays : (a b z w c l : Bool) → (b ≡ true → w ≡ z) → (a && not w) ≡ false → (l && not (c && not z)) ≡ (l && not (((a && b) || c) && not z))
lack-stays false b z w c l f e = refl
lack-stays true false z w c l f e = refl
lack-stays true true true w c l f e = ap (λ (x : Bool). l && not x) (sym (and-false c))
lack-stays true true false w c l f e = absurd (false≢true (sym e ∙ ap (λ (x : Bool). not x) (f refl)))

lack-ends : (a b z w c l : Bool) → (b ≡ true → w ≡ z) → (a && not w) ≡ true → ((l && not b) && not (c && not z)) ≡ (l && not (((a && b) || c) && not z))
lack-ends false b z w c l f e = absurd (false≢true e)
lack-ends true false z w c l f e = ap (λ (x : Bool). x && not (c && not z)) (sym (and-true l))
lack-ends true true false w c l f e = ap (λ (x : Bool). x && not (c && true)) (sym (and-false l)) ∙ and-false l
lack-ends true true true w c l f e = absurd (false≢true (sym (ap (λ (x : Bool). not x) (f refl)) ∙ e))

-- a row lacks its handle after a list where it did and no claim on it ended
pub lacks-after : (rows rows0 : List Row) (ns : List ℕ) (n : ℕ) (os : List Out) (hs : List (Option Handle)) → handled hs ≡ map (retired_problem rows0 ns) os
    → lacks (rows_retired rows os hs) n ≡ (lacks rows n && not (is_claimed os n && not (has ns n)))
lacks-after rows rows0 ns n [] hs e = and-true (lacks rows n)
lacks-after rows rows0 ns n (o ∷ os) [] e = cc
lacks-after rows rows0 ns n (o ∷ os) (None ∷ hs) e =
    let t = heads None (retired_problem rows0 ns o) (handled hs) (map (retired_problem rows0 ns) os) e in
    lacks-after rows rows0 ns n os hs t.1
    ∙ lack-stays o.is_live (o.problem == n) (has ns n) (has ns o.problem) (is_claimed os n) (lacks rows n) (found-same ns o.problem n) (if-none (is_retired ns o) (problem_at rows0 o.problem) t.0)
lacks-after rows rows0 ns n (o ∷ os) (Some h ∷ hs) e =
    let t = heads (Some h.value) (retired_problem rows0 ns o) (handled hs) (map (retired_problem rows0 ns) os) e in
    lacks-after (with_handle rows o.problem (Some h)) rows0 ns n os hs t.1
    ∙ (ap (λ (x : Bool). x && not (is_claimed os n && not (has ns n))) (lacks-handle rows o.problem h n)
    ∙ lack-ends o.is_live (o.problem == n) (has ns n) (has ns o.problem) (is_claimed os n) (lacks rows n) (found-same ns o.problem n) (if-some (is_retired ns o) (problem_at rows0 o.problem) h.value t.0))

agree : (c z : Bool) → (c && z) ≡ (c && not (c && not z))
agree true true = refl
agree true false = refl
agree false z = refl

-- the problems whose handles are away are those of the live claims, as before
pub live-after : (rows rows0 : List Row) (ns : List ℕ) (n : ℕ) (os : List Out) (hs : List (Option Handle)) → handled hs ≡ map (retired_problem rows0 ns) os
    → is_claimed os n ≡ lacks rows n → is_claimed (outs_retired os hs) n ≡ lacks (rows_retired rows os hs) n
live-after rows rows0 ns n os hs e l =
    claimed-after rows0 ns n os hs e
    ∙ (agree (is_claimed os n) (has ns n)
    ∙ (ap (λ (b : Bool). b && not (is_claimed os n && not (has ns n))) l ∙ sym (lacks-after rows rows0 ns n os hs e)))

dead : (list : List (Key × ProblemDraft)) (t : Ticket) → is_cancelled list t ≡ true → record t { is_live = false } ≡ cancel list t
dead list t e = rw e refl

alive : (list : List (Key × ProblemDraft)) (t : Ticket) → is_cancelled list t ≡ false → t ≡ cancel list t
alive list t e = rw e refl

-- the tickets of the claims after a list
pub tickets-after : (rows new : List Row) (list : List (Key × ProblemDraft)) (os : List Out) (hs : List (Option Handle)) → handled hs ≡ map (cancelled_problem list) (map (ticket_at rows) os)
    → Each (λ x. problem_at new x.problem ≡ problem_at rows x.problem) os
    → map (ticket_at new) (outs_retired os hs) ≡ map (cancel list) (map (ticket_at rows) os)
tickets-after rows new list [] hs e a = refl
tickets-after rows new list (o ∷ os) [] e a = cc
tickets-after rows new list (o ∷ os) (None ∷ hs) e a =
    let t = heads None (cancelled_problem list (ticket_at rows o)) (handled hs) (map (cancelled_problem list) (map (ticket_at rows) os)) e in
    ap (λ (p : ProblemDraft). record { claim = o.claim; seat = o.seat; revision = o.revision; problem = p; is_live = o.is_live } ∷ map (ticket_at new) (outs_retired os hs)) a.0
    ∙ (ap (λ (x : Ticket). x ∷ map (ticket_at new) (outs_retired os hs)) (alive list (ticket_at rows o) (if-none (is_cancelled list (ticket_at rows o)) (problem_at rows o.problem) t.0))
    ∙ ap (λ (x : List Ticket). cancel list (ticket_at rows o) ∷ x) (tickets-after rows new list os hs t.1 a.1))
tickets-after rows new list (o ∷ os) (Some h ∷ hs) e a =
    let t = heads (Some h.value) (cancelled_problem list (ticket_at rows o)) (handled hs) (map (cancelled_problem list) (map (ticket_at rows) os)) e in
    ap (λ (p : ProblemDraft). record { claim = o.claim; seat = o.seat; revision = o.revision; problem = p; is_live = false } ∷ map (ticket_at new) (outs_retired os hs)) a.0
    ∙ (ap (λ (x : Ticket). x ∷ map (ticket_at new) (outs_retired os hs)) (dead list (ticket_at rows o) (if-some (is_cancelled list (ticket_at rows o)) (problem_at rows o.problem) h.value t.0))
    ∙ ap (λ (x : List Ticket). cancel list (ticket_at rows o) ∷ x) (tickets-after rows new list os hs t.1 a.1))
