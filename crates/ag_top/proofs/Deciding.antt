-- What one turn of deciding leaves, from what the store says of its calls.
use Rattle.std.proofs.Common.{◌≡◌, ◌+◌, ◌<◌, ◌≤◌, ◌==◌, ◌∙◌, ◌∷◌, [], ℕ, Bool, true, false, List, length, map, Option, Some, None, refl, sym, ap, arith, subst, if◌then◌else◌, length-append, eq-eqb}
use Rattle.std.specs.Prelude.{find, unwrap_or, All, is_none, MatchBool, ◌↔◌}
use Rattle.std.specs.List.{AllByRecursion, flat_map}
use Rattle.std.proofs.lemmas.List.Sums.{length-filter}
use Rattle.std.proofs.lemmas.List.Elements.{recursion_from_All}
use Rattle.ag_base.specs.declared.limits.Limits.{Limits}
use Rattle.ag_stream.specs.declared.problem.ProblemDraft.{ProblemDraft}
use Rattle.ag_stream.specs.Forms.{IsPlain}
use Rattle.ag_stream.specs.Runs.{last}
use Rattle.ag_verdict.specs.declared.key.Key.{Key}
use Rattle.ag_verdict.specs.declared.verdict.Verdict.{Verdict}
use Rattle.ag_board.specs.Entries.{PlainEntry, PlainCall, PlainReply, claim, work, busy, settled, over}
use Rattle.ag_board.specs.Machine.{State, Line, same_problem, lines, is_free, is_undecided, undecided, claim_found, claim_reply, after_found, after_claim, after_post, without, verdict_in, ticket_of}
use Rattle.ag_board.specs.Laws.{DoAgree, EqualsAgree}
use Rattle.ag_board.specs.Store.{BoardState, Enters, entry}
use Rattle.ag_board.specs.Tickets.{Handed}
use Rattle.ag_top.specs.Commands.{editor}
use Rattle.ag_top.specs.Keeping.{listed, IsIdle, KeepsKeys, Posts, Returns, weight}
use Rattle.ag_top.proofs.Keeping.{at_rest, Left, LeftDecided, LeftAsIs, literal, free-undecided, found_has, found_passes, none_passes, last_has, no_verdict, post_rest, return_rest}

abbrev SameMeans : Type 0
SameMeans = (p q : ProblemDraft) → (same_problem p q ≡ true) ↔ (p ≡ q)

-- a line that a claim hands out
record HandsOut (s : State) (c r : ℕ) (p : ProblemDraft) : Type 0 where
  line : Line
  found : find (is_free s) (lines s) ≡ Some line
  claim : c ≡ s.claims + 1
  problem : p ≡ line.problem

hands_by : (s : State) (o : Option Line) → find (is_free s) (lines s) ≡ o → (c r : ℕ) (p : ProblemDraft) → work c r p ≡ claim_found s o → HandsOut s c r p
hands_by s (Some l) is c r p e = record { line = l; found = is; claim = cc; problem = cc }
hands_by s None is c r p e = absurd (no_work (undecided s == 0) e)
  where
    no_work : (b : Bool) → work c r p ≡ (if b then settled else busy (undecided s)) → ⊥
    no_work true e = cc
    no_work false e = cc

hands_out : (rs : List (List Line)) (n : ℕ) (c r : ℕ) (p : ProblemDraft) → work c r p ≡ claim_reply (at_rest rs n) → HandsOut (at_rest rs n) c r p
hands_out rs n c r p e = hands_by (at_rest rs n) (find (is_free (at_rest rs n)) (lines (at_rest rs n))) refl c r p e

-- where none is free none is undecided
none_undecided : (rs : List (List Line)) (n : ℕ) → find (is_free (at_rest rs n)) (lines (at_rest rs n)) ≡ None → undecided (at_rest rs n) ≡ 0
none_undecided rs n e = let c = none_passes is_undecided (unwrap_or (last rs) []) (sym (free-undecided rs n) ∙ e) in let l = length-filter is_undecided (unwrap_or (last rs) []) in omega (arith, c, l)

settled_by : (rs : List (List Line)) (n : ℕ) (o : Option Line) → find (is_free (at_rest rs n)) (lines (at_rest rs n)) ≡ o → settled ≡ claim_found (at_rest rs n) o → undecided (at_rest rs n) ≡ 0
settled_by rs n (Some l) is e = cc
settled_by rs n None is e = none_undecided rs n is

pub settled_rest : (rs : List (List Line)) (n : ℕ) → settled ≡ claim_reply (at_rest rs n) → undecided (at_rest rs n) ≡ 0
settled_rest rs n e = settled_by rs n (find (is_free (at_rest rs n)) (lines (at_rest rs n))) refl e

not_busy_by : (rs : List (List Line)) (n m : ℕ) (o : Option Line) → find (is_free (at_rest rs n)) (lines (at_rest rs n)) ≡ o → busy m ≡ claim_found (at_rest rs n) o → ⊥
not_busy_by rs n m (Some l) is e = cc
not_busy_by rs n m None is e = let z : (undecided (at_rest rs n) == 0) ≡ true = eq-eqb (undecided (at_rest rs n)) 0 (none_undecided rs n is) in busy_settled (undecided (at_rest rs n) == 0) z e
  where
    busy_settled : (b : Bool) → b ≡ true → busy m ≡ (if b then settled else busy (undecided (at_rest rs n))) → ⊥
    busy_settled true z e = cc
    busy_settled false z e = cc

not_busy : (rs : List (List Line)) (n m : ℕ) → busy m ≡ claim_reply (at_rest rs n) → ⊥
not_busy rs n m e = not_busy_by rs n m (find (is_free (at_rest rs n)) (lines (at_rest rs n))) refl e

not_over_by : (s : State) (o : Option Line) → over ≡ claim_found s o → ⊥
not_over_by s (Some l) e = cc
not_over_by s None e = over_settled (undecided s == 0) e
  where
    over_settled : (b : Bool) → over ≡ (if b then settled else busy (undecided s)) → ⊥
    over_settled true e = cc
    over_settled false e = cc

not_over : (rs : List (List Line)) (n : ℕ) → over ≡ claim_reply (at_rest rs n) → ⊥
not_over rs n e = not_over_by (at_rest rs n) (find (is_free (at_rest rs n)) (lines (at_rest rs n))) e

-- ---- the same for an idle board

idle_literal : (b : BoardState) → IsIdle b → b.state ≡ at_rest b.state.revisions b.state.claims
idle_literal b i = literal b.state i.at_rest.tickets i.still_open i.at_rest.not_stopped

reply_rest : (b : BoardState) → IsIdle b → claim_reply b.state ≡ claim_reply (at_rest b.state.revisions b.state.claims)
reply_rest b i = ap claim_reply (idle_literal b i)

pub never_busy : (b : BoardState) → IsIdle b → (m : ℕ) → busy m ≡ claim_reply b.state → ⊥
never_busy b i m e = not_busy b.state.revisions b.state.claims m (e ∙ reply_rest b i)

pub never_over : (b : BoardState) → IsIdle b → over ≡ claim_reply b.state → ⊥
never_over b i e = not_over b.state.revisions b.state.claims (e ∙ reply_rest b i)

pub settled_idle : (b : BoardState) → IsIdle b → settled ≡ claim_reply b.state → undecided b.state ≡ 0
settled_idle b i e = ap undecided (idle_literal b i) ∙ settled_rest b.state.revisions b.state.claims (e ∙ reply_rest b i)

plain_line : (ls : List Line) → AllByRecursion (λ (k : Key × ProblemDraft). IsPlain k.1) (map (λ (l : Line). (l.key, l.problem)) ls) → AllByRecursion (λ (l : Line). IsPlain l.problem) ls
plain_line [] h = tt
plain_line (l ∷ ls) h = (h.0, plain_line ls h.1)

pub hands_plain : (b : BoardState) → IsIdle b → All (λ k. IsPlain k.1) (listed b.state) → (c r : ℕ) (p : ProblemDraft) → work c r p ≡ claim_reply b.state → IsPlain p
hands_plain b i plain c r p e =
    let h = hands_out b.state.revisions b.state.claims c r p (e ∙ reply_rest b i) in
    subst IsPlain (sym h.problem)
    (found_has (λ (l : Line). IsPlain l.problem) (is_free (at_rest b.state.revisions b.state.claims)) (unwrap_or (last b.state.revisions) []) h.line h.found
    (plain_line (unwrap_or (last b.state.revisions) []) (recursion_from_All (λ (k : Key × ProblemDraft). IsPlain k.1) (listed b.state) plain)))

undecided_none : (l : Line) → is_undecided l ≡ true → l.verdict ≡ None
undecided_none l e = none_by l.verdict e
  where
    none_by : (o : Option Verdict) → is_none o ≡ true → o ≡ None
    none_by None e = refl
    none_by (Some v) e = cc

-- the problem of a line without a verdict has none anywhere
none_anywhere : SameMeans → (rs : List (List Line)) (n : ℕ) → EqualsAgree (at_rest rs n) → (l : Line) → find is_undecided (unwrap_or (last rs) []) ≡ Some l → verdict_in (flat_map (λ r. r) rs) l.problem ≡ None
none_anywhere same rs n agree l found =
    let P : Line → Type 0 = λ a. All (DoAgree a) (flat_map (λ r. r) rs) in
    let own : All (DoAgree l) (flat_map (λ r. r) rs) =
    found_has P is_undecided (unwrap_or (last rs) []) l found (last_has P rs (recursion_from_All P (flat_map (λ r. r) rs) agree)) in
    let none : l.verdict ≡ None = undecided_none l (found_passes is_undecided (unwrap_or (last rs) []) l found) in
    let Q : Option Verdict → Type 0 = λ o. AllByRecursion (λ (m : Line). l.problem ≡ m.problem → o ≡ m.verdict) (flat_map (λ r. r) rs) in
    no_verdict same (flat_map (λ r. r) rs) l.problem (subst Q none (recursion_from_All (DoAgree l) (flat_map (λ r. r) rs) own))

-- the state behind a claim that handed out a line
claimed_state : (rs : List (List Line)) (n : ℕ) (l : Line) → find (is_free (at_rest rs n)) (lines (at_rest rs n)) ≡ Some l → after_claim (at_rest rs n) editor ≡ after_found (at_rest rs n) editor (Some l)
claimed_state rs n l e = ap (λ (o : Option Line). after_found (at_rest rs n) editor o) e

pub turn_decided : SameMeans → (l : Limits) (b a c new : BoardState) (t : Handed) → IsIdle b → EqualsAgree b.state → a.state ≡ b.state
    → Enters a c editor claim (work t.claim t.revision t.problem) → Posts l t c new → LeftDecided b.state new.state
turn_decided same l b a c new t i agree eq e p =
    let rs = b.state.revisions in
    let n = b.state.claims in
    let lit = idle_literal b i in
    let h = hands_out rs n t.claim t.revision t.problem (e.says ∙ (ap claim_reply eq ∙ reply_rest b i)) in
    let found : find is_undecided (unwrap_or (last rs) []) ≡ Some h.line = sym (free-undecided rs n) ∙ h.found in
    let middle : c.state ≡ after_found (at_rest rs n) editor (Some h.line) = e.state ∙ (ap (λ (s : State). after_claim s editor) (eq ∙ lit) ∙ claimed_state rs n h.line h.found) in
    let none = none_anywhere same rs n (subst EqualsAgree lit agree) h.line found in
    subst (λ (s : State). LeftDecided s new.state) (sym lit)
    (post_rest same rs n h.line p.verdict found none editor new.state
    (p.enters.state ∙ (ap (λ (s : State). after_post s t.claim p.verdict (ticket_of s t.claim)) middle
    ∙ ap (λ m. after_post (after_found (at_rest rs n) editor (Some h.line)) m p.verdict (ticket_of (after_found (at_rest rs n) editor (Some h.line)) m)) h.claim)))

pub turn_returned : (b a c new : BoardState) (t : Handed) → IsIdle b → a.state ≡ b.state
    → Enters a c editor claim (work t.claim t.revision t.problem) → Returns t c new → LeftAsIs b.state new.state
turn_returned b a c new t i eq e p =
    let rs = b.state.revisions in
    let n = b.state.claims in
    let lit = idle_literal b i in
    let h = hands_out rs n t.claim t.revision t.problem (e.says ∙ (ap claim_reply eq ∙ reply_rest b i)) in
    let middle : c.state ≡ after_found (at_rest rs n) editor (Some h.line) = e.state ∙ (ap (λ (s : State). after_claim s editor) (eq ∙ lit) ∙ claimed_state rs n h.line h.found) in
    subst (λ (s : State). LeftAsIs s new.state) (sym lit)
    (return_rest rs n h.line editor new.state
    (p.enters.state ∙ (ap (λ (s : State). record s { tickets = without t.claim s.tickets }) middle
    ∙ ap (λ m. record (after_found (at_rest rs n) editor (Some h.line)) { tickets = without m (after_found (at_rest rs n) editor (Some h.line)).tickets }) h.claim)))

-- a claim that found all decided leaves the state
pub turn_settled : (b a new : BoardState) → IsIdle b → a.state ≡ b.state → Enters a new editor claim settled → new.state ≡ b.state
turn_settled b a new i eq e =
    e.state ∙ (ap (λ (s : State). after_claim s editor) (eq ∙ idle_literal b i) ∙ (unclaimed b.state.revisions b.state.claims (find (is_free (at_rest b.state.revisions b.state.claims)) (lines (at_rest b.state.revisions b.state.claims))) (e.says ∙ (ap claim_reply eq ∙ reply_rest b i)) ∙ sym (idle_literal b i)))
  where
    unclaimed : (rs : List (List Line)) (n : ℕ) (o : Option Line) → settled ≡ claim_found (at_rest rs n) o → after_found (at_rest rs n) editor o ≡ at_rest rs n
    unclaimed rs n (Some l) e = cc
    unclaimed rs n None e = refl

-- what a turn leaves is idle, with the same keys
pub left_idle : (b new : BoardState) → Left b.state new.state → new.spare ≡ 1 → IsIdle new
left_idle b new l s = record { at_rest = record { tickets = l.tickets; not_stopped = l.not_stopped; spare = s }; still_open = l.still_open }

pub weight_decided : (b new : BoardState) → undecided new.state < undecided b.state → length new.history ≡ length b.history + 2 → weight new ≤ weight b
weight_decided b new f h = omega arith

pub two_turns : (b a m new : BoardState) {seat seat' : ℕ} {c c' : PlainCall} {r r' : PlainReply} → a.history ≡ b.history → Enters a m seat c r → Enters m new seat' c' r' → length new.history ≡ length b.history + 2
two_turns b a m new {seat} {seat'} {c} {c'} {r} {r'} e first second =
    let x = length-append a.history (entry seat c r ∷ []) in
    let y = length-append m.history (entry seat' c' r' ∷ []) in
    let k = ap (λ (es : List PlainEntry). length es) first.history in
    let l = ap (λ (es : List PlainEntry). length es) second.history in
    let j = ap (λ (es : List PlainEntry). length es) e in
    omega (arith, x, y, k, l, j)

-- a turn that came back, and one that found all decided
pub weight_returned : (b new : BoardState) → undecided new.state ≡ undecided b.state → length new.history ≡ length b.history + 2 → weight new ≡ weight b + 2
weight_returned b new f h = omega arith

pub one_turn : (b a new : BoardState) {seat : ℕ} {c : PlainCall} {r : PlainReply} → a.history ≡ b.history → Enters a new seat c r → length new.history ≡ length b.history + 1
one_turn b a new {seat} {c} {r} e first =
    let x = length-append a.history (entry seat c r ∷ []) in
    let k = ap (λ (es : List PlainEntry). length es) first.history in
    let j = ap (λ (es : List PlainEntry). length es) e in
    omega (arith, x, k, j)

pub same_keys : (s new : State) → new ≡ s → KeepsKeys s new
same_keys s new e = subst (KeepsKeys s) (sym e) (record { keys = refl; revisions = refl })

pub keeps_keys : {s t u : State} → KeepsKeys s t → KeepsKeys t u → KeepsKeys s u
keeps_keys a b = record { keys = b.keys ∙ a.keys; revisions = b.revisions ∙ a.revisions }

pub when_left : {A : Type 0} (B : Type 0) (b : Bool) → b ≡ true → MatchBool b A B → A
when_left B true e m = m
when_left B false e m = cc

pub weight_reported : (b new : BoardState) → new.state ≡ b.state → length new.history ≡ length b.history + 1 → weight new ≤ weight b + 1
weight_reported b new f h = let u = ap undecided f in omega (arith, u, h)
