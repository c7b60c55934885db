-- In each state that a legal history leads to verdicts are true, and equal problems have the same.
use Rattle.std.proofs.Common.{◌≡◌, ◌∙◌, ◌&&◌, ◌||◌, ◌∷◌, [], ℕ, Bool, true, false, List, map, Option, Some, None, refl, sym, ap, subst}
use Rattle.std.proofs.lemmas.Bool.{false≢true}
use Rattle.std.specs.Prelude.{is_some, if◌then◌else◌, IfSome, IsSomeAnd, ◌==◌, find}
use Rattle.std.specs.List.{list_any, flat_map}
use Rattle.ag_stream.specs.declared.problem.ProblemDraft.{ProblemDraft}
use Rattle.ag_verdict.specs.declared.key.Key.{Key}
use Rattle.ag_verdict.specs.declared.verdict.Verdict.{Verdict}
use Rattle.ag_verdict.specs.Verdicts.{IsTrueOf}
use Rattle.ag_board.specs.Entries.{PlainCall, publish, claim, post, give_back, report, close, stop, PlainEntry}
use Rattle.ag_board.specs.Machine.{State, Line, Ticket, start, same_problem, verdict_in, verdict_of, new_line, after_publish, decided_line, decided, is_over, lines, undecided, is_free, after, after_found, after_post, ticket_of, May, IsLegalFrom, state_after}
use Rattle.ag_board.proofs.Verdicts.{same-means, same-itself, by-same, Each, each-append, each-same, each-map, each-any, lines-publish, verdict-publish, lines-decided, line-is, line-stays}

abbrev pub IsUniform : List Line → Type 0
IsUniform ls = Each (λ l. l.verdict ≡ verdict_in ls l.problem) ls

abbrev pub HasTrue : Line → Type 0
HasTrue l = IfSome l.verdict (IsTrueOf l.problem)

-- the lines of all revisions
abbrev pub lines_of : List (List Line) → List Line
lines_of rs = flat_map (λ r. r) rs

abbrev pub IsGood : List (List Line) → Type 0
IsGood rs = IsUniform (lines_of rs) × Each HasTrue (lines_of rs)

-- publish

cases_true : (b : Bool) (o r : Option Verdict) (P : Verdict → Type 0) → (b ≡ true → IfSome o P) → IfSome r P → IfSome (if b then o else r) P
cases_true true o r P f g = f refl
cases_true false o r P f g = g

and-first : (a b : Bool) → (a && b) ≡ true → a ≡ true
and-first true b h = refl
and-first false b h = h

pub verdict-true : (ls : List Line) (p : ProblemDraft) → Each HasTrue ls → IfSome (verdict_in ls p) (IsTrueOf p)
verdict-true [] p h = tt
verdict-true (l ∷ ls) p h =
    let P : ProblemDraft → Type 0 = λ q. IfSome l.verdict (IsTrueOf q) in
    cases_true (same_problem l.problem p && is_some l.verdict) l.verdict (verdict_in ls p) (IsTrueOf p)
    (λ e. subst P (same-means l.problem p (and-first (same_problem l.problem p) (is_some l.verdict) e)) h.0)
    (verdict-true ls p h.1)

good-publish : (s : State) (list : List (Key × ProblemDraft)) → IsGood s.revisions → IsGood (after_publish s list).revisions
good-publish s list g =
    let e = lines-publish s list in
    let U : List Line → Type 0 = λ ls. Each (λ (l : Line). l.verdict ≡ verdict_of (after_publish s list) l.problem) ls in
    let T : List Line → Type 0 = λ ls. Each HasTrue ls in (
      subst U (sym e) (each-append (λ (l : Line). l.verdict ≡ verdict_of (after_publish s list) l.problem) (lines_of s.revisions) (map (new_line s) list)
          (each-same (λ (l : Line). l.verdict ≡ verdict_of s l.problem) (λ (l : Line). l.verdict ≡ verdict_of (after_publish s list) l.problem) (lines_of s.revisions) (λ l h. h ∙ sym (verdict-publish s list l.problem)) g.0)
          (each-map (λ (l : Line). l.verdict ≡ verdict_of (after_publish s list) l.problem) (new_line s) list (each-any (λ k. (new_line s k).verdict ≡ verdict_of (after_publish s list) (new_line s k).problem) list (λ k. sym (verdict-publish s list k.1))))),
      subst T (sym e) (each-append HasTrue (lines_of s.revisions) (map (new_line s) list) g.1
          (each-map HasTrue (new_line s) list (each-any (λ k. HasTrue (new_line s k)) list (λ k. verdict-true (lines_of s.revisions) k.1 g.1)))),
    )

-- post

or-right : (a b : Bool) → b ≡ true → (a || b) ≡ true
or-right true b h = refl
or-right false b h = h

pub each-has : (ls : List Line) → Each (λ l. list_any (λ m. same_problem m.problem l.problem) ls ≡ true) ls
each-has [] = tt
each-has (l ∷ ls) = (
  ap (λ (b : Bool). b || list_any (λ (m : Line). same_problem m.problem l.problem) ls) (same-itself l.problem l.problem refl),
  each-same (λ x. list_any (λ m. same_problem m.problem x.problem) ls ≡ true) (λ x. list_any (λ m. same_problem m.problem x.problem) (l ∷ ls) ≡ true) ls
      (λ x h. or-right (same_problem l.problem x.problem) (list_any (λ (m : Line). same_problem m.problem x.problem) ls) h) (each-has ls),
)

pub verdict-decided-here : (p : ProblemDraft) (v : Verdict) (ls : List Line) → list_any (λ m. same_problem m.problem p) ls ≡ true → verdict_in (map (decided_line p v) ls) p ≡ Some v
verdict-decided-here p v [] h = absurd (false≢true h)
verdict-decided-here p v (l ∷ ls) h =
    by-same l.problem p
    (λ e. let t = same-itself l.problem p e in rw (line-is p v l t, t) refl)
    (λ e. let i = verdict-decided-here p v ls (sym (ap (λ (b : Bool). b || list_any (λ (m : Line). same_problem m.problem p) ls) e) ∙ h) in rw (line-stays p v l e, e) i)

pub verdict-decided-other : (p : ProblemDraft) (v : Verdict) (q : ProblemDraft) (ls : List Line) → (q ≡ p → ⊥) → verdict_in (map (decided_line p v) ls) q ≡ verdict_in ls q
verdict-decided-other p v q [] n = refl
verdict-decided-other p v q (l ∷ ls) n =
    let i = verdict-decided-other p v q ls n in
    by-same l.problem p
    (λ e. by-same l.problem q
    (λ f. absurd (n (sym f ∙ e)))
    (λ f. rw (line-is p v l (same-itself l.problem p e), f) i))
    (λ e. rw (line-stays p v l e, i) refl)

each-both : (P Q : Line → Type 0) (ls : List Line) → Each P ls → Each Q ls → Each (λ l. P l × Q l) ls
each-both P Q [] h g = tt
each-both P Q (l ∷ ls) h g = ((h.0, g.0), each-both P Q ls h.1 g.1)

uniform-decided : (p : ProblemDraft) (v : Verdict) (ls : List Line) → IsUniform ls → IsUniform (map (decided_line p v) ls)
uniform-decided p v ls u =
    let H : Line → Type 0 = λ l. list_any (λ (m : Line). same_problem m.problem l.problem) ls ≡ true in
    let U : Line → Type 0 = λ l. l.verdict ≡ verdict_in ls l.problem in
    let N : Line → Type 0 = λ l. l.verdict ≡ verdict_in (map (decided_line p v) ls) l.problem in
    each-map N (decided_line p v) ls
    (each-same (λ l. H l × U l) (λ l. N (decided_line p v l)) ls
    (λ l h. by-same l.problem p
    (λ e.
    let S : ProblemDraft → Type 0 = λ q. list_any (λ (m : Line). same_problem m.problem q) ls ≡ true in
    subst N (sym (line-is p v l (same-itself l.problem p e)))
    (sym (ap (λ (q : ProblemDraft). verdict_in (map (decided_line p v) ls) q) e ∙ verdict-decided-here p v ls (subst S e h.0))))
    (λ e. subst N (sym (line-stays p v l e))
    (h.1 ∙ sym (verdict-decided-other p v l.problem ls (λ f. false≢true (sym e ∙ same-itself l.problem p f))))))
    (each-both H U ls (each-has ls) u))

true-decided : (p : ProblemDraft) (v : Verdict) (ls : List Line) → IsTrueOf p v → Each HasTrue ls → Each HasTrue (map (decided_line p v) ls)
true-decided p v ls t h =
    let T : ProblemDraft → Type 0 = λ q. IsTrueOf q v in
    each-map HasTrue (decided_line p v) ls
    (each-same HasTrue (λ l. HasTrue (decided_line p v l)) ls
    (λ l g. by-same l.problem p
    (λ e. subst HasTrue (sym (line-is p v l (same-itself l.problem p e))) (subst T (sym e) t))
    (λ e. subst HasTrue (sym (line-stays p v l e)) g)) h)

good-decided : (p : ProblemDraft) (v : Verdict) (rs : List (List Line)) → IsTrueOf p v → IsGood rs → IsGood (decided p v rs)
good-decided p v rs t g =
    let e = sym (lines-decided p v rs) in
    let U : List Line → Type 0 = λ ls. IsUniform ls in
    let T : List Line → Type 0 = λ ls. Each HasTrue ls in
    (subst U e (uniform-decided p v (lines_of rs) g.0), subst T e (true-decided p v (lines_of rs) t g.1))

good-if : (b : Bool) (rs qs : List (List Line)) → IsGood rs → IsGood qs → IsGood (if b then rs else qs)
good-if true rs qs g h = g
good-if false rs qs g h = h

good-post : (s : State) (n seat : ℕ) (v : Verdict) (o : Option Ticket) → IsSomeAnd o (λ t. (t.seat ≡ seat) × IsTrueOf t.problem v) → IsGood s.revisions → IsGood (after_post s n v o).revisions
good-post s n seat v None m g = g
good-post s n seat v (Some t) m g = good-if (is_some (verdict_of s t.problem)) s.revisions (decided t.problem v s.revisions) g (good-decided t.problem v s.revisions m.1 g)

found-revisions : (s : State) (seat : ℕ) (o : Option Line) → (after_found s seat o).revisions ≡ s.revisions
found-revisions s seat None = refl
found-revisions s seat (Some l) = refl

good-state : (b : Bool) (s t : State) → IsGood s.revisions → IsGood t.revisions → IsGood (if b then s else t).revisions
good-state true s t g h = g
good-state false s t g h = h

good-after : (s : State) (seat : ℕ) (call : PlainCall) → May s seat call → IsGood s.revisions → IsGood (after s seat call).revisions
good-after s seat (publish list) m g = good-publish s list g
good-after s seat claim m g =
    let G : List (List Line) → Type 0 = λ rs. IsGood rs in
    good-state (is_over s) s (after_found s seat (find (is_free s) (lines s))) g (subst G (sym (found-revisions s seat (find (is_free s) (lines s)))) g)
good-after s seat (post n v) m g = good-post s n seat v (ticket_of s n) m g
good-after s seat (give_back n) m g = g
good-after s seat report m g = g
good-after s seat close m g = good-state (undecided s == 0) (record s { is_closed = true }) s g g
good-after s seat stop m g = g

good-from : (s : State) (es : List PlainEntry) → IsLegalFrom s es → IsGood s.revisions → IsGood (state_after s es).revisions
good-from s [] l g = g
good-from s (e ∷ es) l g = good-from (after s e.seat e.call) es l.2 (good-after s e.seat e.call l.0 g)

pub good-history : (es : List PlainEntry) → IsLegalFrom start es → IsGood (state_after start es).revisions
good-history es l = good-from start es l (tt, tt)

agree-with : (ls : List Line) (a : Line) → a.verdict ≡ verdict_in ls a.problem → (ms : List Line) → Each (λ b. b.verdict ≡ verdict_in ls b.problem) ms → Each (λ b. a.problem ≡ b.problem → a.verdict ≡ b.verdict) ms
agree-with ls a u ms h = each-same (λ b. b.verdict ≡ verdict_in ls b.problem) (λ b. a.problem ≡ b.problem → a.verdict ≡ b.verdict) ms
    (λ b k e. u ∙ (ap (λ (q : ProblemDraft). verdict_in ls q) e ∙ sym k)) h

pub all-agree : (ls : List Line) → IsUniform ls → Each (λ a. Each (λ b. a.problem ≡ b.problem → a.verdict ≡ b.verdict) ls) ls
all-agree ls u = each-same (λ a. a.verdict ≡ verdict_in ls a.problem) (λ a. Each (λ b. a.problem ≡ b.problem → a.verdict ≡ b.verdict) ls) ls (λ a h. agree-with ls a h ls u) u
