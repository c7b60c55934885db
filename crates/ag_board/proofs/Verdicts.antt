-- Equal problems, and the verdicts that lines have of them.
use Rattle.std.proofs.Common.{◌≡◌, ◌∙◌, ◌&&◌, ◌++◌, ◌∷◌, [], zero, suc, Bool, true, false, List, map, Option, Some, None, refl, sym, ap, arith}
use Rattle.std.proofs.lemmas.Bool.{false≢true}
use Rattle.std.proofs.lemmas.List.Concat.{flat_map-append}
use Rattle.std.proofs.lemmas.List.{map-append}
use Rattle.std.specs.Prelude.{All, is_some, if◌then◌else◌}
use Rattle.std.specs.List.{flat_map}
use Rattle.ag_stream.specs.declared.problem.ProblemDraft.{ProblemDraft}
use Rattle.ag_stream.proofs.Same.{draft_decides}
use Rattle.ag_verdict.specs.declared.key.Key.{Key}
use Rattle.ag_verdict.specs.declared.verdict.Verdict.{Verdict}
use Rattle.ag_board.specs.Machine.{State, Line, same_problem, verdict_in, verdict_of, new_line, after_publish, decided_line, decided}

pub same-means : (p q : ProblemDraft) → same_problem p q ≡ true → p ≡ q
same-means p q e = (draft_decides p q).0 e

pub same-itself : (p q : ProblemDraft) → p ≡ q → same_problem p q ≡ true
same-itself p q e = (draft_decides p q).1 e

bool-false : (b : Bool) → (b ≡ true → ⊥) → b ≡ false
bool-false true h = absurd (h refl)
bool-false false h = refl

pub not-same : (p q : ProblemDraft) → (p ≡ q → ⊥) → same_problem p q ≡ false
not-same p q h = bool-false (same_problem p q) (λ e. h (same-means p q e))

-- each item, by the list's own cases
abbrev pub Each : {A : Type 0} → (A → Type 0) → List A → Type 0
Each P [] = Unit {0}
Each P (x ∷ xs) = P x × Each P xs

pub each-from : {A : Type 0} (P : A → Type 0) (xs : List A) → All P xs → Each P xs
each-from P [] h = tt
each-from P (x ∷ xs) h = (h 0 x (omega arith), each-from P xs (λ k d l. h (suc k) d (omega arith)))

pub each-to : {A : Type 0} (P : A → Type 0) (xs : List A) → Each P xs → All P xs
each-to P [] h k d l = absurd (omega arith)
each-to P (x ∷ xs) h zero d l = h.0
each-to P (x ∷ xs) h (suc k) d l = each-to P xs h.1 k d (omega arith)

pub each-append : {A : Type 0} (P : A → Type 0) (xs ys : List A) → Each P xs → Each P ys → Each P (xs ++ ys)
each-append P [] ys h g = g
each-append P (x ∷ xs) ys h g = (h.0, each-append P xs ys h.1 g)

pub each-same : {A : Type 0} (P Q : A → Type 0) (xs : List A) → ((x : A) → P x → Q x) → Each P xs → Each Q xs
each-same P Q [] f h = tt
each-same P Q (x ∷ xs) f h = (f x h.0, each-same P Q xs f h.1)

pub each-map : {A B : Type 0} (P : B → Type 0) (f : A → B) (xs : List A) → Each (λ x. P (f x)) xs → Each P (map f xs)
each-map P f [] h = tt
each-map P f (x ∷ xs) h = (h.0, each-map P f xs h.1)

pub each-any : {A : Type 0} (P : A → Type 0) (xs : List A) → ((x : A) → P x) → Each P xs
each-any P [] f = tt
each-any P (x ∷ xs) f = (f x, each-any P xs f)

-- the verdict in a list and a further one

or-else : Option Verdict → Option Verdict → Option Verdict
or-else (Some v) o = Some v
or-else None o = o

step : (b : Bool) (o r : Option Verdict) → (b ≡ true → is_some o ≡ true) → or-else (if b then o else r) r ≡ (if b then o else r)
unfolding or-else
step true (Some v) r h = refl
step true None r h = absurd (false≢true (h refl))
step false o None h = refl
step false o (Some v) h = refl

and-second : (a b : Bool) → a && b ≡ true → b ≡ true
and-second true b h = h
and-second false b h = absurd (false≢true h)

further : (b : Bool) (o r t : Option Verdict) → (b ≡ true → is_some o ≡ true) → (if b then o else or-else r t) ≡ or-else (if b then o else r) t
unfolding or-else
further true (Some v) r t h = refl
further true None r t h = absurd (false≢true (h refl))
further false o r t h = refl

verdict-append : (ls ms : List Line) (p : ProblemDraft) → verdict_in (ls ++ ms) p ≡ or-else (verdict_in ls p) (verdict_in ms p)
unfolding or-else
verdict-append [] ms p = refl
verdict-append (l ∷ ls) ms p =
    rw (verdict-append ls ms p) (further (same_problem l.problem p && is_some l.verdict) l.verdict (verdict_in ls p) (verdict_in ms p) (and-second (same_problem l.problem p) (is_some l.verdict)))

and-none : (a : Bool) (o : Option Verdict) → (a ≡ true → o ≡ None) → (a && is_some o) ≡ false
and-none true o h = ap (λ (x : Option Verdict). is_some x) (h refl)
and-none false o h = refl

new-none : (s : State) (list : List (Key × ProblemDraft)) (p : ProblemDraft) → verdict_of s p ≡ None → verdict_in (map (new_line s) list) p ≡ None
new-none s [] p e = refl
new-none s (k ∷ ks) p e =
    let n = and-none (same_problem k.1 p) (verdict_of s k.1) (λ h. ap (λ (q : ProblemDraft). verdict_of s q) (same-means k.1 p h) ∙ e) in
    rw n (new-none s ks p e)

keep-first : (o r : Option Verdict) → (o ≡ None → r ≡ None) → or-else o r ≡ o
unfolding or-else
keep-first (Some v) r h = refl
keep-first None r h = h refl

pub lines-publish : (s : State) (list : List (Key × ProblemDraft)) → flat_map (λ r. r) (after_publish s list).revisions ≡ flat_map (λ r. r) s.revisions ++ map (new_line s) list
lines-publish s list =
    flat_map-append (λ (r : List Line). r) s.revisions (map (new_line s) list ∷ []) ∙ ap (λ (x : List Line). flat_map (λ (r : List Line). r) s.revisions ++ x) (append-none (map (new_line s) list))
  where
    append-none : (x : List Line) → x ++ [] ≡ x
    append-none [] = refl
    append-none (y ∷ ys) = ap (λ (z : List Line). y ∷ z) (append-none ys)

-- a list changes no problem's verdict
pub verdict-publish : (s : State) (list : List (Key × ProblemDraft)) (p : ProblemDraft) → verdict_of (after_publish s list) p ≡ verdict_of s p
verdict-publish s list p =
    ap (λ (ls : List Line). verdict_in ls p) (lines-publish s list)
    ∙ (verdict-append (flat_map (λ r. r) s.revisions) (map (new_line s) list) p
    ∙ keep-first (verdict_of s p) (verdict_in (map (new_line s) list) p) (λ e. new-none s list p e))

-- a verdict that goes to all lines with a problem

pub lines-decided : (p : ProblemDraft) (v : Verdict) (rs : List (List Line)) → flat_map (λ r. r) (decided p v rs) ≡ map (decided_line p v) (flat_map (λ r. r) rs)
lines-decided p v [] = refl
lines-decided p v (r ∷ rs) = ap (λ (x : List Line). map (decided_line p v) r ++ x) (lines-decided p v rs) ∙ sym (map-append (decided_line p v) r (flat_map (λ r. r) rs))

-- a line of that problem has that verdict
pub line-is : (p : ProblemDraft) (v : Verdict) (l : Line) → same_problem l.problem p ≡ true → decided_line p v l ≡ record l { verdict = Some v }
line-is p v l e = rw e refl

-- another one stays as it is
pub line-stays : (p : ProblemDraft) (v : Verdict) (l : Line) → same_problem l.problem p ≡ false → decided_line p v l ≡ l
line-stays p v l e = rw e refl

pub by-same : {T : Type 0} (p q : ProblemDraft) → (p ≡ q → T) → (same_problem p q ≡ false → T) → T
by-same {T} p q f g = go (same_problem p q) refl
  where
    go : (b : Bool) → same_problem p q ≡ b → T
    go true e = f (same-means p q e)
    go false e = g e
