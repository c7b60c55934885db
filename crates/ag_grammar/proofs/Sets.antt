-- Lists as sets, and what symbols begin with.
use Rattle.std.proofs.Common.{◌≡◌, ℕ, zero, suc, Bool, true, false, not, cond, ◌==◌, List, [], ◌∷◌, ◌++◌, ◌⊎◌, Some, refl, sym, ap, subst, ◌∙◌, inl, inr}
use Rattle.std.specs.Prelude.{slice_get}
use Rattle.std.specs.List.{list_all, list_any, find}
use Rattle.std.proofs.lemmas.Bool.{cases_Bool, and_parts, and_from, or_cases, or_left, or_right, both_ways, eqb-true, eq-eqb, not-true}
use Rattle.ag_grammar.specs.declared.grammar.Symbol.{Symbol}
use Rattle.ag_grammar.specs.declared.grammar.Symbol.TheVariants.{Terminal, Nonterminal}
use Rattle.ag_grammar.specs.Grammar.{PlainProduction}
use Rattle.ag_grammar.specs.Deterministic.{has, Certificate, first_of, may_be_empty, starts, all_empty, names_differ}

pub has-left : (xs ys : List ℕ) (x : ℕ) → has xs x ≡ true → has (xs ++ ys) x ≡ true
has-left [] ys x h = absurd cc
has-left (y ∷ xs) ys x h =
    elim (or_cases (y == x) (has xs x) h) [
      | inl here ↦ or_left (y == x) (has (xs ++ ys) x) here
      | inr later ↦ or_right (y == x) (has (xs ++ ys) x) (has-left xs ys x later)
    ]

pub has-right : (xs ys : List ℕ) (x : ℕ) → has ys x ≡ true → has (xs ++ ys) x ≡ true
has-right [] ys x h = h
has-right (y ∷ xs) ys x h = or_right (y == x) (has (xs ++ ys) x) (has-right xs ys x h)

pub has-either : (xs ys : List ℕ) (x : ℕ) → has (xs ++ ys) x ≡ true → (has xs x ≡ true) ⊎ (has ys x ≡ true)
has-either [] ys x h = inr h
has-either (y ∷ xs) ys x h =
    elim (or_cases (y == x) (has (xs ++ ys) x) h) [
      | inl here ↦ inl (or_left (y == x) (has xs x) here)
      | inr later ↦ elim (has-either xs ys x later) [ inl front ↦ inl (or_right (y == x) (has xs x) front) | inr back ↦ inr back ]
    ]

pub all_has : (test : ℕ → Bool) (xs : List ℕ) (x : ℕ) → list_all test xs ≡ true → has xs x ≡ true → test x ≡ true
all_has test [] x all h = absurd cc
all_has test (y ∷ xs) x all h =
    let parts = and_parts (test y) (list_all test xs) all in
    elim (or_cases (y == x) (has xs x) h) [
      | inl here ↦ subst (λ (z : ℕ). test z ≡ true) (eqb-true y x here) parts.0
      | inr later ↦ all_has test xs x parts.1 later
    ]

pub has_one : (x : ℕ) → has (x ∷ []) x ≡ true
has_one x = or_left (x == x) false (eq-eqb x x refl)

has_if : (b : Bool) (xs : List ℕ) (x : ℕ) → has (cond b xs []) x ≡ true → (b ≡ true) × (has xs x ≡ true)
has_if true xs x h = (refl, h)
has_if false xs x h = absurd cc

if_has : (b : Bool) (xs : List ℕ) (x : ℕ) → b ≡ true → has xs x ≡ true → has (cond b xs []) x ≡ true
if_has true xs x e h = h
if_has false xs x e h = absurd cc

-- ---- what symbols begin with

pub starts-append : (c : Certificate) (behind : List ℕ) (a b : List Symbol) → starts c behind (a ++ b) ≡ starts c (starts c behind b) a
starts-append c behind [] b = refl
starts-append c behind (Terminal t m ∷ a) b = refl
starts-append c behind (Nonterminal n ∷ a) b = ap (λ (xs : List ℕ). first_of c n ++ cond (may_be_empty c n) xs []) (starts-append c behind a b)

-- the symbols begin so by themselves, or they may be empty and what comes behind begins so
pub starts-either : (c : Certificate) (behind : List ℕ) (a : List Symbol) (x : ℕ) → has (starts c behind a) x ≡ true
    → (has (starts c [] a) x ≡ true) ⊎ ((all_empty c a ≡ true) × (has behind x ≡ true))
starts-either c behind [] x h = inr (refl, h)
starts-either c behind (Terminal t m ∷ a) x h = inl h
starts-either c behind (Nonterminal n ∷ a) x h =
    let rest = cond (may_be_empty c n) (starts c behind a) [] in
    let own = cond (may_be_empty c n) (starts c [] a) [] in
    elim (has-either (first_of c n) rest x h) [
      | inl front ↦ inl (has-left (first_of c n) own x front)
      | inr back ↦
          let parts = has_if (may_be_empty c n) (starts c behind a) x back in
          elim (starts-either c behind a x parts.1) [
            | inl own_start ↦ inl (has-right (first_of c n) own x (if_has (may_be_empty c n) (starts c [] a) x parts.0 own_start))
            | inr later ↦ inr (and_from (may_be_empty c n) (all_empty c a) parts.0 later.0, later.1)
          ]
    ]

-- more may come behind
pub starts-wider : (c : Certificate) (behind wider : List ℕ) (a : List Symbol) (x : ℕ) → (has behind x ≡ true → has wider x ≡ true) → has (starts c behind a) x ≡ true → has (starts c wider a) x ≡ true
starts-wider c behind wider [] x up h = up h
starts-wider c behind wider (Terminal t m ∷ a) x up h = h
starts-wider c behind wider (Nonterminal n ∷ a) x up h =
    let rest = cond (may_be_empty c n) (starts c behind a) [] in
    let more = cond (may_be_empty c n) (starts c wider a) [] in
    elim (has-either (first_of c n) rest x h) [
      | inl front ↦ has-left (first_of c n) more x front
      | inr back ↦
          let parts = has_if (may_be_empty c n) (starts c behind a) x back in
          has-right (first_of c n) more x (if_has (may_be_empty c n) (starts c wider a) x parts.0 (starts-wider c behind wider a x up parts.1))
    ]

-- ---- productions by position, and by name

pub all_at : (test : PlainProduction → Bool) (ps : List PlainProduction) (i : ℕ) (p : PlainProduction) → list_all test ps ≡ true → slice_get ps i ≡ Some p → test p ≡ true
all_at test [] i p all e = absurd cc
all_at test (q ∷ ps) zero p all e = let same : q ≡ p = cc in subst (λ (z : PlainProduction). test z ≡ true) same (and_parts (test q) (list_all test ps) all).0
all_at test (q ∷ ps) (suc i) p all e = all_at test ps i p (and_parts (test q) (list_all test ps) all).1 e

pub any_at : (test : PlainProduction → Bool) (ps : List PlainProduction) → list_any test ps ≡ true → (i : ℕ) × (p : PlainProduction) × (slice_get ps i ≡ Some p) × (test p ≡ true)
any_at test [] any = absurd cc
any_at test (q ∷ ps) any =
    elim (or_cases (test q) (list_any test ps) any) [
      | inl here ↦ (zero, q, refl, here)
      | inr later ↦ let h = any_at test ps later in (suc h.0, h.1, h.2, h.3)
    ]

at_any : (test : PlainProduction → Bool) (ps : List PlainProduction) (i : ℕ) (p : PlainProduction) → slice_get ps i ≡ Some p → test p ≡ true → list_any test ps ≡ true
at_any test [] i p e h = absurd cc
at_any test (q ∷ ps) zero p e h = let same : q ≡ p = cc in or_left (test q) (list_any test ps) (subst (λ (z : PlainProduction). test z ≡ true) (sym same) h)
at_any test (q ∷ ps) (suc i) p e h = or_right (test q) (list_any test ps) (at_any test ps i p e h)

pub find_at : (test : PlainProduction → Bool) (ps : List PlainProduction) (p : PlainProduction) → find test ps ≡ Some p → (i : ℕ) × (slice_get ps i ≡ Some p)
find_at test [] p e = absurd cc
find_at test (q ∷ ps) p e =
    elim (cases_Bool (test q)) [
      | inl passes ↦ (zero, rw passes at e)
      | inr fails ↦ let h = find_at test ps p (rw fails at e) in (suc h.0, h.1)
    ]

not_later : (q : PlainProduction) (ps : List PlainProduction) (j : ℕ) (p : PlainProduction) → not (list_any (λ r. r.name == q.name) ps) ≡ true → slice_get ps j ≡ Some p → p.name ≡ q.name → ⊥
not_later q ps j p differ e same = both_ways (list_any (λ r. r.name == q.name) ps) (not-true (list_any (λ r. r.name == q.name) ps) differ) (at_any (λ r. r.name == q.name) ps j p e (eq-eqb p.name q.name same))

-- a name tells the production
pub same_by_name : (ps : List PlainProduction) (i j : ℕ) (p q : PlainProduction) → names_differ ps ≡ true → slice_get ps i ≡ Some p → slice_get ps j ≡ Some q → p.name ≡ q.name → p ≡ q
same_by_name [] i j p q differ e f same = absurd cc
same_by_name (r ∷ ps) zero zero p q differ e f same = cc
same_by_name (r ∷ ps) zero (suc j) p q differ e f same =
    let here : r ≡ p = cc in
    absurd (not_later r ps j q (and_parts (not (list_any (λ s. s.name == r.name) ps)) (names_differ ps) differ).0 f (sym same ∙ ap (λ (z : PlainProduction). z.name) (sym here)))
same_by_name (r ∷ ps) (suc i) zero p q differ e f same =
    let here : r ≡ q = cc in
    absurd (not_later r ps i p (and_parts (not (list_any (λ s. s.name == r.name) ps)) (names_differ ps) differ).0 e (same ∙ ap (λ (z : PlainProduction). z.name) (sym here)))
same_by_name (r ∷ ps) (suc i) (suc j) p q differ e f same = same_by_name ps i j p q (and_parts (not (list_any (λ s. s.name == r.name) ps)) (names_differ ps) differ).1 e f same
