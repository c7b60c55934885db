-- Which lists of literals hold, where a test says which literals are true.
use Rattle.std.proofs.Common.{◌≡◌, ◌⊎◌, inl, inr, Bool, true, false, not, ◌&&◌, ◌||◌, cond, List, [], ◌∷◌, ◌++◌, map, filter, refl, sym, ap, ◌∙◌, All}
use Rattle.std.specs.List.{list_any, list_all}
use Rattle.std.proofs.lemmas.Bool.{cases_Bool, false≢true, both_ways}
use Rattle.std.proofs.lemmas.List.Elements.{All-head, All-tail, All-push}
use Rattle.ag_query.specs.declared.clauses.Lit.{Lit}
use Rattle.ag_query.specs.Meaning.{contrary}
use Rattle.ag_kernel.specs.Sets.{same, has, with_literal, joined, without}
use Rattle.ag_kernel.specs.Units.{left_of, drawn, is_conflict, conflict_along, comes_to_conflict}
use Rattle.ag_kernel.proofs.SetLemmas.{same_is}

pub or_cases : (a b : Bool) → a || b ≡ true → (a ≡ true) ⊎ (b ≡ true)
or_cases true b e = inl refl
or_cases false b e = inr e

pub or_left : (a b : Bool) → a ≡ true → a || b ≡ true
or_left true b e = refl
or_left false b e = absurd (false≢true e)

pub or_right : (a b : Bool) → b ≡ true → a || b ≡ true
or_right true b e = refl
or_right false b e = e

pub any_weaker : {X : Type 0} (p q : X → Bool) → ((x : X) → p x ≡ true → q x ≡ true) → (xs : List X) → list_any p xs ≡ true → list_any q xs ≡ true
any_weaker p q h [] e = absurd (false≢true e)
any_weaker p q h (x ∷ xs) e =
    elim (or_cases (p x) (list_any p xs) e) [
      | inl here ↦ or_left (q x) (list_any q xs) (h x here)
      | inr rest ↦ or_right (q x) (list_any q xs) (any_weaker p q h xs rest)
    ]

-- what a filter drops is false, so something true is left
pub any_filter : {X : Type 0} (p q : X → Bool) → ((x : X) → q x ≡ false → p x ≡ false) → (xs : List X) → list_any p (filter q xs) ≡ list_any p xs
any_filter p q h [] = refl
any_filter p q h (x ∷ xs) =
    elim (cases_Bool (q x)) [
      | inl t ↦ rw t (ap (λ b. p x || b) (any_filter p q h xs))
      | inr f ↦ rw (f, h x f) (any_filter p q h xs)
    ]

pub any_without : (p : Lit → Bool) (l : Lit) → p l ≡ false → (lits : List Lit) → list_any p (without lits l) ≡ list_any p lits
any_without p l h lits = any_filter p (λ m. not (same l m)) (λ m e. ap p (sym (same_is l m (of_not (same l m) e))) ∙ h) lits
  where
    of_not : (b : Bool) → not b ≡ false → b ≡ true
    of_not true e = refl
    of_not false e = absurd (false≢true (sym e))

pub All-with : (P : Lit → Type 0) (lits : List Lit) (l : Lit) → All P lits → P l → All P (with_literal lits l)
All-with P lits l h here =
    elim (cases_Bool (has lits l)) [
      | inl t ↦ rw t h
      | inr f ↦ rw f (All-push P lits l h here)
    ]

pub All-joined : (P : Lit → Type 0) (lits more : List Lit) → All P lits → All P more → All P (joined lits more)
All-joined P lits [] h g = h
All-joined P lits (l ∷ ls) h g = All-joined P (with_literal lits l) ls (All-with P lits l h (All-head P l ls g)) (All-tail P l ls g)

-- ---- unit steps, where no literal of the clause is true

-- a test that takes the contrary's truth the other way
abbrev pub IsTruth : (Lit → Bool) → Type 0
IsTruth p = (l : Lit) → p (contrary l) ≡ not (p l)

not_false : (b : Bool) → b ≡ false → not b ≡ true
not_false true e = absurd (false≢true (sym e))
not_false false e = refl

not_true : (b : Bool) → not b ≡ true → b ≡ false
not_true true e = absurd (false≢true e)
not_true false e = refl

or_false : (a b : Bool) → a || b ≡ false → (a ≡ false) × (b ≡ false)
or_false true b e = absurd (false≢true (sym e))
or_false false b e = (refl, e)

-- the contraries of a clause that is false are true
denied : (p : Lit → Bool) → IsTruth p → (clause : List Lit) → list_any p clause ≡ false → (l : Lit) → has (map contrary clause) l ≡ true → p l ≡ true
denied p truth [] f l e = absurd (false≢true e)
denied p truth (m ∷ ms) f l e =
    let both = or_false (p m) (list_any p ms) f in
    elim (or_cases (same l (contrary m)) (has (map contrary ms) l) e) [
      | inl here ↦ ap p (same_is l (contrary m) here) ∙ truth m ∙ not_false (p m) both.0
      | inr rest ↦ denied p truth ms both.1 l rest
    ]

one_true : (p : Lit → Bool) (m : Lit) (ms : List Lit) → list_all (same m) ms ≡ true → list_any p (m ∷ ms) ≡ true → p m ≡ true
one_true p m [] all e = elim (or_cases (p m) false e) [ inl here ↦ here | inr rest ↦ absurd (false≢true rest) ]
one_true p m (x ∷ xs) all e =
    let a = both (same m x) (list_all (same m) xs) all in
    elim (or_cases (p m) (p x || list_any p xs) e) [
      | inl here ↦ here
      | inr rest ↦
          elim (or_cases (p x) (list_any p xs) rest) [
            | inl next ↦ ap p (same_is m x a.0) ∙ next
            | inr more ↦ one_true p m xs a.1 (or_right (p m) (list_any p xs) more)
          ]
    ]
  where
    both : (a b : Bool) → a && b ≡ true → (a ≡ true) × (b ≡ true)
    both true b e = (refl, e)
    both false b e = absurd (false≢true e)

drawn_true : (p : Lit → Bool) (list xs : List Lit) → ((l : Lit) → has list l ≡ true → p l ≡ true) → list_any p xs ≡ true → (l : Lit) → has (drawn xs ++ list) l ≡ true → p l ≡ true
drawn_true p list [] h some l e = h l e
drawn_true p list (m ∷ ms) h some l e = by (list_all (same m) ms) refl e
  where
    by : (b : Bool) → list_all (same m) ms ≡ b → has (cond b (m ∷ []) [] ++ list) l ≡ true → p l ≡ true
    by true all e =
        elim (or_cases (same l m) (has list l) e) [
          | inl here ↦ ap p (same_is l m here) ∙ one_true p m ms all some
          | inr rest ↦ h l rest
        ]
    by false all e = h l e

some_left : (p : Lit → Bool) (xs : List Lit) → list_any p xs ≡ true → is_conflict xs ≡ false
some_left p [] e = absurd (false≢true e)
some_left p (x ∷ xs) e = refl

-- where the list's literals are true and each line has a true one, no step is a conflict
no_conflict : (p : Lit → Bool) → IsTruth p → (list : List Lit) → ((l : Lit) → has list l ≡ true → p l ≡ true) → (lines : List (List Lit)) → All (λ line. list_any p line ≡ true) lines → conflict_along list lines ≡ false
no_conflict p truth list h [] all = refl
no_conflict p truth list h (line ∷ lines) all =
    let T : List Lit → Type 0 = λ xs. list_any p xs ≡ true in
    let left : list_any p (left_of list line) ≡ true =
    any_filter p (λ l. not (has list (contrary l))) (λ l e. not_true (p l) (sym (truth l) ∙ h (contrary l) (of_not (has list (contrary l)) e))) line ∙ All-head T line lines all in
    rw (some_left p (left_of list line) left) (no_conflict p truth (drawn (left_of list line) ++ list) (drawn_true p list (left_of list line) h left) lines (All-tail T line lines all))
  where
    of_not : (b : Bool) → not b ≡ false → b ≡ true
    of_not true e = refl
    of_not false e = absurd (false≢true (sym e))

-- so the clause has a true literal
pub concluded : (p : Lit → Bool) → IsTruth p → (clause : List Lit) (lines : List (List Lit)) → All (λ line. list_any p line ≡ true) lines → comes_to_conflict clause lines ≡ true → list_any p clause ≡ true
concluded p truth clause lines all e =
    elim (cases_Bool (list_any p clause)) [
      | inl t ↦ t
      | inr f ↦
          let d = denied p truth clause f in
          elim (or_cases (list_any (has (map contrary clause)) clause) (conflict_along (map contrary clause) lines) e) [
            | inl twice ↦ any_weaker (has (map contrary clause)) p d clause twice
            | inr steps ↦ absurd (both_ways (conflict_along (map contrary clause) lines) (no_conflict p truth (map contrary clause) d lines all) steps)
          ]
    ]
