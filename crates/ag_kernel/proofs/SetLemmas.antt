-- Lists of literals as sets.
use Rattle.std.proofs.Common.{◌≡◌, ◌≢◌, inl, inr, ℕ, ◌<◌, ◌==◌, Bool, true, false, ◌&&◌, ◌||◌, List, [], ◌∷◌, ◌++◌, length, get_or, refl, sym, ap, subst, ◌∙◌, arith, All}
use Rattle.std.specs.List.{list_any}
use Rattle.std.specs.Bool.{beq}
use Rattle.std.proofs.lemmas.List.Elements.{All-head, All-tail}
use Rattle.std.proofs.lemmas.Bool.{cases_Bool, cases_lt, eqb-true, ne_eqb, false≢true}
use Rattle.std.proofs.lemmas.List.{get_or_append_left, get_or_push, length_push}
use Rattle.ag_query.specs.declared.clauses.Lit.{Lit}
use Rattle.ag_kernel.specs.declared.marks.Mark.{Mark}
use Rattle.ag_kernel.specs.Marking.{round_of}
use Rattle.ag_kernel.specs.Sets.{same, has, with_literal, joined}

-- a list whose atoms are other ones lacks the literal
pub has_none : (l : Lit) (lits : List Lit) → All (λ m. l.atom ≢ m.atom) lits → has lits l ≡ false
has_none l [] h = refl
has_none l (m ∷ ms) h =
    let e : (l.atom == m.atom) ≡ false = ne_eqb l.atom m.atom (All-head (λ m. l.atom ≢ m.atom) m ms h) in
    rw e (has_none l ms (All-tail (λ m. l.atom ≢ m.atom) m ms h))

round_zero : (b : Bool) → round_of (record { yes = 0; no = 0 }) b ≡ 0
round_zero true = refl
round_zero false = refl

-- a place for one atom more has no mark
pub marks_grown : (marks : List Mark) (round : ℕ) (lits : List Lit) → ((l : Lit) (d : Mark) → l.atom < length marks → (round_of (get_or marks l.atom d) l.holds == round) ≡ has lits l) → 0 < round → All (λ l. l.atom < length marks) lits → (l : Lit) (d : Mark) → l.atom < length (marks ++ record { yes = 0; no = 0 } ∷ []) → (round_of (get_or (marks ++ record { yes = 0; no = 0 } ∷ []) l.atom d) l.holds == round) ≡ has lits l
marks_grown marks round lits tied some there l d lt =
    let u : Mark = record { yes = 0; no = 0 } in
    elim (cases_lt l.atom (length marks)) [
      | inl in' ↦ rw (get_or_append_left marks (u ∷ []) d l.atom in') (tied l d in')
      | inr out ↦
          let same' : length marks ≡ l.atom = omega (arith, lt, length_push marks u) in
          let gone : has lits l ≡ false = has_none l lits (λ k e p q. omega (arith, there k e p)) in
          rw (get_or_push marks u d l.atom same', round_zero l.holds, gone) (ne_eqb 0 round (λ e. omega (arith, some, e)))
    ]

-- ---- what a list has

and_cases : (a b : Bool) → a && b ≡ true → (a ≡ true) × (b ≡ true)
and_cases true b e = (refl, e)
and_cases false b e = absurd (false≢true e)

beq_same : (a b : Bool) → beq a b ≡ true → a ≡ b
beq_same true true e = refl
beq_same true false e = absurd (false≢true e)
beq_same false true e = absurd (false≢true e)
beq_same false false e = refl

pub same_is : (l m : Lit) → same l m ≡ true → l ≡ m
same_is l m e =
    let p = and_cases (l.atom == m.atom) (beq l.holds m.holds) e in
    let a : l.atom ≡ m.atom = eqb-true l.atom m.atom p.0 in
    let h : l.holds ≡ m.holds = beq_same l.holds m.holds p.1 in
    ap (λ (n : ℕ). record { atom = n; holds = l.holds }) a ∙ ap (λ (b : Bool). record { atom = m.atom; holds = b }) h

or_assoc : (a b c : Bool) → (a || b) || c ≡ a || (b || c)
or_assoc true b c = refl
or_assoc false b c = refl

or_comm : (a b : Bool) → a || b ≡ b || a
or_comm true true = refl
or_comm true false = refl
or_comm false true = refl
or_comm false false = refl

or_false : (a : Bool) → a || false ≡ a
or_false true = refl
or_false false = refl

pub any-append : {X : Type 0} (p : X → Bool) (xs ys : List X) → list_any p (xs ++ ys) ≡ list_any p xs || list_any p ys
any-append p [] ys = refl
any-append p (x ∷ xs) ys = ap (λ b. p x || b) (any-append p xs ys) ∙ sym (or_assoc (p x) (list_any p xs) (list_any p ys))

-- a test that passes a literal passes a list that has it
pub any_has : (p : Lit → Bool) (l : Lit) (lits : List Lit) → has lits l ≡ true → p l ≡ true → list_any p lits ≡ true
any_has p l [] e h = absurd (false≢true e)
any_has p l (m ∷ ms) e h =
    elim (cases_Bool (same l m)) [
      | inl t ↦
          let here : p m ≡ true = ap p (sym (same_is l m t)) ∙ h in
          rw here refl
      | inr f ↦
          let rest : has ms l ≡ true = subst (λ (b : Bool). b || has ms l ≡ true) f e in
          rw (any_has p l ms rest h) (or_true (p m))
    ]
  where
    or_true : (a : Bool) → a || true ≡ true
    or_true true = refl
    or_true false = refl

-- a test passes the list with a literal where it passes the literal or the list
pub any_with : (p : Lit → Bool) (lits : List Lit) (l : Lit) → list_any p (with_literal lits l) ≡ p l || list_any p lits
any_with p lits l =
    elim (cases_Bool (has lits l)) [
      | inl t ↦
          elim (cases_Bool (p l)) [
            | inl so ↦ rw (t, so) (any_has p l lits t so)
            | inr not_so ↦ rw (t, not_so) refl
          ]
      | inr f ↦ rw f (any-append p lits (l ∷ []) ∙ ap (λ b. list_any p lits || b) (or_false (p l)) ∙ or_comm (list_any p lits) (p l))
    ]

pub any_joined : (p : Lit → Bool) (lits more : List Lit) → list_any p (joined lits more) ≡ list_any p lits || list_any p more
any_joined p lits [] = sym (or_false (list_any p lits))
any_joined p lits (l ∷ ls) =
    any_joined p (with_literal lits l) ls
    ∙ ap (λ b. b || list_any p ls) (any_with p lits l ∙ or_comm (p l) (list_any p lits))
    ∙ or_assoc (list_any p lits) (p l) (list_any p ls)

pub any_agree : {X : Type 0} (p q : X → Bool) → ((x : X) → p x ≡ q x) → (xs : List X) → list_any p xs ≡ list_any q xs
any_agree p q h [] = refl
any_agree p q h (x ∷ xs) = rw (h x, any_agree p q h xs) refl
