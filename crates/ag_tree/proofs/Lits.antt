-- Lists of literals, and what they say of an atom.
use Rattle.std.proofs.Common.{◌≡◌, ◌≢◌, ◌⊎◌, inl, inr, ℕ, ◌==◌, Bool, true, false, not, zero, suc, List, [], ◌∷◌, ◌++◌, map, reverse, Option, Some, None, refl, sym, ap, subst, ◌∙◌, arith, All, Contains}
use Rattle.std.specs.List.{Any}
use Rattle.std.proofs.lemmas.List.{reverse-append, map-append}
use Rattle.std.proofs.lemmas.List.Elements.{All-nil, All-cons, All-contains, Contains-append_left, Contains-append_right}
use Rattle.std.proofs.lemmas.Bool.{cases_eq, cond-true, cond-false, eq-eqb, ne_eqb}
use Rattle.ag_query.specs.declared.clauses.Lit.{Lit}
use Rattle.ag_query.specs.Meaning.{contrary}
use Rattle.ag_tree.specs.Facts.{Lacks}
use Rattle.ag_tree.specs.Trail.{truth_in}

pub not_self : (b : Bool) → b ≡ not b → ⊥
not_self true e = cc
not_self false e = cc

pub not_not : (b : Bool) → not (not b) ≡ b
not_not true = refl
not_not false = refl

pub same_or_not : (a b : Bool) → (a ≡ b) ⊎ (a ≡ not b)
same_or_not true true = inl refl
same_or_not true false = inr refl
same_or_not false true = inr refl
same_or_not false false = inl refl

pub same_lit : (l m : Lit) → l.atom ≡ m.atom → l.holds ≡ m.holds → l ≡ m
same_lit l m a h = ap (λ (n : ℕ). record { atom = n; holds = l.holds }) a ∙ ap (λ (b : Bool). record { atom = m.atom; holds = b }) h

pub twice : (l : Lit) → contrary (contrary l) ≡ l
twice l = same_lit (contrary (contrary l)) l refl (not_not l.holds)

pub apart_from_contrary : (l : Lit) → l ≡ contrary l → ⊥
apart_from_contrary l e = not_self l.holds (ap (λ (m : Lit). m.holds) e)

-- ---- what a list contains

pub contains_head : {X : Type 0} (x : X) (xs : List X) → Contains (x ∷ xs) x
contains_head x xs = (0, omega arith, refl)

pub contains_tail : {X : Type 0} (x y : X) (xs : List X) → Contains xs y → Contains (x ∷ xs) y
contains_tail x y xs h = (suc h.0, omega (arith, h.1), h.2)

pub contains_cases : {X : Type 0} (x y : X) (xs : List X) → Contains (x ∷ xs) y → (x ≡ y) ⊎ Contains xs y
contains_cases x y xs (zero, lt, e) = inl e
contains_cases x y xs (suc k, lt, e) = inr (k, omega (arith, lt), e)

pub contains_none : {X : Type 0} (y : X) → Contains [] y → ⊥
contains_none y h = omega (arith, h.1)

pub any_at : {X : Type 0} (P : X → Type 0) (xs : List X) (x : X) → Contains xs x → P x → Any P xs
any_at P xs x h p = (h.0, x, h.1, h.2, p)

pub contains_all : {X : Type 0} (P : X → Type 0) (xs : List X) → ((x : X) → Contains xs x → P x) → All P xs
contains_all P [] h = All-nil P
contains_all P (x ∷ xs) h = All-cons P x xs (h x (contains_head x xs)) (contains_all P xs (λ y c. h y (contains_tail x y xs c)))

pub lacks_has : (lits : List Lit) (l : Lit) → Lacks lits l.atom → Contains lits l → ⊥
lacks_has lits l lacks has = All-contains (λ m. m.atom ≢ l.atom) lits l lacks has refl

pub lacks_denies : (lits : List Lit) (l : Lit) → Lacks lits l.atom → Contains lits (contrary l) → ⊥
lacks_denies lits l lacks has = All-contains (λ m. m.atom ≢ l.atom) lits (contrary l) lacks has refl

pub lacks_cons : (l : Lit) (lits : List Lit) (a : ℕ) → l.atom ≢ a → Lacks lits a → Lacks (l ∷ lits) a
lacks_cons l lits a ne lacks = All-cons (λ m. m.atom ≢ a) l lits ne lacks

-- ---- what a list says of an atom

pub some_same : {X : Type 0} (a b : X) → Some a ≡ Some b → a ≡ b
some_same a b e = cc

pub none_some : {X : Type 0} (o : Option X) (a : X) → o ≡ None → o ≡ Some a → ⊥
none_some o a n s = cc

pub truth_here : (l : Lit) (lits : List Lit) (a : ℕ) → a ≡ l.atom → truth_in (l ∷ lits) a ≡ Some l.holds
truth_here l lits a e = cond-true (a == l.atom) (Some l.holds) (truth_in lits a) (eq-eqb a l.atom e)

pub truth_past : (l : Lit) (lits : List Lit) (a : ℕ) → (a ≡ l.atom → ⊥) → truth_in (l ∷ lits) a ≡ truth_in lits a
truth_past l lits a ne = cond-false (a == l.atom) (Some l.holds) (truth_in lits a) (ne_eqb a l.atom ne)

pub truth_has : (lits : List Lit) (l : Lit) → truth_in lits l.atom ≡ Some l.holds → Contains lits l
truth_has [] l e = absurd (none_some None l.holds refl e)
truth_has (m ∷ ms) l e =
    elim (cases_eq l.atom m.atom) [
      | inl same ↦
          let h : m.holds ≡ l.holds = some_same m.holds l.holds (sym (truth_here m ms l.atom same) ∙ e) in
          subst (Contains (m ∷ ms)) (same_lit m l (sym same) h) (contains_head m ms)
      | inr ne ↦ contains_tail m l ms (truth_has ms l (sym (truth_past m ms l.atom ne) ∙ e))
    ]

pub truth_lacks : (lits : List Lit) (a : ℕ) → truth_in lits a ≡ None → Lacks lits a
truth_lacks [] a e = All-nil (λ l. l.atom ≢ a)
truth_lacks (m ∷ ms) a e =
    elim (cases_eq a m.atom) [
      | inl same ↦ absurd (none_some (truth_in (m ∷ ms) a) m.holds e (truth_here m ms a same))
      | inr ne ↦ lacks_cons m ms a (λ s. ne (sym s)) (truth_lacks ms a (sym (truth_past m ms a ne) ∙ e))
    ]

pub lacks_truth : (lits : List Lit) (a : ℕ) → Lacks lits a → truth_in lits a ≡ None
lacks_truth [] a lacks = refl
lacks_truth (m ∷ ms) a lacks =
    let ne : m.atom ≢ a = All-contains (λ (l : Lit). l.atom ≢ a) (m ∷ ms) m lacks (contains_head m ms) in
    truth_past m ms a (λ s. ne (sym s)) ∙ lacks_truth ms a (λ k d lt. lacks (suc k) d (omega (arith, lt)))

-- ---- lists turned round

pub map_reverse : {X Y : Type 0} (f : X → Y) (xs : List X) → map f (reverse xs) ≡ reverse (map f xs)
map_reverse f [] = refl
map_reverse f (x ∷ xs) =
    ap (map f) (reverse-append (x ∷ []) xs) ∙ map-append f (reverse xs) (x ∷ []) ∙ ap (λ ys. ys ++ f x ∷ []) (map_reverse f xs) ∙ sym (reverse-append (f x ∷ []) (map f xs))

pub contains_reverse : {X : Type 0} (x : X) (xs : List X) → Contains xs x → Contains (reverse xs) x
contains_reverse {X = X} x [] h = h
contains_reverse {X = X} x (z ∷ xs) h =
    let back : reverse (z ∷ xs) ≡ reverse xs ++ z ∷ [] = reverse-append (z ∷ []) xs in
    subst (λ (ys : List X). Contains ys x) (sym back) (elim (contains_cases z x xs h) [
      | inl e ↦ Contains-append_right (reverse xs) (z ∷ []) x (subst (Contains (z ∷ [])) e (contains_head z []))
      | inr t ↦ Contains-append_left (reverse xs) (z ∷ []) x (contains_reverse x xs t)
    ])

pub contains_map : {X Y : Type 0} (f : X → Y) (xs : List X) (x : X) → Contains xs x → Contains (map f xs) (f x)
contains_map f [] x h = absurd (contains_none x h)
contains_map {Y = Y} f (z ∷ xs) x h =
    elim (contains_cases z x xs h) [
      | inl e ↦ subst (λ (y : Y). Contains (f z ∷ map f xs) y) (ap f e) (contains_head (f z) (map f xs))
      | inr t ↦ contains_tail (f z) (f x) (map f xs) (contains_map f xs x t)
    ]
