-- There are fewer facts than 3 to the number of open atoms, since no two have the same literals and none is empty.
use Rattle.std.proofs.Common.{◌≡◌, ◌≢◌, ◌⊎◌, inl, inr, ℕ, ◌+◌, ◌*◌, ◌^◌, ◌<◌, ◌≤◌, ◌||◌, Bool, true, false, zero, suc, List, [], ◌∷◌, ◌++◌, length, get_or, Option, Some, None, sym, refl, ap, subst, ◌∙◌, arith, All, Contains, map, eqb}
use Rattle.std.specs.Cmp.{nat_eq_equiv}
use Rattle.std.specs.List.{IsDistinct, AllByRecursion, AllPairs, list_any}
use Rattle.std.proofs.lemmas.List.{length-map, length_push}
use Rattle.std.proofs.lemmas.List.Elements.{All-nil, All-cons, All-head, All-tail, All-contains, Contains-append_left, Contains-get_or, Contains-push}
use Rattle.std.proofs.lemmas.List.Sums.{sum_by-le, sum_by_push}
use Rattle.std.proofs.lemmas.Map.Keys.{IsDistinct-cons}
use Rattle.std.proofs.lemmas.Map.Steps.{length-le_from_distinct_below}
use Rattle.std.proofs.lemmas.Map.Made.{length-le_from_is_member}
use Rattle.std.proofs.lemmas.Bool.{ne_eqb, eqb-true, eq-eqb, or_cases, false≢true}
use Rattle.std.proofs.Math.Nat.{pow-succ', pow-le-pow_right}
use Rattle.ag_query.specs.declared.clauses.Lit.{Lit}
use Rattle.ag_query.specs.declared.clauses.LClause.{LClause}
use Rattle.ag_query.specs.declared.query.Query.{Query}
use Rattle.ag_query.specs.Meaning.{contrary}
use Rattle.ag_tree.specs.declared.solved.Solved.{Solved}
use Rattle.ag_tree.specs.declared.solved.Solved.TheVariants.{Sat, Unsat, Work, Leaf}
use Rattle.ag_tree.specs.Facts.{open_atoms, IsAtRest, IsNew, IsFact, AreFacts, literal_count}
use Rattle.ag_tree.specs.Answers.{IsSpent, IsSolved, IsAtLimit, IsWithinWork}
use Rattle.ag_tree.specs.Trail.{truth_in}
use Rattle.ag_tree.proofs.Lits.{contains_cases, contains_none, lacks_denies, none_some, truth_here, truth_past, truth_has}
use Rattle.ag_tree.proofs.NewFacts.{facts_push}

digit : Option Bool → ℕ
digit None = 0
digit (Some true) = 1
digit (Some false) = 2

-- a clause as a number in base 3, by the truths that it gives the atoms
abbrev code : List ℕ → List Lit → ℕ
code [] c = 0
code (a ∷ atoms) c = digit (truth_in c a) + 3 * code atoms c

digit-lt : (o : Option Bool) → digit o < 3
unfolding digit
digit-lt None = omega arith
digit-lt (Some true) = omega arith
digit-lt (Some false) = omega arith

digit_same : (o p : Option Bool) → digit o ≡ digit p → o ≡ p
unfolding digit
digit_same None None e = refl
digit_same None (Some true) e = absurd (omega (arith, e))
digit_same None (Some false) e = absurd (omega (arith, e))
digit_same (Some true) None e = absurd (omega (arith, e))
digit_same (Some true) (Some true) e = refl
digit_same (Some true) (Some false) e = absurd (omega (arith, e))
digit_same (Some false) None e = absurd (omega (arith, e))
digit_same (Some false) (Some true) e = absurd (omega (arith, e))
digit_same (Some false) (Some false) e = refl

code-lt : (atoms : List ℕ) (c : List Lit) → code atoms c < 3 ^ length atoms
code-lt [] c = omega arith
code-lt (a ∷ atoms) c = rw (pow-succ' 3 (length atoms)) (omega (arith, digit-lt (truth_in c a), code-lt atoms c))

code_empty : (atoms : List ℕ) → code atoms [] ≡ 0
unfolding digit
code_empty [] = refl
code_empty (a ∷ atoms) = let ih : code atoms [] ≡ 0 = code_empty atoms in omega (arith, ih)

thirds : (x y m n : ℕ) → x < 3 → y < 3 → x + 3 * m ≡ y + 3 * n → (x ≡ y) × (m ≡ n)
thirds x y m n lx ly e = (omega arith, omega arith)

same_truth : (atoms : List ℕ) (c d : List Lit) → code atoms c ≡ code atoms d → (a : ℕ) → Contains atoms a → truth_in c a ≡ truth_in d a
same_truth [] c d same a h = absurd (contains_none a h)
same_truth (x ∷ atoms) c d same a h =
    let parts = thirds (digit (truth_in c x)) (digit (truth_in d x)) (code atoms c) (code atoms d) (digit-lt (truth_in c x)) (digit-lt (truth_in d x)) same in
    elim (contains_cases x a atoms h) [
      | inl e ↦ subst (λ (n : ℕ). truth_in c n ≡ truth_in d n) e (digit_same (truth_in c x) (truth_in d x) parts.0)
      | inr t ↦ same_truth atoms c d parts.1 a t
    ]

abbrev IsOnce : List Lit → Type 0
IsOnce c = AllPairs (λ l m. l.atom ≢ m.atom) c

once_tail : (x : Lit) (xs : List Lit) → IsOnce (x ∷ xs) → IsOnce xs
once_tail x xs once i j d lt in' = once (suc i) (suc j) d (omega (arith, lt)) (omega (arith, in'))

once_head : (x : Lit) (xs : List Lit) → IsOnce (x ∷ xs) → All (λ m. x.atom ≢ m.atom) xs
once_head x xs once k d lt = once zero (suc k) d (omega arith) (omega (arith, lt))

once_truth : (c : List Lit) (l : Lit) → IsOnce c → Contains c l → truth_in c l.atom ≡ Some l.holds
once_truth [] l once h = absurd (contains_none l h)
once_truth (x ∷ xs) l once h =
    elim (contains_cases x l xs h) [
      | inl same ↦ truth_here x xs l.atom (ap (λ (y : Lit). y.atom) (sym same)) ∙ ap (λ (y : Lit). Some y.holds) same
      | inr t ↦
          truth_past x xs l.atom (λ (e : l.atom ≡ x.atom). All-contains (λ (m : Lit). x.atom ≢ m.atom) xs l (once_head x xs once) t (sym e))
          ∙ once_truth xs l (once_tail x xs once) t
    ]

-- a clause is not new after one whose literals it has
not_new : (cs : List LClause) (c : List Lit) (f : LClause) → IsNew cs c → Contains cs f → ((l : Lit) → Contains f.lits l → Contains c l) → ⊥
not_new cs c f new inside within =
    let A : LClause → Type 0 = λ x. IsAtRest new.along x.lits in
    let P : Lit → Type 0 = λ l. (l ≡ new.last) ⊎ Contains new.along (contrary l) in
    let H : Lit → Type 0 = Contains new.along in
    elim (All-contains A cs f new.rests inside) [
      | inl h ↦
          elim (All-contains P c h.1 new.others (within h.1 (h.0, h.2, h.3))) [
            | inl same ↦ new.lacks_last (subst H same h.4)
            | inr denied ↦ new.plain h.1 h.4 denied
          ]
      | inr t ↦
          elim (All-contains P c t.one new.others (within t.one t.has_one)) [
            | inr denied ↦ lacks_denies new.along t.one t.lacks_one denied
            | inl one ↦
                elim (All-contains P c t.other new.others (within t.other t.has_other)) [
                  | inr denied ↦ lacks_denies new.along t.other t.lacks_other denied
                  | inl other ↦ t.apart (ap (λ (y : Lit). y.atom) (one ∙ sym other))
                ]
          ]
    ]

-- a fact that is new after another has another code
fact_apart : (q : Query) (earlier : List LClause) (f g : LClause) → All (λ l. Contains (open_atoms q) l.atom) f.lits → IsOnce f.lits → Contains earlier f → IsFact q earlier g.lits → code (open_atoms q) f.lits ≡ code (open_atoms q) g.lits → ⊥
fact_apart q earlier f g opens once inside fact same =
    not_new earlier g.lits f fact.new inside
    (λ l h.
    let O : Lit → Type 0 = λ x. Contains (open_atoms q) x.atom in
    truth_has g.lits l (sym (same_truth (open_atoms q) f.lits g.lits same l.atom (All-contains O f.lits l opens h)) ∙ once_truth f.lits l once h))

fact_some : (q : Query) (earlier : List LClause) (g : LClause) → IsFact q earlier g.lits → 0 ≡ code (open_atoms q) g.lits → ⊥
fact_some q earlier g fact zero_code =
    let l : Lit = get_or g.lits 0 (record { atom = 0; holds = true }) in
    let h : Contains g.lits l = Contains-get_or g.lits 0 (record { atom = 0; holds = true }) fact.nonempty in
    let O : Lit → Type 0 = λ x. Contains (open_atoms q) x.atom in
    none_some None l.holds refl (same_truth (open_atoms q) [] g.lits (code_empty (open_atoms q) ∙ zero_code) l.atom (All-contains O g.lits l fact.«open» h) ∙ once_truth g.lits l fact.once h)

abbrev codes : List ℕ → List LClause → List ℕ
codes atoms fs = map (λ f. code atoms f.lits) fs

apart_after : (q : Query) (earlier : List LClause) (f : LClause) (gs : List LClause) → All (λ l. Contains (open_atoms q) l.atom) f.lits → IsOnce f.lits → Contains earlier f → AreFacts q earlier gs → AllByRecursion (λ y. eqb (code (open_atoms q) f.lits) y ≡ false) (codes (open_atoms q) gs)
apart_after q earlier f [] opens once inside facts = tt
apart_after q earlier f (g ∷ gs) opens once inside facts = (
  ne_eqb (code (open_atoms q) f.lits) (code (open_atoms q) g.lits) (fact_apart q earlier f g opens once inside facts.0),
  apart_after q (earlier ++ g ∷ []) f gs opens once (Contains-append_left earlier (g ∷ []) f inside) facts.1,
)

zero_apart : (q : Query) (earlier gs : List LClause) → AreFacts q earlier gs → AllByRecursion (λ y. eqb 0 y ≡ false) (codes (open_atoms q) gs)
zero_apart q earlier [] facts = tt
zero_apart q earlier (g ∷ gs) facts =
    (ne_eqb 0 (code (open_atoms q) g.lits) (fact_some q earlier g facts.0), zero_apart q (earlier ++ g ∷ []) gs facts.1)

none_twice : IsDistinct eqb []
unfolding IsDistinct
none_twice = tt

codes_distinct : (q : Query) (earlier fs : List LClause) → AreFacts q earlier fs → IsDistinct eqb (codes (open_atoms q) fs)
codes_distinct q earlier [] facts = none_twice
codes_distinct q earlier (f ∷ fs) facts =
    IsDistinct-cons eqb (code (open_atoms q) f.lits) (codes (open_atoms q) fs)
    (apart_after q (earlier ++ f ∷ []) f fs facts.0.«open» facts.0.once (Contains-push earlier f) facts.1)
    (codes_distinct q (earlier ++ f ∷ []) fs facts.1)

codes_below : (atoms : List ℕ) (fs : List LClause) (x : ℕ) → list_any (eqb x) (codes atoms fs) ≡ true → x < 3 ^ length atoms
codes_below atoms [] x h = absurd (false≢true h)
codes_below atoms (f ∷ fs) x h =
    elim (or_cases (eqb x (code atoms f.lits)) (list_any (eqb x) (codes atoms fs)) h) [
      | inl e ↦ subst (λ (n : ℕ). n < 3 ^ length atoms) (sym (eqb-true x (code atoms f.lits) e)) (code-lt atoms f.lits)
      | inr e ↦ codes_below atoms fs x e
    ]

some_codes : (atoms : List ℕ) → 0 < 3 ^ length atoms
some_codes atoms = let h : code atoms [] < 3 ^ length atoms = code-lt atoms [] in omega (arith, h)

facts-lt : (q : Query) (earlier fs : List LClause) → AreFacts q earlier fs → length fs < 3 ^ length (open_atoms q)
facts-lt q earlier fs facts =
    let atoms : List ℕ = open_atoms q in
    let all : IsDistinct eqb (0 ∷ codes atoms fs) = IsDistinct-cons eqb 0 (codes atoms fs) (zero_apart q earlier fs facts) (codes_distinct q earlier fs facts) in
    let below : (x : ℕ) → list_any (eqb x) (0 ∷ codes atoms fs) ≡ true → x < 3 ^ length atoms =
    λ x h. elim (or_cases (eqb x 0) (list_any (eqb x) (codes atoms fs)) h) [
      | inl e ↦ subst (λ (n : ℕ). n < 3 ^ length atoms) (sym (eqb-true x 0 e)) (some_codes atoms)
      | inr e ↦ codes_below atoms fs x e
    ] in
    let le : length (0 ∷ codes atoms fs) ≤ 3 ^ length atoms = length-le_from_distinct_below (0 ∷ codes atoms fs) (3 ^ length atoms) all below in
    omega (arith, le, length-map fs (λ f. code atoms f.lits))

-- ---- how many literals a fact has

abbrev atoms_of : List Lit → List ℕ
atoms_of c = map (λ l. l.atom) c

other_atoms : (a : ℕ) (c : List Lit) → All (λ m. a ≢ m.atom) c → AllByRecursion (λ y. eqb a y ≡ false) (atoms_of c)
other_atoms a [] all = tt
other_atoms a (x ∷ xs) all =
    let P : Lit → Type 0 = λ m. a ≢ m.atom in
    (ne_eqb a x.atom (All-head P x xs all), other_atoms a xs (All-tail P x xs all))

atoms_distinct : (c : List Lit) → IsOnce c → IsDistinct eqb (atoms_of c)
atoms_distinct [] once = none_twice
atoms_distinct (x ∷ xs) once = IsDistinct-cons eqb x.atom (atoms_of xs) (other_atoms x.atom xs (once_head x xs once)) (atoms_distinct xs (once_tail x xs once))

any_eqb : (xs : List ℕ) (a : ℕ) → Contains xs a → list_any (eqb a) xs ≡ true
any_eqb [] a h = absurd (contains_none a h)
any_eqb (x ∷ xs) a h =
    elim (contains_cases x a xs h) [
      | inl e ↦ let here : eqb a x ≡ true = eq-eqb a x (sym e) in rw here refl
      | inr t ↦ let rest : list_any (eqb a) xs ≡ true = any_eqb xs a t in rw rest (or_true (eqb a x))
    ]
  where
    or_true : (b : Bool) → b || true ≡ true
    or_true true = refl
    or_true false = refl

atoms_within : (c : List Lit) (opens : List ℕ) → All (λ l. Contains opens l.atom) c → (a : ℕ) → list_any (eqb a) (atoms_of c) ≡ true → list_any (eqb a) opens ≡ true
atoms_within [] opens all a h = absurd (false≢true h)
atoms_within (x ∷ xs) opens all a h =
    let P : Lit → Type 0 = λ l. Contains opens l.atom in
    elim (or_cases (eqb a x.atom) (list_any (eqb a) (atoms_of xs)) h) [
      | inl e ↦ subst (λ (n : ℕ). list_any (eqb n) opens ≡ true) (sym (eqb-true a x.atom e)) (any_eqb opens x.atom (All-head P x xs all))
      | inr t ↦ atoms_within xs opens (All-tail P x xs all) a t
    ]

fact-length : (q : Query) (earlier : List LClause) (c : List Lit) → IsFact q earlier c → length c ≤ length (open_atoms q)
fact-length q earlier c fact =
    let le : length (atoms_of c) ≤ length (open_atoms q) = length-le_from_is_member nat_eq_equiv (atoms_of c) (open_atoms q) (atoms_distinct c fact.once) (atoms_within c (open_atoms q) fact.«open») in
    omega (arith, le, length-map c (λ (l : Lit). l.atom))

each_short : (q : Query) (earlier fs : List LClause) → AreFacts q earlier fs → All (λ f. length f.lits ≤ length (open_atoms q)) fs
each_short q earlier [] facts = All-nil (λ (f : LClause). length f.lits ≤ length (open_atoms q))
each_short q earlier (f ∷ fs) facts =
    All-cons (λ (x : LClause). length x.lits ≤ length (open_atoms q)) f fs (fact-length q earlier f.lits facts.0) (each_short q (earlier ++ f ∷ []) fs facts.1)

product_le : (a b c d : ℕ) → a ≤ c → b ≤ d → a * b ≤ c * d
product_le a b c d l m = grind (arith, l, m)

-- ---- the budget

never_spent : (q : Query) (work : ℕ) (facts : List LClause) → length (open_atoms q) ≤ 10 → 3 ^ length (open_atoms q) ≤ work → IsSpent q work facts → ⊥
never_spent q work facts few enough spent =
    let n : ℕ = length (open_atoms q) in
    let f : LClause = record { lits = spent.further } in
    let all : AreFacts q q.clauses (facts ++ f ∷ []) = facts_push q q.clauses facts f spent.kept spent.called_for in
    let fewer : length (facts ++ f ∷ []) < 3 ^ n = facts-lt q q.clauses (facts ++ f ∷ []) all in
    let long : length (facts ++ f ∷ []) ≡ length facts + 1 = length_push facts f in
    elim spent.spent [
      | inl full ↦ omega (arith, full, fewer, long, enough)
      | inr past ↦
          let most : 3 ^ n ≤ 3 ^ 10 = pow-le-pow_right (omega arith) few in
          let count : literal_count (facts ++ f ∷ []) ≤ length (facts ++ f ∷ []) * n = sum_by-le (λ (x : LClause). length x.lits) n (facts ++ f ∷ []) (each_short q q.clauses (facts ++ f ∷ []) all) in
          let small : length (facts ++ f ∷ []) ≤ 59048 = omega (arith, fewer, most) in
          let product : length (facts ++ f ∷ []) * n ≤ 59048 * 10 = product_le (length (facts ++ f ∷ [])) n 59048 10 small few in
          let sum : literal_count (facts ++ f ∷ []) ≡ literal_count facts + length f.lits = sum_by_push (λ (x : LClause). length x.lits) facts f in
          omega (arith, past, count, product, sum)
    ]

pub within_work : (leaves : Bool) (work : ℕ) (q : Query) → length (open_atoms q) ≤ 10 → 3 ^ length (open_atoms q) ≤ work → (r : Solved) → IsSolved leaves work q r → IsWithinWork r
within_work leaves work q few enough (Sat v) h = tt
within_work leaves work q few enough Unsat h = tt
within_work leaves work q few enough (Work facts) h = never_spent q work facts few enough h
within_work leaves work q few enough (Leaf lits) h = tt

pub at_limit : (leaves : Bool) (work : ℕ) (q : Query) (r : Solved) → IsSolved leaves work q r → IsAtLimit work q r
at_limit leaves work q (Sat v) h = tt
at_limit leaves work q Unsat h = tt
at_limit leaves work q (Work facts) h =
    elim h.spent [
      | inl full ↦ inl full
      | inr past ↦ let le = fact-length q (q.clauses ++ facts) h.further h.called_for in inr (omega (arith, past, le))
    ]
at_limit leaves work q (Leaf lits) h = tt
