-- Where `**}` stands.
use Rattle.std.proofs.Common.{◌≡◌, ℕ, ◌+◌, ◌<◌, ◌≤◌, true, false, List, [], ◌∷◌, ◌++◌, length, drop, Option, Some, None, refl, sym, ap, subst, ◌∙◌, inl, inr, ◌⊎◌, arith}
use Rattle.std.specs.Prelude.{nat_eq, codes}
use Rattle.std.specs.Option.{option_map}
use Rattle.std.specs.List.{starts_with}
use Rattle.std.proofs.lemmas.Bool.{cases_Bool, or_cases, or_from, or_left, or_right, both_ways}
use Rattle.std.proofs.lemmas.List.{append_assoc, length-append}
use Rattle.ag_lex.specs.Spelling.{has_close}
use Rattle.ag_lex.specs.Scanning.{closes_at}
use Rattle.ag_lex.proofs.Fronts.{starts, starts-append, starts_from, longer_front}

pub has_close-append : (xs ys : List ℕ) → has_close xs ≡ true → has_close (xs ++ ys) ≡ true
has_close-append [] ys h = absurd cc
has_close-append (x ∷ xs) ys h =
    elim (or_cases (starts_with nat_eq (x ∷ xs) (codes "**}")) (has_close xs) h) [
      | inl here ↦ or_left (starts_with nat_eq (x ∷ (xs ++ ys)) (codes "**}")) (has_close (xs ++ ys)) (starts-append (x ∷ xs) ys (codes "**}") here)
      | inr later ↦ or_right (starts_with nat_eq (x ∷ (xs ++ ys)) (codes "**}")) (has_close (xs ++ ys)) (has_close-append xs ys later)
    ]

pub closes_inside : (a d : List ℕ) → has_close (a ++ (codes "**}" ++ d)) ≡ true
closes_inside [] d = or_left (starts_with nat_eq (codes "**}" ++ d) (codes "**}")) (has_close (42 ∷ 125 ∷ d)) (starts_from (codes "**}" ++ d) (codes "**}") d refl)
closes_inside (x ∷ a) d = or_right (starts_with nat_eq (x ∷ (a ++ (codes "**}" ++ d))) (codes "**}")) (has_close (a ++ (codes "**}" ++ d))) (closes_inside a d)

-- the bytes before the first mark, and those behind it
pub record IsClosed (x : List ℕ) (n : ℕ) : Type 0 where
  pub inside : List ℕ
  pub after : List ℕ
  pub len : length inside ≡ n
  pub parts : x ≡ inside ++ (codes "**}" ++ after)
  pub none_before : has_close (inside ++ codes "**") ≡ false

map_some : (o : Option ℕ) (n : ℕ) → option_map (λ n. n + 1) o ≡ Some n → (m : ℕ) × (o ≡ Some m) × (m + 1 ≡ n)
map_some None n e = absurd cc
map_some (Some m) n e = (m, refl, cc)

map_none : (o : Option ℕ) → option_map (λ n. n + 1) o ≡ None → o ≡ None
map_none None e = refl
map_none (Some m) e = absurd cc

abbrev some : ℕ → Option ℕ
some n = Some n

is_some_of : (m n : ℕ) → some m ≡ some n → m ≡ n
is_some_of m n e = cc

closed_later : (b : ℕ) (bs inside after : List ℕ) → starts_with nat_eq (b ∷ bs) (codes "**}") ≡ false → bs ≡ inside ++ (codes "**}" ++ after) → has_close (inside ++ codes "**") ≡ false
    → has_close (b ∷ (inside ++ codes "**")) ≡ false
closed_later b bs inside after fails parts none =
    elim (cases_Bool (starts_with nat_eq (b ∷ (inside ++ codes "**")) (codes "**}"))) [
      | inl here ↦
          let whole : b ∷ bs ≡ (b ∷ (inside ++ codes "**")) ++ (125 ∷ after) = ap (λ (z : List ℕ). b ∷ z) (parts ∙ sym (append_assoc inside (codes "**") (125 ∷ after))) in
          absurd (both_ways (starts_with nat_eq (b ∷ bs) (codes "**}")) fails (subst (λ (z : List ℕ). starts_with nat_eq z (codes "**}") ≡ true) (sym whole) (starts-append (b ∷ (inside ++ codes "**")) (125 ∷ after) (codes "**}") here)))
      | inr not_here ↦ or_from (starts_with nat_eq (b ∷ (inside ++ codes "**")) (codes "**}")) (has_close (inside ++ codes "**")) not_here none
    ]

pub closes_some : (x : List ℕ) (n : ℕ) → closes_at x ≡ Some n → IsClosed x n
closes_some [] n e = absurd cc
closes_some (b ∷ bs) n e =
    elim (cases_Bool (starts_with nat_eq (b ∷ bs) (codes "**}"))) [
      | inl here ↦
          let zero_is : some 0 ≡ some n = rw here at e in
          record { inside = []; after = drop 3 (b ∷ bs); len = is_some_of 0 n zero_is; parts = starts (b ∷ bs) (codes "**}") here; none_before = refl }
      | inr fails ↦
          let later : option_map (λ n. n + 1) (closes_at bs) ≡ Some n = rw fails at e in
          let m = map_some (closes_at bs) n later in
          let h = closes_some bs m.0 m.1 in
          let counted = m.2 in
          record {
            inside = b ∷ h.inside;
            after = h.after;
            len = omega (arith, h.len);
            parts = ap (λ (z : List ℕ). b ∷ z) h.parts;
            none_before = closed_later b bs h.inside h.after fails h.parts h.none_before;
          }
    ]

pub closes_none : (x : List ℕ) → closes_at x ≡ None → has_close x ≡ false
closes_none [] e = refl
closes_none (b ∷ bs) e =
    elim (cases_Bool (starts_with nat_eq (b ∷ bs) (codes "**}"))) [
      | inl here ↦ let bad : some 0 ≡ None = rw here at e in absurd cc
      | inr fails ↦
          let later : option_map (λ n. n + 1) (closes_at bs) ≡ None = rw fails at e in
          or_from (starts_with nat_eq (b ∷ bs) (codes "**}")) (has_close bs) fails (closes_none bs (map_none (closes_at bs) later))
    ]

-- two annexes that begin at one place: the first mark closes both
pub first_close : (inside rest other after : List ℕ) → has_close (other ++ codes "**") ≡ false → (inside ++ codes "**}") ++ rest ≡ (other ++ codes "**}") ++ after → length other ≤ length inside
first_close inside rest other after none e =
    elim (cases_le (length other) (length inside)) [
      | inl fits ↦ fits
      | inr longer ↦
          let split : (inside ++ codes "**}") ++ rest ≡ (other ++ codes "**") ++ (125 ∷ after) = e ∙ ap (λ (z : List ℕ). z ++ after) (sym (append_assoc other (codes "**") (125 ∷ []))) ∙ append_assoc (other ++ codes "**") (125 ∷ []) after in
          let d = longer_front (inside ++ codes "**}") rest (other ++ codes "**") (125 ∷ after) split (omega (arith, length-append inside (codes "**}"), length-append other (codes "**"))) in
          let found : has_close (other ++ codes "**") ≡ true = rw (d.1, append_assoc inside (codes "**}") d.0) (closes_inside inside d.0) in
          absurd (both_ways (has_close (other ++ codes "**")) none found)
    ]
  where
    cases_le : (m n : ℕ) → (m ≤ n) ⊎ (n < m)
    cases_le m n = grind arith
