-- Sums of factors times what their streams are worth: of two lists together, and of one by a number.
use Rattle.std.proofs.Common.{◌≡◌, ℕ, ℤ, pos, ◌+ℤ◌, ◌*ℤ◌, ◌*◌, Bool, true, false, not, List, [], ◌∷◌, ◌++◌, map, refl, ap, sym, ◌∙◌, arith}
use Rattle.std.specs.Prelude.{◌==◌, if◌then◌else◌}
use Rattle.std.proofs.lemmas.Bool.Decides.{nat_tests}
use Rattle.std.proofs.lemmas.Int.{ints}
use borrow.Author.Differences.{up, down, sum_is_lem, product_is}
use Rattle.ag_linear.specs.declared.value.Factor.{Factor}
use Rattle.ag_linear.specs.Rows.{precedes, is_of_one, is_zero, joined, add_factor, plus_factors, times_factor}
use Rattle.ag_linear.proofs.Merges.{both_hold}

-- ---- products

pub times_add : (m a b : ℤ) → m *ℤ (a +ℤ b) ≡ m *ℤ a +ℤ m *ℤ b
times_add m a b =
    let above = ap (λ (n : ℕ). up m * n) (sum_is_lem a b) in
    let below = ap (λ (n : ℕ). down m * n) (sum_is_lem a b) in
    omega (arith, ints)

pub times_assoc : (m a b : ℤ) → (m *ℤ a) *ℤ b ≡ m *ℤ (a *ℤ b)
times_assoc m a b =
    let p = product_is m a in
    let q = product_is a b in
    let above = (λ (n : ℕ). n * up b) in
    let below = (λ (n : ℕ). n * down b) in
    let over = (λ (n : ℕ). up m * n) in
    let under = (λ (n : ℕ). down m * n) in
    omega (arith, ints, ap above p.0, ap below p.0, ap above p.1, ap below p.1, ap over q.0, ap under q.0, ap over q.1, ap under q.1)

pub add_times : (a b m : ℤ) → (a +ℤ b) *ℤ m ≡ a *ℤ m +ℤ b *ℤ m
add_times a b m =
    let above = ap (λ (n : ℕ). n * up m) (sum_is_lem a b) in
    let below = ap (λ (n : ℕ). n * down m) (sum_is_lem a b) in
    omega (arith, ints)

pub nothing : (z : ℤ) → is_zero z ≡ true → z ≡ pos 0
nothing z e = grind (arith, ints, nat_tests)

-- ---- sums

-- what factors come to, where a stream has this weight
abbrev pub weighed : (ℕ → Bool → ℤ) → List Factor → ℤ
weighed w [] = pos 0
weighed w (f ∷ fs) = (f.factor *ℤ w f.stream f.before) +ℤ weighed w fs

same_flag : (a b : Bool) → (if a then b else not b) ≡ true → a ≡ b
same_flag true true e = refl
same_flag true false e = sym e
same_flag false true e = e
same_flag false false e = refl

pub equal_numbers : (a b : ℕ) → (a == b) ≡ true → a ≡ b
equal_numbers a b e = grind (arith, nat_tests)

same_weight : (w : ℕ → Bool → ℤ) (f g : Factor) → is_of_one f g ≡ true → w f.stream f.before ≡ w g.stream g.before
same_weight w f g e =
    let parts = both_hold (f.stream == g.stream) (if f.before then g.before else not g.before) e in
    ap (λ (n : ℕ). w n f.before) (equal_numbers f.stream g.stream parts.0) ∙ ap (w g.stream) (same_flag f.before g.before parts.1)

-- factors of one stream as one factor
weighed-joined : (w : ℕ → Bool → ℤ) (f g : Factor) (gs : List Factor) → is_of_one f g ≡ true →
    weighed w (joined f g ++ gs) ≡ (f.factor *ℤ w f.stream f.before) +ℤ weighed w (g ∷ gs)
weighed-joined w f g gs e =
    by (is_zero (f.factor +ℤ g.factor)) refl ∙ added
  where
    added : ((f.factor +ℤ g.factor) *ℤ w g.stream g.before) +ℤ weighed w gs ≡ (f.factor *ℤ w f.stream f.before) +ℤ weighed w (g ∷ gs)
    added =
        let same = ap (λ (z : ℤ). f.factor *ℤ z) (same_weight w f g e) in
        let parts = add_times f.factor g.factor (w g.stream g.before) in
        omega (arith, ints)

    by : (b : Bool) → is_zero (f.factor +ℤ g.factor) ≡ b →
        weighed w ((if b then [] else record { stream = g.stream; before = g.before; factor = f.factor +ℤ g.factor } ∷ []) ++ gs) ≡
        ((f.factor +ℤ g.factor) *ℤ w g.stream g.before) +ℤ weighed w gs
    by true z =
        let none = ap (λ (a : ℤ). a *ℤ w g.stream g.before) (nothing (f.factor +ℤ g.factor) z) in
        omega (arith, ints)
    by false z = refl

weighed-add_factor : (w : ℕ → Bool → ℤ) (f : Factor) (gs : List Factor) → weighed w (add_factor f gs) ≡ (f.factor *ℤ w f.stream f.before) +ℤ weighed w gs
weighed-add_factor w f [] = refl
weighed-add_factor w f (g ∷ gs) = by (weighed-add_factor w f gs) (is_of_one f g) refl (precedes f g)
  where
    by : weighed w (add_factor f gs) ≡ (f.factor *ℤ w f.stream f.before) +ℤ weighed w gs → (one : Bool) → is_of_one f g ≡ one → (first : Bool) →
        weighed w (if one then joined f g ++ gs else (if first then f ∷ g ∷ gs else g ∷ add_factor f gs)) ≡ (f.factor *ℤ w f.stream f.before) +ℤ weighed w (g ∷ gs)
    by rest true e first = weighed-joined w f g gs e
    by rest false e true = refl
    by rest false e false = omega (arith, ints)

pub weighed-plus_factors : (w : ℕ → Bool → ℤ) (fs gs : List Factor) → weighed w (plus_factors fs gs) ≡ weighed w fs +ℤ weighed w gs
weighed-plus_factors w [] gs = omega (arith, ints)
weighed-plus_factors w (f ∷ fs) gs =
    let first = weighed-add_factor w f (plus_factors fs gs) in
    let rest = weighed-plus_factors w fs gs in
    omega (arith, ints)

pub weighed-times_factor : (w : ℕ → Bool → ℤ) (c : ℤ) (fs : List Factor) → weighed w (map (times_factor c) fs) ≡ c *ℤ weighed w fs
weighed-times_factor w c [] = omega (arith, ints)
weighed-times_factor w c (f ∷ fs) =
    let first = times_assoc c f.factor (w f.stream f.before) in
    let rest = weighed-times_factor w c fs in
    let all = times_add c (f.factor *ℤ w f.stream f.before) (weighed w fs) in
    omega (arith, ints)
