-- Rows that are added, multiplied and compared.
use Rattle.std.proofs.Common.{◌≡◌, ℕ, ◌+◌, ◌*◌, ◌≤◌, Bool, true, false, cond, ltb, eqb, not, List, [], ◌∷◌, ◌++◌, length, map, ap, sym, ◌∙◌, refl, arith, append-nil, length-append}
use Rattle.std.specs.Prelude.{ℤ, pos, negsuc, ◌+ℤ◌, ◌-ℤ◌, ◌*ℤ◌, ◌&&◌, unsigned_abs, Some, None}
use Rattle.std.specs.List.{list_all}
use Rattle.std.proofs.Math.Nat.{mul-le-mul}
use Rattle.std.proofs.lemmas.Bool.Decides.{nat_tests}
use Rattle.std.proofs.lemmas.Int.{ints, unsigned_abs-mul}
use Rattle.std.proofs.lemmas.List.{length-map}
use Rattle.std.proofs.lemmas.List.Folds.{list_all-append, list_all-map}
use Rattle.ag_linear.proofs.Merges.{both_hold, order_plus, plus_none}
use Rattle.ag_linear.proofs.Wide.{not_true}
use Rattle.ag_linear.specs.Values.{is_carried}
use Rattle.ag_linear.specs.declared.value.Factor.{Factor}
use Rattle.ag_linear.specs.RowOrder.{AreInOrder, IsHeld, are_carried, count_of, joined_row}
use Rattle.ag_linear.specs.Rows.{Linear, carried_row, constant_row, is_carried_row, is_factor, is_zero, keeps_row, minus, plus, plus_factors, precedes, times, times_factor}

abbrev pub row : ℤ → List Factor → List ℤ → Linear
row c fs hs = record { constant = c; factors = fs; hidden = hs }

abbrev all_small : List Factor → Bool
all_small fs = list_all (λ f. is_factor f.factor) fs

-- ---- limits and 128 bits

within_carried : (z : ℤ) → not (ltb 281474976710656 (unsigned_abs z)) ≡ true → is_carried z ≡ true
within_carried z h = grind (arith, nat_tests)

factor_carried : (z : ℤ) → is_factor z ≡ true → is_carried z ≡ true
factor_carried z h = grind (arith, nat_tests)

small_carried : (fs : List Factor) → all_small fs ≡ true → are_carried fs ≡ true
small_carried [] h = refl
small_carried (f ∷ fs) h =
    let parts = both_hold (is_factor f.factor) (all_small fs) h in
    rw (factor_carried f.factor parts.0) (small_carried fs parts.1)

hidden_carried : (hs : List ℤ) → list_all is_factor hs ≡ true → list_all is_carried hs ≡ true
hidden_carried [] h = refl
hidden_carried (z ∷ zs) h =
    let parts = both_hold (is_factor z) (list_all is_factor zs) h in
    rw (factor_carried z parts.0) (hidden_carried zs parts.1)

keeps_at : (a s h l a' s' h' : Bool) → (a ≡ true → a' ≡ true) → (s ≡ true → s' ≡ true) → (h ≡ true → h' ≡ true) → (a' && (s' && h')) ≡ false → (a && (s && (h && l))) ≡ false
keeps_at false s h l a' s' h' f g k e = refl
keeps_at true false h l a' s' h' f g k e = refl
keeps_at true true false l a' s' h' f g k e = refl
keeps_at true true true l a' s' h' f g k e =
    let held : (a' && (s' && h')) ≡ true = rw (f refl, g refl, k refl) refl in
    absurd (cc)

-- a row with a number of more than 128 bits passes its limits
pub past_keeps : (r : Linear) → is_carried_row r ≡ false → keeps_row r ≡ false
past_keeps r e =
    keeps_at (not (ltb 281474976710656 (unsigned_abs r.constant))) (all_small r.factors) (list_all is_factor r.hidden) (not (ltb 1024 (length r.factors + length r.hidden))) (is_carried r.constant) (are_carried r.factors) (list_all is_carried r.hidden)
    (within_carried r.constant) (small_carried r.factors) (hidden_carried r.hidden) e

-- so a row within its limits has none
pub kept_is_carried_row : (r : Linear) → keeps_row r ≡ true → is_carried_row r ≡ true
kept_is_carried_row r e = by (is_carried_row r) refl
  where
    by : (b : Bool) → is_carried_row r ≡ b → b ≡ true
    by true c = refl
    by false c = let wrong = past_keeps r c in cc

pub past_row : (r : Linear) → is_carried_row r ≡ false → None ≡ carried_row (Some r)
past_row r e = rw e refl

pub past_passes : (r : Linear) → is_carried_row r ≡ false → true ≡ not (keeps_row r)
past_passes r e = sym (ap not (past_keeps r e))

pub held_row : (r : Linear) → is_carried r.constant ≡ true → IsHeld r → Some r ≡ carried_row (Some r)
held_row r c h = rw (c, h.factors, h.hidden) refl

constant_past : (r : Linear) → (is_carried r.constant ≡ true → ⊥) → is_carried_row r ≡ false
constant_past r h = rw (not_true (is_carried r.constant) h) refl

past_at : (a s h : Bool) → (s && h) ≡ false → (a && (s && h)) ≡ false
past_at true s h e = e
past_at false s h e = refl

factors_past_at : (a s h : Bool) → s ≡ false → (a && (s && h)) ≡ false
factors_past_at true s h e = rw e refl
factors_past_at false s h e = refl

-- ---- sums

less_constant : (a b : ℤ) → a -ℤ b ≡ a +ℤ (negsuc 0 *ℤ b)
less_constant a b = omega (arith, ints)

pub minus_past : (x a b : ℤ) (fs gs : List Factor) (xs ys : List ℤ) (left right : Linear) → row a fs xs ≡ left → row b gs ys ≡ right → x ≡ a -ℤ b → (is_carried x ≡ true → ⊥) → is_carried_row (minus left right) ≡ false
minus_past x a b fs gs xs ys left right el er e h =
    constant_past (minus left right) (rw (← el, ← er) (λ k. h (ap is_carried (e ∙ less_constant a b) ∙ k)))

pub minus_joined : (x a b : ℤ) (fs gs : List Factor) (xs ys : List ℤ) (left right negated : Linear) → row a fs xs ≡ left → row b gs ys ≡ right → x ≡ a -ℤ b → negated.factors ≡ map (times_factor (negsuc 0)) right.factors → negated.hidden ≡ map (λ h. negsuc 0 *ℤ h) right.hidden → joined_row x left negated ≡ minus left right
minus_joined x a b fs gs xs ys left right negated el er e ef eh = rw (e, less_constant a b, ef, eh, ← el, ← er) refl

pub joined_past : (x : ℤ) (fs gs : List Factor) (a b : ℤ) (xs ys : List ℤ) (left right : Linear) → row a fs xs ≡ left → row b gs ys ≡ right → are_carried (plus_factors fs gs) ≡ false → is_carried_row (joined_row x left right) ≡ false
joined_past x fs gs a b xs ys left right el er e =
    rw (← el, ← er) (factors_past_at (is_carried x) (are_carried (plus_factors fs gs)) (list_all is_carried (xs ++ ys)) e)

pub joined_held : (x a b : ℤ) (fs gs sum : List Factor) (xs ys both : List ℤ) → IsHeld (row a fs xs) → IsHeld (row b gs ys) → sum ≡ plus_factors fs gs → are_carried (plus_factors fs gs) ≡ true → both ≡ xs ++ ys → IsHeld (row x sum both)
joined_held x a b fs gs sum xs ys both hl hr es carried eh = record {
  in_order = rw es (order_plus fs gs hl.in_order hr.in_order);
  factors = rw es carried;
  hidden = rw eh (list_all-append is_carried xs ys ∙ rw (hl.hidden, hr.hidden) refl);
}

pub sum_of_same : (fs gs ms ns : List Factor) → fs ≡ ms → gs ≡ ns → plus_factors fs gs ≡ plus_factors ms ns
sum_of_same fs gs ms ns p q = rw (p, q) refl

-- ---- products

nonzero_by : (m n k : ℕ) → eqb m 0 ≡ false → eqb n 0 ≡ false → k ≡ m * n → eqb k 0 ≡ false
nonzero_by m n k p q e =
    let low : 1 ≤ m = grind (arith, nat_tests) in
    let other : 1 ≤ n = grind (arith, nat_tests) in
    let product : 1 * 1 ≤ m * n = mul-le-mul low other in
    grind (arith, nat_tests)

nonzero_product : (c z : ℤ) → is_zero c ≡ false → is_zero z ≡ false → is_zero (c *ℤ z) ≡ false
nonzero_product c z p q = nonzero_by (unsigned_abs c) (unsigned_abs z) (unsigned_abs (c *ℤ z)) p q (unsigned_abs-mul c z)

all_times : (c : ℤ) (f : Factor) (gs : List Factor) → list_all (precedes f) gs ≡ true → list_all (precedes (times_factor c f)) (map (times_factor c) gs) ≡ true
all_times c f gs all = list_all-map (precedes f) (times_factor c) gs ∙ all

pub order_times : (c : ℤ) (fs : List Factor) → is_zero c ≡ false → AreInOrder fs → AreInOrder (map (times_factor c) fs)
order_times c [] nonzero order = tt
order_times c (f ∷ fs) nonzero order = (all_times c f fs order.0, nonzero_product c f.factor nonzero order.1, order_times c fs nonzero order.2)

carried_times : (by : ℤ) (fs : List Factor) → are_carried (map (times_factor by) fs) ≡ list_all (λ f. is_carried (by *ℤ f.factor)) fs
carried_times by fs = list_all-map (λ f. is_carried f.factor) (times_factor by) fs

hidden_times : (by : ℤ) (hs : List ℤ) → list_all is_carried (map (λ h. by *ℤ h) hs) ≡ list_all (λ h. is_carried (by *ℤ h)) hs
hidden_times by hs = list_all-map is_carried (λ h. by *ℤ h) hs

times_row : (by c : ℤ) (fs : List Factor) (hs : List ℤ) (r : Linear) → row c fs hs ≡ r → is_zero by ≡ false → row (by *ℤ c) (map (times_factor by) fs) (map (λ h. by *ℤ h) hs) ≡ times by r
times_row by c fs hs r e nonzero = rw (← e, nonzero) refl

-- code multiplies by x, which is `by` in 128 bits again
pub times_stops : (by x c : ℤ) (fs ms : List Factor) (hs ns : List ℤ) (r : Linear) (keeps : Bool) → row c fs hs ≡ r → is_zero by ≡ false → x ≡ by → ms ≡ fs → ns ≡ hs → keeps ≡ (list_all (λ f. is_carried (x *ℤ f.factor)) ms && list_all (λ h. is_carried (x *ℤ h)) ns) → keeps ≡ false → is_carried_row (times by r) ≡ false
times_stops by x c fs ms hs ns r keeps e nonzero ex em en ek stops =
    let same : (list_all (λ f. is_carried (x *ℤ f.factor)) ms && list_all (λ h. is_carried (x *ℤ h)) ns) ≡ (list_all (λ f. is_carried (by *ℤ f.factor)) fs && list_all (λ h. is_carried (by *ℤ h)) hs) =
    rw (em, en) (ap (λ z. list_all (λ f. is_carried (z *ℤ f.factor)) fs && list_all (λ h. is_carried (z *ℤ h)) hs) ex) in
    let past : (are_carried (map (times_factor by) fs) && list_all is_carried (map (λ h. by *ℤ h) hs)) ≡ false = rw (carried_times by fs, hidden_times by hs) (sym same ∙ (sym ek ∙ stops)) in
    ap is_carried_row (sym (times_row by c fs hs r e nonzero))
    ∙ past_at (is_carried (by *ℤ c)) (are_carried (map (times_factor by) fs)) (list_all is_carried (map (λ h. by *ℤ h) hs)) past

-- what a test of both parts says of each
pub times_kept : (by x : ℤ) (fs ms : List Factor) (hs ns : List ℤ) (keeps : Bool) → x ≡ by → ms ≡ fs → ns ≡ hs → keeps ≡ (list_all (λ f. is_carried (x *ℤ f.factor)) ms && list_all (λ h. is_carried (x *ℤ h)) ns) → keeps ≡ true → (list_all (λ f. is_carried (by *ℤ f.factor)) fs ≡ true) × (list_all (λ h. is_carried (by *ℤ h)) hs ≡ true)
times_kept by x fs ms hs ns keeps ex em en ek kept =
    let same : (list_all (λ f. is_carried (x *ℤ f.factor)) ms && list_all (λ h. is_carried (x *ℤ h)) ns) ≡ (list_all (λ f. is_carried (by *ℤ f.factor)) fs && list_all (λ h. is_carried (by *ℤ h)) hs) =
    rw (em, en) (ap (λ z. list_all (λ f. is_carried (z *ℤ f.factor)) fs && list_all (λ h. is_carried (z *ℤ h)) hs) ex) in
    both_hold (list_all (λ f. is_carried (by *ℤ f.factor)) fs) (list_all (λ h. is_carried (by *ℤ h)) hs) (sym same ∙ (sym ek ∙ kept))

pub times_held : (by x d : ℤ) (c : ℤ) (fs gs : List Factor) (hs ks : List ℤ) → IsHeld (row c fs hs) → is_zero by ≡ false → x ≡ by → gs ≡ map (times_factor x) fs → ks ≡ map (λ h. x *ℤ h) hs → list_all (λ f. is_carried (by *ℤ f.factor)) fs ≡ true → list_all (λ h. is_carried (by *ℤ h)) hs ≡ true → IsHeld (row d gs ks)
times_held by x d c fs gs hs ks h nonzero ex eg ek factors hidden =
    let g : gs ≡ map (times_factor by) fs = eg ∙ ap (λ z. map (times_factor z) fs) ex in
    let k : ks ≡ map (λ h. by *ℤ h) hs = ek ∙ ap (λ z. map (λ h. z *ℤ h) hs) ex in
    record {
      in_order = rw g (order_times by fs nonzero h.in_order);
      factors = rw g (carried_times by fs ∙ factors);
      hidden = rw k (hidden_times by hs ∙ hidden);
    }

pub times_is : (by x d c : ℤ) (fs gs : List Factor) (hs ks : List ℤ) (r : Linear) → row c fs hs ≡ r → is_zero by ≡ false → x ≡ by → d ≡ by *ℤ c → gs ≡ map (times_factor x) fs → ks ≡ map (λ h. x *ℤ h) hs → row d gs ks ≡ times by r
times_is by x d c fs gs hs ks r e nonzero ex ed eg ek =
    let g : gs ≡ map (times_factor by) fs = eg ∙ ap (λ z. map (times_factor z) fs) ex in
    let k : ks ≡ map (λ h. by *ℤ h) hs = ek ∙ ap (λ z. map (λ h. z *ℤ h) hs) ex in
    rw (ed, g, k) (times_row by c fs hs r e nonzero)

-- ---- times -1

abs_negated : (z : ℤ) → unsigned_abs (negsuc 0 *ℤ z) ≡ unsigned_abs z
abs_negated z = omega (arith, unsigned_abs-mul (negsuc 0) z)

carried_negated_one : (z : ℤ) → is_carried (negsuc 0 *ℤ z) ≡ is_carried z
carried_negated_one z = ap (λ n. ltb n 170141183460469231731687303715884105728) (abs_negated z)

factor_negated : (z : ℤ) → is_factor (negsuc 0 *ℤ z) ≡ is_factor z
factor_negated z = ap (λ n. not (ltb 2147483648 n)) (abs_negated z)

pub factors_negated : (fs : List Factor) → list_all (λ f. is_carried (negsuc 0 *ℤ f.factor)) fs ≡ are_carried fs
factors_negated [] = refl
factors_negated (f ∷ fs) = rw (carried_negated_one f.factor, factors_negated fs) refl

pub hidden_negated : (hs : List ℤ) → list_all (λ h. is_carried (negsuc 0 *ℤ h)) hs ≡ list_all is_carried hs
hidden_negated [] = refl
hidden_negated (h ∷ hs) = rw (carried_negated_one h, hidden_negated hs) refl

hidden_small_negated : (hs : List ℤ) → list_all is_factor (map (λ h. negsuc 0 *ℤ h) hs) ≡ list_all is_factor hs
hidden_small_negated [] = refl
hidden_small_negated (h ∷ hs) = rw (factor_negated h, hidden_small_negated hs) refl

pub held_negated : (c d : ℤ) (fs gs : List Factor) (hs ks : List ℤ) → IsHeld (row c fs hs) → gs ≡ map (times_factor (negsuc 0)) fs → ks ≡ map (λ h. negsuc 0 *ℤ h) hs → IsHeld (row d gs ks)
held_negated c d fs gs hs ks h eg ek = times_held (negsuc 0) (negsuc 0) d c fs gs hs ks h refl refl eg ek (factors_negated fs ∙ h.factors) (hidden_negated hs ∙ h.hidden)

-- ---- comparisons

less_row : (strict : Bool) (a b : ℤ) (fs gs : List Factor) (xs ys : List ℤ) (left right : Linear) → row a fs xs ≡ left → row b gs ys ≡ right → AreInOrder fs → AreInOrder gs
    → cond strict (plus (minus left right) (constant_row (pos 1))) (minus left right)
    ≡ row (a -ℤ b +ℤ pos (cond strict 1 0)) (plus_factors fs (map (times_factor (negsuc 0)) gs)) (xs ++ map (λ h. negsuc 0 *ℤ h) ys)
less_row true a b fs gs xs ys left right el er left_order right_order =
    let ec : a +ℤ (negsuc 0 *ℤ b) +ℤ pos 1 ≡ a -ℤ b +ℤ pos 1 = omega (arith, ints) in
    rw (← el, ← er, plus_none (plus_factors fs (map (times_factor (negsuc 0)) gs)) (order_plus fs (map (times_factor (negsuc 0)) gs) left_order (order_times (negsuc 0) gs refl right_order)), append-nil (xs ++ map (λ h. negsuc 0 *ℤ h) ys), ec) refl
less_row false a b fs gs xs ys left right el er left_order right_order =
    let ec : a +ℤ (negsuc 0 *ℤ b) ≡ a -ℤ b +ℤ pos 0 = omega (arith, ints) in
    rw (← el, ← er, ec) refl

hidden_less : (xs ys : List ℤ) → list_all is_factor (xs ++ map (λ h. negsuc 0 *ℤ h) ys) ≡ (list_all is_factor xs && list_all is_factor ys)
hidden_less xs ys = list_all-append is_factor xs (map (λ h. negsuc 0 *ℤ h) ys) ∙ ap (λ b. list_all is_factor xs && b) (hidden_small_negated ys)

-- the row of a comparison by what code looks at: a is whether its constant keeps the limit
pub less_keeps : (strict : Bool) (a b : ℤ) (fs gs : List Factor) (xs ys : List ℤ) (left right : Linear) → row a fs xs ≡ left → row b gs ys ≡ right → IsHeld (row a fs xs) → IsHeld (row b gs ys)
    → keeps_row (cond strict (plus (minus left right) (constant_row (pos 1))) (minus left right))
    ≡ (not (ltb 281474976710656 (unsigned_abs (a -ℤ b +ℤ pos (cond strict 1 0)))) && (list_all (λ f. is_factor f.factor) (plus_factors fs (map (times_factor (negsuc 0)) gs)) && ((list_all is_factor xs && list_all is_factor ys) && not (ltb 1024 (length (plus_factors fs (map (times_factor (negsuc 0)) gs)) + (length xs + length ys))))))
less_keeps strict a b fs gs xs ys left right el er hl hr =
    let count : length (xs ++ map (λ h. negsuc 0 *ℤ h) ys) ≡ length xs + length ys = omega (arith, length-append xs (map (λ h. negsuc 0 *ℤ h) ys), length-map ys (λ h. negsuc 0 *ℤ h)) in
    ap keeps_row (less_row strict a b fs gs xs ys left right el er hl.in_order hr.in_order) ∙ rw (hidden_less xs ys, count) refl

counted_at : (b : Bool) (n m : ℕ) → Some n ≡ cond b (Some m) None → (b ≡ true) × (n ≡ m)
counted_at true n m e = (refl, cc)
counted_at false n m e = absurd (cc)

uncounted_at : (b : Bool) (m : ℕ) → None ≡ cond b (Some m) None → b ≡ false
uncounted_at true m e = absurd (cc)
uncounted_at false m e = refl

less_at : (a s h l : Bool) (n : Bool) → l ≡ not n → (a && h) ≡ true → s ≡ true → n ≡ not (a && (s && (h && l)))
less_at true s true l true e p q = rw (q, e) refl
less_at true s true l false e p q = rw (q, e) refl
less_at true s false l n e p q = absurd (cc)
less_at false s h l n e p q = absurd (cc)

rest_fails_at : (a s h l : Bool) → (a && h) ≡ false → true ≡ not (a && (s && (h && l)))
rest_fails_at true true true l p = absurd (cc)
rest_fails_at true true false l p = refl
rest_fails_at true false h l p = refl
rest_fails_at false s h l p = refl

large_at : (a s h l : Bool) → s ≡ false → true ≡ not (a && (s && (h && l)))
large_at true true h l p = absurd (cc)
large_at true false h l p = refl
large_at false s h l p = refl

-- a comparison's parts, as code looks at them
abbrev pub less : Bool → Linear → Linear → Linear
less strict left right = cond strict (plus (minus left right) (constant_row (pos 1))) (minus left right)

abbrev pub small_rest : Bool → Linear → Linear → Bool
small_rest strict left right = not (ltb 281474976710656 (unsigned_abs (left.constant -ℤ right.constant +ℤ pos (cond strict 1 0)))) && (list_all is_factor left.hidden && list_all is_factor right.hidden)

abbrev pub less_factors : List Factor → List Factor → List Factor
less_factors fs gs = plus_factors fs (map (times_factor (negsuc 0)) gs)

less_factors_of : (fs gs ms ns : List Factor) → fs ≡ ms → gs ≡ ns → less_factors fs gs ≡ less_factors ms ns
less_factors_of fs gs ms ns p q = rw (p, q) refl

less_is : (strict : Bool) (left right : Linear) → IsHeld left → IsHeld right
    → keeps_row (less strict left right) ≡ (not (ltb 281474976710656 (unsigned_abs (left.constant -ℤ right.constant +ℤ pos (cond strict 1 0)))) && (all_small (less_factors left.factors right.factors) && ((list_all is_factor left.hidden && list_all is_factor right.hidden) && not (ltb 1024 (length (less_factors left.factors right.factors) + (length left.hidden + length right.hidden))))))
less_is strict left right hl hr = less_keeps strict left.constant right.constant left.factors right.factors left.hidden right.hidden left right refl refl hl hr

pub less_counted : (strict rest : Bool) (left right : Linear) (fs gs : List Factor) (n i j : ℕ) → IsHeld left → IsHeld right → fs ≡ left.factors → gs ≡ right.factors → rest ≡ small_rest strict left right → rest ≡ true → Some n ≡ count_of (less_factors fs gs) → i ≡ length left.hidden → j ≡ length right.hidden
    → ltb 1024 (n + (i + j)) ≡ not (keeps_row (less strict left right))
less_counted strict rest left right fs gs n i j hl hr ef eg er kept counted ei ej =
    let sum = less_factors left.factors right.factors in
    let both = counted_at (all_small sum) n (length sum) (counted ∙ ap count_of (less_factors_of fs gs left.factors right.factors ef eg)) in
    let count : n + (i + j) ≡ length sum + (length left.hidden + length right.hidden) = omega (arith, both.1, ei, ej) in
    rw count (less_at (not (ltb 281474976710656 (unsigned_abs (left.constant -ℤ right.constant +ℤ pos (cond strict 1 0))))) (all_small sum) (list_all is_factor left.hidden && list_all is_factor right.hidden) (not (ltb 1024 (length sum + (length left.hidden + length right.hidden)))) (ltb 1024 (length sum + (length left.hidden + length right.hidden))) refl (sym er ∙ kept) both.0
    ∙ ap not (sym (less_is strict left right hl hr)))

pub less_rest : (strict rest : Bool) (left right : Linear) → IsHeld left → IsHeld right → rest ≡ small_rest strict left right → rest ≡ false → true ≡ not (keeps_row (less strict left right))
less_rest strict rest left right hl hr er fails =
    let sum = less_factors left.factors right.factors in
    rest_fails_at (not (ltb 281474976710656 (unsigned_abs (left.constant -ℤ right.constant +ℤ pos (cond strict 1 0))))) (all_small sum) (list_all is_factor left.hidden && list_all is_factor right.hidden) (not (ltb 1024 (length sum + (length left.hidden + length right.hidden)))) (sym er ∙ fails)
    ∙ ap not (sym (less_is strict left right hl hr))

pub less_uncounted : (strict : Bool) (left right : Linear) (fs gs : List Factor) → IsHeld left → IsHeld right → fs ≡ left.factors → gs ≡ right.factors → None ≡ count_of (less_factors fs gs) → true ≡ not (keeps_row (less strict left right))
less_uncounted strict left right fs gs hl hr ef eg uncounted =
    let sum = less_factors left.factors right.factors in
    let large = uncounted_at (all_small sum) (length sum) (uncounted ∙ ap count_of (less_factors_of fs gs left.factors right.factors ef eg)) in
    large_at (not (ltb 281474976710656 (unsigned_abs (left.constant -ℤ right.constant +ℤ pos (cond strict 1 0))))) (all_small sum) (list_all is_factor left.hidden && list_all is_factor right.hidden) (not (ltb 1024 (length sum + (length left.hidden + length right.hidden)))) large
    ∙ ap not (sym (less_is strict left right hl hr))
