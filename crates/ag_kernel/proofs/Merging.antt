-- Terms in order, joined one after another.
use Rattle.std.proofs.Common.{◌≡◌, ◌≢◌, inl, inr, ℕ, ◌+◌, ◌*◌, ◌-◌, ◌<◌, ◌≤◌, ◌==◌, ℤ, pos, ◌+ℤ◌, ◌*ℤ◌, FitsSigned, true, false, List, [], ◌∷◌, ◌++◌, length, take, drop, get_or, refl, sym, ap, subst, ◌∙◌, arith, All}
use Rattle.std.specs.Int.{w128}
use borrow.Author.Differences.{up, down, sum_is_lem}
use Rattle.std.proofs.lemmas.Int.{ints}
use Rattle.std.proofs.lemmas.Bool.{cases_eq, cases_lt, eq-eqb, ne_eqb}
use Rattle.std.proofs.lemmas.List.{take_more, take_all, drop_more, take-append-drop, length-take, length-drop, length-append, get_or_append_left, get_or-append_right, get_or-take, get_or-drop, get_or_default}
use Rattle.std.proofs.lemmas.List.Quantifiers.{all_pairs_push}
use Rattle.std.proofs.lemmas.List.Elements.{All-nil, All-head, All-tail, All-weaker, All-append, All-push, All-take, All-drop, All-more, All-get_or}
use Rattle.ag_query.specs.declared.rows.LTerm.{LTerm}
use Rattle.ag_query.specs.Rows.{AreInOrder, sum_of}
use Rattle.ag_kernel.specs.Sums.{IsMerging, unit}
use Rattle.ag_kernel.proofs.Numbers.{times_add, times_assoc}

-- ---- sums

pub sum_append : (x : ℕ → ℤ) (a b : List LTerm) → sum_of x (a ++ b) ≡ sum_of x a +ℤ sum_of x b
sum_append x [] b = omega (arith, ints)
sum_append x (t ∷ ts) b = let ih = sum_append x ts b in omega (arith, ints)

pub sum_push : (x : ℕ → ℤ) (ts : List LTerm) (t : LTerm) → sum_of x (ts ++ t ∷ []) ≡ sum_of x ts +ℤ t.factor *ℤ x t.var
sum_push x ts t = let e = sum_append x ts (t ∷ []) in omega (arith, ints)

pub sum_cut : (x : ℕ → ℤ) (n : ℕ) (ts : List LTerm) → sum_of x (take n ts) +ℤ sum_of x (drop n ts) ≡ sum_of x ts
sum_cut x n ts = sym (sum_append x (take n ts) (drop n ts)) ∙ ap (sum_of x) (take-append-drop n ts)

add_times : (a b c : ℤ) → (a +ℤ b) *ℤ c ≡ a *ℤ c +ℤ b *ℤ c
add_times a b c =
    let above = ap (λ (n : ℕ). n * up c) (sum_is_lem a b) in
    let below = ap (λ (n : ℕ). n * down c) (sum_is_lem a b) in
    omega (arith, ints)

-- ---- order

pub order_push : (vars : ℕ) (ts : List LTerm) (t : LTerm) → AreInOrder vars ts → All (λ s. s.var < t.var) ts → t.var < vars → t.factor ≢ pos 0 → AreInOrder vars (ts ++ t ∷ [])
order_push vars ts t h below lt ne = record {
  rise = all_pairs_push (λ s r. s.var < r.var) ts t h.rise below;
  there = All-push (λ s. s.var < vars) ts t h.there lt;
  nonzero = All-push (λ s. s.factor ≢ pos 0) ts t h.nonzero ne;
}

pub below_more : (ts : List LTerm) (n : ℕ) → All (λ s. s.var < n) ts → All (λ s. s.var < n + 1) ts
below_more ts n h = All-weaker (λ s. s.var < n) (λ s. s.var < n + 1) (λ s lt. omega (arith, lt)) ts h

pub below_push : (ts : List LTerm) (t : LTerm) → All (λ s. s.var < t.var) ts → All (λ s. s.var < t.var + 1) (ts ++ t ∷ [])
below_push ts t h = All-push (λ s. s.var < t.var + 1) ts t (below_more ts t.var h) (omega arith)

order_take : (vars n : ℕ) (ts : List LTerm) → AreInOrder vars ts → AreInOrder vars (take n ts)
order_take vars n ts h = record {
  rise = λ i j d lt p.
      let q : (j < n) × (j < length ts) = (omega (arith, p, length-take n ts), omega (arith, p, length-take n ts)) in
      let a : (get_or (take n ts) i d).var ≡ (get_or ts i d).var = ap (λ (t : LTerm). t.var) (get_or-take n ts i d (omega (arith, lt, q.0))) in
      let b : (get_or (take n ts) j d).var ≡ (get_or ts j d).var = ap (λ (t : LTerm). t.var) (get_or-take n ts j d q.0) in
      omega (arith, h.rise i j d lt q.1);
  there = All-take (λ s. s.var < vars) n ts h.there;
  nonzero = All-take (λ s. s.factor ≢ pos 0) n ts h.nonzero;
}

pub order_drop : (vars n : ℕ) (ts : List LTerm) → AreInOrder vars ts → AreInOrder vars (drop n ts)
order_drop vars n ts h = record {
  rise = λ i j d lt p.
      let q : n + j < length ts = omega (arith, p, length-drop n ts) in
      let a : (get_or (drop n ts) i d).var ≡ (get_or ts (n + i) d).var = ap (λ (t : LTerm). t.var) (get_or-drop n ts i d) in
      let b : (get_or (drop n ts) j d).var ≡ (get_or ts (n + j) d).var = ap (λ (t : LTerm). t.var) (get_or-drop n ts j d) in
      omega (arith, h.rise (n + i) (n + j) d (omega (arith, lt)) q);
  there = All-drop (λ s. s.var < vars) n ts h.there;
  nonzero = All-drop (λ s. s.factor ≢ pos 0) n ts h.nonzero;
}

order_append : (vars low : ℕ) (a b : List LTerm) → AreInOrder vars a → AreInOrder vars b → All (λ t. t.var < low) a → All (λ t. low ≤ t.var) b → AreInOrder vars (a ++ b)
order_append vars low a b h g below above = record {
  rise = λ i j d lt p.
      let q : j < length a + length b = omega (arith, p, length-append a b) in
      elim (cases_lt j (length a)) [
        | inl in' ↦
            let e : (get_or (a ++ b) i d).var ≡ (get_or a i d).var = ap (λ (t : LTerm). t.var) (get_or_append_left a b d i (omega (arith, lt, in'))) in
            let f : (get_or (a ++ b) j d).var ≡ (get_or a j d).var = ap (λ (t : LTerm). t.var) (get_or_append_left a b d j in') in
            omega (arith, h.rise i j d lt in')
        | inr out ↦
            let k : j - length a < length b = omega (arith, q, out) in
            let f : (get_or (a ++ b) j d).var ≡ (get_or b (j - length a) d).var = ap (λ (t : LTerm). t.var) (get_or-append_right a b (length a) j d refl out) in
            elim (cases_lt i (length a)) [
              | inl in' ↦
                  let e : (get_or (a ++ b) i d).var ≡ (get_or a i d).var = ap (λ (t : LTerm). t.var) (get_or_append_left a b d i in') in
                  omega (arith, below i d in', above (j - length a) d k)
              | inr out' ↦
                  let e : (get_or (a ++ b) i d).var ≡ (get_or b (i - length a) d).var = ap (λ (t : LTerm). t.var) (get_or-append_right a b (length a) i d refl out') in
                  omega (arith, g.rise (i - length a) (j - length a) d (omega (arith, lt, out')) k)
            ]
      ];
  there = All-append (λ s. s.var < vars) a b h.there g.there;
  nonzero = All-append (λ s. s.factor ≢ pos 0) a b h.nonzero g.nonzero;
}

-- ---- one term more

-- what stands after the terms that came before it
pub copied : (low vars v n : ℕ) (sum new left : List LTerm) → IsMerging low vars sum left → low ≤ v → new ≡ sum ++ take n left → All (λ t. t.var < v) (take n left) → AreInOrder vars new × All (λ t. t.var < v) new
copied low vars v n sum new left m le e before =
    let O : List LTerm → Type 0 = λ ts. AreInOrder vars ts × All (λ t. t.var < v) ts in
    subst O (sym e) (
      order_append vars low sum (take n left) m.order (order_take vars n left m.rest) m.below (All-take (λ t. low ≤ t.var) n left m.above),
      All-append (λ t. t.var < v) sum (take n left) (All-weaker (λ t. t.var < low) (λ t. t.var < v) (λ t lt. omega (arith, lt, le)) sum m.below) before,
    )

-- the later terms are of greater variables
later : (vars n v k : ℕ) (left : List LTerm) (d : LTerm) → AreInOrder vars left → v ≤ (get_or left n d).var → n + 1 + k < length left → v + 1 ≤ (get_or left (n + 1 + k) d).var
later vars n v k left d h le lt = omega (arith, le, h.rise n (n + 1 + k) d (omega arith) lt)

pub rest_after : (vars n v : ℕ) (left : List LTerm) → AreInOrder vars left → ((d : LTerm) → (get_or left n d).var ≡ v) → All (λ t. v + 1 ≤ t.var) (drop (n + 1) left)
rest_after vars n v left h here k d lt =
    let q : n + 1 + k < length left = omega (arith, lt, length-drop (n + 1) left) in
    let e : (get_or (drop (n + 1) left) k d).var ≡ (get_or left (n + 1 + k) d).var = ap (λ (t : LTerm). t.var) (get_or-drop (n + 1) left k d) in
    omega (arith, later vars n v k left d h (omega (arith, here d)) q)

pub rest_from : (vars n v : ℕ) (left : List LTerm) → AreInOrder vars left → ((d : LTerm) → n < length left → v ≤ (get_or left n d).var) → ((n < length left) × ((d : LTerm) → (get_or left n d).var ≡ v) → ⊥) → All (λ t. v + 1 ≤ t.var) (drop n left)
rest_from vars n v left h after apart k d lt =
    let q : n + k < length left = omega (arith, lt, length-drop n left) in
    let e : (get_or (drop n left) k d).var ≡ (get_or left (n + k) d).var = ap (λ (t : LTerm). t.var) (get_or-drop n left k d) in
    let in' : n < length left = omega arith in
    let base : v + 1 ≤ (get_or left n d).var =
    elim (cases_eq (get_or left n d).var v) [
      | inl same' ↦ absurd (apart (in', λ d'. ap (λ (t : LTerm). t.var) (get_or_default left n d' d in') ∙ same'))
      | inr ne ↦ omega (arith, ne, after d in')
    ] in
    elim (cases_eq k 0) [
      | inl z ↦
          let f : (get_or left (n + k) d).var ≡ (get_or left n d).var = ap (λ (j : ℕ). (get_or left j d).var) (omega arith) in
          omega (arith, base)
      | inr nz ↦ omega (arith, base, h.rise n (n + k) d (omega (arith, nz)) q)
    ]

pub merging_next : (low vars v n : ℕ) (sum new1 new2 left : List LTerm) (m : ℕ) → IsMerging low vars sum left → low ≤ v → v < vars → new1 ≡ sum ++ take n left → All (λ t. t.var < v) (take n left) → (AreInOrder vars new1 → All (λ t. t.var < v) new1 → AreInOrder vars new2 × All (λ t. t.var < v + 1) new2) → All (λ t. v + 1 ≤ t.var) (drop m left) → IsMerging (v + 1) vars new2 (drop m left)
merging_next low vars v n sum new1 new2 left m h le lt e before push above =
    let c = copied low vars v n sum new1 left h le e before in
    let p = push c.0 c.1 in
    record { order = p.0; below = p.1; rest = order_drop vars m left h.rest; above = above }

-- ---- what the sums come to

pub value_plain : (x : ℕ → ℤ) (n : ℕ) (sum new1 new2 left : List LTerm) (p : ℤ) → new1 ≡ sum ++ take n left → sum_of x new2 ≡ sum_of x new1 +ℤ p → sum_of x new2 +ℤ sum_of x (drop n left) ≡ (sum_of x sum +ℤ sum_of x left) +ℤ p
value_plain x n sum new1 new2 left p e f =
    let a : sum_of x new1 ≡ sum_of x sum +ℤ sum_of x (take n left) = ap (sum_of x) e ∙ sum_append x sum (take n left) in
    let b = sum_cut x n left in
    omega (arith, ints)

pub value_join : (x : ℕ → ℤ) (n v : ℕ) (sum new1 new2 left : List LTerm) (t : LTerm) (f : ℤ) → new1 ≡ sum ++ take n left → drop n left ≡ t ∷ drop (n + 1) left → t.var ≡ v → sum_of x new2 ≡ sum_of x new1 +ℤ (t.factor +ℤ f) *ℤ x t.var → sum_of x new2 +ℤ sum_of x (drop (n + 1) left) ≡ (sum_of x sum +ℤ sum_of x left) +ℤ f *ℤ x v
value_join x n v sum new1 new2 left t f e cut same' g =
    let a : sum_of x new1 ≡ sum_of x sum +ℤ sum_of x (take n left) = ap (sum_of x) e ∙ sum_append x sum (take n left) in
    let b = sum_cut x n left in
    let c : sum_of x (drop n left) ≡ t.factor *ℤ x t.var +ℤ sum_of x (drop (n + 1) left) = ap (sum_of x) cut in
    let d : (t.factor +ℤ f) *ℤ x t.var ≡ t.factor *ℤ x t.var +ℤ f *ℤ x t.var = add_times t.factor f (x t.var) in
    let i : f *ℤ x t.var ≡ f *ℤ x v = ap (λ (k : ℕ). f *ℤ x k) same' in
    value_sums (sum_of x sum) (sum_of x left) (sum_of x (take n left)) (sum_of x (drop n left)) (sum_of x (drop (n + 1) left)) (sum_of x new1) (sum_of x new2) (t.factor *ℤ x t.var) (f *ℤ x v) ((t.factor +ℤ f) *ℤ x t.var) a b c (d ∙ ap (λ (z : ℤ). t.factor *ℤ x t.var +ℤ z) i) g
  where
    value_sums : (s l tk dr dr1 n1 n2 p q r : ℤ) → n1 ≡ s +ℤ tk → tk +ℤ dr ≡ l → dr ≡ p +ℤ dr1 → r ≡ p +ℤ q → n2 ≡ n1 +ℤ r → n2 +ℤ dr1 ≡ (s +ℤ l) +ℤ q
    value_sums s l tk dr dr1 n1 n2 p q r a b c d g = omega (arith, ints)

-- ---- the factor of one variable

pub unit_same : (v : ℕ) → unit v v ≡ pos 1
unit_same v = let e : (v == v) ≡ true = eq-eqb v v refl in rw e refl

pub unit_other : (v n : ℕ) → n ≢ v → unit v n ≡ pos 0
unit_other v n ne = let e : (n == v) ≡ false = ne_eqb n v ne in rw e refl

times_zero : (f : ℤ) → f *ℤ pos 0 ≡ pos 0
times_zero f = omega (arith, ints)

times_one : (f : ℤ) → f *ℤ pos 1 ≡ f
times_one f = omega (arith, ints)

pub unit_none : (v : ℕ) (ts : List LTerm) → All (λ t. t.var ≢ v) ts → sum_of (unit v) ts ≡ pos 0
unit_none v [] h = refl
unit_none v (t ∷ ts) h =
    let a : t.factor *ℤ unit v t.var ≡ pos 0 = ap (λ (z : ℤ). t.factor *ℤ z) (unit_other v t.var (All-head (λ (s : LTerm). s.var ≢ v) t ts h)) ∙ times_zero t.factor in
    let b = unit_none v ts (All-tail (λ (s : LTerm). s.var ≢ v) t ts h) in
    omega (arith, ints)

pub unit_at : (vars v n : ℕ) (ts : List LTerm) (t : LTerm) → AreInOrder vars ts → n < length ts → t ≡ get_or ts n t → t.var ≡ v → sum_of (unit v) ts ≡ t.factor
unit_at vars v n ts t h lt is same' =
    let here : (d : LTerm) → (get_or ts n d).var ≡ v = λ d. ap (λ (s : LTerm). s.var) (get_or_default ts n d t lt ∙ sym is) ∙ same' in
    let before : All (λ s. s.var ≢ v) (take n ts) = λ k d p e.
    let q : (k < n) × (k < length ts) = (omega (arith, p, length-take n ts), omega (arith, p, length-take n ts)) in
    let f : (get_or (take n ts) k d).var ≡ (get_or ts k d).var = ap (λ (s : LTerm). s.var) (get_or-take n ts k d q.0) in
    omega (arith, h.rise k n d q.0 lt, here d, e, f) in
    let after : All (λ s. s.var ≢ v) (drop (n + 1) ts) = All-weaker (λ s. v + 1 ≤ s.var) (λ s. s.var ≢ v) (λ s le e. omega (arith, le, e)) (drop (n + 1) ts) (rest_after vars n v ts h here) in
    let a = sum_cut (unit v) n ts in
    let b = unit_none v (take n ts) before in
    let c = unit_none v (drop (n + 1) ts) after in
    let cut : drop n ts ≡ t ∷ drop (n + 1) ts = drop_more ts n t lt ∙ ap (λ (s : LTerm). s ∷ drop (n + 1) ts) (sym is) in
    let d : sum_of (unit v) (drop n ts) ≡ t.factor *ℤ unit v t.var +ℤ sum_of (unit v) (drop (n + 1) ts) = ap (sum_of (unit v)) cut in
    let e : t.factor *ℤ unit v t.var ≡ t.factor = ap (λ (k : ℕ). t.factor *ℤ unit v k) same' ∙ ap (λ (z : ℤ). t.factor *ℤ z) (unit_same v) ∙ times_one t.factor in
    sums (sum_of (unit v) ts) (sum_of (unit v) (take n ts)) (sum_of (unit v) (drop n ts)) (sum_of (unit v) (drop (n + 1) ts)) (t.factor *ℤ unit v t.var) t.factor a b c d e
  where
    sums : (s tk dr dr1 p f : ℤ) → tk +ℤ dr ≡ s → tk ≡ pos 0 → dr1 ≡ pos 0 → dr ≡ p +ℤ dr1 → p ≡ f → s ≡ f
    sums s tk dr dr1 p f a b c d e = omega (arith, ints)

-- the factor of a variable in the sum and the rest is that of the rest's term
pub unit_met : (low vars v n : ℕ) (sum left : List LTerm) (t : LTerm) → IsMerging low vars sum left → low ≤ v → n < length left → t ≡ get_or left n t → t.var ≡ v → sum_of (unit v) sum +ℤ sum_of (unit v) left ≡ t.factor
unit_met low vars v n sum left t m le lt is same' =
    let a = unit_none v sum (All-weaker (λ s. s.var < low) (λ s. s.var ≢ v) (λ s p e. omega (arith, p, e, le)) sum m.below) in
    let b = unit_at vars v n left t m.rest lt is same' in
    omega (arith, ints)

-- ---- two lists

-- how far the second list has been added to the first
pub record IsAdding (left right : List LTerm) (by : ℤ) (j : ℕ) (sum rest : List LTerm) : Type 0 where
  pub value : (x : ℕ → ℤ) → sum_of x sum +ℤ sum_of x rest ≡ sum_of x left +ℤ by *ℤ sum_of x (take j right)
  pub merging : (vars : ℕ) → AreInOrder vars left → AreInOrder vars right → (low : ℕ) × IsMerging low vars sum rest × All (λ t. low ≤ t.var) (drop j right)
  pub fits : All (λ t. FitsSigned w128 t.factor) sum
  pub products : All (λ t. FitsSigned w128 (by *ℤ t.factor)) (take j right)
  pub short : length rest ≤ length left

pub adding_none : (left right : List LTerm) (by : ℤ) → IsAdding left right by 0 [] left
adding_none left right by = record {
  value = λ x. let z : by *ℤ pos 0 ≡ pos 0 = times_zero by in omega (arith, ints);
  merging = λ vars h g. (0, record { order = record { rise = λ i j d lt p. absurd (omega (arith, p)); there = All-nil (λ s. s.var < vars); nonzero = All-nil (λ s. s.factor ≢ pos 0) }; below = All-nil (λ s. s.var < 0); rest = h; above = λ k d lt. omega arith }, λ k d lt. omega arith);
  fits = All-nil (λ t. FitsSigned w128 t.factor);
  products = All-nil (λ t. FitsSigned w128 (by *ℤ t.factor));
  short = omega arith;
}

pub head_above : (right : List LTerm) (j : ℕ) (d : LTerm) (low : ℕ) → j < length right → All (λ t. low ≤ t.var) (drop j right) → low ≤ (get_or right j d).var
head_above right j d low lt h = All-head (λ (s : LTerm). low ≤ s.var) (get_or right j d) (drop (j + 1) right) (subst (λ (ts : List LTerm). All (λ (s : LTerm). low ≤ s.var) ts) (drop_more right j d lt) h)

pub adding_more : (left right : List LTerm) (by : ℤ) (j n : ℕ) (sum new rest : List LTerm) (d : LTerm) → j < length right → IsAdding left right by j sum rest → ((x : ℕ → ℤ) → sum_of x new +ℤ sum_of x (drop n rest) ≡ (sum_of x sum +ℤ sum_of x rest) +ℤ (by *ℤ (get_or right j d).factor) *ℤ x (get_or right j d).var) → ((low vars : ℕ) → IsMerging low vars sum rest → low ≤ (get_or right j d).var → (get_or right j d).var < vars → IsMerging ((get_or right j d).var + 1) vars new (drop n rest)) → All (λ t. FitsSigned w128 t.factor) new → FitsSigned w128 (by *ℤ (get_or right j d).factor) → IsAdding left right by (j + 1) new (drop n rest)
adding_more left right by j n sum new rest d lt so value merging fits product =
    let t : LTerm = get_or right j d in
    record {
      value = λ x.
          let a = so.value x in
          let b = value x in
          let c : sum_of x (take (j + 1) right) ≡ sum_of x (take j right) +ℤ t.factor *ℤ x t.var = ap (sum_of x) (take_more right j d lt) ∙ sum_push x (take j right) t in
          let e : by *ℤ sum_of x (take (j + 1) right) ≡ by *ℤ sum_of x (take j right) +ℤ by *ℤ (t.factor *ℤ x t.var) = ap (λ (z : ℤ). by *ℤ z) c ∙ times_add by (sum_of x (take j right)) (t.factor *ℤ x t.var) in
          let f = times_assoc by t.factor (x t.var) in
          sums (sum_of x new) (sum_of x (drop n rest)) (sum_of x sum) (sum_of x rest) ((by *ℤ t.factor) *ℤ x t.var) (by *ℤ (t.factor *ℤ x t.var)) (sum_of x left) (by *ℤ sum_of x (take j right)) (by *ℤ sum_of x (take (j + 1) right)) a b e f;
      merging = λ vars h g.
          let m = so.merging vars h g in
          (t.var + 1, merging m.0 vars m.1 (head_above right j d m.0 lt m.2) (All-get_or (λ (s : LTerm). s.var < vars) right j d lt g.there), rest_after vars j t.var right g (λ d'. ap (λ (s : LTerm). s.var) (get_or_default right j d' d lt)));
      fits = fits;
      products = All-more (λ s. FitsSigned w128 (by *ℤ s.factor)) right j d lt so.products product;
      short = omega (arith, so.short, length-drop n rest);
    }
  where
    sums : (n d s r p q l t t1 : ℤ) → s +ℤ r ≡ l +ℤ t → n +ℤ d ≡ (s +ℤ r) +ℤ p → t1 ≡ t +ℤ q → p ≡ q → n +ℤ d ≡ l +ℤ t1
    sums n d s r p q l t t1 a b e f = omega (arith, ints)

-- the end
pub added_value : (left right : List LTerm) (by : ℤ) (sum new rest : List LTerm) → IsAdding left right by (length right) sum rest → new ≡ sum ++ rest → (x : ℕ → ℤ) → sum_of x new ≡ sum_of x left +ℤ by *ℤ sum_of x right
added_value left right by sum new rest so e x =
    ap (sum_of x) e ∙ sum_append x sum rest ∙ so.value x ∙ ap (λ (ts : List LTerm). sum_of x left +ℤ by *ℤ sum_of x ts) (take_all (length right) right (omega arith))

pub added_order : (left right : List LTerm) (by : ℤ) (j : ℕ) (sum new rest : List LTerm) → IsAdding left right by j sum rest → new ≡ sum ++ rest → (vars : ℕ) → AreInOrder vars left → AreInOrder vars right → AreInOrder vars new
added_order left right by j sum new rest so e vars h g =
    let m = so.merging vars h g in
    subst (AreInOrder vars) (sym e) (order_append vars m.0 sum rest m.1.order m.1.rest m.1.below m.1.above)

-- the factor of the term's variable, all told
pub factor_met : (left right : List LTerm) (by : ℤ) (j vars : ℕ) (sum rest : List LTerm) (d : LTerm) → j < length right → IsAdding left right by j sum rest → AreInOrder vars right → sum_of (unit (get_or right j d).var) left +ℤ by *ℤ sum_of (unit (get_or right j d).var) right ≡ (sum_of (unit (get_or right j d).var) sum +ℤ sum_of (unit (get_or right j d).var) rest) +ℤ by *ℤ (get_or right j d).factor
factor_met left right by j vars sum rest d lt so g =
    let t : LTerm = get_or right j d in
    let u = unit t.var in
    let a = so.value u in
    let b = unit_at vars t.var j right t g lt (get_or_default right j d t lt) refl in
    let before : All (λ s. s.var ≢ t.var) (take j right) = λ k e p f.
    let q : (k < j) × (k < length right) = (omega (arith, p, length-take j right), omega (arith, p, length-take j right)) in
    let i : (get_or (take j right) k e).var ≡ (get_or right k e).var = ap (λ (s : LTerm). s.var) (get_or-take j right k e q.0) in
    let w : (get_or right j e).var ≡ t.var = ap (λ (s : LTerm). s.var) (get_or_default right j e d lt) in
    omega (arith, g.rise k j e q.0 lt, f, i, w) in
    let c : by *ℤ sum_of u (take j right) ≡ pos 0 = ap (λ (z : ℤ). by *ℤ z) (unit_none t.var (take j right) before) ∙ times_zero by in
    let e : by *ℤ sum_of u right ≡ by *ℤ t.factor = ap (λ (z : ℤ). by *ℤ z) b in
    sums (sum_of u sum) (sum_of u rest) (sum_of u left) (by *ℤ sum_of u (take j right)) (by *ℤ sum_of u right) (by *ℤ t.factor) a c e
  where
    sums : (s r l t w f : ℤ) → s +ℤ r ≡ l +ℤ t → t ≡ pos 0 → w ≡ f → l +ℤ w ≡ (s +ℤ r) +ℤ f
    sums s r l t w f a c e = omega (arith, ints)

-- a row in order whose factors fit has a factor that fits at each variable
pub factors_fit : (vars v : ℕ) (ts : List LTerm) → AreInOrder vars ts → All (λ t. FitsSigned w128 t.factor) ts → FitsSigned w128 (sum_of (unit v) ts)
factors_fit vars v [] h f = omega (arith, ints)
factors_fit vars v (t ∷ ts) h f =
    let tail : AreInOrder vars ts = order_drop vars 1 (t ∷ ts) h in
    let rest = factors_fit vars v ts tail (All-tail (λ (s : LTerm). FitsSigned w128 s.factor) t ts f) in
    elim (cases_eq t.var v) [
      | inl same' ↦
          let e = unit_at vars v 0 (t ∷ ts) t h (omega arith) refl same' in
          subst (FitsSigned w128) (sym e) (All-head (λ (s : LTerm). FitsSigned w128 s.factor) t ts f)
      | inr ne ↦
          let a : t.factor *ℤ unit v t.var ≡ pos 0 = ap (λ (z : ℤ). t.factor *ℤ z) (unit_other v t.var ne) ∙ times_zero t.factor in
          let e : sum_of (unit v) (t ∷ ts) ≡ sum_of (unit v) ts = omega (arith, ints) in
          subst (FitsSigned w128) (sym e) rest
    ]
