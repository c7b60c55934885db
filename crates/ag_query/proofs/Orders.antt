-- Terms in order, one after another.
use Rattle.std.proofs.Common.{◌≢◌, ℕ, ◌+◌, ◌<◌, ◌≤◌, List, [], ◌∷◌, arith, zero, suc, All}
use Rattle.std.specs.Prelude.{pos}
use Rattle.std.specs.List.{AllPairs}
use Rattle.std.proofs.lemmas.List.Elements.{All-nil, All-cons, All-head, All-tail, All-weaker}
use Rattle.ag_query.specs.declared.rows.LTerm.{LTerm}
use Rattle.ag_query.specs.Rows.{AreInOrder}

abbrev pub RiseFrom : ℕ → ℕ → List LTerm → Type 0
RiseFrom low vars [] = Unit {0}
RiseFrom low vars (t ∷ ts) = record {
  least : low ≤ t.var;
  there : t.var < vars;
  nonzero : t.factor ≢ pos 0;
  rest : RiseFrom (t.var + 1) vars ts;
}

pub AllPairs-cons : {X : Type 0} (R : X → X → Type 0) (x : X) (xs : List X) → All (R x) xs → AllPairs R xs → AllPairs R (x ∷ xs)
AllPairs-cons R x xs here rest zero zero d lt p = absurd (omega (arith, lt))
AllPairs-cons R x xs here rest zero (suc j) d lt p = here j d (omega (arith, p))
AllPairs-cons R x xs here rest (suc i) zero d lt p = absurd (omega (arith, lt))
AllPairs-cons R x xs here rest (suc i) (suc j) d lt p = rest i j d (omega (arith, lt)) (omega (arith, p))

pub AllPairs-head : {X : Type 0} (R : X → X → Type 0) (x : X) (xs : List X) → AllPairs R (x ∷ xs) → All (R x) xs
AllPairs-head R x xs h k d lt = h 0 (suc k) d (omega arith) (omega (arith, lt))

pub AllPairs-tail : {X : Type 0} (R : X → X → Type 0) (x : X) (xs : List X) → AllPairs R (x ∷ xs) → AllPairs R xs
AllPairs-tail R x xs h i j d lt p = h (suc i) (suc j) d (omega (arith, lt)) (omega (arith, p))

abbrev Rise : LTerm → LTerm → Type 0
Rise s t = s.var < t.var

pub rise_out : (low vars : ℕ) (ts : List LTerm) → All (λ t. low ≤ t.var) ts → AreInOrder vars ts → RiseFrom low vars ts
rise_out low vars [] least h = tt
rise_out low vars (t ∷ ts) least h = record {
  least = All-head (λ s. low ≤ s.var) t ts least;
  there = All-head (λ s. s.var < vars) t ts h.there;
  nonzero = All-head (λ s. s.factor ≢ pos 0) t ts h.nonzero;
  rest = rise_out (t.var + 1) vars ts (All-weaker (Rise t) (λ s. t.var + 1 ≤ s.var) (λ s lt. omega (arith, lt)) ts (AllPairs-head Rise t ts h.rise)) (record {
    rise = AllPairs-tail Rise t ts h.rise;
    there = All-tail (λ s. s.var < vars) t ts h.there;
    nonzero = All-tail (λ s. s.factor ≢ pos 0) t ts h.nonzero;
  });
}

pub rise_least : (low vars : ℕ) (ts : List LTerm) → RiseFrom low vars ts → All (λ t. low ≤ t.var) ts
rise_least low vars [] h = All-nil (λ t. low ≤ t.var)
rise_least low vars (t ∷ ts) h =
    All-cons (λ s. low ≤ s.var) t ts h.least (All-weaker (λ s. t.var + 1 ≤ s.var) (λ s. low ≤ s.var) (λ s le. omega (arith, le, h.least)) ts (rise_least (t.var + 1) vars ts h.rest))

pub rise_in : (low vars : ℕ) (ts : List LTerm) → RiseFrom low vars ts → AreInOrder vars ts
rise_in low vars [] h = record { rise = λ i j d lt p. absurd (omega (arith, p)); there = All-nil (λ s. s.var < vars); nonzero = All-nil (λ s. s.factor ≢ pos 0) }
rise_in low vars (t ∷ ts) h =
    let rest = rise_in (t.var + 1) vars ts h.rest in
    record {
      rise = AllPairs-cons Rise t ts (All-weaker (λ s. t.var + 1 ≤ s.var) (Rise t) (λ s le. omega (arith, le)) ts (rise_least (t.var + 1) vars ts h.rest)) rest.rise;
      there = All-cons (λ s. s.var < vars) t ts h.there rest.there;
      nonzero = All-cons (λ s. s.factor ≢ pos 0) t ts h.nonzero rest.nonzero;
    }
