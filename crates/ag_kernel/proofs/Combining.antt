-- Rows added one after another.
use Rattle.std.proofs.Common.{◌≡◌, ◌≢◌, inl, inr, ℕ, ◌+◌, ◌<◌, ◌≤◌, ℤ, pos, ◌+ℤ◌, ◌*ℤ◌, FitsSigned, List, [], ◌∷◌, ◌++◌, length, take, get_or, refl, sym, ap, subst, ◌∙◌, arith, All, Option, Some, None}
use Rattle.std.specs.Prelude.{unwrap_or}
use Rattle.std.specs.Int.{w128}
use Rattle.std.proofs.lemmas.Int.{ints}
use Rattle.std.proofs.lemmas.Bool.{cases_lt}
use Rattle.std.proofs.lemmas.List.{take_all, take-append-le, length_push}
use Rattle.std.proofs.lemmas.List.Elements.{All-nil, All-push, All-get_or}
use Rattle.ag_query.specs.declared.rows.LTerm.{LTerm}
use Rattle.ag_query.specs.declared.rows.LRow.{LRow}
use Rattle.ag_query.specs.Rows.{AreInOrder, sum_of}
use Rattle.ag_kernel.specs.State.{IsRowIn}
use Rattle.ag_kernel.specs.Sums.{total, IsSumOf, unit, factor_of, FitTimes, AreMade, FitTerms, FitsAdded}
use Rattle.ag_kernel.proofs.Merging.{factors_fit}

-- ---- one row more

same_sum : (x : ℕ → ℤ) (s r l t : List LTerm) (a b : ℤ) → b ≡ a → l ≡ s → t ≡ r → sum_of x l +ℤ b *ℤ sum_of x t ≡ sum_of x s +ℤ a *ℤ sum_of x r
same_sum x s r l t a b e f g = rw (e, f, g) refl

pub fits_added : (vars : ℕ) (sum row : LRow) (by b : ℤ) (l r terms : List LTerm) → b ≡ by → l ≡ sum.terms → r ≡ row.terms → AreInOrder vars terms → All (λ t. FitsSigned w128 t.factor) terms → ((x : ℕ → ℤ) → sum_of x terms ≡ sum_of x l +ℤ b *ℤ sum_of x r) → All (λ t. FitsSigned w128 (b *ℤ t.factor)) r → FitsSigned w128 (b *ℤ row.bound) × FitsSigned w128 (sum.bound +ℤ b *ℤ row.bound) → FitsAdded sum row by
fits_added vars sum row by b l r terms e f g order fits value products bounds =
    let B : ℤ → Type 0 = λ z. FitsSigned w128 (z *ℤ row.bound) × FitsSigned w128 (sum.bound +ℤ z *ℤ row.bound) in
    let bs : B by = subst B e bounds in
    let P : List LTerm → Type 0 = λ ts. All (λ (t : LTerm). FitsSigned w128 (b *ℤ t.factor)) ts in
    let Q : ℤ → Type 0 = λ z. All (λ (t : LTerm). FitsSigned w128 (z *ℤ t.factor)) row.terms in
    record {
      products = record { factors = subst Q e (subst P g products); bound = bs.0 };
      factors = λ v. subst (FitsSigned w128) (value (unit v) ∙ same_sum (unit v) sum.terms row.terms l r by b e f g) (factors_fit vars v terms order fits);
      bound = bs.1;
    }

pub fit_terms : (sum row : LRow) (by b : ℤ) (l r : List LTerm) → b ≡ by → l ≡ sum.terms → r ≡ row.terms → FitsAdded sum row by → FitTerms l r b
fit_terms sum row by b l r e f g h =
    let P : List LTerm → Type 0 = λ ts. All (λ (t : LTerm). FitsSigned w128 (b *ℤ t.factor)) ts in
    let Q : ℤ → Type 0 = λ z. All (λ (t : LTerm). FitsSigned w128 (z *ℤ t.factor)) row.terms in
    record {
      products = subst P (sym g) (subst Q (sym e) h.products.factors);
      sums = λ v. subst (FitsSigned w128) (sym (same_sum (unit v) sum.terms row.terms l r by b e f g)) (h.factors v);
    }

-- ---- all rows so far

pub total_push : (f : LRow → ℤ) (ps : List (LRow × ℤ)) (p : LRow × ℤ) → total f (ps ++ p ∷ []) ≡ total f ps +ℤ p.1 *ℤ f p.0
total_push f [] p = omega (arith, ints)
total_push f (q ∷ qs) p = let ih = total_push f qs p in omega (arith, ints)

pub sum_more : (vars : ℕ) (ps : List (LRow × ℤ)) (p : LRow × ℤ) (sum new : LRow) → IsSumOf vars ps sum → ((x : ℕ → ℤ) → sum_of x new.terms ≡ sum_of x sum.terms +ℤ p.1 *ℤ sum_of x p.0.terms) → new.bound ≡ sum.bound +ℤ p.1 *ℤ p.0.bound → AreInOrder vars new.terms → IsSumOf vars (ps ++ p ∷ []) new
sum_more vars ps p sum new so terms bound order = record {
  order = order;
  terms = λ x. terms x ∙ ap (λ (z : ℤ). z +ℤ p.1 *ℤ sum_of x p.0.terms) (so.terms x) ∙ sym (total_push (λ r. sum_of x r.terms) ps p);
  bound = bound ∙ ap (λ (z : ℤ). z +ℤ p.1 *ℤ p.0.bound) so.bound ∙ sym (total_push (λ r. r.bound) ps p);
}

take_front : (ps : List (LRow × ℤ)) (p : LRow × ℤ) (k : ℕ) → k ≤ length ps → take k (ps ++ p ∷ []) ≡ take k ps
take_front ps p k le = take-append-le k ps (p ∷ []) le

take_whole : (ps : List (LRow × ℤ)) (p : LRow × ℤ) (k : ℕ) → length ps < k → take k (ps ++ p ∷ []) ≡ ps ++ p ∷ []
take_whole ps p k lt = take_all k (ps ++ p ∷ []) (omega (arith, lt, length_push ps p))

pub made_more : (vars : ℕ) (ps : List (LRow × ℤ)) (p : LRow × ℤ) (sum : LRow) → AreMade ps → IsSumOf vars ps sum → FitsAdded sum p.0 p.1 → AreMade (ps ++ p ∷ [])
made_more vars ps p sum made so fits = record {
  products = All-push (λ q. FitTimes q.0 q.1) ps p made.products fits.products;
  factors = λ k v le.
      let F : List (LRow × ℤ) → Type 0 = λ qs. FitsSigned w128 (total (factor_of v) qs) in
      elim (cases_lt (length ps) k) [
        | inl lt ↦
            let e : factor_of v sum +ℤ p.1 *ℤ factor_of v p.0 ≡ total (factor_of v) (ps ++ p ∷ []) = ap (λ (z : ℤ). z +ℤ p.1 *ℤ factor_of v p.0) (so.terms (unit v)) ∙ sym (total_push (factor_of v) ps p) in
            subst F (sym (take_whole ps p k lt)) (subst (FitsSigned w128) e (fits.factors v))
        | inr ge ↦ subst F (sym (take_front ps p k ge)) (made.factors k v ge)
      ];
  bounds = λ k le.
      let F : List (LRow × ℤ) → Type 0 = λ qs. FitsSigned w128 (total (λ r. r.bound) qs) in
      elim (cases_lt (length ps) k) [
        | inl lt ↦
            let e : sum.bound +ℤ p.1 *ℤ p.0.bound ≡ total (λ r. r.bound) (ps ++ p ∷ []) = ap (λ (z : ℤ). z +ℤ p.1 *ℤ p.0.bound) so.bound ∙ sym (total_push (λ r. r.bound) ps p) in
            subst F (sym (take_whole ps p k lt)) (subst (FitsSigned w128) e fits.bound)
        | inr ge ↦ subst F (sym (take_front ps p k ge)) (made.bounds k ge)
      ];
}

-- where all is made in 128 bits, so is each row's step
pub made_back : (vars : ℕ) (ps : List (LRow × ℤ)) (i : ℕ) (p : LRow × ℤ) (sum : LRow) → i < length ps → take (i + 1) ps ≡ take i ps ++ p ∷ [] → p ≡ get_or ps i p → IsSumOf vars (take i ps) sum → AreMade ps → FitsAdded sum p.0 p.1
made_back vars ps i p sum lt cut is so made =
    let T : LRow × ℤ → Type 0 = λ q. FitTimes q.0 q.1 in
    record {
      products = subst T (sym is) (All-get_or T ps i p lt made.products);
      factors = λ v.
          let F : List (LRow × ℤ) → Type 0 = λ qs. FitsSigned w128 (total (factor_of v) qs) in
          let e : total (factor_of v) (take i ps ++ p ∷ []) ≡ factor_of v sum +ℤ p.1 *ℤ factor_of v p.0 = total_push (factor_of v) (take i ps) p ∙ ap (λ (z : ℤ). z +ℤ p.1 *ℤ factor_of v p.0) (sym (so.terms (unit v))) in
          subst (FitsSigned w128) e (subst F cut (made.factors (i + 1) v (omega arith)));
      bound =
          let F : List (LRow × ℤ) → Type 0 = λ qs. FitsSigned w128 (total (λ r. r.bound) qs) in
          let e : total (λ r. r.bound) (take i ps ++ p ∷ []) ≡ sum.bound +ℤ p.1 *ℤ p.0.bound = total_push (λ r. r.bound) (take i ps) p ∙ ap (λ (z : ℤ). z +ℤ p.1 *ℤ p.0.bound) (sym so.bound) in
          subst (FitsSigned w128) e (subst F cut (made.bounds (i + 1) (omega arith)));
    }

pub row_order : (vars : ℕ) (o : Option LRow) → IsRowIn vars o → AreInOrder vars (unwrap_or o (record { terms = []; bound = pos 0 })).terms
row_order vars None h = record { rise = λ i j d lt p. absurd (omega (arith, p)); there = All-nil (λ s. s.var < vars); nonzero = All-nil (λ s. s.factor ≢ pos 0) }
row_order vars (Some r) h = h
