-- The numbered row of a sum is a row of a problem: its terms are in order, and its numbers within the limits.
use Rattle.std.proofs.Common.{◌≡◌, ◌≢◌, ℕ, zero, suc, ◌+◌, ◌<◌, ◌≤◌, ℤ, pos, Bool, true, false, not, ◌&&◌, ◌||◌, nat_lt, List, [], ◌∷◌, map, length, take, filter, refl, ap, ◌∙◌, inl, inr, arith, All}
use Rattle.std.specs.Prelude.{negsuc, Option, unsigned_abs, ◌==◌, if◌then◌else◌}
use Rattle.std.specs.List.{list_all}
use Rattle.std.proofs.lemmas.Bool.Decides.{nat_tests}
use Rattle.std.proofs.lemmas.List.{length-map}
use Rattle.std.proofs.lemmas.List.Elements.{All-nil, All-cons}
use Rattle.std.proofs.lemmas.Option.{slice_get_within}
use Rattle.ag_terms.specs.declared.clauses.Var.{Var}
use Rattle.ag_terms.specs.declared.terms.Term.{Term}
use Rattle.ag_stream.specs.Forms as forms
use Rattle.ag_stream.specs.Runs.{magnitude}
use Rattle.ag_symbols.specs.Seen.{Names}
use Rattle.ag_linear.specs.declared.value.Factor.{Factor}
use Rattle.ag_linear.specs.declared.value.Value.{Value}
use Rattle.ag_linear.specs.RowOrder.{AreInOrder}
use Rattle.ag_linear.specs.Rows.{Linear, is_factor, is_zero, keeps_row, precedes}
use Rattle.ag_linear.proofs.Merges.{both_hold}
use Rattle.ag_types.specs.Constants.{is_varying}
use Rattle.ag_types.specs.SumRows.{IsWholeStream, KeepsLimits, IsSumRow, numbered, numbered_row}
use Rattle.ag_types.specs.Sums.{is_sum, is_whole, whole_streams, IsWithinLimits}
use Rattle.ag_types.proofs.WorthOfFactors.{equal_numbers}
use Rattle.ag_types.proofs.WorthOfNames.{kept_at}
use Rattle.ag_types.proofs.WorthOfRows.{sum_has_whole_streams}
use Rattle.ag_types.proofs.WorthOfSums.{AreWholeStreams}

-- ---- numbers of streams

-- fewer integer streams stand before one than there are
pub number_within : (streams : List Var) (k : ℕ) → IsWholeStream streams k → length (filter is_whole (take k streams)) < length (filter is_whole streams)
number_within streams k h =
    slice_get_within (filter is_whole streams) (length (filter is_whole (take k streams))) h.var (kept_at is_whole streams k h.var h.found h.whole)

-- fewer than stand before a later place
number_rises : (streams : List Var) (k l : ℕ) → IsWholeStream streams k → k < l →
    length (filter is_whole (take k streams)) < length (filter is_whole (take l streams))
number_rises [] k l h lt = let none = h.found in cc
number_rises (v ∷ vs) k zero h lt = absurd (omega arith)
number_rises (v ∷ vs) zero (suc l) h lt =
    let found = h.found in
    let same : v ≡ h.var = cc in
    rw (ap is_whole same ∙ h.whole) (omega arith)
number_rises (v ∷ vs) (suc k) (suc l) h lt =
    by (number_rises vs k l (record { var = h.var; found = h.found; whole = h.whole }) (omega arith)) (is_whole v)
  where
    by : length (filter is_whole (take k vs)) < length (filter is_whole (take l vs)) → (b : Bool) →
        length (if b then v ∷ filter is_whole (take k vs) else filter is_whole (take k vs)) < length (if b then v ∷ filter is_whole (take l vs) else filter is_whole (take l vs))
    by less true = omega arith
    by less false = less

-- ---- order

flags_of : (a b : Bool) → (not a && b) ≡ true → (a ≡ false) × (b ≡ true)
flags_of true b e = cc
flags_of false b e = (refl, e)

below : (a b : ℕ) → nat_lt a b ≡ true → a < b
below a b e = grind (arith, nat_tests)

term_before : (names : Names) (f g : Factor) → IsWholeStream names.streams f.stream → precedes f g ≡ true → forms.IsBefore (numbered names f) (numbered names g)
term_before names f g h e = by (nat_lt f.stream g.stream) refl e
  where
    by : (b : Bool) → nat_lt f.stream g.stream ≡ b → (b || (f.stream == g.stream && (not f.before && g.before))) ≡ true →
        forms.IsBefore (numbered names f) (numbered names g)
    by true lt i = inl (number_rises names.streams f.stream g.stream h (below f.stream g.stream lt))
    by false lt i =
        let parts = both_hold (f.stream == g.stream) (not f.before && g.before) i in
        let flags = flags_of f.before g.before parts.1 in
        inr (ap (λ (k : ℕ). length (filter is_whole (take k names.streams))) (equal_numbers f.stream g.stream parts.0), flags.0, flags.1)

terms_in_order : (names : Names) (fs : List Factor) → AreWholeStreams names.streams fs → AreInOrder fs → forms.AreInOrder (map (numbered names) fs)
terms_in_order names [] h order = tt
terms_in_order names (f ∷ []) h order = tt
terms_in_order names (f ∷ g ∷ gs) h order =
    let first = both_hold (precedes f g) (list_all (precedes f) gs) order.0 in
    (term_before names f g h.0 first.0, terms_in_order names (g ∷ gs) h.1 order.2)

-- ---- limits

magnitude_is : (z : ℤ) → magnitude z ≡ unsigned_abs z
magnitude_is (pos n) = refl
magnitude_is (negsuc n) = omega arith

at_most : (most n : ℕ) → not (nat_lt most n) ≡ true → n ≤ most
at_most most n e = grind (arith, nat_tests)

magnitude_within : (most : ℕ) (z : ℤ) → not (nat_lt most (unsigned_abs z)) ≡ true → magnitude z ≤ most
magnitude_within most z e = rw (magnitude_is z) (at_most most (unsigned_abs z) e)

not_zero : (z : ℤ) → is_zero z ≡ false → z ≢ pos 0
not_zero z e same = let wrong : is_zero z ≡ true = ap is_zero same in cc

terms_are_formed : (names : Names) (fs : List Factor) → AreWholeStreams names.streams fs → AreInOrder fs → list_all (λ f. is_factor f.factor) fs ≡ true →
    All (forms.IsTerm (length (whole_streams names))) (map (numbered names) fs)
terms_are_formed names [] h order small = All-nil (forms.IsTerm (length (whole_streams names)))
terms_are_formed names (f ∷ fs) h order small =
    let limits = both_hold (is_factor f.factor) (list_all (λ g. is_factor g.factor) fs) small in
    let first : forms.IsTerm (length (whole_streams names)) (numbered names f) = record {
      stream = number_within names.streams f.stream h.0;
      factor = not_zero f.factor order.1;
      small = magnitude_within 2147483648 f.factor limits.0;
    } in
    All-cons (forms.IsTerm (length (whole_streams names))) (numbered names f) (map (numbered names) fs) first (terms_are_formed names fs h.1 order.2 limits.1)

-- what a row within its limits keeps, part by part
pub record KeepsParts (row : Linear) : Type 0 where
  pub constant : not (nat_lt 281474976710656 (unsigned_abs row.constant)) ≡ true
  pub factors : list_all (λ f. is_factor f.factor) row.factors ≡ true
  pub hidden : list_all is_factor row.hidden ≡ true
  pub count : not (nat_lt 1024 (length row.factors + length row.hidden)) ≡ true

pub kept_parts : (row : Linear) → keeps_row row ≡ true → KeepsParts row
kept_parts row e =
    let count = not (nat_lt 1024 (length row.factors + length row.hidden)) in
    let hidden = list_all is_factor row.hidden in
    let factors = list_all (λ f. is_factor f.factor) row.factors in
    let first = both_hold (not (nat_lt 281474976710656 (unsigned_abs row.constant))) (factors && (hidden && count)) e in
    let second = both_hold factors (hidden && count) first.1 in
    let third = both_hold hidden count second.1 in
    record { constant = first.0; factors = second.0; hidden = third.0; count = third.1 }

limits_kept : (names : Names) (row : Linear) (varies : Bool) → AreWholeStreams names.streams row.factors → AreInOrder row.factors → KeepsLimits varies row →
    IsWithinLimits varies (length (whole_streams names)) (numbered_row names row)
limits_kept names row true whole order e =
    let kept = kept_parts row e in
    let within = at_most 1024 (length row.factors + length row.hidden) kept.count in
    let long = length-map row.factors (numbered names) in
    record {
      terms = terms_are_formed names row.factors whole order kept.factors;
      order = terms_in_order names row.factors whole order;
      count = omega arith;
      constant = magnitude_within 281474976710656 row.constant kept.constant;
    }
limits_kept names row false whole order e = (ap (map (numbered names)) e.0, magnitude_within 4611686018427387904 row.constant e.1)

-- the numbered row of a sum is one of a problem with that many integer streams, or a constant's number
pub rows_are_formed : (names : Names) (values : List (Option Value)) (t : Term) (row : Linear) → is_sum names t ≡ true → IsSumRow names values t row →
    AreInOrder row.factors → IsWithinLimits (is_varying names t) (length (whole_streams names)) (numbered_row names row)
rows_are_formed names values t row sum is order =
    let whole = sum_has_whole_streams names values t row sum is.found in
    limits_kept names row (is_varying names t) whole.1 order is.kept
