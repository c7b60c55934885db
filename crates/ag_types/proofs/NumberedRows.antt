-- The numbered row of a sum: its numbers fit, and it is the answer to the question for the row.
use Rattle.std.proofs.Common.{◌≡◌, ℕ, ◌<◌, ℤ, Bool, true, false, not, nat_lt, List, ◌∷◌, [], length, refl, ap, sym, subst, ◌∙◌, arith, All, FitsSigned, to_z, of_z}
use Rattle.std.specs.Prelude.{Option, Some, None, Result, Ok, Err, IfOk, IfErr, unsigned_abs}
use Rattle.std.specs.Int.{w64, w128}
use Rattle.std.specs.List.{list_all}
use Rattle.std.proofs.lemmas.Bool.Decides.{nat_tests}
use Rattle.std.proofs.lemmas.Int.{to_z-of_z, fits_signed_from_abs}
use Rattle.std.proofs.lemmas.List.Elements.{All-nil, All-cons}
use Rattle.std.proofs.lemmas.Option.{slice_get_within}
use Rattle.ag_base.specs.declared.place.Place.{Place}
use Rattle.ag_base.specs.declared.place.Refusal.{Refusal}
use Rattle.ag_terms.specs.declared.clauses.Ty.{Ty}
use Rattle.ag_terms.specs.declared.clauses.Ty.TheVariants.{Int}
use Rattle.ag_terms.specs.declared.clauses.Var.{Var}
use Rattle.ag_terms.specs.declared.terms.Term.{Term}
use Rattle.ag_stream.specs.declared.problem.Row.{Row}
use Rattle.ag_symbols.specs.Seen.{Seen, Names, names_seen}
use Rattle.ag_linear.specs.declared.value.Factor.{Factor}
use Rattle.ag_linear.specs.declared.value.Value.{Value}
use Rattle.ag_linear.specs.Values.{is_within}
use Rattle.ag_linear.specs.RowOrder.{AreInOrder}
use Rattle.ag_linear.specs.Rows.{Linear, is_factor}
use Rattle.ag_linear.proofs.Merges.{both_hold}
use Rattle.ag_types.specs.declared.numbered.Numbered.{Numbered}
use Rattle.ag_types.specs.Constants.{is_varying}
use Rattle.ag_types.specs.Firsts.{either}
use Rattle.ag_types.specs.Numbered.{known}
use Rattle.ag_types.specs.Places.{first_place, first_broken}
use Rattle.ag_types.specs.SumRows.{IsWholeStream, IsTerm, KeepsLimits, IsSumRow, numbered_row}
use Rattle.ag_types.specs.Sums.{is_sum, sum_faults, IsRowOf, IsNoRow}
use Rattle.ag_types.specs.Types.{type_in, faults_in, mismatch}
use Rattle.ag_types.specs.Uses.{AreValues}
use Rattle.ag_types.proofs.FormedRows.{kept_parts, rows_are_formed}
use Rattle.ag_types.proofs.NumberedWorth.{numbered_is_worth}
use Rattle.ag_types.proofs.SumsHaveRows.{sum_broken}
use Rattle.ag_types.proofs.WorthOfRows.{sum_has_whole_streams}
use Rattle.ag_types.proofs.WorthOfSums.{AreWholeStreams}

-- ---- numbers that fit

pub stream_within : (streams : List Var) (k : ℕ) → IsWholeStream streams k → k < length streams
stream_within streams k h = slice_get_within streams k h.var h.found

back_of : (z : ℤ) (n : ℕ) → unsigned_abs z ≡ n → n < 9223372036854775808 → to_z w64 (of_z w64 (to_z w128 (of_z w128 z))) ≡ z
back_of z n e h =
    let wide : FitsSigned w128 z = fits_signed_from_abs w128 z (omega arith) in
    let narrow : FitsSigned w64 z = fits_signed_from_abs w64 z (omega arith) in
    ap (λ (y : ℤ). to_z w64 (of_z w64 y)) (to_z-of_z w128 z wide) ∙ to_z-of_z w64 z narrow

below_factor : (n : ℕ) → not (nat_lt 2147483648 n) ≡ true → n < 9223372036854775808
below_factor n e = grind (arith, nat_tests)

within_constants : (n : ℕ) → not (nat_lt 281474976710656 n) ≡ true → not (nat_lt 4611686018427387904 n) ≡ true
within_constants n e = grind (arith, nat_tests)

-- a factor that keeps its limit has 64 bits
pub factor_back : (z : ℤ) → is_factor z ≡ true → to_z w64 (of_z w64 (to_z w128 (of_z w128 z))) ≡ z
factor_back z e = back_of z (unsigned_abs z) refl (below_factor (unsigned_abs z) e)

-- the constant of a row keeps the limit of constants
kept_constant : (row : Linear) (varies : Bool) → KeepsLimits varies row → is_within row.constant ≡ true
kept_constant row true e = within_constants (unsigned_abs row.constant) (kept_parts row e).constant
kept_constant row false e = e.1

pub sum_constant : (names : Names) (values : List (Option Value)) (t : Term) (row : Linear) → IsSumRow names values t row → is_within row.constant ≡ true
sum_constant names values t row is = kept_constant row (is_varying names t) is.kept

-- ---- terms

are_terms : (streams : List Var) (fs : List Factor) → AreWholeStreams streams fs → list_all (λ f. is_factor f.factor) fs ≡ true → All (IsTerm streams) fs
are_terms streams [] h e = All-nil (IsTerm streams)
are_terms streams (f ∷ fs) h e =
    let parts = both_hold (is_factor f.factor) (list_all (λ g. is_factor g.factor) fs) e in
    let first : IsTerm streams f = record { stream = h.0; kept = parts.0 } in
    All-cons (IsTerm streams) f fs first (are_terms streams fs h.1 parts.1)

-- the row of a sum has terms that fit
pub sum_terms : (names : Names) (values : List (Option Value)) (t : Term) (row : Linear) → is_sum names t ≡ true → IsSumRow names values t row →
    All (IsTerm names.streams) row.factors
sum_terms names values t row sum is =
    let whole = sum_has_whole_streams names values t row sum is.found in
    are_terms names.streams row.factors whole.1 (by (is_varying names t) is.kept)
  where
    by : (varies : Bool) → KeepsLimits varies row → list_all (λ f. is_factor f.factor) row.factors ≡ true
    by true e = (kept_parts row e).factors
    by false e = ap (list_all (λ f. is_factor f.factor)) e.0

-- ---- answers

-- the first rule on types that is broken, by the parts that the code asks for
types_broken : (names : Names) (t : Term) (ty : Option Ty) (first : Place) (m : Option Refusal) → ty ≡ type_in names t → first ≡ first_place t →
    m ≡ first_broken (mismatch (Some Int) ty first) → m ≡ first_broken (mismatch (Some Int) (type_in names t) (first_place t))
types_broken names t ty first m of_ty of_first of_m =
    of_m
    ∙ ap (λ (x : Option Ty). first_broken (mismatch (Some Int) x first)) of_ty
    ∙ ap (λ (p : Place). first_broken (mismatch (Some Int) (type_in names t) p)) of_first

-- the first broken rule of all
pub broken_by : (names : Names) (values : List (Option Value)) (t : Term) (n : Numbered) (ty : Option Ty) (first : Place) (b m typed all : Option Refusal) →
    n ≡ known names values t → ty ≡ type_in names t → first ≡ first_place t → b ≡ first_broken (faults_in names t) →
    m ≡ first_broken (mismatch (Some Int) ty first) → typed ≡ either m n.broken → all ≡ either b typed → first_broken (sum_faults names values t) ≡ all
broken_by names values t n ty first b m typed all of_n of_ty of_first of_b of_m of_typed of_all =
    let types = types_broken names t ty first m of_ty of_first of_m in
    let broken_type = first_broken (mismatch (Some Int) (type_in names t) (first_place t)) in
    let behind = of_typed ∙ ap (λ (x : Option Refusal). either x n.broken) types ∙ ap (λ (x : Numbered). either broken_type x.broken) of_n in
    sum_broken names values t
    ∙ sym (of_all ∙ ap (λ (x : Option Refusal). either x typed) of_b ∙ ap (either (first_broken (faults_in names t))) behind)

-- the row that was found is that of the sum
pub found_row : (names : Names) (values : List (Option Value)) (t : Term) (n : Numbered) (row : Linear) → n ≡ known names values t → n.row ≡ Some row →
    ((r : Linear) × IsSumRow names values t r) → IsSumRow names values t row
found_row names values t n row e f sum =
    let known_row : n.row ≡ (known names values t).row = ap (λ (x : Numbered). x.row) e in
    let found = sum.1.found in
    let same : sum.0 ≡ row = some_is (sum.0) row (sym found ∙ sym known_row ∙ f) in
    subst (IsSumRow names values t) same sum.1
  where
    some_is : (a b : Linear) → Some a ≡ Some b → a ≡ b
    some_is a b g = cc

pub no_row : (names : Names) (values : List (Option Value)) (t : Term) (n : Numbered) → n ≡ known names values t → n.row ≡ None →
    ((r : Linear) × IsSumRow names values t r) → ⊥
no_row names values t n e f sum =
    let known_row : n.row ≡ (known names values t).row = ap (λ (x : Numbered). x.row) e in
    let wrong : None ≡ Some sum.0 = sym f ∙ known_row ∙ sum.1.found in
    cc

-- the numbered row is the answer
pub is_row : (s : Seen) (values : List (Option Value)) (t : Term) (l : Linear) (row : Row) → AreValues s values → is_sum (names_seen s) t ≡ true →
    AreInOrder l.factors → IsSumRow (names_seen s) values t l → row ≡ numbered_row (names_seen s) l → IsRowOf s t row
is_row s values t l row valued sum order is e = subst (IsRowOf s t) (sym e) (record {
  values = values;
  valued = valued;
  sound = is.sound;
  formed = rows_are_formed (names_seen s) values t l sum is order;
  worth_of = numbered_is_worth (names_seen s) values t l sum is.found;
})

pub is_no_row : (s : Seen) (values : List (Option Value)) (t : Term) (r : Refusal) → AreValues s values →
    first_broken (sum_faults (names_seen s) values t) ≡ Some r → IsNoRow s t r
is_no_row s values t r valued e = record { values = values; valued = valued; broken = e }

-- what is answered of the names that are looked at holds of those of the scope
pub sum_row_of : (looked seen : Names) (values : List (Option Value)) (t : Term) (o : Result Linear Refusal) (row : Linear) → looked ≡ seen → o ≡ Ok row →
    IfOk o (λ r. IsSumRow looked values t r) → IsSumRow seen values t row
sum_row_of looked seen values t o row e f h =
    let own : IsSumRow looked values t row = subst (λ (x : Result Linear Refusal). IfOk x (λ r. IsSumRow looked values t r)) f h in
    subst (λ (n : Names). IsSumRow n values t row) e own

pub refusal_of : (looked seen : Names) (values : List (Option Value)) (t : Term) (o : Result Linear Refusal) (r : Refusal) → looked ≡ seen → o ≡ Err r →
    IfErr o (λ q. first_broken (sum_faults looked values t) ≡ Some q) → first_broken (sum_faults seen values t) ≡ Some r
refusal_of looked seen values t o r e f h =
    let broken : Option Refusal → Type 0 = λ q. first_broken (sum_faults looked values t) ≡ q in
    let own : first_broken (sum_faults looked values t) ≡ Some r = subst (λ (x : Result Linear Refusal). IfErr x (λ q. broken (Some q))) f h in
    subst (λ (n : Names). first_broken (sum_faults n values t) ≡ Some r) e own
