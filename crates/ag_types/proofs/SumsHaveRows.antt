-- An integer sum that breaks no rule has a row, which keeps its limits.
use Rattle.std.proofs.Common.{◌≡◌, ℕ, Bool, true, false, not, List, [], ◌++◌, refl, subst}
use Rattle.std.specs.Prelude.{negsuc, Option, Some, None, is_none, if◌then◌else◌}
use Rattle.ag_base.specs.declared.place.Place.{Place}
use Rattle.ag_base.specs.declared.place.Refusal.{Refusal}
use Rattle.ag_terms.specs.declared.clauses.Ty.{Ty}
use Rattle.ag_terms.specs.declared.clauses.Ty.TheVariants.{Int, Bool as Boolean}
use Rattle.ag_terms.specs.declared.clauses.Var.{Var}
use Rattle.ag_terms.specs.declared.terms.Binary.TheVariants as binary
use Rattle.ag_terms.specs.declared.terms.Term.{Term, Number, Truth, Named, Unary', Binary', Choice', Call', end_of-Term, more_of-Term}
use Rattle.ag_terms.specs.declared.terms.Unary.TheVariants as unary
use Rattle.ag_symbols.specs.Seen.{Names, sought, position, value_named, var_name, is_stream}
use Rattle.ag_linear.specs.declared.value.Value.{Value}
use Rattle.ag_linear.specs.declared.value.Value.TheVariants as value
use Rattle.ag_linear.specs.Values.{is_within}
use Rattle.ag_linear.specs.Rows.{Linear, constant_row, stream_row, plus, minus, keeps_row, carried_row}
use Rattle.ag_linear.proofs.Held.{kept_is_carried_row}
use Rattle.ag_types.specs.Constants.{is_varying, AreKept, exact_value, value_in, is_kept}
use Rattle.ag_types.specs.Firsts.{either}
use Rattle.ag_types.specs.NumberFaults.{passed_row, product, bad_divisor, compared_rows, operand_rows, parts_faults, formula_faults}
use Rattle.ag_types.specs.Places.{first_place, first_broken}
use Rattle.ag_types.specs.Rows.{whole_at, whole_of, whole_stream, row_of_stream, row_of_hidden, row_of_value, both, scaled, row_of_product, row_of_pre, exact_row, row_in}
use Rattle.ag_types.specs.SumRows.{IsValueOf, HaveValues, KeepsLimits, IsSumRow}
use Rattle.ag_types.specs.Sums.{is_sum, is_named_stream, sum_faults}
use Rattle.ag_types.specs.Types.{type_in, type_of_var, mismatch, faults_in}
use Rattle.ag_types.proofs.Breaking.{first_broken-append, unbroken}
use Rattle.ag_types.proofs.ConstantsHaveValues.{constant_value}
use Rattle.ag_types.proofs.TypedOperators.{not_false, front_nil, back_nil, unless_nil, operand_type, kept_is_carried}
use Rattle.ag_types.proofs.Valuing.{kept_exact}
use Rattle.ag_types.proofs.WorthOfNames.{first_at}
use Rattle.ag_types.proofs.WorthOfRows.{both_sums, not_both}

-- there is a row
abbrev pub IsThere : Option Linear → Type 0
IsThere None = ⊥
IsThere (Some row) = Unit {0}

-- ---- limits

there_carried : (o : Option Linear) (place : Place) → passed_row o place ≡ [] → IsThere o → IsThere (carried_row o)
there_carried None place e h = h
there_carried (Some row) place e h = rw (kept_is_carried_row row (not_false (keeps_row row) (unless_nil (not (keeps_row row)) _ e))) tt

-- ---- operands

there_both : (f : Linear → Linear → Linear) (o p : Option Linear) → IsThere o → IsThere p → IsThere (both f o p)
there_both f None p h i = absurd h
there_both f (Some row) None h i = absurd i
there_both f (Some row) (Some other) h i = tt

there_scaled : (o : Option Value) (p : Option Linear) → IsValueOf Int o → IsThere p → IsThere (scaled o p)
there_scaled None p h i = absurd h
there_scaled (Some (value.Truth b)) p h i = absurd h
there_scaled (Some (value.Whole z)) None h i = absurd i
there_scaled (Some (value.Whole z)) (Some row) h i = tt

there_value : (o : Option Value) → IsValueOf Int o → IsThere (row_of_value o)
there_value None h = absurd h
there_value (Some (value.Whole z)) h = tt
there_value (Some (value.Truth b)) h = absurd h

-- a constant integer that breaks no rule has a value
whole_value : (names : Names) (values : List (Option Value)) (t : Term) → HaveValues names.constants values → AreKept values → is_varying names t ≡ false →
    faults_in names t ≡ [] → type_in names t ≡ Some Int → formula_faults names values t ≡ [] → IsValueOf Int (value_in names values t)
whole_value names values t have kept v e ty f =
    constant_value names values 0 t (λ k w u g. have k w g) kept v e (rw (v, ty) at f) Int ty

-- what an expression that isn't constant breaks
varying_faults : (names : Names) (values : List (Option Value)) (t : Term) → is_varying names t ≡ true → formula_faults names values t ≡ [] →
    (passed_row (exact_row names values t) (first_place t) ≡ []) × (parts_faults names values t ≡ [])
varying_faults names values t v f =
    let own = passed_row (exact_row names values t) (first_place t) in
    let parts = parts_faults names values t in
    let all : own ++ parts ≡ [] = rw v at f in
    (front_nil own parts all, back_nil own parts all)

there_operand : (names : Names) (values : List (Option Value)) (t : Term) → HaveValues names.constants values → AreKept values → faults_in names t ≡ [] →
    type_in names t ≡ Some Int → formula_faults names values t ≡ [] →
    (is_varying names t ≡ true → parts_faults names values t ≡ [] → IsThere (exact_row names values t)) → IsThere (row_in names values t)
there_operand names values t have kept e ty f exact = by (is_varying names t) refl
  where
    by : (b : Bool) → is_varying names t ≡ b → IsThere (if b then carried_row (exact_row names values t) else row_of_value (value_in names values t))
    by true v = let own = varying_faults names values t v f in there_carried (exact_row names values t) (first_place t) own.0 (exact v own.1)
    by false v = there_value (value_in names values t) (whole_value names values t have kept v e ty f)

-- ---- streams

whole_typed : (k : ℕ) (v : Var) → v.ty ≡ Int → whole_at k (Some v) ≡ Some k
whole_typed k v e = rw e refl

there_now : (o : Option ℕ) (k : ℕ) → o ≡ Some k → IsThere (row_of_stream false o)
there_now None k e = cc
there_now (Some n) k e = tt

there_before : (o : Option ℕ) (k : ℕ) (ty : Option Ty) → o ≡ Some k → IsThere (elim o [ None ↦ row_of_hidden ty | Some stream ↦ Some (stream_row stream true) ])
there_before None k ty e = cc
there_before (Some n) k ty e = tt

-- an integer stream of that name is there
whole_named : (names : Names) (name : List ℕ) → is_stream names.streams (Some name) ≡ true → type_of_var (value_named name (names.streams ++ names.constants)) ≡ Some Int →
    (k : ℕ) × (whole_stream names (Some name) ≡ Some k)
whole_named names name s ty = by (position var_name (Some name) names.streams) refl s
  where
    by : (o : Option ℕ) → position var_name (Some name) names.streams ≡ o → not (is_none o) ≡ true → (k : ℕ) × (whole_of names.streams o ≡ Some k)
    by None e f = cc
    by (Some k) e f =
        let first = first_at name names.streams k e in
        let typed : Some first.var.ty ≡ Some Int = rw (first.first names.constants) at ty in
        let whole : first.var.ty ≡ Int = cc in
        (k, rw first.found (whole_typed k first.var whole))

whole_of_path : (names : Names) (o : Option (List ℕ)) → is_stream names.streams o ≡ true →
    type_of_var (elim o [ None ↦ None | Some name ↦ value_named name (names.streams ++ names.constants) ]) ≡ Some Int → (k : ℕ) × (whole_stream names o ≡ Some k)
whole_of_path names None e ty = cc
whole_of_path names (Some name) e ty = whole_named names name e ty

there_pre : (names : Names) (values : List (Option Value)) (t : Term) → is_named_stream names t ≡ true → type_in names t ≡ Some Int → IsThere (row_of_pre names t)
there_pre names values (Number z place) e ty = cc
there_pre names values (Truth b place) e ty = cc
there_pre names values (Named path) e ty =
    let whole = whole_of_path names (sought path path.«package») e ty in
    there_before (whole_stream names (sought path path.«package»)) whole.0 (type_in names (Named path)) whole.1
there_pre names values (Unary' op place _ arg) e ty = cc
there_pre names values (Binary' op place _ left _ right) e ty = cc
there_pre names values (Choice' place _ test _ chosen _ other) e ty = cc
there_pre names values (Call' path _ args) e ty = cc

-- ---- expressions

no_varying : false ≡ true → ⊥
no_varying e = cc

no_truth : Some Boolean ≡ Some Int → ⊥
no_truth e = cc

-- the operands of a sum: they break no rule, and are integers
record AreSummands (names : Names) (values : List (Option Value)) (left right : Term) : Type 0 where
  pub left_sound : faults_in names left ≡ []
  pub right_sound : faults_in names right ≡ []
  pub left_whole : type_in names left ≡ Some Int
  pub right_whole : type_in names right ≡ Some Int
  pub left_formula : formula_faults names values left ≡ []
  pub right_formula : formula_faults names values right ≡ []

summands : (names : Names) (values : List (Option Value)) (left right : Term) (place next : Place) (a b c d : List Refusal) →
    faults_in names left ++ (faults_in names right ++ (mismatch (Some Int) (type_in names left) place ++ mismatch (Some Int) (type_in names right) next)) ≡ [] →
    a ++ (b ++ (c ++ (d ++ (formula_faults names values left ++ formula_faults names values right)))) ≡ [] → AreSummands names values left right
summands names values left right place next a b c d e f =
    let first = mismatch (Some Int) (type_in names left) place in
    let second = mismatch (Some Int) (type_in names right) next in
    let behind = back_nil (faults_in names left) (faults_in names right ++ (first ++ second)) e in
    let types = back_nil (faults_in names right) (first ++ second) behind in
    let of_left = front_nil (faults_in names left) (faults_in names right ++ (first ++ second)) e in
    let of_right = front_nil (faults_in names right) (first ++ second) behind in
    let formulas = formula_faults names values left ++ formula_faults names values right in
    let last = back_nil d formulas (back_nil c (d ++ formulas) (back_nil b (c ++ (d ++ formulas)) (back_nil a (b ++ (c ++ (d ++ formulas))) f))) in
    record {
      left_sound = of_left;
      right_sound = of_right;
      left_whole = operand_type names left Int place of_left (front_nil first second types);
      right_whole = operand_type names right Int next of_right (back_nil first second types);
      left_formula = front_nil (formula_faults names values left) (formula_faults names values right) last;
      right_formula = back_nil (formula_faults names values left) (formula_faults names values right) last;
    }

there_product : (names : Names) (values : List (Option Value)) (left right : Term) (place : Place) → HaveValues names.constants values → AreKept values →
    AreSummands names values left right → product names binary.Times place left right ≡ [] →
    IsThere (row_in names values left) → IsThere (row_in names values right) → IsThere (row_of_product names values left right (row_in names values left) (row_in names values right))
there_product names values left right place have kept parts e h i = by (is_varying names left) (is_varying names right) refl refl
  where
    by : (c d : Bool) → is_varying names left ≡ c → is_varying names right ≡ d →
        IsThere (if not c then scaled (value_in names values left) (row_in names values right) else (if not d then scaled (value_in names values right) (row_in names values left) else None))
    by false d v w = there_scaled (value_in names values left) (row_in names values right) (whole_value names values left have kept v parts.left_sound parts.left_whole parts.left_formula) i
    by true false v w = there_scaled (value_in names values right) (row_in names values left) (whole_value names values right have kept w parts.right_sound parts.right_whole parts.right_formula) h
    by true true v w = let none = rw (v, w) at e in cc

-- an integer sum that breaks no rule has a row
there_sum : (names : Names) (values : List (Option Value)) (t : Term) → HaveValues names.constants values → AreKept values → is_sum names t ≡ true →
    faults_in names t ≡ [] → type_in names t ≡ Some Int → formula_faults names values t ≡ [] → IsThere (row_in names values t)
there_sum names values (Number z place) have kept s e ty f =
    there_operand names values (Number z place) have kept e ty f (λ v p. absurd (no_varying v))
there_sum names values (Truth b place) have kept s e ty f =
    there_operand names values (Truth b place) have kept e ty f (λ v p. absurd (no_varying v))
there_sum names values (Named path) have kept s e ty f =
    there_operand names values (Named path) have kept e ty f (λ v p.
    let whole = whole_of_path names (sought path path.«package») v ty in
    there_now (whole_stream names (sought path path.«package»)) whole.0 whole.1)
there_sum names values (Unary' unary.Minus place m (more_of-Term t end_of-Term)) have kept s e ty f =
    there_operand names values (Unary' unary.Minus place m (more_of-Term t end_of-Term)) have kept e ty f (λ v p.
    let own = front_nil (faults_in names t) (mismatch (Some Int) (type_in names t) (first_place t)) e in
    let typed = operand_type names t Int (first_place t) own (back_nil (faults_in names t) (mismatch (Some Int) (type_in names t) (first_place t)) e) in
    there_scaled (Some (value.Whole (negsuc 0))) (row_in names values t) tt (there_sum names values t have kept s own typed p))
there_sum names values (Unary' unary.Not place m (more_of-Term t end_of-Term)) have kept s e ty f =
    there_operand names values (Unary' unary.Not place m (more_of-Term t end_of-Term)) have kept e ty f (λ v p. absurd (no_truth ty))
there_sum names values (Unary' unary.Pre place m (more_of-Term t end_of-Term)) have kept s e ty f =
    there_operand names values (Unary' unary.Pre place m (more_of-Term t end_of-Term)) have kept e ty f (λ v p. there_pre names values t s ty)
there_sum names values (Binary' binary.Arrow place m (more_of-Term left end_of-Term) n (more_of-Term right end_of-Term)) have kept s e ty f =
    there_operand names values (Binary' binary.Arrow place m (more_of-Term left end_of-Term) n (more_of-Term right end_of-Term)) have kept e ty f (λ v p. absurd (no_varying s))
there_sum names values (Binary' binary.Implies place m (more_of-Term left end_of-Term) n (more_of-Term right end_of-Term)) have kept s e ty f =
    there_operand names values (Binary' binary.Implies place m (more_of-Term left end_of-Term) n (more_of-Term right end_of-Term)) have kept e ty f (λ v p. absurd (no_truth ty))
there_sum names values (Binary' binary.Iff place m (more_of-Term left end_of-Term) n (more_of-Term right end_of-Term)) have kept s e ty f =
    there_operand names values (Binary' binary.Iff place m (more_of-Term left end_of-Term) n (more_of-Term right end_of-Term)) have kept e ty f (λ v p. absurd (no_truth ty))
there_sum names values (Binary' binary.Or place m (more_of-Term left end_of-Term) n (more_of-Term right end_of-Term)) have kept s e ty f =
    there_operand names values (Binary' binary.Or place m (more_of-Term left end_of-Term) n (more_of-Term right end_of-Term)) have kept e ty f (λ v p. absurd (no_truth ty))
there_sum names values (Binary' binary.And place m (more_of-Term left end_of-Term) n (more_of-Term right end_of-Term)) have kept s e ty f =
    there_operand names values (Binary' binary.And place m (more_of-Term left end_of-Term) n (more_of-Term right end_of-Term)) have kept e ty f (λ v p. absurd (no_truth ty))
there_sum names values (Binary' binary.Less place m (more_of-Term left end_of-Term) n (more_of-Term right end_of-Term)) have kept s e ty f =
    there_operand names values (Binary' binary.Less place m (more_of-Term left end_of-Term) n (more_of-Term right end_of-Term)) have kept e ty f (λ v p. absurd (no_truth ty))
there_sum names values (Binary' binary.AtMost place m (more_of-Term left end_of-Term) n (more_of-Term right end_of-Term)) have kept s e ty f =
    there_operand names values (Binary' binary.AtMost place m (more_of-Term left end_of-Term) n (more_of-Term right end_of-Term)) have kept e ty f (λ v p. absurd (no_truth ty))
there_sum names values (Binary' binary.More place m (more_of-Term left end_of-Term) n (more_of-Term right end_of-Term)) have kept s e ty f =
    there_operand names values (Binary' binary.More place m (more_of-Term left end_of-Term) n (more_of-Term right end_of-Term)) have kept e ty f (λ v p. absurd (no_truth ty))
there_sum names values (Binary' binary.AtLeast place m (more_of-Term left end_of-Term) n (more_of-Term right end_of-Term)) have kept s e ty f =
    there_operand names values (Binary' binary.AtLeast place m (more_of-Term left end_of-Term) n (more_of-Term right end_of-Term)) have kept e ty f (λ v p. absurd (no_truth ty))
there_sum names values (Binary' binary.Same place m (more_of-Term left end_of-Term) n (more_of-Term right end_of-Term)) have kept s e ty f =
    there_operand names values (Binary' binary.Same place m (more_of-Term left end_of-Term) n (more_of-Term right end_of-Term)) have kept e ty f (λ v p. absurd (no_truth ty))
there_sum names values (Binary' binary.Differs place m (more_of-Term left end_of-Term) n (more_of-Term right end_of-Term)) have kept s e ty f =
    there_operand names values (Binary' binary.Differs place m (more_of-Term left end_of-Term) n (more_of-Term right end_of-Term)) have kept e ty f (λ v p. absurd (no_truth ty))
there_sum names values (Binary' binary.Plus place m (more_of-Term left end_of-Term) n (more_of-Term right end_of-Term)) have kept s e ty f =
    there_operand names values (Binary' binary.Plus place m (more_of-Term left end_of-Term) n (more_of-Term right end_of-Term)) have kept e ty f (λ v p.
    let sums = both_sums _ (is_sum names left) (is_sum names right) v s in
    let parts = summands names values left right (first_place left) (first_place right) (product names binary.Plus place left right) (bad_divisor names values binary.Plus right)
    (passed_row (compared_rows binary.Plus (row_in names values left) (row_in names values right)) (first_place left)) (operand_rows names values binary.Plus left right) e p in
    let of_left = there_sum names values left have kept sums.0 parts.left_sound parts.left_whole parts.left_formula in
    let of_right = there_sum names values right have kept sums.1 parts.right_sound parts.right_whole parts.right_formula in
    there_both plus (row_in names values left) (row_in names values right) of_left of_right)
there_sum names values (Binary' binary.Minus place m (more_of-Term left end_of-Term) n (more_of-Term right end_of-Term)) have kept s e ty f =
    there_operand names values (Binary' binary.Minus place m (more_of-Term left end_of-Term) n (more_of-Term right end_of-Term)) have kept e ty f (λ v p.
    let sums = both_sums _ (is_sum names left) (is_sum names right) v s in
    let parts = summands names values left right (first_place left) (first_place right) (product names binary.Minus place left right) (bad_divisor names values binary.Minus right)
    (passed_row (compared_rows binary.Minus (row_in names values left) (row_in names values right)) (first_place left)) (operand_rows names values binary.Minus left right) e p in
    let of_left = there_sum names values left have kept sums.0 parts.left_sound parts.left_whole parts.left_formula in
    let of_right = there_sum names values right have kept sums.1 parts.right_sound parts.right_whole parts.right_formula in
    there_both minus (row_in names values left) (row_in names values right) of_left of_right)
there_sum names values (Binary' binary.Times place m (more_of-Term left end_of-Term) n (more_of-Term right end_of-Term)) have kept s e ty f =
    there_operand names values (Binary' binary.Times place m (more_of-Term left end_of-Term) n (more_of-Term right end_of-Term)) have kept e ty f (λ v p.
    let sums = both_sums _ (is_sum names left) (is_sum names right) v s in
    let parts = summands names values left right (first_place left) (first_place right) (product names binary.Times place left right) (bad_divisor names values binary.Times right)
    (passed_row (compared_rows binary.Times (row_in names values left) (row_in names values right)) (first_place left)) (operand_rows names values binary.Times left right) e p in
    let of_left = there_sum names values left have kept sums.0 parts.left_sound parts.left_whole parts.left_formula in
    let of_right = there_sum names values right have kept sums.1 parts.right_sound parts.right_whole parts.right_formula in
    let linear = front_nil (product names binary.Times place left right) _ p in
    there_product names values left right place have kept parts linear of_left of_right)
there_sum names values (Binary' binary.Div place m (more_of-Term left end_of-Term) n (more_of-Term right end_of-Term)) have kept s e ty f =
    there_operand names values (Binary' binary.Div place m (more_of-Term left end_of-Term) n (more_of-Term right end_of-Term)) have kept e ty f (λ v p. tt)
there_sum names values (Binary' binary.Mod place m (more_of-Term left end_of-Term) n (more_of-Term right end_of-Term)) have kept s e ty f =
    there_operand names values (Binary' binary.Mod place m (more_of-Term left end_of-Term) n (more_of-Term right end_of-Term)) have kept e ty f (λ v p. tt)
there_sum names values (Choice' place l (more_of-Term test end_of-Term) m (more_of-Term chosen end_of-Term) n (more_of-Term other end_of-Term)) have kept s e ty f =
    there_operand names values (Choice' place l (more_of-Term test end_of-Term) m (more_of-Term chosen end_of-Term) n (more_of-Term other end_of-Term)) have kept e ty f (λ v p.
    absurd (not_both _ v s))
there_sum names values (Call' path m args) have kept s e ty f = cc

-- ---- what a sum breaks

pub sum_broken : (names : Names) (values : List (Option Value)) (t : Term) → first_broken (sum_faults names values t) ≡
    either (first_broken (faults_in names t)) (either (first_broken (mismatch (Some Int) (type_in names t) (first_place t))) (first_broken (formula_faults names values t)))
sum_broken names values t =
    let typed = mismatch (Some Int) (type_in names t) (first_place t) in
    let formula = formula_faults names values t in
    rw (first_broken-append (faults_in names t) (typed ++ formula), first_broken-append typed formula) refl

there_is : (o : Option Linear) → IsThere o → (row : Linear) × (o ≡ Some row)
there_is None h = absurd h
there_is (Some row) h = (row, refl)

kept_row : (o : Option Linear) (row : Linear) (place : Place) → passed_row o place ≡ [] → carried_row o ≡ Some row → keeps_row row ≡ true
kept_row None row place e f = cc
kept_row (Some exact) row place e f =
    let kept = not_false (keeps_row exact) (unless_nil (not (keeps_row exact)) _ e) in
    let same : Some exact ≡ Some row = rw (kept_is_carried_row exact kept) at f in
    subst (λ (r : Linear). keeps_row r ≡ true) (some_is exact row same) kept
  where
    some_is : (a b : Linear) → Some a ≡ Some b → a ≡ b
    some_is a b g = cc

kept_number : (o : Option Value) (row : Linear) → is_kept o ≡ true → row_of_value o ≡ Some row → (row.factors ≡ []) × (is_within row.constant ≡ true)
kept_number None row e f = cc
kept_number (Some (value.Truth b)) row e f = cc
kept_number (Some (value.Whole z)) row e f = by row f
  where
    by : (r : Linear) → Some (constant_row z) ≡ Some r → (r.factors ≡ []) × (is_within r.constant ≡ true)
    by r g = let same : constant_row z ≡ r = cc in subst (λ (x : Linear). (x.factors ≡ []) × (is_within x.constant ≡ true)) same (refl, e)

-- what breaks no rule keeps its limits
sum_keeps : (names : Names) (values : List (Option Value)) (t : Term) (row : Linear) → AreKept values → type_in names t ≡ Some Int →
    formula_faults names values t ≡ [] → row_in names values t ≡ Some row → KeepsLimits (is_varying names t) row
sum_keeps names values t row kept ty f e = by (is_varying names t) refl
  where
    by : (b : Bool) → is_varying names t ≡ b → KeepsLimits b row
    by true v =
        let own = varying_faults names values t v f in
        kept_row (exact_row names values t) row (first_place t) own.0 (rw v at e)
    by false v =
        let exact = exact_value names values t in
        let within = kept_exact names values t kept (rw (v, ty) at f) in
        kept_number exact row within (rw (v, kept_is_carried exact within) at e)

-- a sum that breaks no rule has a row
pub sound_sum : (names : Names) (values : List (Option Value)) (t : Term) → HaveValues names.constants values → AreKept values → is_sum names t ≡ true →
    first_broken (sum_faults names values t) ≡ None → (row : Linear) × IsSumRow names values t row
sound_sum names values t have kept s e =
    let typed = mismatch (Some Int) (type_in names t) (first_place t) in
    let formula = formula_faults names values t in
    let none : sum_faults names values t ≡ [] = unbroken (sum_faults names values t) e in
    let sound = front_nil (faults_in names t) (typed ++ formula) none in
    let behind = back_nil (faults_in names t) (typed ++ formula) none in
    let whole = operand_type names t Int (first_place t) sound (front_nil typed formula behind) in
    let last = back_nil typed formula behind in
    let found = there_is (row_in names values t) (there_sum names values t have kept s sound whole last) in
    (found.0, record { sound = none; found = found.1; kept = sum_keeps names values t found.0 kept whole last found.1 })
