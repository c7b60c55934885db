-- What sums are worth in every run: their rows.
use Rattle.std.proofs.Common.{◌≡◌, ℕ, zero, suc, ℤ, pos, ◌*ℤ◌, neg_ℤ, Bool, true, false, not, ◌&&◌, ◌||◌, List, ◌++◌, refl, ap, sym, subst, arith}
use Rattle.std.specs.Prelude.{[], negsuc, Option, Some, None, slice_get, is_none}
use Rattle.std.proofs.lemmas.Int.{ints}
use Rattle.ag_terms.specs.declared.clauses.Ty.{Ty}
use Rattle.ag_terms.specs.declared.clauses.Ty.TheVariants.{Int, Bool as Boolean}
use Rattle.ag_terms.specs.declared.clauses.Var.{Var}
use Rattle.ag_terms.specs.declared.terms.Binary.TheVariants as binary
use Rattle.ag_terms.specs.declared.terms.Term.{Term, Number, Truth, Named, Unary', Binary', Choice', Call', end_of-Term, more_of-Term}
use Rattle.ag_terms.specs.declared.terms.Unary.TheVariants as unary
use Rattle.ag_terms.specs.declared.names.Path.{Path}
use Rattle.ag_symbols.specs.Seen.{Names, sought, position, value_named, var_name, is_stream}
use Rattle.ag_linear.specs.declared.value.Value.{Value}
use Rattle.ag_linear.specs.declared.value.Value.TheVariants as value
use Rattle.ag_linear.specs.Rows.{Linear, stream_row}
use Rattle.ag_linear.proofs.Merges.{both_hold}
use Rattle.ag_types.specs.Meaning.{Reading, Run, stream_named, stream_of, worth_of_name, worth}
use Rattle.ag_types.specs.Rows.{whole_at, whole_of, whole_stream, row_of_stream, row_of_hidden, scaled, row_of_pre, row_in}
use Rattle.ag_types.specs.Sums.{is_sum, is_named_stream}
use Rattle.ag_types.specs.SumRows.{IsWholeStream}
use Rattle.ag_types.specs.Types.{type_of_var}
use Rattle.ag_types.proofs.WorthOfNames.{IsFirstAt, same_folded, first_at}
use Rattle.ag_types.proofs.WorthOfSums.{AreWholeStreams, weight, IsWorth, AgreesRow, moved, agrees-plus, agrees-minus, agrees-scaled, agrees-product, agrees-operand}
use Rattle.ag_types.proofs.WorthOfValues.{operand_agrees}

-- ---- streams

worth_of_stream : (r : Reading) (run : Run) (at k : ℕ) (before : Bool) (z : ℤ) → IsWholeStream r.names.streams k → weight r run at k before ≡ z →
    IsWorth r run at (stream_row k before) z
worth_of_stream r run at k before z h e = record { declared = refl; whole = (h, tt); number = omega (arith, ints) }

-- where the stream of a name is an integer it is this row, and else no row
agrees-typed : (r : Reading) (run : Run) (at k : ℕ) (before : Bool) (v : Var) (z : ℤ) → slice_get r.names.streams k ≡ Some v → weight r run at k before ≡ z →
    AgreesRow r run at (row_of_stream before (whole_at k (Some v))) z
agrees-typed r run at k before v z found e = by v.ty refl
  where
    by : (ty : Ty) → v.ty ≡ ty → AgreesRow r run at (row_of_stream before (elim ty [ Int ↦ Some k | Boolean ↦ None ])) z
    by Int t = worth_of_stream r run at k before z (record { var = v; found = found; whole = rw t refl }) e
    by Boolean t = tt

-- names alike mean one stream
same_worth : (r : Reading) (run : Run) (at : ℕ) (name : List ℕ) (k : ℕ) (first : IsFirstAt name r.names.streams k) →
    run at (stream_of r first.var.name.text) ≡ run at (stream_of r name)
same_worth r run at name k first = ap (λ (n : List ℕ). run at (stream_named r.component r.calls n)) (same_folded first.var.name.text name first.alike)

weight_now : (r : Reading) (run : Run) (at : ℕ) (name : List ℕ) (k : ℕ) → IsFirstAt name r.names.streams k → weight r run at k false ≡ run at (stream_of r name)
weight_now r run at name k first = rw first.found (same_worth r run at name k first)

-- what a stream was worth at the instant before
abbrev earlier_worth : Reading → Run → List ℕ → ℕ → ℤ
earlier_worth r run name zero = pos 0
earlier_worth r run name (suc before) = run before (stream_of r name)

weight_before : (r : Reading) (run : Run) (at : ℕ) (name : List ℕ) (k : ℕ) → IsFirstAt name r.names.streams k → weight r run at k true ≡ earlier_worth r run name at
weight_before r run zero name k first = rw first.found refl
weight_before r run (suc before) name k first = rw first.found (same_worth r run before name k first)

agrees-named : (r : Reading) (run : Run) (name : Option (List ℕ)) (at : ℕ) →
    AgreesRow r run at (row_of_stream false (whole_stream r.names name)) (worth_of_name r run name at)
agrees-named r run None at = tt
agrees-named r run (Some name) at = by (position var_name (Some name) r.names.streams) refl
  where
    by : (o : Option ℕ) → position var_name (Some name) r.names.streams ≡ o →
        AgreesRow r run at (row_of_stream false (whole_of r.names.streams o)) (worth_of_name r run (Some name) at)
    by None e = tt
    by (Some k) e =
        let first = first_at name r.names.streams k e in
        let here = agrees-typed r run at k false first.var (run at (stream_of r name)) first.found (weight_now r run at name k first) in
        rw (e, first.found) here

-- ---- `pre`

-- the row of `pre` of a name, by its type and by the integer stream that it finds
abbrev before_row : Option Ty → Option ℕ → Option Linear
before_row ty o = elim o [ None ↦ row_of_hidden ty | Some stream ↦ Some (stream_row stream true) ]

-- the type of a name that is seen
abbrev name_type : Names → List ℕ → Option Ty
name_type names name = type_of_var (value_named name (names.streams ++ names.constants))

-- `pre` of a stream that is a truth has no row, since it is no integer
hidden-typed : (r : Reading) (run : Run) (at k : ℕ) (v : Var) (z : ℤ) → slice_get r.names.streams k ≡ Some v → weight r run at k true ≡ z →
    AgreesRow r run at (before_row (Some v.ty) (whole_at k (Some v))) z
hidden-typed r run at k v z found e = by v.ty refl
  where
    by : (ty : Ty) → v.ty ≡ ty → AgreesRow r run at (before_row (Some ty) (whole_at k (Some (record v { ty = ty })))) z
    by Int t = worth_of_stream r run at k true z (record { var = v; found = found; whole = rw t refl }) e
    by Boolean t = tt

stream_is_there : (r : Reading) (run : Run) (name : List ℕ) (at : ℕ) → is_stream r.names.streams (Some name) ≡ true →
    worth_of_name r run (Some name) at ≡ run at (stream_of r name)
stream_is_there r run name at e = rw e refl

agrees-before : (r : Reading) (run : Run) (name : List ℕ) (at : ℕ) → is_stream r.names.streams (Some name) ≡ true →
    AgreesRow r run at (before_row (name_type r.names name) (whole_stream r.names (Some name))) (earlier_worth r run name at)
agrees-before r run name at e = by (position var_name (Some name) r.names.streams) refl e
  where
    by : (o : Option ℕ) → position var_name (Some name) r.names.streams ≡ o → not (is_none o) ≡ true →
        AgreesRow r run at (before_row (name_type r.names name) (whole_of r.names.streams o)) (earlier_worth r run name at)
    by None f g = cc
    by (Some k) f g =
        let first = first_at name r.names.streams k f in
        let as_value : Option Var → Type 0 =
        λ o. AgreesRow r run at (before_row (type_of_var o) (whole_of r.names.streams (Some k))) (earlier_worth r run name at) in
        let here = hidden-typed r run at k first.var (earlier_worth r run name at) first.found (weight_before r run at name k first) in
        subst as_value (sym (first.first r.names.constants)) (rw first.found here)

-- what `pre` makes of an expression
abbrev pub before_worth : Reading → Run → Term → ℕ → ℤ
before_worth r run t zero = pos 0
before_worth r run t (suc before) = worth r run t before

earlier_is : (r : Reading) (run : Run) (path : Path) (name : List ℕ) (at : ℕ) → sought path path.«package» ≡ Some name →
    is_stream r.names.streams (Some name) ≡ true → earlier_worth r run name at ≡ before_worth r run (Named path) at
earlier_is r run path name zero s e = refl
earlier_is r run path name (suc before) s e = rw s (sym (stream_is_there r run name before e))

agrees-pre : (r : Reading) (run : Run) (t : Term) (at : ℕ) → is_named_stream r.names t ≡ true →
    AgreesRow r run at (row_of_pre r.names t) (before_worth r run t at)
agrees-pre r run (Number z place) at e = cc
agrees-pre r run (Truth b place) at e = cc
agrees-pre r run (Named path) at e = by (sought path path.«package») refl e
  where
    -- the type of a name, if it is one
    type_of : Option (List ℕ) → Option Ty
    type_of o = type_of_var (elim o [ None ↦ None | Some name ↦ value_named name (r.names.streams ++ r.names.constants) ])

    by : (o : Option (List ℕ)) → sought path path.«package» ≡ o → is_stream r.names.streams o ≡ true →
        AgreesRow r run at (row_of_pre r.names (Named path)) (before_worth r run (Named path) at)
    by None f g = cc
    by (Some name) f g =
        let as_sought : Option (List ℕ) → Type 0 = λ o. AgreesRow r run at (before_row (type_of o) (whole_stream r.names o)) (earlier_worth r run name at) in
        let row = row_of_pre r.names (Named path) in
        let here : AgreesRow r run at row (earlier_worth r run name at) = subst as_sought (sym f) (agrees-before r run name at g) in
        moved r run at row (earlier_worth r run name at) (before_worth r run (Named path) at) (earlier_is r run path name at f g) here
agrees-pre r run (Unary' op place _ arg) at e = cc
agrees-pre r run (Binary' op place _ left _ right) at e = cc
agrees-pre r run (Choice' place _ test _ chosen _ other) at e = cc
agrees-pre r run (Call' path _ args) at e = cc

-- ---- expressions

pub of_sum : (a b : Bool) → a ≡ true → (not a || b) ≡ true → b ≡ true
of_sum true b e h = h
of_sum false b e h = cc

not_true : false ≡ true → ⊥
not_true e = cc

pub not_both : (a : Bool) → a ≡ true → not a ≡ true → ⊥
not_both true e h = cc
not_both false e h = cc

-- both sides of a varying sum are sums
pub both_sums : (a b c : Bool) → a ≡ true → (not a || (b && c)) ≡ true → (b ≡ true) × (c ≡ true)
both_sums a b c e h = both_hold b c (of_sum a (b && c) e h)

agrees-negated : (r : Reading) (run : Run) (t : Term) (at : ℕ) → AgreesRow r run at (row_in r.names r.values t) (worth r run t at) →
    AgreesRow r run at (scaled (Some (value.Whole (negsuc 0))) (row_in r.names r.values t)) (neg_ℤ (worth r run t at))
agrees-negated r run t at h =
    let minus : Option Value = Some (value.Whole (negsuc 0)) in
    let row = row_in r.names r.values t in
    let z = worth r run t at in
    moved r run at (scaled minus row) (negsuc 0 *ℤ z) (neg_ℤ z) (omega (arith, ints)) (agrees-scaled r run at minus row (negsuc 0) z refl h)

-- a sum that isn't constant is worth its row
agrees-sum : (r : Reading) (run : Run) (t : Term) (at : ℕ) → is_sum r.names t ≡ true → AgreesRow r run at (row_in r.names r.values t) (worth r run t at)
agrees-sum r run (Number z place) at s =
    agrees-operand r run (Number z place) at (λ v. tt)
agrees-sum r run (Truth b place) at s =
    agrees-operand r run (Truth b place) at (λ v. tt)
agrees-sum r run (Named path) at s =
    agrees-operand r run (Named path) at (λ v. agrees-named r run (sought path path.«package») at)
agrees-sum r run (Unary' unary.Minus place m (more_of-Term t end_of-Term)) at s =
    agrees-operand r run (Unary' unary.Minus place m (more_of-Term t end_of-Term)) at (λ v. agrees-negated r run t at (agrees-sum r run t at s))
agrees-sum r run (Unary' unary.Not place m (more_of-Term t end_of-Term)) at s =
    agrees-operand r run (Unary' unary.Not place m (more_of-Term t end_of-Term)) at (λ v. tt)
agrees-sum r run (Unary' unary.Pre place m (more_of-Term t end_of-Term)) zero s =
    agrees-operand r run (Unary' unary.Pre place m (more_of-Term t end_of-Term)) zero (λ v. agrees-pre r run t zero s)
agrees-sum r run (Unary' unary.Pre place m (more_of-Term t end_of-Term)) (suc before) s =
    agrees-operand r run (Unary' unary.Pre place m (more_of-Term t end_of-Term)) (suc before) (λ v. agrees-pre r run t (suc before) s)
agrees-sum r run (Binary' binary.Arrow place m (more_of-Term left end_of-Term) n (more_of-Term right end_of-Term)) zero s = cc
agrees-sum r run (Binary' binary.Arrow place m (more_of-Term left end_of-Term) n (more_of-Term right end_of-Term)) (suc before) s = cc
agrees-sum r run (Binary' binary.Implies place m (more_of-Term left end_of-Term) n (more_of-Term right end_of-Term)) at s =
    agrees-operand r run (Binary' binary.Implies place m (more_of-Term left end_of-Term) n (more_of-Term right end_of-Term)) at (λ v. tt)
agrees-sum r run (Binary' binary.Iff place m (more_of-Term left end_of-Term) n (more_of-Term right end_of-Term)) at s =
    agrees-operand r run (Binary' binary.Iff place m (more_of-Term left end_of-Term) n (more_of-Term right end_of-Term)) at (λ v. tt)
agrees-sum r run (Binary' binary.Or place m (more_of-Term left end_of-Term) n (more_of-Term right end_of-Term)) at s =
    agrees-operand r run (Binary' binary.Or place m (more_of-Term left end_of-Term) n (more_of-Term right end_of-Term)) at (λ v. tt)
agrees-sum r run (Binary' binary.And place m (more_of-Term left end_of-Term) n (more_of-Term right end_of-Term)) at s =
    agrees-operand r run (Binary' binary.And place m (more_of-Term left end_of-Term) n (more_of-Term right end_of-Term)) at (λ v. tt)
agrees-sum r run (Binary' binary.Less place m (more_of-Term left end_of-Term) n (more_of-Term right end_of-Term)) at s =
    agrees-operand r run (Binary' binary.Less place m (more_of-Term left end_of-Term) n (more_of-Term right end_of-Term)) at (λ v. tt)
agrees-sum r run (Binary' binary.AtMost place m (more_of-Term left end_of-Term) n (more_of-Term right end_of-Term)) at s =
    agrees-operand r run (Binary' binary.AtMost place m (more_of-Term left end_of-Term) n (more_of-Term right end_of-Term)) at (λ v. tt)
agrees-sum r run (Binary' binary.More place m (more_of-Term left end_of-Term) n (more_of-Term right end_of-Term)) at s =
    agrees-operand r run (Binary' binary.More place m (more_of-Term left end_of-Term) n (more_of-Term right end_of-Term)) at (λ v. tt)
agrees-sum r run (Binary' binary.AtLeast place m (more_of-Term left end_of-Term) n (more_of-Term right end_of-Term)) at s =
    agrees-operand r run (Binary' binary.AtLeast place m (more_of-Term left end_of-Term) n (more_of-Term right end_of-Term)) at (λ v. tt)
agrees-sum r run (Binary' binary.Same place m (more_of-Term left end_of-Term) n (more_of-Term right end_of-Term)) at s =
    agrees-operand r run (Binary' binary.Same place m (more_of-Term left end_of-Term) n (more_of-Term right end_of-Term)) at (λ v. tt)
agrees-sum r run (Binary' binary.Differs place m (more_of-Term left end_of-Term) n (more_of-Term right end_of-Term)) at s =
    agrees-operand r run (Binary' binary.Differs place m (more_of-Term left end_of-Term) n (more_of-Term right end_of-Term)) at (λ v. tt)
agrees-sum r run (Binary' binary.Plus place m (more_of-Term left end_of-Term) n (more_of-Term right end_of-Term)) at s =
    agrees-operand r run (Binary' binary.Plus place m (more_of-Term left end_of-Term) n (more_of-Term right end_of-Term)) at (λ v.
    let parts = both_sums _ (is_sum r.names left) (is_sum r.names right) v s in
    agrees-plus r run at (row_in r.names r.values left) (row_in r.names r.values right) (worth r run left at) (worth r run right at)
    (agrees-sum r run left at parts.0) (agrees-sum r run right at parts.1))
agrees-sum r run (Binary' binary.Minus place m (more_of-Term left end_of-Term) n (more_of-Term right end_of-Term)) at s =
    agrees-operand r run (Binary' binary.Minus place m (more_of-Term left end_of-Term) n (more_of-Term right end_of-Term)) at (λ v.
    let parts = both_sums _ (is_sum r.names left) (is_sum r.names right) v s in
    agrees-minus r run at (row_in r.names r.values left) (row_in r.names r.values right) (worth r run left at) (worth r run right at)
    (agrees-sum r run left at parts.0) (agrees-sum r run right at parts.1))
agrees-sum r run (Binary' binary.Times place m (more_of-Term left end_of-Term) n (more_of-Term right end_of-Term)) at s =
    agrees-operand r run (Binary' binary.Times place m (more_of-Term left end_of-Term) n (more_of-Term right end_of-Term)) at (λ v.
    let parts = both_sums _ (is_sum r.names left) (is_sum r.names right) v s in
    agrees-product r run at left right (row_in r.names r.values left) (row_in r.names r.values right) (worth r run left at) (worth r run right at)
    (operand_agrees r run left at) (operand_agrees r run right at)
    (agrees-sum r run left at parts.0) (agrees-sum r run right at parts.1))
agrees-sum r run (Binary' binary.Div place m (more_of-Term left end_of-Term) n (more_of-Term right end_of-Term)) at s =
    agrees-operand r run (Binary' binary.Div place m (more_of-Term left end_of-Term) n (more_of-Term right end_of-Term)) at (λ v. absurd (not_true (of_sum _ false v s)))
agrees-sum r run (Binary' binary.Mod place m (more_of-Term left end_of-Term) n (more_of-Term right end_of-Term)) at s =
    agrees-operand r run (Binary' binary.Mod place m (more_of-Term left end_of-Term) n (more_of-Term right end_of-Term)) at (λ v. absurd (not_true (of_sum _ false v s)))
agrees-sum r run (Choice' place l (more_of-Term test end_of-Term) m (more_of-Term chosen end_of-Term) n (more_of-Term other end_of-Term)) at s =
    agrees-operand r run (Choice' place l (more_of-Term test end_of-Term) m (more_of-Term chosen end_of-Term) n (more_of-Term other end_of-Term)) at (λ v.
    absurd (not_both _ v s))
agrees-sum r run (Call' path m args) at s = cc

-- ---- rows of sums

-- the row of a sum is worth what the sum is worth
pub sum_is_worth : (r : Reading) (run : Run) (t : Term) (row : Linear) (at : ℕ) → is_sum r.names t ≡ true → row_in r.names r.values t ≡ Some row →
    IsWorth r run at row (worth r run t at)
sum_is_worth r run t row at s e = subst (λ (o : Option Linear). AgreesRow r run at o (worth r run t at)) e (agrees-sum r run t at s)

-- its streams are integers, whatever run there is
pub sum_has_whole_streams : (names : Names) (values : List (Option Value)) (t : Term) (linear : Linear) → is_sum names t ≡ true →
    row_in names values t ≡ Some linear → (linear.hidden ≡ []) × AreWholeStreams names.streams linear.factors
sum_has_whole_streams names values t linear s e =
    let r : Reading = record { component = []; calls = []; names = names; values = values } in
    let nothing : Run = λ at stream. pos 0 in
    let worth_of : IsWorth r nothing 0 linear (worth r nothing t 0) = sum_is_worth r nothing t linear 0 s e in
    (worth_of.declared, worth_of.whole)
