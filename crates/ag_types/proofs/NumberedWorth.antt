-- What the numbered row of a sum is worth at the moments of a run.
use Rattle.std.proofs.Common.{◌≡◌, ℕ, zero, suc, ℤ, pos, ◌+ℤ◌, ◌*ℤ◌, Bool, true, false, List, [], ◌∷◌, map, length, take, get_or, filter, refl, ap, subst, ◌∙◌}
use Rattle.std.specs.Prelude.{Option, Some, slice_get}
use Rattle.std.specs.Option.{option_map}
use Rattle.std.proofs.lemmas.Option.{slice_get-map, get_or_from_slice_get}
use Rattle.ag_terms.specs.declared.clauses.Var.{Var}
use Rattle.ag_terms.specs.declared.terms.Term.{Term}
use Rattle.ag_stream.specs.Values.{side, whole_at, terms_value, row_value}
use Rattle.ag_symbols.specs.Seen.{Names}
use Rattle.ag_linear.specs.declared.value.Factor.{Factor}
use Rattle.ag_linear.specs.declared.value.Value.{Value}
use Rattle.ag_linear.specs.Rows.{Linear}
use Rattle.ag_types.specs.Meaning.{Reading, Run, stream_of, worth}
use Rattle.ag_types.specs.Rows.{row_in}
use Rattle.ag_types.specs.SumRows.{numbered, numbered_row}
use Rattle.ag_types.specs.Sums.{is_sum, is_whole, moment_of}
use Rattle.ag_types.proofs.WorthOfFactors.{weighed}
use Rattle.ag_types.proofs.WorthOfNames.{kept_at}
use Rattle.ag_types.proofs.WorthOfRows.{sum_is_worth}
use Rattle.ag_types.proofs.WorthOfSums.{AreWholeStreams, IsWorth, stream_worth, weight}

-- the value of an integer stream stands where the stream stands among the integer ones
value_at : (f : Var → ℤ) (streams : List Var) (k : ℕ) (v : Var) → slice_get streams k ≡ Some v → is_whole v ≡ true →
    get_or (map f (filter is_whole streams)) (length (filter is_whole (take k streams))) (pos 0) ≡ f v
value_at f streams k v found whole =
    let n = length (filter is_whole (take k streams)) in
    let kept = kept_at is_whole streams k v found whole in
    get_or_from_slice_get (map f (filter is_whole streams)) n (f v) (pos 0) (slice_get-map f (filter is_whole streams) n ∙ ap (option_map f) kept)

-- a stream has at a moment what it has in the run at the instant, or before it
whole_is : (r : Reading) (run : Run) (at : ℕ) (before : Bool) (k : ℕ) (v : Var) → slice_get r.names.streams k ≡ Some v → is_whole v ≡ true →
    whole_at (side (moment_of r run at) before) (length (filter is_whole (take k r.names.streams))) ≡ stream_worth r run (Some v) before at
whole_is r run zero false k v found whole = value_at (λ w. run zero (stream_of r w.name.text)) r.names.streams k v found whole
whole_is r run (suc at) false k v found whole = value_at (λ w. run (suc at) (stream_of r w.name.text)) r.names.streams k v found whole
whole_is r run zero true k v found whole = refl
whole_is r run (suc at) true k v found whole = value_at (λ w. run at (stream_of r w.name.text)) r.names.streams k v found whole

weight_is : (r : Reading) (run : Run) (at : ℕ) (before : Bool) (k : ℕ) (v : Var) → slice_get r.names.streams k ≡ Some v → is_whole v ≡ true →
    whole_at (side (moment_of r run at) before) (length (filter is_whole (take k r.names.streams))) ≡ weight r run at k before
weight_is r run at before k v found whole = rw found (whole_is r run at before k v found whole)

terms_are : (r : Reading) (run : Run) (at : ℕ) (fs : List Factor) → AreWholeStreams r.names.streams fs →
    terms_value (moment_of r run at) (map (numbered r.names) fs) ≡ weighed (weight r run at) fs
terms_are r run at [] h = refl
terms_are r run at (f ∷ fs) h =
    let rest = terms_value (moment_of r run at) (map (numbered r.names) fs) in
    let here = weight_is r run at f.before f.stream h.0.var h.0.found h.0.whole in
    ap (λ (z : ℤ). (f.factor *ℤ z) +ℤ rest) here ∙ ap (λ (z : ℤ). (f.factor *ℤ weight r run at f.stream f.before) +ℤ z) (terms_are r run at fs h.1)

-- the numbered row of a sum is worth what the sum is worth
pub numbered_is_worth : (names : Names) (values : List (Option Value)) (t : Term) (row : Linear) → is_sum names t ≡ true →
    row_in names values t ≡ Some row → (r : Reading) → r.names ≡ names → r.values ≡ values → (run : Run) (at : ℕ) →
    row_value (moment_of r run at) (numbered_row names row) ≡ worth r run t at
numbered_is_worth names values t row sum found r of_names of_values run at =
    let own_sum : is_sum r.names t ≡ true = rw of_names sum in
    let own_row : row_in r.names r.values t ≡ Some row = rw (of_names, of_values) found in
    let worth_of : IsWorth r run at row (worth r run t at) = sum_is_worth r run t row at own_sum own_row in
    let is_worth : row_value (moment_of r run at) (numbered_row r.names row) ≡ worth r run t at =
    ap (λ (z : ℤ). z +ℤ row.constant) (terms_are r run at row.factors worth_of.whole) ∙ worth_of.number in
    subst (λ (n : Names). row_value (moment_of r run at) (numbered_row n row) ≡ worth r run t at) of_names is_worth
