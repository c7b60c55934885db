-- A constant expression that breaks no rule has a value of its type, where the constants that it names have theirs.
use Rattle.std.proofs.Common.{◌≡◌, ℕ, suc, ◌+◌, Bool, true, false, not, ◌||◌, List, [], ◌∷◌, ◌++◌, length, refl, ap, sym, subst, ◌∙◌, ◌⊎◌, inl, inr, arith, Contains}
use Rattle.std.specs.Prelude.{Option, Some, None, is_none, slice_get, slice_index_or, if◌then◌else◌}
use Rattle.std.proofs.lemmas.Bool.{cases_lt}
use Rattle.std.proofs.lemmas.List.{get_or_past}
use Rattle.std.proofs.lemmas.List.Elements.{Contains-append_left, Contains-append_right}
use Rattle.ag_base.specs.declared.place.Place.{Place}
use Rattle.ag_terms.specs.Names.{same}
use Rattle.ag_terms.specs.declared.clauses.Ty.{Ty}
use Rattle.ag_terms.specs.declared.clauses.Ty.TheVariants.{Int, Bool as Boolean}
use Rattle.ag_terms.specs.declared.clauses.Var.{Var}
use Rattle.ag_terms.specs.declared.terms.Binary.{Binary}
use Rattle.ag_terms.specs.declared.terms.Binary.TheVariants as binary
use Rattle.ag_terms.specs.declared.terms.Term.{Term, Number, Truth, Named, Unary', Binary', Choice', Call', end_of-Term, more_of-Term}
use Rattle.ag_terms.specs.declared.terms.Unary.TheVariants as unary
use Rattle.ag_symbols.specs.Seen.{Names, sought, position, position_from, value_named, var_name, is_stream, constant_position}
use Rattle.ag_linear.specs.declared.value.Value.{Value}
use Rattle.ag_linear.specs.declared.value.Value.TheVariants as value
use Rattle.ag_linear.specs.Values.{carried, value_of_unary, value_of_binary, value_of_choice}
use Rattle.ag_types.specs.Constants.{is_varying, AreKept, value_at, value_in, is_kept}
use Rattle.ag_types.specs.NumberFaults.{passed_value, is_bad_divisor, bad_divisor, constant_faults_in}
use Rattle.ag_types.specs.Places.{first_place}
use Rattle.ag_types.specs.SumRows.{IsValueOf}
use Rattle.ag_types.specs.Types.{type_in, type_of_var, type_of_binary, needed_first, needed_second, mismatch, faults_in}
use Rattle.ag_types.specs.Uses.{at_most_one, used_in}
use Rattle.ag_types.proofs.TypedOperators.{front_nil, back_nil, unless_nil, neither, known_type, operand_type, kept_is_carried, carried_value, minus_of, not_of, choice_of, typed_as, given, typed_op}

-- ---- names

absent_from : (name : List ℕ) (at : ℕ) (xs ys : List Var) → position_from var_name name at xs ≡ None → value_named name (xs ++ ys) ≡ value_named name ys
absent_from name at [] ys e = refl
absent_from name at (x ∷ xs) ys e = by (absent_from name (at + 1) xs ys) (same x.name.text name) refl e
  where
    by : (position_from var_name name (at + 1) xs ≡ None → value_named name (xs ++ ys) ≡ value_named name ys) → (b : Bool) → same x.name.text name ≡ b →
        (if b then Some at else position_from var_name name (at + 1) xs) ≡ None → value_named name (x ∷ xs ++ ys) ≡ value_named name ys
    by rest true s h = cc
    by rest false s h = rw s (rest h)

present_from : (name : List ℕ) (at : ℕ) (xs : List Var) (v : Var) → value_named name xs ≡ Some v →
    (i : ℕ) × (position_from var_name name at xs ≡ Some (at + i)) × (slice_get xs i ≡ Some v)
present_from name at [] v e = cc
present_from name at (x ∷ xs) v e = by (present_from name (at + 1) xs v) (same x.name.text name) refl e
  where
    by : (value_named name xs ≡ Some v → (i : ℕ) × (position_from var_name name (at + 1) xs ≡ Some (at + 1 + i)) × (slice_get xs i ≡ Some v)) → (b : Bool) →
        same x.name.text name ≡ b → (if b then Some x else value_named name xs) ≡ Some v →
        (i : ℕ) × (position_from var_name name at (x ∷ xs) ≡ Some (at + i)) × (slice_get (x ∷ xs) i ≡ Some v)
    by rest true s h = let here : at ≡ at + 0 = omega arith in (0, rw s (ap Some here), h)
    by rest false s h =
        let found = rest h in
        let there : at + 1 + found.0 ≡ at + suc found.0 = omega arith in
        (suc found.0, rw s (found.1 ∙ ap Some there), found.2)

none_unless : {X : Type 0} (o : Option X) → not (is_none o) ≡ false → o ≡ None
none_unless None e = refl
none_unless (Some x) e = cc

read_kept : (values : List (Option Value)) (k : ℕ) → AreKept values → is_kept (slice_index_or values k None) ≡ true
read_kept values k kept =
    elim (cases_lt k (length values)) [
      | inl within ↦ kept k None within
      | inr past ↦ rw (get_or_past values k None past) refl
    ]

named_value : (names : Names) (values : List (Option Value)) (name : List ℕ) (ty : Ty) →
    ((k : ℕ) (v : Var) → constant_position names (Some name) ≡ Some k → slice_get names.constants k ≡ Some v → IsValueOf v.ty (slice_index_or values k None)) →
    AreKept values → is_stream names.streams (Some name) ≡ false →
    type_of_var (value_named name (names.streams ++ names.constants)) ≡ Some ty → IsValueOf ty (carried (value_at values (constant_position names (Some name))))
named_value names values name ty have kept n e =
    let absent = absent_from name 0 names.streams names.constants (none_unless (position var_name (Some name) names.streams) n) in
    by (value_named name names.constants) refl (rw absent at e)
  where
    by : (o : Option Var) → value_named name names.constants ≡ o → type_of_var o ≡ Some ty → IsValueOf ty (carried (value_at values (constant_position names (Some name))))
    by None f g = cc
    by (Some v) f g =
        let found = present_from name 0 names.constants v f in
        let at : position var_name (Some name) names.constants ≡ Some (0 + found.0) = found.1 in
        let here : 0 + found.0 ≡ found.0 = omega arith in
        let valued : IsValueOf v.ty (slice_index_or values found.0 None) = have found.0 v (rw n (at ∙ ap Some here)) found.2 in
        let same_ty : v.ty ≡ ty = cc in
        rw (n, at, here, kept_is_carried (slice_index_or values found.0 None) (read_kept values found.0 kept)) (typed_as (slice_index_or values found.0 None) v.ty ty same_ty valued)

-- ---- expressions

-- the constants that an expression names have values of their types
abbrev pub UsedHaveValues : Names → List (Option Value) → ℕ → Term → Type 0
UsedHaveValues names values count t =
    (k : ℕ) (v : Var) → Contains (used_in names count t) k → slice_get names.constants k ≡ Some v → IsValueOf v.ty (slice_index_or values k None)

-- an expression has a value of its type
abbrev pub HasValue : Names → List (Option Value) → Term → Type 0
HasValue names values t = (ty : Ty) → type_in names t ≡ Some ty → IsValueOf ty (value_in names values t)

-- the type of the name that is sought
abbrev sought_type : Names → Option (List ℕ) → Option Ty
sought_type names o = type_of_var (elim o [ None ↦ None | Some name ↦ value_named name (names.streams ++ names.constants) ])

used_named : (names : Names) (values : List (Option Value)) (o p : Option ℕ) → o ≡ p →
    ((k : ℕ) (v : Var) → Contains (at_most_one o) k → slice_get names.constants k ≡ Some v → IsValueOf v.ty (slice_index_or values k None)) →
    (k : ℕ) (v : Var) → p ≡ Some k → slice_get names.constants k ≡ Some v → IsValueOf v.ty (slice_index_or values k None)
used_named names values o p e have k v f g =
    let there : at_most_one o ≡ k ∷ [] = ap at_most_one (e ∙ f) in
    have k v (subst (λ (xs : List ℕ). Contains xs k) (sym there) (0, omega arith, refl)) g

-- the parts of a constant are constant, and there is no arrow
constant_parts : (names : Names) (op : Binary) (place : Place) (m n : _) (left right : Term) →
    is_varying names (Binary' op place m (more_of-Term left end_of-Term) n (more_of-Term right end_of-Term)) ≡ false →
    (op ≡ binary.Arrow → ⊥) × ((is_varying names left ≡ false) × (is_varying names right ≡ false))
constant_parts names binary.Arrow place m n left right e = cc
constant_parts names binary.Implies place m n left right e = ((λ h. cc), neither (is_varying names left) (is_varying names right) e)
constant_parts names binary.Iff place m n left right e = ((λ h. cc), neither (is_varying names left) (is_varying names right) e)
constant_parts names binary.Or place m n left right e = ((λ h. cc), neither (is_varying names left) (is_varying names right) e)
constant_parts names binary.And place m n left right e = ((λ h. cc), neither (is_varying names left) (is_varying names right) e)
constant_parts names binary.Less place m n left right e = ((λ h. cc), neither (is_varying names left) (is_varying names right) e)
constant_parts names binary.AtMost place m n left right e = ((λ h. cc), neither (is_varying names left) (is_varying names right) e)
constant_parts names binary.More place m n left right e = ((λ h. cc), neither (is_varying names left) (is_varying names right) e)
constant_parts names binary.AtLeast place m n left right e = ((λ h. cc), neither (is_varying names left) (is_varying names right) e)
constant_parts names binary.Same place m n left right e = ((λ h. cc), neither (is_varying names left) (is_varying names right) e)
constant_parts names binary.Differs place m n left right e = ((λ h. cc), neither (is_varying names left) (is_varying names right) e)
constant_parts names binary.Plus place m n left right e = ((λ h. cc), neither (is_varying names left) (is_varying names right) e)
constant_parts names binary.Minus place m n left right e = ((λ h. cc), neither (is_varying names left) (is_varying names right) e)
constant_parts names binary.Times place m n left right e = ((λ h. cc), neither (is_varying names left) (is_varying names right) e)
constant_parts names binary.Div place m n left right e = ((λ h. cc), neither (is_varying names left) (is_varying names right) e)
constant_parts names binary.Mod place m n left right e = ((λ h. cc), neither (is_varying names left) (is_varying names right) e)

no_bad_divisor : (names : Names) (values : List (Option Value)) (op : Binary) (t : Term) → is_varying names t ≡ false → bad_divisor names values op t ≡ [] →
    (op ≡ binary.Div) ⊎ (op ≡ binary.Mod) → is_bad_divisor false (value_in names values t) ≡ false
no_bad_divisor names values binary.Div t v e d = rw v at (unless_nil (is_bad_divisor (is_varying names t) (value_in names values t)) _ e)
no_bad_divisor names values binary.Mod t v e d = rw v at (unless_nil (is_bad_divisor (is_varying names t) (value_in names values t)) _ e)
no_bad_divisor names values binary.Arrow t v e d = elim d [ inl h ↦ cc | inr h ↦ cc ]
no_bad_divisor names values binary.Implies t v e d = elim d [ inl h ↦ cc | inr h ↦ cc ]
no_bad_divisor names values binary.Iff t v e d = elim d [ inl h ↦ cc | inr h ↦ cc ]
no_bad_divisor names values binary.Or t v e d = elim d [ inl h ↦ cc | inr h ↦ cc ]
no_bad_divisor names values binary.And t v e d = elim d [ inl h ↦ cc | inr h ↦ cc ]
no_bad_divisor names values binary.Less t v e d = elim d [ inl h ↦ cc | inr h ↦ cc ]
no_bad_divisor names values binary.AtMost t v e d = elim d [ inl h ↦ cc | inr h ↦ cc ]
no_bad_divisor names values binary.More t v e d = elim d [ inl h ↦ cc | inr h ↦ cc ]
no_bad_divisor names values binary.AtLeast t v e d = elim d [ inl h ↦ cc | inr h ↦ cc ]
no_bad_divisor names values binary.Same t v e d = elim d [ inl h ↦ cc | inr h ↦ cc ]
no_bad_divisor names values binary.Differs t v e d = elim d [ inl h ↦ cc | inr h ↦ cc ]
no_bad_divisor names values binary.Plus t v e d = elim d [ inl h ↦ cc | inr h ↦ cc ]
no_bad_divisor names values binary.Minus t v e d = elim d [ inl h ↦ cc | inr h ↦ cc ]
no_bad_divisor names values binary.Times t v e d = elim d [ inl h ↦ cc | inr h ↦ cc ]

binary_value : (names : Names) (values : List (Option Value)) (op : Binary) (left right : Term) (place next : Place) → (op ≡ binary.Arrow → ⊥) →
    is_varying names right ≡ false → faults_in names left ≡ [] → faults_in names right ≡ [] →
    mismatch (needed_first op) (type_in names left) place ≡ [] → mismatch (needed_second op (type_in names left)) (type_in names right) next ≡ [] →
    bad_divisor names values op right ≡ [] → HasValue names values left → HasValue names values right → (ty : Ty) →
    type_of_binary op (type_in names left) ≡ Some ty → IsValueOf ty (value_of_binary op (value_in names values left) (value_in names values right))
binary_value names values op left right place next n v e f g h d of_left of_right ty t =
    let a = known_type names left e in
    let b = known_type names right f in
    typed_op op a.0 b.0 ty (value_in names values left) (value_in names values right) place next n
    (record { first = rw a.1 at g; second = rw (a.1, b.1) at h; left = of_left a.0 a.1; right = of_right b.0 b.1 })
    (no_bad_divisor names values op right v d) (rw a.1 at t)

-- a constant expression that breaks no rule has a value of its type
pub constant_value : (names : Names) (values : List (Option Value)) (count : ℕ) (t : Term) → UsedHaveValues names values count t → AreKept values →
    is_varying names t ≡ false → faults_in names t ≡ [] → constant_faults_in names values t ≡ [] → HasValue names values t
constant_value names values count (Number z place) used kept v e f ty t =
    carried_value ty (Some (value.Whole z)) place f (typed_as (Some (value.Whole z)) Int ty (given Int ty t) tt)
constant_value names values count (Truth b place) used kept v e f ty t = typed_as (Some (value.Truth b)) Boolean ty (given Boolean ty t) tt
constant_value names values count (Named path) used kept v e f ty t = by (sought path path.«package») refl v
  where
    by : (o : Option (List ℕ)) → sought path path.«package» ≡ o → is_stream names.streams o ≡ false → IsValueOf ty (value_in names values (Named path))
    by None s w = let none : None ≡ Some ty = subst (λ (o : Option (List ℕ)). sought_type names o ≡ Some ty) s t in cc
    by (Some name) s w =
        let typed : sought_type names (Some name) ≡ Some ty = subst (λ (o : Option (List ℕ)). sought_type names o ≡ Some ty) s t in
        let at = constant_position names (sought path path.«package») in
        let have = used_named names values at (constant_position names (Some name)) (ap (constant_position names) s) used in
        let named = named_value names values name ty have kept w typed in
        subst (λ (x : Option (List ℕ)). IsValueOf ty (carried (value_at values (constant_position names x)))) (sym s) named
constant_value names values count (Unary' unary.Minus place _ (more_of-Term t end_of-Term)) used kept v e f ty h =
    let own = front_nil (faults_in names t) (mismatch (Some Int) (type_in names t) (first_place t)) e in
    let typed = operand_type names t Int (first_place t) own (back_nil (faults_in names t) (mismatch (Some Int) (type_in names t) (first_place t)) e) in
    let passed = passed_value (value_of_unary unary.Minus (value_in names values t)) place in
    let arg = constant_value names values count t used kept v own (back_nil passed (constant_faults_in names values t) f) Int typed in
    carried_value ty (value_of_unary unary.Minus (value_in names values t)) place (front_nil passed (constant_faults_in names values t) f)
    (typed_as (value_of_unary unary.Minus (value_in names values t)) Int ty (given Int ty h) (minus_of (value_in names values t) arg))
constant_value names values count (Unary' unary.Not place _ (more_of-Term t end_of-Term)) used kept v e f ty h =
    let own = front_nil (faults_in names t) (mismatch (Some Boolean) (type_in names t) (first_place t)) e in
    let typed = operand_type names t Boolean (first_place t) own (back_nil (faults_in names t) (mismatch (Some Boolean) (type_in names t) (first_place t)) e) in
    let passed = passed_value (value_of_unary unary.Not (value_in names values t)) place in
    let arg = constant_value names values count t used kept v own (back_nil passed (constant_faults_in names values t) f) Boolean typed in
    carried_value ty (value_of_unary unary.Not (value_in names values t)) place (front_nil passed (constant_faults_in names values t) f)
    (typed_as (value_of_unary unary.Not (value_in names values t)) Boolean ty (given Boolean ty h) (not_of (value_in names values t) arg))
constant_value names values count (Unary' unary.Pre place _ (more_of-Term t end_of-Term)) used kept v e f ty h = cc
constant_value names values count (Binary' op place m (more_of-Term left end_of-Term) n (more_of-Term right end_of-Term)) used kept v e f ty h =
    let parts = constant_parts names op place m n left right v in
    let first = mismatch (needed_first op) (type_in names left) (first_place left) in
    let second = mismatch (needed_second op (type_in names left)) (type_in names right) (first_place right) in
    let behind = back_nil (faults_in names left) (faults_in names right ++ (first ++ second)) e in
    let types = back_nil (faults_in names right) (first ++ second) behind in
    let of_left = front_nil (faults_in names left) (faults_in names right ++ (first ++ second)) e in
    let of_right = front_nil (faults_in names right) (first ++ second) behind in
    let exact = value_of_binary op (value_in names values left) (value_in names values right) in
    let passed = passed_value exact (first_place (Binary' op place m (more_of-Term left end_of-Term) n (more_of-Term right end_of-Term))) in
    let bad = bad_divisor names values op right in
    let by_left = constant_faults_in names values left in
    let by_right = constant_faults_in names values right in
    let operands = by_left ++ by_right in
    let inner = back_nil passed (bad ++ operands) f in
    let both = back_nil bad operands inner in
    let lefts = used_in names count left in
    let rights = used_in names count right in
    let left_value =
    constant_value names values count left (λ k w u. used k w (Contains-append_left lefts rights k u)) kept parts.1.0 of_left (front_nil by_left by_right both) in
    let right_value =
    constant_value names values count right (λ k w u. used k w (Contains-append_right lefts rights k u)) kept parts.1.1 of_right (back_nil by_left by_right both) in
    carried_value ty exact (first_place (Binary' op place m (more_of-Term left end_of-Term) n (more_of-Term right end_of-Term))) (front_nil passed (bad ++ operands) f)
    (binary_value names values op left right (first_place left) (first_place right) parts.0 parts.1.1 of_left of_right
    (front_nil first second types) (back_nil first second types) (front_nil bad operands inner) left_value right_value ty h)
constant_value names values count (Choice' place l (more_of-Term test end_of-Term) m (more_of-Term chosen end_of-Term) n (more_of-Term other end_of-Term)) used kept v e f ty h =
    let varies = neither (is_varying names test) (is_varying names chosen || is_varying names other) v in
    let branches = neither (is_varying names chosen) (is_varying names other) varies.1 in
    let of_type = mismatch (Some Boolean) (type_in names test) (first_place test) in
    let alike = mismatch (type_in names chosen) (type_in names other) (first_place other) in
    let behind = back_nil (faults_in names test) (faults_in names chosen ++ (faults_in names other ++ (of_type ++ alike))) e in
    let last = back_nil (faults_in names chosen) (faults_in names other ++ (of_type ++ alike)) behind in
    let types = back_nil (faults_in names other) (of_type ++ alike) last in
    let of_test = front_nil (faults_in names test) (faults_in names chosen ++ (faults_in names other ++ (of_type ++ alike))) e in
    let of_chosen = front_nil (faults_in names chosen) (faults_in names other ++ (of_type ++ alike)) behind in
    let of_other = front_nil (faults_in names other) (of_type ++ alike) last in
    let exact = value_of_choice (value_in names values test) (value_in names values chosen) (value_in names values other) in
    let passed = passed_value exact place in
    let by_test = constant_faults_in names values test in
    let by_chosen = constant_faults_in names values chosen in
    let by_other = constant_faults_in names values other in
    let inner = back_nil passed (by_test ++ (by_chosen ++ by_other)) f in
    let rest = back_nil by_test (by_chosen ++ by_other) inner in
    let tests = used_in names count test in
    let choices = used_in names count chosen in
    let others = used_in names count other in
    let test_value =
    constant_value names values count test (λ k w u. used k w (Contains-append_left tests (choices ++ others) k u)) kept varies.0 of_test (front_nil by_test (by_chosen ++ by_other) inner) in
    let chosen_value =
    constant_value names values count chosen (λ k w u. used k w (Contains-append_right tests (choices ++ others) k (Contains-append_left choices others k u)))
    kept branches.0 of_chosen (front_nil by_chosen by_other rest) in
    let other_value =
    constant_value names values count other (λ k w u. used k w (Contains-append_right tests (choices ++ others) k (Contains-append_right choices others k u)))
    kept branches.1 of_other (back_nil by_chosen by_other rest) in
    let test_type = operand_type names test Boolean (first_place test) of_test (front_nil of_type alike types) in
    let other_type = operand_type names other ty (first_place other) of_other (rw h at (back_nil of_type alike types)) in
    carried_value ty exact place (front_nil passed (by_test ++ (by_chosen ++ by_other)) f)
    (choice_of ty (value_in names values test) (value_in names values chosen) (value_in names values other) (test_value Boolean test_type) (chosen_value ty h) (other_value ty other_type))
constant_value names values count (Call' path _ args) used kept v e f ty h = cc
