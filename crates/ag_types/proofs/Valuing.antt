-- The value of a constant depends on those that it uses alone.
use Rattle.std.proofs.Common.{◌≡◌, ℕ, zero, ltb, Bool, true, false, List, [], ◌∷◌, ◌++◌, length, refl, inl, inr, ap, sym, ◌∙◌, arith}
use Rattle.std.specs.Prelude.{Option, Some, None, ℤ, slice_index_or, Contains}
use Rattle.std.proofs.lemmas.Bool.{cases_Bool, ltb-true, ltb-false}
use Rattle.std.proofs.lemmas.List.{get_or_past}
use Rattle.std.proofs.lemmas.List.Elements.{Contains-append_left, Contains-append_right}
use Rattle.ag_base.specs.declared.place.Place.{Place}
use Rattle.ag_base.specs.declared.place.Refusal.{Refusal}
use Rattle.ag_terms.specs.declared.terms.Binary.{Binary}
use Rattle.ag_terms.specs.declared.terms.Term.{Term, Number, Truth, Named, Unary', Binary', Choice', Call', Row_of-Term, end_of-Term, more_of-Term}
use Rattle.ag_symbols.specs.Seen.{Names, sought, position, node_name, constant_position}
use Rattle.ag_linear.specs.declared.value.Value.{Value}
use Rattle.ag_linear.specs.declared.value.Value.TheVariants as value
use Rattle.ag_linear.specs.Values.{is_within, carried, value_of_unary, value_of_binary, value_of_choice}
use Rattle.ag_types.specs.ClauseFaults.{constant_faults}
use Rattle.ag_types.specs.Constants.{AreKept, value_at, exact_value, value_in, is_kept}
use Rattle.ag_types.specs.Firsts.{either}
use Rattle.ag_types.specs.NumberFaults.{passed_value, bad_divisor, constant_faults_in, constant_faults_in_all}
use Rattle.ag_types.specs.Places.{first_place, first_broken}
use Rattle.ag_types.specs.Uses.{Constant, at_most_one, behind, used_in, used_in_all, declared_value}
use Rattle.ag_types.proofs.Breaking.{first_broken-append}
use Rattle.ag_types.proofs.TypedOperators.{kept_is_carried}

-- the same values at these positions
abbrev pub AreSame : List (Option Value) → List (Option Value) → List ℕ → Type 0
AreSame vs ws used = (i : ℕ) → Contains used i → slice_index_or vs i None ≡ slice_index_or ws i None

same_left : (vs ws : List (Option Value)) (is js : List ℕ) → AreSame vs ws (is ++ js) → AreSame vs ws is
same_left vs ws is js h = λ i c. h i (Contains-append_left is js i c)

same_right : (vs ws : List (Option Value)) (is js : List ℕ) → AreSame vs ws (is ++ js) → AreSame vs ws js
same_right vs ws is js h = λ i c. h i (Contains-append_right is js i c)

only_one : (at : ℕ) → Contains (at ∷ []) at
only_one at = (zero, omega arith, refl)

same_at : (vs ws : List (Option Value)) (o : Option ℕ) → AreSame vs ws (at_most_one o) → value_at vs o ≡ value_at ws o
same_at vs ws None h = refl
same_at vs ws (Some at) h = h at (only_one at)

two_values : (op : Binary) (a b c d : Option Value) → a ≡ c → b ≡ d → value_of_binary op (carried a) (carried b) ≡ value_of_binary op (carried c) (carried d)
two_values op a b c d e f = cc

three_values : (a b c d e f : Option Value) → a ≡ d → b ≡ e → c ≡ f → value_of_choice (carried a) (carried b) (carried c) ≡ value_of_choice (carried d) (carried e) (carried f)
three_values a b c d e f p q r = cc

pub same_exact : (names : Names) (n : ℕ) (vs ws : List (Option Value)) (t : Term) → AreSame vs ws (used_in names n t) → exact_value names vs t ≡ exact_value names ws t
same_exact names n vs ws (Number z place) h = refl
same_exact names n vs ws (Truth b place) h = refl
same_exact names n vs ws (Named path) h = same_at vs ws (constant_position names (sought path path.«package»)) h
same_exact names n vs ws (Unary' op place _ (more_of-Term t end_of-Term)) h = ap (λ (v : Option Value). value_of_unary op (carried v)) (same_exact names n vs ws t h)
same_exact names n vs ws (Binary' op place _ (more_of-Term left end_of-Term) _ (more_of-Term right end_of-Term)) h =
    two_values op _ _ _ _
    (same_exact names n vs ws left (same_left vs ws (used_in names n left) (used_in names n right) h))
    (same_exact names n vs ws right (same_right vs ws (used_in names n left) (used_in names n right) h))
same_exact names n vs ws (Choice' place _ (more_of-Term test end_of-Term) _ (more_of-Term chosen end_of-Term) _ (more_of-Term other end_of-Term)) h =
    let rest = same_right vs ws (used_in names n test) (used_in names n chosen ++ used_in names n other) h in
    three_values _ _ _ _ _ _
    (same_exact names n vs ws test (same_left vs ws (used_in names n test) (used_in names n chosen ++ used_in names n other) h))
    (same_exact names n vs ws chosen (same_left vs ws (used_in names n chosen) (used_in names n other) rest))
    (same_exact names n vs ws other (same_right vs ws (used_in names n chosen) (used_in names n other) rest))
same_exact names n vs ws (Call' path _ args) h = refl

-- parts that follow each other
two : {a b c d : List Refusal} → a ≡ c → b ≡ d → a ++ b ≡ c ++ d
two e f = cc

same_divisor : (names : Names) (n : ℕ) (vs ws : List (Option Value)) (op : Binary) (t : Term) → AreSame vs ws (used_in names n t) → bad_divisor names vs op t ≡ bad_divisor names ws op t
same_divisor names n vs ws op t h = rw (same_exact names n vs ws t h) refl

mutual
  pub same_faults : (names : Names) (n : ℕ) (vs ws : List (Option Value)) (t : Term) → AreSame vs ws (used_in names n t) → constant_faults_in names vs t ≡ constant_faults_in names ws t
  same_faults names n vs ws (Number z place) h = refl
  same_faults names n vs ws (Truth b place) h = refl
  same_faults names n vs ws (Named path) h = refl
  same_faults names n vs ws (Unary' op place m (more_of-Term t end_of-Term)) h =
      two (ap (λ (v : Option Value). passed_value v place) (same_exact names n vs ws (Unary' op place m (more_of-Term t end_of-Term)) h)) (same_faults names n vs ws t h)
  same_faults names n vs ws (Binary' op place m (more_of-Term left end_of-Term) k (more_of-Term right end_of-Term)) h =
      let l = same_left vs ws (used_in names n left) (used_in names n right) h in
      let r = same_right vs ws (used_in names n left) (used_in names n right) h in
      two (ap (λ (v : Option Value). passed_value v (first_place (Binary' op place m (more_of-Term left end_of-Term) k (more_of-Term right end_of-Term)))) (same_exact names n vs ws (Binary' op place m (more_of-Term left end_of-Term) k (more_of-Term right end_of-Term)) h))
      (two (same_divisor names n vs ws op right r) (two (same_faults names n vs ws left l) (same_faults names n vs ws right r)))
  same_faults names n vs ws (Choice' place l (more_of-Term test end_of-Term) m (more_of-Term chosen end_of-Term) k (more_of-Term other end_of-Term)) h =
      let rest = same_right vs ws (used_in names n test) (used_in names n chosen ++ used_in names n other) h in
      two (ap (λ (v : Option Value). passed_value v place) (same_exact names n vs ws (Choice' place l (more_of-Term test end_of-Term) m (more_of-Term chosen end_of-Term) k (more_of-Term other end_of-Term)) h))
      (two (same_faults names n vs ws test (same_left vs ws (used_in names n test) (used_in names n chosen ++ used_in names n other) h))
      (two (same_faults names n vs ws chosen (same_left vs ws (used_in names n chosen) (used_in names n other) rest))
      (same_faults names n vs ws other (same_right vs ws (used_in names n chosen) (used_in names n other) rest))))
  same_faults names n vs ws (Call' path _ args) h =
      same_faults_all names n vs ws args (same_right vs ws (at_most_one (behind n (position node_name (sought path path.«package») names.nodes))) (used_in_all names n args) h)

  same_faults_all : {m : _} (names : Names) (n : ℕ) (vs ws : List (Option Value)) (args : Row_of-Term m) → AreSame vs ws (used_in_all names n args) → constant_faults_in_all names vs args ≡ constant_faults_in_all names ws args
  same_faults_all names n vs ws end_of-Term h = refl
  same_faults_all names n vs ws (more_of-Term t rest) h =
      two (same_faults names n vs ws t (same_left vs ws (used_in names n t) (used_in_all names n rest) h))
      (same_faults_all names n vs ws rest (same_right vs ws (used_in names n t) (used_in_all names n rest) h))

-- a value, where nothing is broken
abbrev sound_only : List Refusal → Option Value → Option Value
sound_only rs v = elim rs [ [] ↦ v | _ ↦ None ]

pub same_declared : (n : ℕ) (vs ws : List (Option Value)) (c : Constant) → AreSame vs ws (used_in c.names n c.term) → declared_value vs c ≡ declared_value ws c
same_declared n vs ws c h =
    ap (λ (rs : List Refusal). sound_only (constant_faults c.names c.var c.term ++ rs) (exact_value c.names vs c.term)) (same_faults c.names n vs ws c.term h)
    ∙ ap (λ (v : Option Value). sound_only (constant_faults c.names c.var c.term ++ constant_faults_in c.names ws c.term) v) (same_exact c.names n vs ws c.term h)

-- ---- where a constant breaks no rule it keeps the limit

nothing_left : (a b : List Refusal) → a ++ b ≡ [] → a ≡ []
nothing_left [] b e = refl
nothing_left (r ∷ a) b e = cc

passes_not : (z : ℤ) (place : Place) (b : Bool) → is_within z ≡ b → passed_value (Some (value.Whole z)) place ≡ [] → is_within z ≡ true
passes_not z place true h e = h
passes_not z place false h e = let f = rw h at e in cc

kept_passed : (v : Option Value) (place : Place) → passed_value v place ≡ [] → is_kept v ≡ true
kept_passed None place e = refl
kept_passed (Some (value.Truth b)) place e = refl
kept_passed (Some (value.Whole z)) place e = passes_not z place (is_within z) refl e

kept_at : (vs : List (Option Value)) (o : Option ℕ) → AreKept vs → is_kept (value_at vs o) ≡ true
kept_at vs None all = refl
kept_at vs (Some at) all =
    elim (cases_Bool (ltb at (length vs))) [
      | inl e ↦ all at None (ltb-true at (length vs) e)
      | inr e ↦ ap is_kept (get_or_past vs at None (ltb-false at (length vs) e))
    ]

kept_first : (v : Option Value) (place : Place) (rest : List Refusal) → passed_value v place ++ rest ≡ [] → is_kept v ≡ true
kept_first v place rest e = kept_passed v place (nothing_left (passed_value v place) rest e)

pub kept_exact : (names : Names) (vs : List (Option Value)) (t : Term) → AreKept vs → constant_faults_in names vs t ≡ [] → is_kept (exact_value names vs t) ≡ true
kept_exact names vs (Number z place) all e = kept_passed (Some (value.Whole z)) place e
kept_exact names vs (Truth b place) all e = refl
kept_exact names vs (Named path) all e = kept_at vs (constant_position names (sought path path.«package»)) all
kept_exact names vs (Unary' op place m (more_of-Term t end_of-Term)) all e =
    kept_first (exact_value names vs (Unary' op place m (more_of-Term t end_of-Term))) place (constant_faults_in names vs t) e
kept_exact names vs (Binary' op place m (more_of-Term left end_of-Term) k (more_of-Term right end_of-Term)) all e =
    kept_first (exact_value names vs (Binary' op place m (more_of-Term left end_of-Term) k (more_of-Term right end_of-Term)))
    (first_place (Binary' op place m (more_of-Term left end_of-Term) k (more_of-Term right end_of-Term)))
    (bad_divisor names vs op right ++ (constant_faults_in names vs left ++ constant_faults_in names vs right)) e
kept_exact names vs (Choice' place l (more_of-Term test end_of-Term) m (more_of-Term chosen end_of-Term) k (more_of-Term other end_of-Term)) all e =
    kept_first (exact_value names vs (Choice' place l (more_of-Term test end_of-Term) m (more_of-Term chosen end_of-Term) k (more_of-Term other end_of-Term))) place
    (constant_faults_in names vs test ++ (constant_faults_in names vs chosen ++ constant_faults_in names vs other)) e
kept_exact names vs (Call' path _ args) all e = refl

-- ---- by the first rule that an expression breaks

first_none : (rs : List Refusal) → first_broken rs ≡ None → rs ≡ []
first_none [] e = refl
first_none (r ∷ rs) e = cc

value_by_some : (rs : List Refusal) (r : Refusal) (v : Option Value) → first_broken rs ≡ Some r → sound_only rs v ≡ None
value_by_some [] r v e = cc
value_by_some (x ∷ rs) r v e = refl

value_by_none : (rs : List Refusal) (v : Option Value) → rs ≡ [] → sound_only rs v ≡ v
value_by_none rs v e = rw e refl

nothing_right : (a b : List Refusal) → a ++ b ≡ [] → b ≡ []
nothing_right [] b e = e
nothing_right (r ∷ a) b e = cc

-- all rules on types and numbers
abbrev faults_by : List (Option Value) → Constant → List Refusal
faults_by vs c = constant_faults c.names c.var c.term ++ constant_faults_in c.names vs c.term

joined : (vs : List (Option Value)) (c : Constant) → first_broken (faults_by vs c) ≡ either (first_broken (constant_faults c.names c.var c.term)) (first_broken (constant_faults_in c.names vs c.term))
joined vs c = first_broken-append (constant_faults c.names c.var c.term) (constant_faults_in c.names vs c.term)

-- the first of two parts
pub of_parts : (a b c d r s : Option Refusal) → a ≡ c → b ≡ d → r ≡ either a b → r ≡ s → either c d ≡ s
of_parts a b c d r s e f h k = cc

pub broken_value : (vs : List (Option Value)) (c : Constant) (r : Refusal) →
    either (first_broken (constant_faults c.names c.var c.term)) (first_broken (constant_faults_in c.names vs c.term)) ≡ Some r → None ≡ declared_value vs c
broken_value vs c r e = sym (value_by_some (faults_by vs c) r (exact_value c.names vs c.term) (joined vs c ∙ e))

kept_value : (vs : List (Option Value)) (c : Constant) → AreKept vs → first_broken (faults_by vs c) ≡ None → is_kept (exact_value c.names vs c.term) ≡ true
kept_value vs c all e = kept_exact c.names vs c.term all (nothing_right (constant_faults c.names c.var c.term) (constant_faults_in c.names vs c.term) (first_none (faults_by vs c) e))

pub sound_value : (vs : List (Option Value)) (c : Constant) → AreKept vs →
    either (first_broken (constant_faults c.names c.var c.term)) (first_broken (constant_faults_in c.names vs c.term)) ≡ None → value_in c.names vs c.term ≡ declared_value vs c
sound_value vs c all e =
    kept_is_carried (exact_value c.names vs c.term) (kept_value vs c all (joined vs c ∙ e))
    ∙ sym (value_by_none (faults_by vs c) (exact_value c.names vs c.term) (first_none (faults_by vs c) (joined vs c ∙ e)))

pub sound_kept : (vs : List (Option Value)) (c : Constant) → AreKept vs →
    either (first_broken (constant_faults c.names c.var c.term)) (first_broken (constant_faults_in c.names vs c.term)) ≡ None → is_kept (value_in c.names vs c.term) ≡ true
sound_kept vs c all e =
    let k = kept_value vs c all (joined vs c ∙ e) in
    ap is_kept (kept_is_carried (exact_value c.names vs c.term) k) ∙ k
