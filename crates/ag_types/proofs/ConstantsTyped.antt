-- The constants of a scope that breaks no rule have values of their types.
use Rattle.std.proofs.Common.{◌≡◌, ℕ, zero, suc, ◌<◌, ◌≤◌, List, [], ◌∷◌, ◌++◌, length, get_or, map, refl, inl, inr, ap, sym, subst, ◌∙◌, arith, append_assoc, below_more, All, Contains}
use Rattle.std.specs.Prelude.{Bool, Option, Some, None, slice_get, slice_index_or, if◌then◌else◌}
use Rattle.std.specs.List.{flat_map}
use Rattle.std.proofs.lemmas.Grind.{flat_map-append}
use Rattle.std.proofs.lemmas.List.{get_or_default, map-append}
use Rattle.std.proofs.lemmas.List.Elements.{All-append, All-cons, All-nil}
use Rattle.std.proofs.lemmas.Option.{get_or_from_slice_get, slice_get_within}
use Rattle.ag_base.specs.declared.place.Refusal.{Refusal}
use Rattle.ag_base.specs.declared.place.Rule.TheVariants.{Mismatch, NodeRecursion}
use Rattle.ag_terms.specs.declared.clauses.Clause.{Clause}
use Rattle.ag_terms.specs.declared.clauses.Clause.TheVariants as clause
use Rattle.ag_terms.specs.declared.clauses.Var.{Var}
use Rattle.ag_graph.specs.Circles.{AreCircles, IsOnCircle}
use Rattle.ag_symbols.specs.Seen.{Seen, Names, clauses_seen, constants_in, library_names, frame_names, names_seen, over_sites, targets}
use Rattle.ag_linear.specs.declared.value.Value.{Value}
use Rattle.ag_types.specs.Answers.{Breaks, IsFirst}
use Rattle.ag_types.specs.ClauseFaults.{declared, twice_among, assign_in, second_source, constant_faults, clause_faults, faults_of}
use Rattle.ag_types.specs.Constants.{AreKept, is_varying}
use Rattle.ag_types.specs.Firsts.{either}
use Rattle.ag_types.specs.NumberFaults.{constant_faults_in, clause_numbers, number_faults}
use Rattle.ag_types.specs.Places.{first_place, first_broken}
use Rattle.ag_types.specs.SumRows.{IsValueOf, HaveValues}
use Rattle.ag_types.specs.Types.{type_in, mismatch, faults_in}
use Rattle.ag_types.specs.Uses.{Constant, Declared, constant_in, constants_of, of_constant, of_node, uses_of, AreValues}
use Rattle.ag_types.proofs.ConstantsHaveValues.{UsedHaveValues, constant_value}
use Rattle.ag_types.proofs.TypedOperators.{front_nil, back_nil, unless_nil, operand_type}
use Rattle.ag_types.proofs.Evaluating.{leads_to, vertex_within}
use Rattle.ag_types.proofs.Once.{one_place}
use Rattle.ag_types.proofs.Valuing.{sound_value}

-- ---- the constants of all parts of a scope

abbrev pub var_of : Constant → Var
var_of c = c.var

var_of_clause : (names : Names) (x : Clause) → map var_of (constant_in names x) ≡ constants_in x
var_of_clause names (clause.Const v t) = refl
var_of_clause names _ = refl

vars_of_clauses : (names : Names) (xs : List Clause) → map var_of (flat_map (constant_in names) xs) ≡ flat_map constants_in xs
vars_of_clauses names [] = refl
vars_of_clauses names (x ∷ xs) =
    map-append var_of (constant_in names x) (flat_map (constant_in names) xs)
    ∙ ap (λ (z : List Var). z ++ map var_of (flat_map (constant_in names) xs)) (var_of_clause names x)
    ∙ ap (λ (z : List Var). constants_in x ++ z) (vars_of_clauses names xs)

pub vars_of_scope : (s : Seen) → map var_of (constants_of s) ≡ (names_seen s).constants
vars_of_scope s =
    map-append var_of (flat_map (constant_in (library_names s)) s.library) (flat_map (constant_in (frame_names s)) s.frame ++ flat_map (constant_in (names_seen s)) s.body)
    ∙ ap (λ (z : List Var). map var_of (flat_map (constant_in (library_names s)) s.library) ++ z) (map-append var_of (flat_map (constant_in (frame_names s)) s.frame) (flat_map (constant_in (names_seen s)) s.body))
    ∙ rw (vars_of_clauses (library_names s) s.library, vars_of_clauses (frame_names s) s.frame, vars_of_clauses (names_seen s) s.body) refl
    ∙ sym (flat_map-append constants_in s.library (s.frame ++ s.body) ∙ ap (λ (z : List Var). flat_map constants_in s.library ++ z) (flat_map-append constants_in s.frame s.body))

found_var : (cs : List Constant) (k : ℕ) (v : Var) → slice_get (map var_of cs) k ≡ Some v → (c : Constant) × (slice_get cs k ≡ Some c) × (c.var ≡ v)
found_var [] k v e = cc
found_var (c ∷ cs) zero v e = (c, refl, cc)
found_var (c ∷ cs) (suc k) v e = found_var cs k v e

-- where a name stands, its constant does
constant_at : (s : Seen) (k : ℕ) (v : Var) → slice_get (names_seen s).constants k ≡ Some v → (c : Constant) × (slice_get (constants_of s) k ≡ Some c) × (c.var ≡ v)
constant_at s k v e = found_var (constants_of s) k v (subst (λ (z : List Var). slice_get z k ≡ Some v) (sym (vars_of_scope s)) e)

declared_at : (cs : List Constant) (ds : List Declared) (k : ℕ) (c : Constant) → slice_get cs k ≡ Some c → slice_get (map of_constant cs ++ ds) k ≡ Some (of_constant c)
declared_at [] ds k c e = cc
declared_at (x ∷ cs) ds zero c e = let same : x ≡ c = cc in ap (λ (z : Constant). Some (of_constant z)) same
declared_at (x ∷ cs) ds (suc k) c e = declared_at cs ds k c e

-- ---- a part sees the first ones of them

-- what stands in the one list stands there in the other
abbrev StandIn : List Var → List Var → Type 0
StandIn xs ys = (k : ℕ) (v : Var) → slice_get xs k ≡ Some v → slice_get ys k ≡ Some v

stand_before : (xs ys : List Var) (k : ℕ) (v : Var) → slice_get xs k ≡ Some v → slice_get (xs ++ ys) k ≡ Some v
stand_before [] ys k v e = cc
stand_before (x ∷ xs) ys zero v e = e
stand_before (x ∷ xs) ys (suc k) v e = stand_before xs ys k v e

seen_before : (xs ys : List Clause) → StandIn (flat_map constants_in xs) (flat_map constants_in (xs ++ ys))
seen_before xs ys = λ k v e. subst (λ (z : List Var). slice_get z k ≡ Some v) (sym (flat_map-append constants_in xs ys)) (stand_before (flat_map constants_in xs) (flat_map constants_in ys) k v e)

library_stands : (s : Seen) → StandIn (library_names s).constants (names_seen s).constants
library_stands s = seen_before s.library (s.frame ++ s.body)

frame_stands : (s : Seen) → StandIn (frame_names s).constants (names_seen s).constants
frame_stands s =
    subst (λ (z : List Clause). StandIn (flat_map constants_in (s.library ++ s.frame)) (flat_map constants_in z)) (append_assoc s.library s.frame s.body)
    (seen_before (s.library ++ s.frame) s.body)

-- ---- where nothing is broken, no constant breaks a rule

nothing_in : (rs : List Refusal) → ((q : Refusal) → Contains rs q → ⊥) → rs ≡ []
nothing_in [] h = refl
nothing_in (r ∷ rs) h = absurd (h r (zero, omega arith, refl))

parts_nil : (f : Names → Clause → List Refusal) (s : Seen) → over_sites f s ≡ [] →
    (flat_map (f (library_names s)) s.library ≡ []) × (flat_map (f (frame_names s)) s.frame ≡ []) × (flat_map (f (names_seen s)) s.body ≡ [])
parts_nil f s e =
    let library = flat_map (f (library_names s)) s.library in
    let frame = flat_map (f (frame_names s)) s.frame in
    let body = flat_map (f (names_seen s)) s.body in
    let rest = back_nil library (frame ++ body) e in
    (front_nil library (frame ++ body) e, front_nil frame body rest, back_nil frame body rest)

-- a constant breaks no rule on types or numbers, and sees constants where they stand among all
record IsFit (s : Seen) (values : List (Option Value)) (c : Constant) : Type 0 where
  pub typed : constant_faults c.names c.var c.term ≡ []
  pub numbered : constant_faults_in c.names values c.term ≡ []
  pub stands : StandIn c.names.constants (names_seen s).constants

fit_clause : (s : Seen) (values : List (Option Value)) (names : Names) → StandIn names.constants (names_seen s).constants → (x : Clause) →
    clause_faults (targets s) names x ≡ [] → clause_numbers values names x ≡ [] → All (IsFit s values) (constant_in names x)
fit_clause s values names h (clause.Const v t) e f =
    All-cons (IsFit s values) (record { var = v; names = names; term = t }) [] (record { typed = e; numbered = f; stands = h }) (All-nil (IsFit s values))
fit_clause s values names h _ e f = All-nil (IsFit s values)

fit_clauses : (s : Seen) (values : List (Option Value)) (names : Names) → StandIn names.constants (names_seen s).constants → (xs : List Clause) →
    flat_map (clause_faults (targets s) names) xs ≡ [] → flat_map (clause_numbers values names) xs ≡ [] → All (IsFit s values) (flat_map (constant_in names) xs)
fit_clauses s values names h [] e f = All-nil (IsFit s values)
fit_clauses s values names h (x ∷ xs) e f =
    let faults = clause_faults (targets s) names in
    let numbers = clause_numbers values names in
    All-append (IsFit s values) (constant_in names x) (flat_map (constant_in names) xs)
    (fit_clause s values names h x (front_nil (faults x) (flat_map faults xs) e) (front_nil (numbers x) (flat_map numbers xs) f))
    (fit_clauses s values names h xs (back_nil (faults x) (flat_map faults xs) e) (back_nil (numbers x) (flat_map numbers xs) f))

all_fit : (s : Seen) (values : List (Option Value)) → over_sites (clause_faults (targets s)) s ≡ [] → number_faults s values ≡ [] → All (IsFit s values) (constants_of s)
all_fit s values e f =
    let faults = parts_nil (clause_faults (targets s)) s e in
    let numbers = parts_nil (clause_numbers values) s f in
    All-append (IsFit s values) (flat_map (constant_in (library_names s)) s.library) (flat_map (constant_in (frame_names s)) s.frame ++ flat_map (constant_in (names_seen s)) s.body)
    (fit_clauses s values (library_names s) (library_stands s) s.library faults.0 numbers.0)
    (All-append (IsFit s values) (flat_map (constant_in (frame_names s)) s.frame) (flat_map (constant_in (names_seen s)) s.body)
    (fit_clauses s values (frame_names s) (frame_stands s) s.frame faults.1 numbers.1)
    (fit_clauses s values (names_seen s) (λ k v g. g) s.body faults.2 numbers.2))

fit_at : (s : Seen) (values : List (Option Value)) → IsFirst (Breaks s values) None → (k : ℕ) (c : Constant) → slice_get (constants_of s) k ≡ Some c → IsFit s values c
fit_at s values none k c e =
    let twice = twice_among (declared s) (declared s) in
    let sites = over_sites (clause_faults (targets s)) s in
    let sources = flat_map (second_source s (flat_map assign_in (clauses_seen s))) (flat_map assign_in (clauses_seen s)) in
    let faults = nothing_in (faults_of s) (λ q h. none q (inl h)) in
    let numbers = nothing_in (number_faults s values) (λ q h. none q (inr (inr h))) in
    let fit = all_fit s values (front_nil sites sources (back_nil twice (sites ++ sources) faults)) numbers in
    subst (IsFit s values) (get_or_from_slice_get (constants_of s) k c c e) (fit k c (slice_get_within (constants_of s) k c e))

-- nor does it use itself
free_at : (s : Seen) (values : List (Option Value)) → IsFirst (Breaks s values) None → (k : ℕ) (c : Constant) → slice_get (constants_of s) k ≡ Some c → IsOnCircle (uses_of s) k → ⊥
free_at s values none k c e on =
    none (record { place = c.var.name.place; rule = NodeRecursion })
    (inr (inl (k, of_constant c, declared_at (constants_of s) (over_sites of_node s) k c e, on, refl)))

-- ---- a constant has a value of its type, where those that it uses have

none_first : (xs ys : List Refusal) → xs ≡ [] → ys ≡ [] → either (first_broken xs) (first_broken ys) ≡ None
none_first xs ys e f = rw (e, f) refl

own_value : (s : Seen) (values : List (Option Value)) → AreValues s values → AreKept values → IsFirst (Breaks s values) None → (k : ℕ) (c : Constant) → slice_get (constants_of s) k ≡ Some c →
    UsedHaveValues c.names values (length (constants_of s)) c.term → IsValueOf c.var.ty (slice_index_or values k None)
own_value s values valued kept none k c e used =
    let fit = fit_at s values none k c e in
    let varying : List Refusal = if is_varying c.names c.term then record { place = first_place c.term; rule = Mismatch } ∷ [] else [] in
    let other = mismatch (Some c.var.ty) (type_in c.names c.term) (first_place c.term) in
    let faults = faults_in c.names c.term in
    let rest = back_nil varying (other ++ faults) fit.typed in
    let sound = back_nil other faults rest in
    let steady = unless_nil (is_varying c.names c.term) _ (front_nil varying (other ++ faults) fit.typed) in
    let typed = operand_type c.names c.term c.var.ty (first_place c.term) sound (front_nil other faults rest) in
    let first = none_first (constant_faults c.names c.var c.term) (constant_faults_in c.names values c.term) fit.typed fit.numbered in
    let same = valued.valued k c e (free_at s values none k c e) ∙ sym (sound_value values c kept first) in
    subst (λ (o : Option Value). IsValueOf c.var.ty o) (sym same)
    (constant_value c.names values (length (constants_of s)) c.term used kept steady sound fit.numbered c.var.ty typed)

-- ---- one by one, in the order

abbrev HasValueAt : Seen → List (Option Value) → ℕ → Type 0
HasValueAt s values k = (v : Var) → slice_get (names_seen s).constants k ≡ Some v → IsValueOf v.ty (slice_index_or values k None)

by_constant : (s : Seen) (values : List (Option Value)) (k : ℕ) → ((c : Constant) → slice_get (constants_of s) k ≡ Some c → IsValueOf c.var.ty (slice_index_or values k None)) → HasValueAt s values k
by_constant s values k h = λ v e. let c = constant_at s k v e in subst (λ (z : Var). IsValueOf z.ty (slice_index_or values k None)) c.2 (h c.0 c.1)

next_value : (s : Seen) (values : List (Option Value)) (on_circle : List Bool) (order : List ℕ) → AreCircles (uses_of s) on_circle order → AreValues s values → AreKept values → IsFirst (Breaks s values) None →
    (i : ℕ) → i < length order → ((j : ℕ) → j < i → HasValueAt s values (get_or order j 0)) → HasValueAt s values (get_or order i 0)
next_value s values on_circle order circles valued kept none i h before =
    let w = get_or order i 0 in
    by_constant s values w
    (λ c e. own_value s values valued kept none w c e
    (λ u v uses g.
    let b = circles.behind w u (vertex_within s w c e) (free_at s values none w c e) (leads_to s w u c e uses) in
    let step : b.1 < b.0 = b.2 in
    let same = one_place (length (uses_of s)) order circles.all circles.vertices circles.once b.0 i b.3 h b.4 in
    subst (HasValueAt s values) b.5 (before b.1 (omega arith)) v ((fit_at s values none w c e).stands u v g)))

values_before : (s : Seen) (values : List (Option Value)) (on_circle : List Bool) (order : List ℕ) → AreCircles (uses_of s) on_circle order → AreValues s values → AreKept values → IsFirst (Breaks s values) None →
    (i : ℕ) → i ≤ length order → (j : ℕ) → j < i → HasValueAt s values (get_or order j 0)
values_before s values on_circle order circles valued kept none zero h j l = absurd (omega arith)
values_before s values on_circle order circles valued kept none (suc i) h j l =
    let before = values_before s values on_circle order circles valued kept none i (omega arith) in
    below_more (λ n. HasValueAt s values (get_or order n 0)) i before (next_value s values on_circle order circles valued kept none i (omega arith) before) j (omega arith)

-- the constants of a scope that breaks no rule have values of their types
pub constants_are_typed : (s : Seen) (values : List (Option Value)) (on_circle : List Bool) (order : List ℕ) → AreCircles (uses_of s) on_circle order → AreValues s values → AreKept values →
    IsFirst (Breaks s values) None → HaveValues (names_seen s).constants values
constants_are_typed s values on_circle order circles valued kept none = λ k v e.
    let c = constant_at s k v e in
    let there = circles.all k (vertex_within s k c.0 c.1) in
    let inside : there.0 < length order = there.1 in
    subst (HasValueAt s values) (get_or_default order there.0 0 k inside ∙ there.2)
    (values_before s values on_circle order circles valued kept none (length order) (omega arith) there.0 inside) v e
