-- Constants are evaluated in an order in which each stands behind those that it uses.
use Rattle.std.proofs.Common.{◌≡◌, ℕ, zero, suc, ◌+◌, ◌<◌, ◌≤◌, List, [], ◌∷◌, ◌++◌, length, get_or, map, refl, inl, inr, ap, sym, ◌∙◌, arith, below_more, length-append, replicate}
use Rattle.std.specs.Prelude.{Bool, true, false, Option, Some, None, Contains, slice_get, slice_index_or, slice_set}
use Rattle.std.proofs.Math.Path.{subst}
use Rattle.std.proofs.lemmas.Bool.{cases_Bool, true≢false}
use Rattle.std.proofs.lemmas.List.{length-replicate, length-set, length-map, get_or-set_other, get_or-set_same, get_or_default, get_or_past, ext_get_or}
use Rattle.std.proofs.lemmas.List.Elements.{All-set, All-replicate, Contains-append_left}
use Rattle.std.proofs.lemmas.Option.{slice_get_within, slice_get_cases}
use Rattle.ag_graph.specs.Circles.{AreCircles, IsOnCircle, Leads, at_once}
use Rattle.ag_symbols.specs.Seen.{Seen, over_sites}
use Rattle.ag_linear.specs.declared.value.Value.{Value}
use Rattle.ag_types.specs.Constants.{AreKept, is_kept}
use Rattle.ag_types.specs.Uses.{Constant, Declared, constants_of, of_constant, of_node, declared_of, used_in, used_by, uses_of, declared_value, AreValues}
use Rattle.ag_types.proofs.Once.{one_place}
use Rattle.ag_types.proofs.Valuing.{same_declared}

-- what has been evaluated, of an order so far, has its value
pub record AreEvaluated (s : Seen) (order : List ℕ) (k : ℕ) (values : List (Option Value)) : Type 0 where
  pub long : length values ≡ length (constants_of s)
  pub kept : AreKept values
  pub circular : (i : ℕ) → IsOnCircle (uses_of s) i → slice_index_or values i None ≡ None
  pub done : (j : ℕ) → j < k → (w : ℕ) → get_or order j 0 ≡ w → (IsOnCircle (uses_of s) w → ⊥) → (c : Constant) → slice_get (constants_of s) w ≡ Some c → slice_index_or values w None ≡ declared_value values c

-- ---- the uses of a constant

uses_at : (f : Declared → List ℕ) (cs : List Constant) (ds : List Declared) (w : ℕ) (c : Constant) → slice_get cs w ≡ Some c → slice_index_or (map f (map of_constant cs ++ ds)) w [] ≡ f (of_constant c)
uses_at f [] ds w c e = cc
uses_at f (x ∷ cs) ds zero c e = let same : x ≡ c = cc in ap (λ (z : Constant). f (of_constant z)) same
uses_at f (x ∷ cs) ds (suc w) c e = uses_at f cs ds w c e

pub leads_to : (s : Seen) (w u : ℕ) (c : Constant) → slice_get (constants_of s) w ≡ Some c → Contains (used_in c.names (length (constants_of s)) c.term) u → Leads (uses_of s) w u
leads_to s w u c e h =
    subst (λ (z : List ℕ). Contains z u) (sym (uses_at (used_by (length (constants_of s))) (constants_of s) (over_sites of_node s) w c e))
    (Contains-append_left (used_in c.names (length (constants_of s)) c.term) [] u h)

pub constants_within : (s : Seen) → length (constants_of s) ≤ length (uses_of s)
constants_within s =
    let a = length-map (declared_of s) (used_by (length (constants_of s))) in
    let b = length-append (map of_constant (constants_of s)) (over_sites of_node s) in
    let c = length-map (constants_of s) of_constant in
    omega arith

pub vertex_within : (s : Seen) (w : ℕ) (c : Constant) → slice_get (constants_of s) w ≡ Some c → w < length (uses_of s)
vertex_within s w c e = let a = slice_get_within (constants_of s) w c e in let b = constants_within s in omega arith

-- ---- a step

none_at : (n i : ℕ) → slice_index_or (replicate {A = Option Value} n None) i None ≡ None
none_at zero i = refl
none_at (suc n) zero = refl
none_at (suc n) (suc i) = none_at n i

-- nothing yet
pub none_evaluated : (s : Seen) (order : List ℕ) (values : List (Option Value)) → values ≡ replicate (length (constants_of s)) None → AreEvaluated s order 0 values
none_evaluated s order values e =
    subst (AreEvaluated s order 0) (sym e) (record {
      long = length-replicate (length (constants_of s)) None;
      kept = All-replicate (λ v. is_kept v ≡ true) (length (constants_of s)) None refl;
      circular = λ i on. none_at (length (constants_of s)) i;
      done = λ j h. absurd (omega arith);
    })

-- the uses of what is behind us have stood still
uses_still : (s : Seen) (on_circle : List Bool) (order : List ℕ) → AreCircles (uses_of s) on_circle order → (k j w u : ℕ) (c : Constant) → k < length order → j < k → get_or order j 0 ≡ w →
    (IsOnCircle (uses_of s) w → ⊥) → slice_get (constants_of s) w ≡ Some c → Contains (used_in c.names (length (constants_of s)) c.term) u → u ≡ get_or order k 0 → ⊥
uses_still s on_circle order circles k j w u c h l at free e uses same =
    let b = circles.behind w u (vertex_within s w c e) free (leads_to s w u c e uses) in
    let i = one_place (length (uses_of s)) order circles.all circles.vertices circles.once b.0 j b.3 (omega arith) (b.4 ∙ sym at) in
    let m = one_place (length (uses_of s)) order circles.all circles.vertices circles.once b.1 k (let x : b.1 < b.0 = b.2 in omega arith) h (b.5 ∙ same) in
    let x : b.1 < b.0 = b.2 in
    absurd (omega arith)

-- one that is evaluated now
pub evaluated : (s : Seen) (on_circle : List Bool) (order : List ℕ) → AreCircles (uses_of s) on_circle order → (k : ℕ) (values : List (Option Value)) → AreEvaluated s order k values →
    k < length order → (at : ℕ) (c : Constant) (v : Option Value) → at ≡ get_or order k 0 → (IsOnCircle (uses_of s) at → ⊥) → slice_get (constants_of s) at ≡ Some c →
    v ≡ declared_value values c → is_kept v ≡ true → AreEvaluated s order (k + 1) (slice_set values at v)
evaluated s on_circle order circles k values i h at c v here free e f kept =
    let within : at < length values = (let a = slice_get_within (constants_of s) at c e in let b = i.long in omega arith) in
    let other = λ (u : ℕ) (apart : u ≡ at → ⊥). get_or-set_other values at u v None apart in
    record {
      long = length-set values at v ∙ i.long;
      kept = All-set (λ x. is_kept x ≡ true) values at v kept i.kept;
      circular = λ u on. other u (λ same. free (subst (IsOnCircle (uses_of s)) same on)) ∙ i.circular u on;
      done = below_more (λ j. (w : ℕ) → get_or order j 0 ≡ w → (IsOnCircle (uses_of s) w → ⊥) → (d : Constant) → slice_get (constants_of s) w ≡ Some d → slice_index_or (slice_set values at v) w None ≡ declared_value (slice_set values at v) d) k
          (λ j l w at_j free_w d g.
          other w (λ same. absurd (let m = one_place (length (uses_of s)) order circles.all circles.vertices circles.once j k (omega arith) h (at_j ∙ same ∙ here) in omega arith))
          ∙ i.done j l w at_j free_w d g
          ∙ sym (same_declared (length (constants_of s)) (slice_set values at v) values d
          (λ u uses. other u (λ same. uses_still s on_circle order circles k j w u d h l at_j free_w g uses (same ∙ here)))))
          (λ w at_k free_w d g.
          let same : w ≡ at = sym at_k ∙ sym here in
          let alike : c ≡ d = (let x : Some c ≡ Some d = sym e ∙ ap (slice_get (constants_of s)) (sym same) ∙ g in cc) in
          ap (λ (z : ℕ). slice_index_or (slice_set values at v) z None) same
          ∙ get_or-set_same values at v None within
          ∙ f
          ∙ ap (declared_value values) alike
          ∙ sym (same_declared (length (constants_of s)) (slice_set values at v) values d
          (λ u uses. other u (λ loop. free_w (at_once w w (subst (Leads (uses_of s) w) (loop ∙ sym same) (leads_to s w u d g uses)))))));
    }

-- behind the last one
pub all_evaluated : (s : Seen) (on_circle : List Bool) (order : List ℕ) → AreCircles (uses_of s) on_circle order → (k : ℕ) (values : List (Option Value)) → length order ≤ k →
    AreEvaluated s order k values → AreValues s values
all_evaluated s on_circle order circles k values h i = record {
  long = i.long;
  circular = λ v l on. i.circular v on;
  valued = λ v c e free.
      let there = circles.all v (vertex_within s v c e) in
      let within : there.0 < length order = there.1 in
      i.done there.0 (omega arith) v (get_or_default order there.0 0 v within ∙ there.2) free c e;
}

-- ---- there is one list of values

abbrev SameAt : List (Option Value) → List (Option Value) → ℕ → Type 0
SameAt vs ws u = slice_index_or vs u None ≡ slice_index_or ws u None

same_next : (s : Seen) (on_circle : List Bool) (order : List ℕ) → AreCircles (uses_of s) on_circle order → (vs ws : List (Option Value)) → AreValues s vs → AreValues s ws → (k : ℕ) → k < length order →
    ((j : ℕ) → j < k → SameAt vs ws (get_or order j 0)) → SameAt vs ws (get_or order k 0)
same_next s on_circle order circles vs ws a b k h before =
    let u = get_or order k 0 in
    let long_a = a.long in
    let long_b = b.long in
    elim (slice_get_cases (constants_of s) u).1 [
      | inl found ↦ (
          let within = vertex_within s u found.0 found.2 in
          let below = found.1 in
          elim (cases_Bool (slice_index_or on_circle u false)) [
            | inl e ↦ (let on = (circles.circles u within).0 e in a.circular u (omega arith) on ∙ sym (b.circular u (omega arith) on))
            | inr e ↦ (
                let free = λ (on : IsOnCircle (uses_of s) u). absurd (true≢false (sym ((circles.circles u within).1 on) ∙ e)) in
                a.valued u found.0 found.2 free
                ∙ same_declared (length (constants_of s)) vs ws found.0
                (λ x uses.
                let q = circles.behind u x within free (leads_to s u x found.0 found.2 uses) in
                let step : q.1 < q.0 = q.2 in
                let same = one_place (length (uses_of s)) order circles.all circles.vertices circles.once q.0 k q.3 h q.4 in
                subst (SameAt vs ws) q.5 (before q.1 (omega arith)))
                ∙ sym (b.valued u found.0 found.2 free))
          ])
      | inr past ↦ (let over = past.0 in get_or_past vs u None (omega arith) ∙ sym (get_or_past ws u None (omega arith)))
    ]

same_before : (s : Seen) (on_circle : List Bool) (order : List ℕ) → AreCircles (uses_of s) on_circle order → (vs ws : List (Option Value)) → AreValues s vs → AreValues s ws → (k : ℕ) → k ≤ length order →
    (j : ℕ) → j < k → SameAt vs ws (get_or order j 0)
same_before s on_circle order circles vs ws a b zero h j l = absurd (omega arith)
same_before s on_circle order circles vs ws a b (suc k) h j l =
    let before = same_before s on_circle order circles vs ws a b k (omega arith) in
    below_more (λ i. SameAt vs ws (get_or order i 0)) k before (same_next s on_circle order circles vs ws a b k (omega arith) before) j (omega arith)

pub one_list : (s : Seen) (on_circle : List Bool) (order : List ℕ) → AreCircles (uses_of s) on_circle order → (vs ws : List (Option Value)) → AreValues s vs → AreValues s ws → vs ≡ ws
one_list s on_circle order circles vs ws a b =
    ext_get_or None vs ws (a.long ∙ sym b.long)
    (λ i h.
    let long = a.long in
    let few = constants_within s in
    let there = circles.all i (omega arith) in
    let inside : there.0 < length order = there.1 in
    subst (SameAt vs ws) (get_or_default order there.0 0 i inside ∙ there.2) (same_before s on_circle order circles vs ws a b (length order) (omega arith) there.0 inside))
