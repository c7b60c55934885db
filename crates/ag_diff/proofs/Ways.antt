-- Ways up from a vertex.
use Rattle.std.proofs.Common.{◌≡◌, inl, inr, ℕ, ◌+◌, ◌<◌, pos, ◌+ℤ◌, ◌*ℤ◌, ◌≤ℤ◌, List, [], ◌∷◌, ◌++◌, length, drop, get_or, refl, sym, ap, subst, ◌∙◌, arith, All, Option, Some, None, cond, true, zero, suc}
use Rattle.std.specs.Prelude.{slice_set, count_by, is_none}
use Rattle.std.proofs.lemmas.Int.{ints}
use Rattle.std.proofs.lemmas.Bool.{cases_eq}
use Rattle.std.proofs.lemmas.List.{length-drop, length_push, get_or_push, get_or_append_left, get_or-set_same, get_or-set_other}
use Rattle.std.proofs.lemmas.List.Sums.{sum_by-set, get_or-le-sum_by}
use Rattle.std.proofs.lemmas.List.Elements.{All-head, All-tail, All-drop}
use Rattle.ag_diff.specs.declared.edges.Edge.{Edge}
use Rattle.ag_diff.specs.declared.vertices.Vertex.{Vertex}
use Rattle.ag_diff.specs.Cycles.{Leads, weight_of, IsNegativeCycle}
use Rattle.ag_diff.specs.Vertices.{vertex_at, height_at, IsCause, AreVertices}
use Rattle.ag_diff.specs.Climbs.{IsLastCause}

-- ---- edges in a row

pub leads_push : (v : ℕ) (es : List Edge) (at : ℕ) (e : Edge) → Leads v es at → e.to ≡ at → Leads v (es ++ e ∷ []) e.from
leads_push v [] at e h is = (is ∙ sym h, refl)
leads_push v (x ∷ xs) at e h is = (h.0, leads_push x.from xs at e h.1 is)

pub leads_drop : (v : ℕ) (es : List Edge) (at i : ℕ) (d : Edge) → Leads v es at → i < length es → Leads (get_or es i d).to (drop i es) at
leads_drop v [] at i d h lt = absurd (omega arith)
leads_drop v (x ∷ xs) at zero d h lt = (refl, h.1)
leads_drop v (x ∷ xs) at (suc i) d h lt = leads_drop x.from xs at i d h.1 (omega arith)

-- each edge lowers the height by more than its weight
heights_along : (vs : List Vertex) (v : ℕ) (es : List Edge) (at : ℕ) → AreVertices vs → All (IsLastCause vs) es → Leads v es at → (pos 16384 *ℤ weight_of es +ℤ height_at vs at +ℤ pos (length es)) ≤ℤ height_at vs v
heights_along vs v [] at are all h =
    let same : height_at vs v ≡ height_at vs at = ap (height_at vs) h in
    omega (arith, ints)
heights_along vs v (e ∷ es) at are all h =
    let last : IsLastCause vs e = All-head (IsLastCause vs) e es all in
    let cause : IsCause vs e.to e = (are e.to last.there).cause e last.cause in
    let rest = heights_along vs e.from es at are (All-tail (IsLastCause vs) e es all) h.1 in
    let same : height_at vs e.to ≡ height_at vs v = ap (height_at vs) h.0 in
    let above = cause.above in
    omega (arith, ints)

pub negative_cycle : (vs : List Vertex) (at : ℕ) (es : List Edge) → AreVertices vs → All (IsLastCause vs) es → Leads at es at → 0 < length es → IsNegativeCycle es
negative_cycle vs at es are all h some =
    let down = heights_along vs at es at are all h in
    record {
      at = at;
      leads = h;
      negative = omega (arith, ints);
    }

pub cycle_from : (vs : List Vertex) (v : ℕ) (path part : List Edge) (at place : ℕ) (d : Edge) → AreVertices vs → All (IsLastCause vs) path → Leads v path at → place < length path → (get_or path place d).to ≡ at → part ≡ drop place path → IsNegativeCycle part × All (IsLastCause vs) part
cycle_from vs v path part at place d are all h lt back is =
    let R : ℕ → Type 0 = λ n. Leads n (drop place path) at in
    let round : Leads at (drop place path) at = subst R back (leads_drop v path at place d h lt) in
    let rest : All (IsLastCause vs) (drop place path) = All-drop (IsLastCause vs) place path all in
    let some : 0 < length (drop place path) = omega (arith, lt, length-drop place path) in
    let B : List Edge → Type 0 = λ es. IsNegativeCycle es × All (IsLastCause vs) es in
    subst B (sym is) (negative_cycle vs at (drop place path) are rest round some, rest)

-- ---- places on the way

-- the vertex's place is taken
pub marked_more : (places : List (Option ℕ)) (path : List Edge) (at : ℕ) (e : Edge) → at < length places → e.to ≡ at → ((n place : ℕ) (d : Edge) → get_or places n None ≡ Some place → (place < length path) × ((get_or path place d).to ≡ n)) → (n place : ℕ) (d : Edge) → get_or (slice_set places at (Some (length path))) n None ≡ Some place → (place < length (path ++ e ∷ [])) × ((get_or (path ++ e ∷ []) place d).to ≡ n)
marked_more places path at e lt is marked n place d found =
    let count : length (path ++ e ∷ []) ≡ length path + 1 = length_push path e in
    elim (cases_eq n at) [
      | inl same ↦
          let here : get_or (slice_set places at (Some (length path))) n None ≡ Some (length path) = subst (λ (m : ℕ). get_or (slice_set places at (Some (length path))) m None ≡ Some (length path)) (sym same) (get_or-set_same places at (Some (length path)) None lt) in
          let last : length path ≡ place = cc in
          (omega (arith, last, count), ap (λ (x : Edge). x.to) (get_or_push path e d place last) ∙ is ∙ sym same)
      | inr other ↦
          let old = marked n place d (sym (get_or-set_other places at n (Some (length path)) None other) ∙ found) in
          (omega (arith, old.0, count), ap (λ (x : Edge). x.to) (get_or_append_left path (e ∷ []) d place old.0) ∙ old.1)
    ]

-- one place less is free
pub free_less : (places : List (Option ℕ)) (at place : ℕ) → at < length places → get_or places at None ≡ None → count_by is_none (slice_set places at (Some place)) + 1 ≡ count_by is_none places
free_less places at place lt none =
    let f : Option ℕ → ℕ = λ o. cond (is_none o) 1 0 in
    let one : f (get_or places at None) ≡ 1 = ap f none in
    omega (arith, one, sum_by-set f places at (Some place) None lt)

no_edge : Edge
no_edge = record { from = 0; to = 0; weight = pos 0; lit = record { atom = 0; holds = true } }

-- a vertex without a cause isn't on the way, so that some place is free
pub way_is_short : (vs : List Vertex) (places : List (Option ℕ)) (path : List Edge) (at : ℕ) → length places ≡ length vs → at < length vs → (vertex_at vs at).cause ≡ None → All (IsLastCause vs) path → ((n place : ℕ) (d : Edge) → get_or places n None ≡ Some place → (place < length path) × ((get_or path place d).to ≡ n)) → count_by is_none places + length path ≡ length vs → length path < length vs
way_is_short vs places path at count lt none all marked free = by (get_or places at None) refl
  where
    by : (o : Option ℕ) → get_or places at None ≡ o → length path < length vs
    by None e =
        let f : Option ℕ → ℕ = λ o. cond (is_none o) 1 0 in
        let one : f (get_or places at None) ≡ 1 = ap f e in
        omega (arith, one, free, get_or-le-sum_by f places at None (omega (arith, lt, count)))
    by (Some p) e =
        let on = marked at p no_edge e in
        let last : IsLastCause vs (get_or path p no_edge) = all p no_edge on.0 in
        let same : (vertex_at vs (get_or path p no_edge).to).cause ≡ (vertex_at vs at).cause = ap (λ (n : ℕ). (vertex_at vs n).cause) on.1 in
        let cause = last.cause in
        absurd (cc)
