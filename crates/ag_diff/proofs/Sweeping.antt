-- Causes and room, as vertices sink.
use Rattle.std.proofs.Common.{◌≡◌, inl, inr, ℕ, ◌+◌, ◌<◌, ◌≤◌, ℤ, pos, ◌+ℤ◌, Bool, true, false, List, length, map, get_or, refl, sym, ap, subst, ◌∙◌, arith, All, Option, Some, None, Vec, Global}
use Rattle.std.specs.Prelude.{◌^◌, slice_set, sum, unsigned_abs, Contains, IfSome}
use Rattle.std.proofs.lemmas.Bool.{cases_eq}
use Rattle.std.proofs.lemmas.List.{length-set, length-map, get_or-map, same_lists, take_all}
use Rattle.std.proofs.lemmas.List.Sums.{sum-map}
use Rattle.std.proofs.lemmas.List.Elements.{All-more}
use Rattle.ag_diff.specs.declared.edges.Edge.{Edge}
use Rattle.ag_diff.specs.declared.vertices.Vertex.{Vertex}
use Rattle.ag_diff.specs.Edges.{HoldsAt}
use Rattle.ag_diff.specs.Vertices.{vertex_at, value_at, HaveCauses, room}
use Rattle.ag_diff.specs.Climbs.{IsLastCause, SameButRanks}
use Rattle.ag_diff.specs.declared.sweep.Sweep.{Sweep}
use Rattle.ag_diff.specs.declared.sweep.Sweep.TheVariants.{Still, Lowered, Cycle}
use Rattle.ag_diff.specs.Sweeps.{IsVisited, IsSweptTo}
use Rattle.ag_diff.proofs.Values.{sunk, at_end_of, at_other}

-- ---- causes

pub causes_sunk : (edges : List Edge) (vs : List Vertex) (e : Edge) → e.to < length vs → Contains edges e → HaveCauses edges vs → HaveCauses edges (slice_set vs e.to (sunk vs e))
causes_sunk edges vs e there has h n lt x is =
    let ws : List Vertex = slice_set vs e.to (sunk vs e) in
    elim (cases_eq n e.to) [
      | inl same ↦
          let new : vertex_at ws n ≡ sunk vs e = subst (λ (m : ℕ). vertex_at ws m ≡ sunk vs e) (sym same) (at_end_of vs e.to (sunk vs e) there) in
          let cause : (vertex_at ws n).cause ≡ Some e = ap (λ (v : Vertex). v.cause) new in
          let it : e ≡ x = cc in
          subst (Contains edges) it has
      | inr other ↦ h n (omega (arith, lt, length-set vs e.to (sunk vs e))) x (sym (ap (λ (v : Vertex). v.cause) (at_other vs e.to n (sunk vs e) other)) ∙ is)
    ]

pub causes_kept : (edges : List Edge) (vs ws : List Vertex) → SameButRanks vs ws → HaveCauses edges vs → HaveCauses edges ws
causes_kept edges vs ws same h n lt x is = h n (omega (arith, lt, same.count)) x (sym (same.causes n) ∙ is)

pub causes_among : (edges : List Edge) (vs : List Vertex) (cycle : List Edge) → HaveCauses edges vs → All (IsLastCause vs) cycle → All (Contains edges) cycle
causes_among edges vs cycle h all k d lt =
    let last : IsLastCause vs (get_or cycle k d) = all k d lt in
    h (get_or cycle k d).to last.there (get_or cycle k d) last.cause

-- ---- room

pub room_kept : (vs ws : List Vertex) → SameButRanks vs ws → room ws ≡ room vs
room_kept vs ws same =
    let f : Vertex → ℕ = λ v. unsigned_abs (v.value +ℤ pos (2 ^ 62)) in
    let none : Vertex = record { value = pos 0; rank = 0; cause = None } in
    let maps : map f ws ≡ map f vs = same_lists (map f ws) (map f vs) (length-map ws f ∙ same.count ∙ sym (length-map vs f)) (λ k d lt.
    let in-ws : k < length ws = omega (arith, lt, length-map ws f) in
    get_or-map f ws k none d in-ws ∙ ap (λ (z : ℤ). unsigned_abs (z +ℤ pos (2 ^ 62))) (same.values k) ∙ sym (get_or-map f vs k none d (omega (arith, in-ws, same.count)))) in
    sym (sum-map f ws) ∙ ap sum maps ∙ sum-map f vs

-- ---- a sweep

pub swept_less : (edges : List Edge) (now : List Vertex) (worked left n : ℕ) (b : Bool) → IsSweptTo edges now worked left n b → left ≤ worked
swept_less edges now worked left n true h = omega arith
swept_less edges now worked left n false h = let e = h.0 in omega arith

-- an edge more holds
pub swept_more : (edges : List Edge) (now : List Vertex) (worked left i : ℕ) (d : Edge) (b : Bool) → i < length edges → IsSweptTo edges now worked left i b → HoldsAt (value_at now) (get_or edges i d) → IsSweptTo edges now worked left (i + 1) b
swept_more edges now worked left i d true lt h at = h
swept_more edges now worked left i d false lt h at = (h.0, All-more (HoldsAt (value_at now)) edges i d lt h.1 at)

pub swept_whole : (edges : List Edge) (now : List Vertex) (worked left n : ℕ) → length edges ≤ n → IsSweptTo edges now worked left n false → All (HoldsAt (value_at now)) edges
swept_whole edges now worked left n out h =
    let A : List Edge → Type 0 = All (HoldsAt (value_at now)) in
    subst A (take_all n edges out) h.1

-- ---- a look at one edge

pub visited_less : (e : Edge) (before now : List Vertex) (worked left : ℕ) (sweep : Sweep) → ((cycle : Vec Edge Global) → sweep ≡ Cycle cycle → ⊥) → IsVisited e before now worked left sweep → left ≤ worked
visited_less e before now worked left Still never h = let same = h.1 in omega arith
visited_less e before now worked left Lowered never h = omega arith
visited_less e before now worked left (Cycle cycle) never h = absurd (never cycle refl)

pub place_below : (o : Option ℕ) (place top : ℕ) → place < top → IfSome o (λ i. i < place) → IfSome o (λ i. i < top)
place_below None place top lt h = tt
place_below (Some i) place top lt h = omega arith
