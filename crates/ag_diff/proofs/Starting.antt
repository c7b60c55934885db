-- Vertices that never sank.
use Rattle.std.proofs.Common.{◌≡◌, ℕ, ◌<◌, ◌≤◌, ℤ, pos, List, length, map, take, get_or, sym, ap, subst, ◌∙◌, arith, All, None}
use Rattle.std.proofs.lemmas.Int.{ints}
use Rattle.std.proofs.lemmas.List.{length-map, get_or-map, take_all}
use Rattle.ag_diff.specs.declared.edges.Edge.{Edge}
use Rattle.ag_diff.specs.declared.vertices.Vertex.{Vertex}
use Rattle.ag_diff.specs.Vertices.{vertex_at, IsVertex, IsStart, started, AreVertices, HaveCauses}

at_started : (values : List ℤ) (n : ℕ) → n < length values → vertex_at (map started values) n ≡ started (get_or values n (pos 0))
at_started values n lt = get_or-map started values n (pos 0) (record { value = pos 0; rank = 0; cause = None }) lt

pub started_vertices : (values : List ℤ) → All IsStart values → AreVertices (map started values)
started_vertices values all n lt =
    let there : n < length values = omega (arith, lt, length-map values started) in
    let z : ℤ = get_or values n (pos 0) in
    let in-range : IsStart z = all n (pos 0) there in
    let low = in-range.0 in
    let V : Vertex → Type 0 = IsVertex (map started values) n in
    subst V (sym (at_started values n there)) record {
      rank = omega arith;
      high = in-range.1;
      low = omega (arith, ints, low);
      start = λ none. low;
      cause = λ e is. absurd (cc);
    }

pub started_causes : (edges : List Edge) (values : List ℤ) → HaveCauses edges (map started values)
started_causes edges values n lt e is =
    let there : n < length values = omega (arith, lt, length-map values started) in
    let none = ap (λ (v : Vertex). v.cause) (at_started values n there) in
    absurd (cc)

pub all_started : (values : List ℤ) (vs : List Vertex) (n : ℕ) → vs ≡ map started (take n values) → length values ≤ n → vs ≡ map started values
all_started values vs n is out = is ∙ ap (map started) (take_all n values out)
