-- What a caller keeps who builds a graph: all targets are below a number, in the end that of the vertices.
use Rattle.std.proofs.Common.{◌≡◌, ℕ, ◌-◌, ◌<◌, List, [], ◌∷◌, ◌++◌, length, get_or, arith}
use Rattle.std.specs.List.{All}
use Rattle.std.proofs.lemmas.List.{length-set}
use Rattle.std.proofs.lemmas.List.Elements.{All-push, All-set}
use Rattle.ag_graph.specs.Edges.{with_edge}

pub length-with_edge : (graph : List (List ℕ)) (to : ℕ) → length (with_edge graph to) ≡ length graph
length-with_edge graph to = length-set graph (length graph - 1) (get_or graph (length graph - 1) [] ++ to ∷ [])

pub below_edge : (n : ℕ) (graph new : List (List ℕ)) (to : ℕ) → new ≡ with_edge graph to → 0 < length graph → to < n → All (λ targets. All (λ w. w < n) targets) graph → All (λ targets. All (λ w. w < n) targets) new
below_edge n graph new to is some h below =
    rw is (All-set (λ (targets : List ℕ). All (λ w. w < n) targets) graph (length graph - 1) (get_or graph (length graph - 1) [] ++ to ∷ [])
    (All-push (λ (w : ℕ). w < n) (get_or graph (length graph - 1) []) to (below (length graph - 1) [] (omega arith)) h) below)
