-- The targets of a graph, cut at the places where those of each vertex begin.
use Rattle.std.proofs.Common.{◌≡◌, ℕ, zero, suc, ◌-◌, ◌<◌, ◌≤◌, List, [], ◌∷◌, ◌++◌, length, get_or, take, drop, refl, sym, ap, subst, ◌∙◌, arith, length-drop}
use Rattle.std.specs.Prelude.{slice_range, slice_index_or, slice_set}
use Rattle.std.proofs.lemmas.List.{take-append-le, drop-append-le, take_all, take_rest, length_push}
use Rattle.ag_graph.specs.Edges.{cut_at, AreStarts, with_edge}

pub length_cut : (targets starts : List ℕ) → length (cut_at targets starts) ≡ length starts
length_cut targets [] = refl
length_cut targets (start ∷ starts) = ap suc (length_cut targets starts)

-- the place up to which targets go
pub at_cut : (targets starts : List ℕ) (v : ℕ) → v < length starts → slice_index_or (cut_at targets starts) v [] ≡ slice_range targets (get_or starts v 0) (get_or starts (suc v) (length targets))
at_cut targets [] v h = absurd (omega arith)
at_cut targets (start ∷ starts) zero h = refl
at_cut targets (start ∷ starts) (suc v) h = at_cut targets starts v (omega arith)

first_within : (targets starts : List ℕ) → AreStarts targets starts → get_or starts 0 (length targets) ≤ length targets
first_within targets [] a = omega arith
first_within targets (start ∷ starts) a = let rest = first_within targets starts a.1 in omega arith

-- a vertex's targets begin before they end, and end within all targets
pub cut_within : (targets starts : List ℕ) (v : ℕ) → AreStarts targets starts → v < length starts → (get_or starts v 0 ≤ get_or starts (suc v) (length targets)) × (get_or starts (suc v) (length targets) ≤ length targets)
cut_within targets [] v a h = absurd (omega arith)
cut_within targets (start ∷ starts) zero a h = (a.0, first_within targets starts a.1)
cut_within targets (start ∷ starts) (suc v) a h = cut_within targets starts v a.1 (omega arith)

first_push : (starts : List ℕ) (end : ℕ) → get_or (starts ++ end ∷ []) 0 end ≡ get_or starts 0 end
first_push [] end = refl
first_push (start ∷ starts) end = refl

take_none : (n : ℕ) (xs : List ℕ) → take (n - n) xs ≡ []
take_none n xs = let e : n - n ≡ 0 = omega arith in ap (λ (k : ℕ). take k xs) e

-- a vertex more, which leads nowhere
pub cut_push : (targets starts : List ℕ) → cut_at targets (starts ++ length targets ∷ []) ≡ cut_at targets starts ++ [] ∷ []
cut_push targets [] = ap (λ (xs : List ℕ). xs ∷ []) (take_none (length targets) (drop (length targets) targets))
cut_push targets (start ∷ starts) =
    ap (λ (k : ℕ). slice_range targets start k ∷ cut_at targets (starts ++ length targets ∷ [])) (first_push starts (length targets))
    ∙ ap (λ (g : List (List ℕ)). slice_range targets start (get_or starts 0 (length targets)) ∷ g) (cut_push targets starts)

pub starts_push : (targets starts : List ℕ) → AreStarts targets starts → AreStarts targets (starts ++ length targets ∷ [])
starts_push targets [] a = (omega arith, tt)
starts_push targets (start ∷ starts) a = (subst (λ (k : ℕ). start ≤ k) (sym (first_push starts (length targets))) a.0, starts_push targets starts a.1)

with_edge-cons : (first second : List ℕ) (rest : List (List ℕ)) (to : ℕ) → with_edge (first ∷ second ∷ rest) to ≡ first ∷ with_edge (second ∷ rest) to
with_edge-cons first second rest to =
    let all = first ∷ second ∷ rest in
    let e : length all - 1 ≡ suc (length (second ∷ rest) - 1) = omega arith in
    ap (λ (k : ℕ). slice_set all k (slice_index_or all k [] ++ to ∷ [])) e

-- a target more changes no part that ended before
before_push : (targets : List ℕ) (to start end : ℕ) → start ≤ end → end ≤ length targets → slice_range (targets ++ to ∷ []) start end ≡ slice_range targets start end
before_push targets to start end h within =
    let short : end - start ≤ length (drop start targets) = omega (arith, length-drop start targets) in
    ap (λ (xs : List ℕ). take (end - start) xs) (drop-append-le start targets (to ∷ []) (omega arith)) ∙ take-append-le (end - start) (drop start targets) (to ∷ []) short

-- the last part has it at its end
last_push : (targets : List ℕ) (to start : ℕ) → start ≤ length targets → slice_range (targets ++ to ∷ []) start (length (targets ++ to ∷ [])) ≡ slice_range targets start (length targets) ++ to ∷ []
last_push targets to start h =
    let long : length (drop start targets ++ to ∷ []) ≤ length (targets ++ to ∷ []) - start = omega (arith, length_push targets to, length_push (drop start targets) to, length-drop start targets) in
    ap (λ (xs : List ℕ). take (length (targets ++ to ∷ []) - start) xs) (drop-append-le start targets (to ∷ []) h)
    ∙ take_all (length (targets ++ to ∷ []) - start) (drop start targets ++ to ∷ []) long
    ∙ ap (λ (xs : List ℕ). xs ++ to ∷ []) (sym (take_rest targets start))

-- a target more belongs to the last vertex
pub cut_with_edge : (targets starts : List ℕ) (to : ℕ) → 0 < length starts → AreStarts targets starts → cut_at (targets ++ to ∷ []) starts ≡ with_edge (cut_at targets starts) to
cut_with_edge targets [] to h a = absurd (omega arith)
cut_with_edge targets (start ∷ []) to h a = ap (λ (xs : List ℕ). xs ∷ []) (last_push targets to start a.0)
cut_with_edge targets (start ∷ next ∷ starts) to h a =
    let rest = cut_with_edge targets (next ∷ starts) to (omega arith) a.1 in
    let within : next ≤ length targets = first_within targets (next ∷ starts) a.1 in
    ap (λ (xs : List ℕ). xs ∷ cut_at (targets ++ to ∷ []) (next ∷ starts)) (before_push targets to start next a.0 within)
    ∙ ap (λ (g : List (List ℕ)). slice_range targets start next ∷ g) rest
    ∙ sym (with_edge-cons (slice_range targets start next) (slice_range targets next (slice_index_or starts 0 (length targets))) (cut_at targets starts) to)

first_wider : (starts : List ℕ) (start m n : ℕ) → m ≤ n → start ≤ get_or starts 0 m → start ≤ get_or starts 0 n
first_wider [] start m n h a = omega arith
first_wider (next ∷ starts) start m n h a = a

pub starts_wider : (targets starts : List ℕ) (to : ℕ) → AreStarts targets starts → AreStarts (targets ++ to ∷ []) starts
starts_wider targets [] to a = tt
starts_wider targets (start ∷ starts) to a =
    (first_wider starts start (length targets) (length (targets ++ to ∷ [])) (omega (arith, length_push targets to)) a.0, starts_wider targets starts to a.1)

pub vertex_within : (targets starts : List ℕ) (graph : List (List ℕ)) (v : ℕ) → cut_at targets starts ≡ graph → v < length graph → v < length starts
vertex_within targets starts graph v e h = let n : length starts ≡ length graph = sym (length_cut targets starts) ∙ ap length e in omega arith
