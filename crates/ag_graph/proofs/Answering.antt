-- All vertices are finished.
use Rattle.std.proofs.Common.{◌≡◌, ℕ, ◌<◌, Bool, false, cond, List, [], length, get_or, sym, ap, subst, ◌∙◌, refl, inl, inr, arith}
use Rattle.std.specs.List.{Contains, count_by}
use Rattle.std.proofs.lemmas.Bool.{cases_lt}
use Rattle.std.proofs.lemmas.List.{get_or_default}
use Rattle.std.proofs.lemmas.List.Sums.{sum_by-le}
use Rattle.ag_graph.specs.declared.search.Mark.{Mark}
use Rattle.ag_graph.specs.declared.search.Mark.TheVariants.{Unseen, OnPath, Finished}
use Rattle.ag_graph.specs.declared.search.Search.{Search}
use Rattle.ag_graph.specs.Circles.{Leads, IsOnCircle, AreCircles, StandsBehind}
use Rattle.ag_graph.specs.Search.{mark_of, is_unseen, IsSearch, IsSeen}

-- with no group left the path is empty
no_path : (graph : List (List ℕ)) (s : Search) → IsSearch graph s → s.groups.items ≡ [] → length s.path.items ≡ 0
no_path graph s is none =
    elim (cases_lt 0 (length s.path.items)) [
      | inl some ↦ let any = is.groups.begins some in let long : length s.groups.items ≡ 0 = ap length none in absurd (omega (arith, any.2))
      | inr empty ↦ omega arith
    ]

finished_by : (m : Mark) → is_unseen m ≡ false → ((i : ℕ) → m ≡ OnPath i → ⊥) → m ≡ Finished
finished_by Unseen seen off = absurd cc
finished_by (OnPath i) seen off = absurd (off i refl)
finished_by Finished seen off = refl

all_finished : (graph : List (List ℕ)) (s : Search) → IsSearch graph s → s.groups.items ≡ [] → ((v : ℕ) → v < length graph → IsSeen s v) → (v : ℕ) → v < length graph → mark_of s.marks.items v ≡ Finished
all_finished graph s is none seen v h =
    let empty = no_path graph s is none in
    finished_by (mark_of s.marks.items v) (seen v h) (λ i on_path. let there = (is.path.placed v i on_path).0 in omega arith)

none_unseen : (graph : List (List ℕ)) (s : Search) → IsSearch graph s → ((v : ℕ) → v < length graph → IsSeen s v) → count_by is_unseen s.marks.items ≡ 0
none_unseen graph s is seen =
    let le = sum_by-le (λ (m : Mark). cond (is_unseen m) 1 0) 0 s.marks.items (λ k d h.
    let none : is_unseen (get_or s.marks.items k d) ≡ false = ap is_unseen (get_or_default s.marks.items k d Unseen h) ∙ seen k (omega (arith, is.marks_long)) in
    let zero : cond {A = ℕ} (is_unseen (get_or s.marks.items k d)) 1 0 ≡ 0 = ap (λ (b : Bool). cond {A = ℕ} b 1 0) none in
    omega (arith, zero)) in
    omega (arith, le)

-- a vertex that isn't on a circle stands behind those that it leads to
stands_behind : (graph : List (List ℕ)) (s : Search) → IsSearch graph s → (v w : ℕ) → Contains s.order.items v → (IsOnCircle graph v → ⊥) → Leads graph v w → StandsBehind s.order.items v w
stands_behind graph s is v w there free lead =
    let i = there.0 in
    let at : get_or s.order.items i 0 ≡ v = get_or_default s.order.items i 0 v there.1 ∙ there.2 in
    let found = is.finished.behind i w there.1 (λ circle. free (subst (λ (u : ℕ). IsOnCircle graph u) at circle)) (subst (λ (u : ℕ). Leads graph u w) (sym at) lead) in
    (i, found.0, found.1, there.1, at, found.2)

pub answers : (graph : List (List ℕ)) (s : Search) → IsSearch graph s → s.groups.items ≡ [] → ((v : ℕ) → v < length graph → IsSeen s v) → AreCircles graph s.on_circle.items s.order.items
answers graph s is none seen =
    let finished = all_finished graph s is none seen in record {
      long = is.flags_long;
      circles = λ v h. is.finished.circles v (finished v h);
      all = λ v h. is.finished.ordered v (finished v h);
      vertices = is.finished.vertices;
      once = let path = no_path graph s is none in let count = none_unseen graph s is seen in omega (arith, is.counted);
      behind = λ v w h free lead. stands_behind graph s is v w (is.finished.ordered v (finished v h)) free lead;
    }
