-- Marks that are set, and vertices whose mark tells that they are finished.
use Rattle.std.proofs.Common.{◌≡◌, ℕ, ◌<◌, ◌+◌, Bool, cond, List, length, set}
use Rattle.std.specs.List.{count_by}
use Rattle.std.proofs.lemmas.List.{get_or-set_same, get_or-set_other}
use Rattle.std.proofs.lemmas.List.Sums.{sum_by-set}
use Rattle.ag_graph.specs.declared.search.Mark.{Mark}
use Rattle.ag_graph.specs.declared.search.Mark.TheVariants.{Unseen, Finished}
use Rattle.ag_graph.specs.Search.{mark_of, is_unseen, AreFinished}

pub mark-set : (marks : List Mark) (v : ℕ) (m : Mark) → v < length marks → mark_of (set marks v m) v ≡ m
mark-set marks v m h = get_or-set_same marks v m Unseen h

pub mark-set_other : (marks : List Mark) (v u : ℕ) (m : Mark) → (u ≡ v → ⊥) → mark_of (set marks v m) u ≡ mark_of marks u
mark-set_other marks v u m other = get_or-set_other marks v u m Unseen other

-- how many are unseen after a mark is set
pub unseen-set : (marks : List Mark) (v : ℕ) (m : Mark) → v < length marks → count_by is_unseen (set marks v m) + cond (is_unseen (mark_of marks v)) 1 0 ≡ count_by is_unseen marks + cond (is_unseen m) 1 0
unseen-set marks v m h = sum_by-set (λ (x : Mark). cond (is_unseen x) 1 0) marks v m Unseen h

-- what is finished stays right where other vertices get other marks
pub finished_kept : (graph : List (List ℕ)) (old new : List Mark) (on_circle : List Bool) (order : List ℕ)
    → ((v : ℕ) → mark_of new v ≡ Finished → mark_of old v ≡ Finished) → ((v : ℕ) → mark_of old v ≡ Finished → mark_of new v ≡ Finished)
    → AreFinished graph old on_circle order → AreFinished graph new on_circle order
finished_kept graph old new on_circle order back on f = record {
  ordered = λ v h. f.ordered v (back v h);
  vertices = f.vertices;
  closed = λ v w h lead. on w (f.closed v w (back v h) lead);
  circles = λ v h. f.circles v (back v h);
  behind = f.behind;
}
