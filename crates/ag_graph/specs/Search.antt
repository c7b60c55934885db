-- What the search keeps.
use Rattle.std.specs.Prelude.{◌≡◌, ◌<◌, ◌≤◌, ◌+◌, ◌*◌, ◌^◌, ◌↔◌, ◌⊎◌, ◌++◌, ◌∷◌, [], ◌&&◌, ℕ, Bool, true, false, List, length, IsTrue, if◌then◌else◌, nat_le, nat_lt, slice_index, slice_index_or}
use Rattle.std.specs.List.{All, Any, AllPairs, Contains, count_by}
use Rattle.ag_graph.specs.declared.search.Mark.{Mark}
use Rattle.ag_graph.specs.declared.search.Mark.TheVariants.{Unseen, OnPath, Finished}
use Rattle.ag_graph.specs.declared.search.Group.{Group}
use Rattle.ag_graph.specs.declared.search.Search.{Search}
use Rattle.ag_graph.specs.Circles.{Leads, Reaches, IsOnCircle}

-- the mark of a vertex
abbrev pub mark_of : List Mark → ℕ → Mark
mark_of marks v = slice_index_or marks v Unseen

-- it is the mark of a vertex that the search hasn't come to
abbrev pub is_unseen : Mark → Bool
is_unseen Unseen = true
is_unseen (OnPath i) = false
is_unseen Finished = false

-- the search has come to a vertex
abbrev pub IsSeen : Search → ℕ → Type 0
IsSeen s v = is_unseen (mark_of s.marks.items v) ≡ false

-- one vertex is the other one, or reaches it
abbrev pub Comes : List (List ℕ) → ℕ → ℕ → Type 0
Comes graph v w = (v ≡ w) ⊎ Reaches graph v w

-- the group of one place is that of the other one, or stands before it
abbrev pub NoLater : List Group → ℕ → ℕ → Type 0
NoLater groups i j = All (λ g. g.first ≤ i → g.first ≤ j) groups

-- this group is the last one
abbrev pub IsLast : List Group → Group → Type 0
IsLast groups g = (before : List Group) × (groups ≡ before ++ g ∷ [])

-- the marks tell the path's vertices and their places
pub record IsPath (marks : List Mark) (path : List ℕ) : Type 0 where
  pub marked : (i : ℕ) → i < length path → mark_of marks (slice_index path i) ≡ OnPath i
  pub placed : (v i : ℕ) → mark_of marks v ≡ OnPath i → (i < length path) × (slice_index path i ≡ v)

-- the groups cut the path and the edges ahead, one behind another
pub record AreGroups (path : List ℕ) (groups : List Group) (ahead : List ℕ) : Type 0 where
  pub sorted : AllPairs (λ g h. (g.first < h.first) × (g.edges ≤ h.edges)) groups
  pub within : All (λ g. (g.first < length path) × (g.edges ≤ length ahead)) groups
  pub begins : 0 < length path → Any (λ g. g.first ≡ 0) groups

-- a vertex of the path comes to each one of its own group and of later ones
abbrev pub AreJoined : List (List ℕ) → List ℕ → List Group → Type 0
AreJoined graph path groups = (i j : ℕ) → i < length path → j < length path → NoLater groups i j → Comes graph (slice_index path i) (slice_index path j)

-- each edge ahead is one of a vertex in the group among whose edges it stands
abbrev pub AreAhead : List (List ℕ) → List ℕ → List Group → List ℕ → Type 0
AreAhead graph path groups ahead = (k : ℕ) → k < length ahead
    → (i : ℕ) × (i < length path) × Leads graph (slice_index path i) (slice_index ahead k) × All (λ g. (g.edges ≤ k → g.first ≤ i) × (g.first ≤ i → g.edges ≤ k)) groups

-- an edge of this place leads to a finished vertex, or to one of its own group or a later one, or is ahead
abbrev pub IsGoneOrAhead : List Mark → List Group → List ℕ → ℕ → ℕ → Type 0
IsGoneOrAhead marks groups ahead i w =
    (mark_of marks w ≡ Finished) ⊎ (((j : ℕ) × (mark_of marks w ≡ OnPath j) × NoLater groups i j)
    ⊎ ((k : ℕ) × (k < length ahead) × (slice_index ahead k ≡ w) × All (λ g. g.first ≤ i → g.edges ≤ k) groups))

-- finished vertices lead to finished ones alone, and are answered rightly
pub record AreFinished (graph : List (List ℕ)) (marks : List Mark) (on_circle : List Bool) (order : List ℕ) : Type 0 where
  pub ordered : (v : ℕ) → mark_of marks v ≡ Finished → Contains order v
  pub vertices : All (λ v. v < length graph) order
  pub closed : (v w : ℕ) → mark_of marks v ≡ Finished → Leads graph v w → mark_of marks w ≡ Finished
  pub circles : (v : ℕ) → mark_of marks v ≡ Finished → (IsTrue (slice_index_or on_circle v false) ↔ IsOnCircle graph v)
  pub behind : (i w : ℕ) → i < length order → (IsOnCircle graph (slice_index order i) → ⊥) → Leads graph (slice_index order i) w → (j : ℕ) × (j < i) × (slice_index order j ≡ w)

-- what holds between the steps of the search
pub record IsSearch (graph : List (List ℕ)) (s : Search) : Type 0 where
  pub marks_long : length s.marks.items ≡ length graph
  pub flags_long : length s.on_circle.items ≡ length graph
  pub path : IsPath s.marks.items s.path.items
  pub groups : AreGroups s.path.items s.groups.items s.ahead.items
  pub joined : AreJoined graph s.path.items s.groups.items
  pub ahead : AreAhead graph s.path.items s.groups.items s.ahead.items
  pub gone : (i w : ℕ) → i < length s.path.items → Leads graph (slice_index s.path.items i) w → IsGoneOrAhead s.marks.items s.groups.items s.ahead.items i w
  pub finished : AreFinished graph s.marks.items s.on_circle.items s.order.items
  pub counted : length s.order.items + length s.path.items + count_by is_unseen s.marks.items ≡ length graph

-- no fewer than the steps that are left
abbrev pub steps_left : Search → ℕ
steps_left s = count_by is_unseen s.marks.items * 2 ^ 66 + length s.ahead.items + length s.groups.items

-- the search goes on by a step
pub record GoesOn (graph : List (List ℕ)) (old new : Search) : Type 0 where
  pub search : IsSearch graph new
  pub seen : (v : ℕ) → IsSeen old v → IsSeen new v
  pub fewer : steps_left new < steps_left old

-- a vertex with this mark stands on the path between these two places
abbrev pub stands_within : ℕ → ℕ → Mark → Bool
stands_within first end Unseen = false
stands_within first end (OnPath i) = nat_le first i && nat_lt i end
stands_within first end Finished = false

-- the vertices of the path between these two places, and no others, are finished with the answer `on_circle`
pub record AreClosed (first end : ℕ) (on_circle : Bool) (old new : Search) : Type 0 where
  pub marks_long : length new.marks.items ≡ length old.marks.items
  pub flags_long : length new.on_circle.items ≡ length old.on_circle.items
  pub marks : (v : ℕ) → mark_of new.marks.items v ≡ (if stands_within first end (mark_of old.marks.items v) then Finished else mark_of old.marks.items v)
  pub flags : (v : ℕ) → slice_index_or new.on_circle.items v false ≡ (if stands_within first end (mark_of old.marks.items v) then on_circle else slice_index_or old.on_circle.items v false)
  pub unseen : count_by is_unseen new.marks.items ≡ count_by is_unseen old.marks.items
  pub path : new.path.items ≡ old.path.items
  pub groups : new.groups.items ≡ old.groups.items
  pub ahead : new.ahead.items ≡ old.ahead.items
