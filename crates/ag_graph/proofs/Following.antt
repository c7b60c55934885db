-- An edge ahead is gone through.
use Rattle.std.proofs.Common.{◌≡◌, ℕ, ◌-◌, ◌<◌, ◌≤◌, ◌⊎◌, List, [], ◌∷◌, ◌++◌, length, get_or, take, sym, ap, subst, ◌∙◌, inl, inr, arith}
use Rattle.std.specs.List.{All, AllPairs}
use Rattle.std.specs.Prelude.{slice_index}
use Rattle.std.proofs.lemmas.Bool.{cases_lt}
use Rattle.std.proofs.lemmas.List.{get_or_append_left, get_or_push, length-append, length-take-le, length_push, get_or_past, append-nil}
use Rattle.std.proofs.lemmas.List.Elements.{All-append, All-contains, All-push}
use Rattle.ag_graph.specs.declared.search.Mark.{Mark}
use Rattle.ag_graph.specs.declared.search.Mark.TheVariants.{OnPath, Finished}
use Rattle.ag_graph.specs.declared.search.Group.{Group}
use Rattle.ag_graph.specs.declared.search.Search.{Search}
use Rattle.ag_graph.specs.Circles.{Leads, Reaches, IsGraph, at_once}
use Rattle.ag_graph.specs.Search.{mark_of, NoLater, IsLast, AreGroups, AreJoined, AreAhead, IsGoneOrAhead, IsSearch, GoesOn}
use Rattle.ag_graph.proofs.Paths.{All-front, AllPairs-front, AllPairs-last, Any-not_back, split_last, back_of, comes_on, reaches_comes}

-- where no group's edges begin behind an edge ahead, the whole path reaches the vertex that it leads to
pub all_reach : (graph : List (List ℕ)) (path : List ℕ) (groups : List Group) (ahead : List ℕ) (k : ℕ)
    → AreJoined graph path groups → AreAhead graph path groups ahead → k < length ahead → All (λ g. g.edges ≤ k) groups
    → (i : ℕ) → i < length path → Reaches graph (slice_index path i) (slice_index ahead k)
all_reach graph path groups ahead k joined are hk within i hi =
    let from = are k hk in
    let later : NoLater groups i from.0 = λ m d h le. (from.3 m d h).0 (within m d h) in
    comes_on graph (get_or path i 0) (get_or path from.0 0) (get_or ahead k 0) (joined i from.0 hi from.1 later) (at_once (get_or path from.0 0) (get_or ahead k 0) from.2)

-- edges lead to vertices of the graph
pub edge_within : (graph : List (List ℕ)) → IsGraph graph → (v w : ℕ) → Leads graph v w → w < length graph
edge_within graph is v w lead =
    elim (cases_lt v (length graph)) [
      | inl within ↦ All-contains (λ (u : ℕ). u < length graph) (get_or graph v []) w (is v [] within) lead
      | inr past ↦ let none : length (get_or graph v []) ≡ 0 = ap length (get_or_past graph v [] past) in absurd (omega (arith, lead.1))
    ]

pub ahead_within : (graph : List (List ℕ)) (path : List ℕ) (groups : List Group) (ahead : List ℕ) (k : ℕ) → IsGraph graph → AreAhead graph path groups ahead → k < length ahead → slice_index ahead k < length graph
ahead_within graph path groups ahead k is are h = let from = are k h in edge_within graph is (get_or path from.0 0) (get_or ahead k 0) from.2

-- the groups behind a place that all reach are joined to its own
pub joined_from : (graph : List (List ℕ)) (path : List ℕ) (groups off : List Group) (place : ℕ)
    → place < length path → ((i : ℕ) → i < length path → Reaches graph (slice_index path i) (slice_index path place)) → All (λ g. place < g.first) off
    → AreJoined graph path (groups ++ off) → AreJoined graph path groups
joined_from graph path groups off place there reached behind joined = λ i j hi hj later.
    elim (cases_lt place i) [
      | inl past ↦
          let on : NoLater (groups ++ off) place j =
          All-append (λ (g : Group). g.first ≤ place → g.first ≤ j) groups off (λ k d h le. later k d h (omega arith)) (λ k d h le. absurd (omega (arith, behind k d h))) in
          inr (reaches_comes graph (get_or path i 0) (get_or path place 0) (get_or path j 0) (reached i hi) (joined place j there hj on))
      | inr upto ↦ joined i j hi hj (All-append (λ (g : Group). g.first ≤ i → g.first ≤ j) groups off later (λ k d h le. absurd (omega (arith, behind k d h))))
    ]

module _ (path : List ℕ) (groups off : List Group) (ahead : List ℕ) (place : ℕ) (behind : All (λ g. place < g.first) off) where
  pub groups_joined : AreGroups path (groups ++ off) ahead → AreGroups path groups ahead
  groups_joined are = record {
    sorted = AllPairs-front (λ (g h : Group). (g.first < h.first) × (g.edges ≤ h.edges)) groups off are.sorted;
    within = All-front (λ (g : Group). (g.first < length path) × (g.edges ≤ length ahead)) groups off are.within;
    begins = λ some. Any-not_back (λ (g : Group). g.first ≡ 0) groups off (λ k d h zero. absurd (omega (arith, behind k d h))) (are.begins some);
  }

  pub ahead_joined : (graph : List (List ℕ)) → AreAhead graph path (groups ++ off) ahead → AreAhead graph path groups ahead
  ahead_joined graph are = λ k h.
      let from = are k h in
      (from.0, from.1, from.2, All-front (λ (g : Group). (g.edges ≤ k → g.first ≤ from.0) × (g.first ≤ from.0 → g.edges ≤ k)) groups off from.3)

  pub gone_joined : (marks : List Mark) (i w : ℕ) → IsGoneOrAhead marks (groups ++ off) ahead i w → IsGoneOrAhead marks groups ahead i w
  gone_joined marks i w gone = elim gone [
    | inl finished ↦ inl finished
    | inr rest ↦ elim rest [
      | inl on_path ↦ inr (inl (on_path.0, on_path.1, All-front (λ (g : Group). g.first ≤ i → g.first ≤ on_path.0) groups off on_path.2))
      | inr later ↦ inr (inr (later.0, later.1, later.2, All-front (λ (g : Group). g.first ≤ i → g.edges ≤ later.0) groups off later.3))
    ]
  ]

-- no group begins behind the last one
pub before_last : (groups : List Group) (path ahead : List ℕ) (place : ℕ) → AreGroups path groups ahead → ((g : Group) → IsLast groups g → g.first ≤ place) → All (λ g. g.first ≤ place) groups
before_last groups path ahead place are last = λ k d h.
    let g = get_or groups (length groups - 1) d in
    let is = last g (take (length groups - 1) groups, split_last groups d (omega arith)) in
    elim (cases_lt k (length groups - 1)) [
      | inl less ↦ omega (arith, is, (are.sorted k (length groups - 1) d less (omega arith)).0)
      | inr at ↦ let same : k ≡ length groups - 1 = omega arith in subst (λ (n : ℕ). (get_or groups n d).first ≤ place) (sym same) is
    ]

module _ (path : List ℕ) (groups : List Group) (ahead : List ℕ) (to : ℕ) (short : All (λ g. g.edges ≤ length ahead) groups) where
  pub groups_gone : AreGroups path groups (ahead ++ to ∷ []) → AreGroups path groups ahead
  groups_gone are = record { sorted = are.sorted; within = λ k d h. ((are.within k d h).0, short k d h); begins = are.begins }

  pub ahead_gone : (graph : List (List ℕ)) → AreAhead graph path groups (ahead ++ to ∷ []) → AreAhead graph path groups ahead
  ahead_gone graph are = λ k h.
      let from = are k (omega (arith, length_push ahead to)) in
      (from.0, from.1, subst (λ (w : ℕ). Leads graph (get_or path from.0 0) w) (get_or_append_left ahead (to ∷ []) 0 k h) from.2, from.3)

  -- the vertex is finished, or stands on the path in the last group
  pub gone_gone : (marks : List Mark) (i w : ℕ) → (mark_of marks to ≡ Finished) ⊎ ((j : ℕ) × (mark_of marks to ≡ OnPath j) × All (λ g. g.first ≤ j) groups)
      → IsGoneOrAhead marks groups (ahead ++ to ∷ []) i w → IsGoneOrAhead marks groups ahead i w
  gone_gone marks i w here gone = elim gone [
    | inl finished ↦ inl finished
    | inr rest ↦ elim rest [
      | inl on_path ↦ inr (inl on_path)
      | inr later ↦
          let k = later.0 in
          elim (cases_lt k (length ahead)) [
            | inl front ↦ inr (inr (k, front, sym (get_or_append_left ahead (to ∷ []) 0 k front) ∙ later.2, later.3))
            | inr behind ↦
                let last : length ahead ≡ k = omega (arith, later.1, length_push ahead to) in
                let same : to ≡ w = sym (get_or_push ahead to 0 k last) ∙ later.2 in
                elim here [
                  | inl finished ↦ inl (ap (mark_of marks) (sym same) ∙ finished)
                  | inr on_path ↦ inr (inl (on_path.0, ap (mark_of marks) (sym same) ∙ on_path.1, λ m d h le. on_path.2 m d h))
                ]
          ]
    ]
  ]

-- the search goes on by an edge fewer, and maybe by fewer groups
pub followed : (graph : List (List ℕ)) (old new : Search) (off : List Group) (to place : ℕ)
    → IsSearch graph old → old.groups.items ≡ new.groups.items ++ off → old.ahead.items ≡ new.ahead.items ++ to ∷ []
    → All (λ g. g.edges ≤ length new.ahead.items) new.groups.items → All (λ g. place < g.first) off
    → AreJoined graph old.path.items new.groups.items
    → (mark_of old.marks.items to ≡ Finished) ⊎ ((j : ℕ) × (mark_of old.marks.items to ≡ OnPath j) × All (λ g. g.first ≤ j) new.groups.items)
    → new.marks ≡ old.marks → new.path ≡ old.path → new.on_circle ≡ old.on_circle → new.order ≡ old.order
    → GoesOn graph old new
followed graph old new off to place s groups ahead short behind joined here marks path on_circle order =
    let are = subst (λ (gs : List Group). AreGroups old.path.items gs old.ahead.items) groups s.groups in
    let edges = subst (λ (gs : List Group). AreAhead graph old.path.items gs old.ahead.items) groups s.ahead in
    let fewer_groups : length new.groups.items ≤ length old.groups.items = rw groups (omega (arith, length-append new.groups.items off)) in
    let fewer_edges : length new.ahead.items < length old.ahead.items = rw ahead (omega (arith, length_push new.ahead.items to)) in record {
      search = record {
        marks_long = ap (λ v. length v.items) marks ∙ s.marks_long;
        flags_long = ap (λ v. length v.items) on_circle ∙ s.flags_long;
        path = rw (marks, path) s.path;
        groups = rw path (groups_gone old.path.items new.groups.items new.ahead.items to short (subst (λ (ws : List ℕ). AreGroups old.path.items new.groups.items ws) ahead (groups_joined old.path.items new.groups.items off old.ahead.items place behind are)));
        joined = rw path joined;
        ahead = rw path (ahead_gone old.path.items new.groups.items new.ahead.items to short graph (subst (λ (ws : List ℕ). AreAhead graph old.path.items new.groups.items ws) ahead (ahead_joined old.path.items new.groups.items off old.ahead.items place behind graph edges)));
        gone = rw (marks, path) (λ i w h lead.
            let gone = subst (λ (gs : List Group). IsGoneOrAhead old.marks.items gs old.ahead.items i w) groups (s.gone i w h lead) in
            gone_gone old.path.items new.groups.items new.ahead.items to short old.marks.items i w here
            (subst (λ (ws : List ℕ). IsGoneOrAhead old.marks.items new.groups.items ws i w) ahead (gone_joined old.path.items new.groups.items off old.ahead.items place behind old.marks.items i w gone)));
        finished = rw (marks, on_circle, order) s.finished;
        counted = rw (marks, path, order) s.counted;
      };
      seen = rw marks (λ v h. h);
      fewer = rw marks (omega (arith, fewer_groups, fewer_edges));
    }

module _ (graph : List (List ℕ)) (old new : Search) (to : ℕ) (s : IsSearch graph old) (some : 0 < length old.ahead.items) (within : All (λ g. g.edges < length old.ahead.items) old.groups.items) (top : to ≡ slice_index old.ahead.items (length old.ahead.items - 1)) (off : List Group) (whole : old.groups.items ≡ new.groups.items ++ off) (taken : new.ahead.items ≡ take (length old.ahead.items - 1) old.ahead.items) (marks : new.marks ≡ old.marks) (path : new.path ≡ old.path) (on_circle : new.on_circle ≡ old.on_circle) (order : new.order ≡ old.order) where
  top_reached : (i : ℕ) → i < length old.path.items → Reaches graph (slice_index old.path.items i) to
  top_reached i h = subst (λ (u : ℕ). Reaches graph (get_or old.path.items i 0) u) (sym top)
      (all_reach graph old.path.items old.groups.items old.ahead.items (length old.ahead.items - 1) s.joined s.ahead (omega arith) (λ k d hk. omega (arith, within k d hk)) i h)

  is_short : All (λ g. g.edges ≤ length new.ahead.items) new.groups.items
  is_short =
      let long = length-take-le (length old.ahead.items - 1) old.ahead.items (omega arith) in
      let all = All-front (λ (g : Group). g.edges < length old.ahead.items) new.groups.items off (subst (λ (gs : List Group). All (λ g. g.edges < length old.ahead.items) gs) whole within) in
      λ k d h. omega (arith, all k d h, ap length taken)

  -- an edge to a finished vertex
  pub followed_past : off ≡ [] → mark_of old.marks.items to ≡ Finished → GoesOn graph old new
  followed_past none finished =
      let same : old.groups.items ≡ new.groups.items = whole ∙ ap (λ (gs : List Group). new.groups.items ++ gs) none ∙ append-nil new.groups.items in
      followed graph old new off to 0 s whole (back_of old.ahead.items new.ahead.items to 0 some taken top) is_short (λ k d h. let long : length off ≡ 0 = ap length none in absurd (omega arith))
      (subst (λ (gs : List Group). AreJoined graph old.path.items gs) same s.joined) (inl finished) marks path on_circle order

  -- an edge back to the path
  pub followed_back : (place : ℕ) → mark_of old.marks.items to ≡ OnPath place → All (λ g. place < g.first) off → ((g : Group) → IsLast new.groups.items g → g.first ≤ place) → GoesOn graph old new
  followed_back place mark behind last =
      let there = s.path.placed to place mark in
      let reached : (i : ℕ) → i < length old.path.items → Reaches graph (get_or old.path.items i 0) (get_or old.path.items place 0) = λ i h. subst (λ (u : ℕ). Reaches graph (get_or old.path.items i 0) u) (sym there.1) (top_reached i h) in
      let are = groups_joined old.path.items new.groups.items off old.ahead.items place behind (subst (λ (gs : List Group). AreGroups old.path.items gs old.ahead.items) whole s.groups) in
      followed graph old new off to place s whole (back_of old.ahead.items new.ahead.items to 0 some taken top) is_short behind
      (joined_from graph old.path.items new.groups.items off place there.0 reached behind (subst (λ (gs : List Group). AreJoined graph old.path.items gs) whole s.joined))
      (inr (place, mark, before_last new.groups.items old.path.items old.ahead.items place are last)) marks path on_circle order

-- no group's edges begin behind those of the last one
pub edges_before : (path : List ℕ) (groups before : List Group) (ahead : List ℕ) (g : Group) → AreGroups path groups ahead → groups ≡ before ++ g ∷ [] → g.edges < length ahead → All (λ h. h.edges < length ahead) groups
edges_before path groups before ahead g are last some =
    let R : Group → Group → Type 0 = λ h i. (h.first < i.first) × (h.edges ≤ i.edges) in
    let sorted = AllPairs-last R before g (subst (λ (gs : List Group). AllPairs R gs) last are.sorted) in
    subst (λ (gs : List Group). All (λ h. h.edges < length ahead) gs) (sym last) (All-push (λ (h : Group). h.edges < length ahead) before g (λ k d h. omega (arith, (sorted k d h).1)) some)
