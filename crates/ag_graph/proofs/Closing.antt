-- The last group is finished.
use Rattle.std.proofs.Common.{◌≡◌, ℕ, ◌+◌, ◌-◌, ◌<◌, ◌≤◌, ◌⊎◌, ◌↔◌, Bool, false, cond, List, [], ◌∷◌, ◌++◌, length, get_or, take, drop, sym, ap, subst, ◌∙◌, refl, inl, inr, arith}
use Rattle.std.specs.List.{All, Any, AllPairs, Contains}
use Rattle.std.specs.Prelude.{slice_index, IsTrue}
use Rattle.std.proofs.lemmas.Bool.{cases_lt, cases_Bool}
use Rattle.std.proofs.lemmas.List.{get_or_append_left, get_or-append_right, get_or-take, get_or-drop, get_or_default, length-append, length-drop, length-take-le, length_push}
use Rattle.std.proofs.lemmas.List.Elements.{All-push, All-append, All-drop, All-from_get_or, Contains-append_left, Contains-append_right}
use Rattle.ag_graph.specs.declared.search.Mark.{Mark}
use Rattle.ag_graph.specs.declared.search.Mark.TheVariants.{Unseen, OnPath, Finished}
use Rattle.ag_graph.specs.declared.search.Group.{Group}
use Rattle.ag_graph.specs.declared.search.Search.{Search}
use Rattle.ag_graph.specs.Circles.{Leads, Reaches, IsOnCircle, at_once, through}
use Rattle.ag_graph.specs.Search.{mark_of, is_unseen, stands_within, NoLater, IsPath, AreGroups, AreJoined, AreAhead, IsGoneOrAhead, AreFinished, IsSearch, GoesOn, AreClosed}
use Rattle.ag_graph.proofs.Paths.{All-front, All-last, AllPairs-front, AllPairs-last, Any-not_back, reaches_comes}
use Rattle.ag_graph.proofs.Finishing.{within_true, within_before, seen_within}

-- ---- the mark after the group that begins at a place is finished

-- the mark that a vertex has then
abbrev after : ℕ → ℕ → Mark → Mark
after first end m = cond (stands_within first end m) Finished m

after_seen : (first end : ℕ) (m : Mark) → is_unseen m ≡ false → is_unseen (after first end m) ≡ false
after_seen first end Unseen seen = absurd cc
after_seen first end (OnPath i) seen = elim (cases_Bool (stands_within first end (OnPath i))) [ inl inside ↦ rw inside refl | inr outside ↦ rw outside refl ]
after_seen first end Finished seen = refl

after_within : (first end i : ℕ) → first ≤ i → i < end → after first end (OnPath i) ≡ Finished
after_within first end i from h = ap (λ (b : Bool). cond b Finished (OnPath i)) (within_true first end i from h)

after_before : (first end i : ℕ) → i < first → after first end (OnPath i) ≡ OnPath i
after_before first end i h = ap (λ (b : Bool). cond b Finished (OnPath i)) (within_before first end i h)

on_path_after : (first end : ℕ) (m : Mark) (i : ℕ) → ((j : ℕ) → m ≡ OnPath j → j < end) → after first end m ≡ OnPath i → (m ≡ OnPath i) × (i < first)
on_path_after first end Unseen i short h = absurd cc
on_path_after first end (OnPath j) i short h =
    elim (cases_lt j first) [
      | inl before ↦ let same : OnPath j ≡ OnPath i = sym (after_before first end j before) ∙ h in let is : j ≡ i = cc in (same, omega arith)
      | inr from ↦ let is : Finished ≡ OnPath i = sym (after_within first end j from (short j refl)) ∙ h in absurd cc
    ]
on_path_after first end Finished i short h = absurd cc

finished_after : (first end : ℕ) (m : Mark) → after first end m ≡ Finished → (m ≡ Finished) ⊎ ((i : ℕ) × (m ≡ OnPath i) × (first ≤ i))
finished_after first end Unseen h = absurd cc
finished_after first end (OnPath j) h =
    elim (cases_lt j first) [
      | inl before ↦ let is : OnPath j ≡ Finished = sym (after_before first end j before) ∙ h in absurd cc
      | inr from ↦ inr (j, refl, from)
    ]
finished_after first end Finished h = inl refl

-- a way begins with an edge
first_step : (graph : List (List ℕ)) (v x : ℕ) → Reaches graph v x → (w : ℕ) × Leads graph v w × ((w ≡ x) ⊎ Reaches graph w x)
first_step graph _ _ (at_once v w h) = (w, h, inl refl)
first_step graph _ _ (through v w x h rest) = (w, h, inr rest)

-- from finished vertices a way leads to finished ones alone
finished_on : (graph : List (List ℕ)) (marks : List Mark) (on_circle : List Bool) (order : List ℕ) → AreFinished graph marks on_circle order → (v x : ℕ) → Reaches graph v x → mark_of marks v ≡ Finished → mark_of marks x ≡ Finished
finished_on graph marks on_circle order f _ _ (at_once v w h) here = f.closed v w here h
finished_on graph marks on_circle order f _ _ (through v w x h rest) here = finished_on graph marks on_circle order f w x rest (f.closed v w here h)

-- ---- the vertices of the last group

module _ (graph : List (List ℕ)) (old : Search) (s : IsSearch graph old) (before : List Group) (g : Group) (last : old.groups.items ≡ before ++ g ∷ []) (done : length old.ahead.items ≤ g.edges) where
  all_groups : (P : Group → Type 0) → All P old.groups.items → All P (before ++ g ∷ [])
  all_groups P all = subst (λ (gs : List Group). All P gs) last all

  g_within : (g.first < length old.path.items) × (g.edges ≤ length old.ahead.items)
  g_within = All-last (λ (h : Group). (h.first < length old.path.items) × (h.edges ≤ length old.ahead.items)) before g (all_groups (λ (h : Group). (h.first < length old.path.items) × (h.edges ≤ length old.ahead.items)) s.groups.within)

  firsts : All (λ h. (h.first < g.first) × (h.edges ≤ g.edges)) before
  firsts = AllPairs-last (λ (h i : Group). (h.first < i.first) × (h.edges ≤ i.edges)) before g (subst (λ (gs : List Group). AllPairs (λ (h i : Group). (h.first < i.first) × (h.edges ≤ i.edges)) gs) last s.groups.sorted)

  -- no place stands in a later group than one of the last group
  in_last : (i j : ℕ) → g.first ≤ j → NoLater old.groups.items i j
  in_last i j from = subst (λ (gs : List Group). All (λ h. h.first ≤ i → h.first ≤ j) gs) (sym last)
      (All-push (λ (h : Group). h.first ≤ i → h.first ≤ j) before g (λ k d h le. omega (arith, (firsts k d h).0)) (λ le. from))

  -- its vertices lead to finished ones and to each other
  own_edges : (i w : ℕ) → g.first ≤ i → i < length old.path.items → Leads graph (slice_index old.path.items i) w → (mark_of old.marks.items w ≡ Finished) ⊎ ((j : ℕ) × (mark_of old.marks.items w ≡ OnPath j) × (g.first ≤ j))
  own_edges i w from h lead =
      elim (s.gone i w h lead) [
        | inl finished ↦ inl finished
        | inr rest ↦ elim rest [
          | inl on_path ↦ inr (on_path.0, on_path.1, All-last (λ (h : Group). h.first ≤ i → h.first ≤ on_path.0) before g (all_groups (λ (h : Group). h.first ≤ i → h.first ≤ on_path.0) on_path.2) from)
          | inr later ↦
              let le : g.edges ≤ later.0 = All-last (λ (h : Group). h.first ≤ i → h.edges ≤ later.0) before g (all_groups (λ (h : Group). h.first ≤ i → h.edges ≤ later.0) later.3) from in
              absurd (omega (arith, later.1))
        ]
      ]

  -- two vertices of it reach each other
  each_other : (i j : ℕ) → g.first ≤ i → i < length old.path.items → g.first ≤ j → j < length old.path.items → (i ≡ j → ⊥) → IsOnCircle graph (slice_index old.path.items i)
  each_other i j from_i hi from_j hj apart =
      let v = get_or old.path.items i 0 in
      let w = get_or old.path.items j 0 in
      elim (s.joined i j hi hj (in_last i j from_j)) [
        | inl same ↦
            let is : OnPath i ≡ OnPath j = sym (s.path.marked i hi) ∙ ap (mark_of old.marks.items) same ∙ s.path.marked j hj in
            let at : i ≡ j = cc in
            absurd (apart at)
        | inr reach ↦ reaches_comes graph v w v reach (s.joined j i hj hi (in_last j i from_i))
      ]

  grouped : (i : ℕ) → g.first ≤ i → i < length old.path.items → g.first + 1 < length old.path.items → IsOnCircle graph (slice_index old.path.items i)
  grouped i from h more = elim (cases_lt g.first i) [
    | inl behind ↦ each_other i g.first from h (omega arith) (omega arith) (λ same. omega arith)
    | inr at ↦ each_other i (g.first + 1) from h (omega arith) more (λ same. omega arith)
  ]

  -- one alone that is on a circle leads to itself
  alone : (i w : ℕ) → g.first ≤ i → i < length old.path.items → length old.path.items ≤ g.first + 1 → Leads graph (slice_index old.path.items i) w → (mark_of old.marks.items w ≡ Finished) ⊎ (w ≡ slice_index old.path.items i)
  alone i w from h one lead =
      elim (own_edges i w from h lead) [
        | inl finished ↦ inl finished
        | inr on_path ↦
            let there = s.path.placed w on_path.0 on_path.1 in
            let at : on_path.0 ≡ i = omega (arith, there.0, on_path.2) in
            inr (sym there.1 ∙ ap (λ (n : ℕ). get_or old.path.items n 0) at)
      ]

  leads_itself : (i : ℕ) → g.first ≤ i → i < length old.path.items → length old.path.items ≤ g.first + 1 → IsOnCircle graph (slice_index old.path.items i) → Leads graph (slice_index old.path.items i) (slice_index old.path.items i)
  leads_itself i from h one circle =
      let v = get_or old.path.items i 0 in
      let step = first_step graph v v circle in
      let w = step.0 in
      elim (alone i w from h one step.1) [
        | inr same ↦ subst (λ (u : ℕ). Leads graph v u) same step.1
        | inl finished ↦
            let back : mark_of old.marks.items v ≡ Finished =
            elim step.2 [
              | inl same ↦ ap (mark_of old.marks.items) (sym same) ∙ finished
              | inr rest ↦ finished_on graph old.marks.items old.on_circle.items old.order.items s.finished w v rest finished
            ] in
            let is : OnPath i ≡ Finished = sym (s.path.marked i h) ∙ back in
            absurd cc
      ]

  -- the answer for the group is that for each of its vertices
  answered : (on_circle : Bool) → (IsTrue on_circle ↔ ((g.first + 1 < length old.path.items) ⊎ Leads graph (slice_index old.path.items g.first) (slice_index old.path.items g.first)))
      → (i : ℕ) → g.first ≤ i → i < length old.path.items → (IsTrue on_circle ↔ IsOnCircle graph (slice_index old.path.items i))
  answered on_circle says i from h = (
    λ t. elim (says.0 t) [
      | inl more ↦ grouped i from h more
      | inr itself ↦ elim (cases_lt (g.first + 1) (length old.path.items)) [
        | inl more ↦ grouped i from h more
        | inr one ↦
            let at : g.first ≡ i = omega arith in
            let v = get_or old.path.items i 0 in
            at_once v v (subst (λ (n : ℕ). Leads graph (get_or old.path.items n 0) (get_or old.path.items n 0)) at itself)
      ]
    ],
    λ circle. elim (cases_lt (g.first + 1) (length old.path.items)) [
      | inl more ↦ says.1 (inl more)
      | inr one ↦
          let at : i ≡ g.first = omega arith in
          says.1 (inr (subst (λ (n : ℕ). Leads graph (get_or old.path.items n 0) (get_or old.path.items n 0)) at (leads_itself i from h one circle)))
    ],
  )

  -- ---- the search without the last group

  module _ (on_circle : Bool) (says : IsTrue on_circle ↔ ((g.first + 1 < length old.path.items) ⊎ Leads graph (slice_index old.path.items g.first) (slice_index old.path.items g.first))) (mid : Search) (c : AreClosed g.first (length old.path.items) on_circle old mid) where
    marked_by : (v : ℕ) (m : Mark) → mark_of old.marks.items v ≡ m → mark_of mid.marks.items v ≡ after g.first (length old.path.items) m
    marked_by v m is = c.marks v ∙ ap (after g.first (length old.path.items)) is

    finished_now : (v : ℕ) → mark_of mid.marks.items v ≡ Finished → (mark_of old.marks.items v ≡ Finished) ⊎ ((i : ℕ) × (mark_of old.marks.items v ≡ OnPath i) × (g.first ≤ i))
    finished_now v h = finished_after g.first (length old.path.items) (mark_of old.marks.items v) (sym (c.marks v) ∙ h)

    -- a vertex of the group is finished
    of_group : (w i : ℕ) → mark_of old.marks.items w ≡ OnPath i → g.first ≤ i → mark_of mid.marks.items w ≡ Finished
    of_group w i is from = marked_by w (OnPath i) is ∙ after_within g.first (length old.path.items) i from (s.path.placed w i is).0

    path_closed : IsPath mid.marks.items (take g.first old.path.items)
    path_closed =
        let short = length-take-le g.first old.path.items (omega (arith, g_within.0)) in record {
          marked = λ i h.
              let less : i < g.first = omega arith in
              rw (get_or-take g.first old.path.items i 0 less) (marked_by (get_or old.path.items i 0) (OnPath i) (s.path.marked i (omega (arith, g_within.0))) ∙ after_before g.first (length old.path.items) i less);
          placed = λ v i h.
              let was = on_path_after g.first (length old.path.items) (mark_of old.marks.items v) i (λ j is. (s.path.placed v j is).0) (sym (c.marks v) ∙ h) in
              (omega (arith, was.1), get_or-take g.first old.path.items i 0 was.1 ∙ (s.path.placed v i was.0).1);
        }

    groups_closed : AreGroups (take g.first old.path.items) before old.ahead.items
    groups_closed =
        let short = length-take-le g.first old.path.items (omega (arith, g_within.0)) in record {
          sorted = AllPairs-front (λ (h i : Group). (h.first < i.first) × (h.edges ≤ i.edges)) before (g ∷ []) (subst (λ (gs : List Group). AllPairs (λ (h i : Group). (h.first < i.first) × (h.edges ≤ i.edges)) gs) last s.groups.sorted);
          within = λ k d h. (omega (arith, (firsts k d h).0), omega (arith, (firsts k d h).1, g_within.1));
          begins = λ some.
              Any-not_back (λ (h : Group). h.first ≡ 0) before (g ∷ []) (All-push (λ (h : Group). h.first ≡ 0 → ⊥) [] g (λ k d h. absurd (omega arith)) (λ zero. omega arith))
              (subst (λ (gs : List Group). Any (λ (h : Group). h.first ≡ 0) gs) last (s.groups.begins (omega (arith, g_within.0))));
        }

    no_later : (i j : ℕ) → i < g.first → NoLater before i j → NoLater old.groups.items i j
    no_later i j less later = subst (λ (gs : List Group). All (λ h. h.first ≤ i → h.first ≤ j) gs) (sym last) (All-push (λ (h : Group). h.first ≤ i → h.first ≤ j) before g later (λ le. absurd (omega arith)))

    joined_closed : AreJoined graph (take g.first old.path.items) before
    joined_closed = λ i j hi hj later.
        let within = g_within.0 in
        let short = length-take-le g.first old.path.items (omega arith) in
        let less_i : i < g.first = omega arith in
        let less_j : j < g.first = omega arith in
        rw (get_or-take g.first old.path.items i 0 less_i, get_or-take g.first old.path.items j 0 less_j) (s.joined i j (omega arith) (omega arith) (no_later i j less_i later))

    ahead_closed : AreAhead graph (take g.first old.path.items) before old.ahead.items
    ahead_closed = λ k h.
        let from = s.ahead k h in
        let i = from.0 in
        let P : Group → Type 0 = λ f. (f.edges ≤ k → f.first ≤ i) × (f.first ≤ i → f.edges ≤ k) in
        let within = g_within.0 in
        let short = length-take-le g.first old.path.items (omega arith) in
        let less : i < g.first =
        elim (cases_lt i g.first) [
          | inl front ↦ front
          | inr behind ↦ let le : g.edges ≤ k = (All-last P before g (all_groups P from.3)).1 behind in absurd (omega arith)
        ] in
        (i, omega arith, rw (get_or-take g.first old.path.items i 0 less) from.2, All-front P before (g ∷ []) (all_groups P from.3))

    gone_closed : (i w : ℕ) → i < g.first → IsGoneOrAhead old.marks.items old.groups.items old.ahead.items i w → IsGoneOrAhead mid.marks.items before old.ahead.items i w
    gone_closed i w less gone = elim gone [
      | inl finished ↦ inl (marked_by w Finished finished)
      | inr rest ↦ elim rest [
        | inl on_path ↦
            let j = on_path.0 in
            let P : Group → Type 0 = λ f. f.first ≤ i → f.first ≤ j in
            elim (cases_lt j g.first) [
              | inl front ↦ inr (inl (j, marked_by w (OnPath j) on_path.1 ∙ after_before g.first (length old.path.items) j front, All-front P before (g ∷ []) (all_groups P on_path.2)))
              | inr behind ↦ inl (of_group w j on_path.1 behind)
            ]
        | inr later ↦
            let k = later.0 in
            let P : Group → Type 0 = λ f. f.first ≤ i → f.edges ≤ k in
            inr (inr (k, later.1, later.2, All-front P before (g ∷ []) (all_groups P later.3)))
      ]
    ]

    -- the path's vertices are those of the graph
    path_within : All (λ v. v < length graph) old.path.items
    path_within = All-from_get_or (λ v. v < length graph) old.path.items 0
        (λ i h. let there = seen_within old.marks.items (get_or old.path.items i 0) (ap is_unseen (s.path.marked i h)) in omega (arith, s.marks_long))

    -- the answer for a vertex that was finished before stands
    flag_stays : (v : ℕ) → mark_of old.marks.items v ≡ Finished → get_or mid.on_circle.items v false ≡ get_or old.on_circle.items v false
    flag_stays v finished = c.flags v ∙ ap (λ (m : Mark). cond (stands_within g.first (length old.path.items) m) on_circle (get_or old.on_circle.items v false)) finished

    flag_given : (v i : ℕ) → mark_of old.marks.items v ≡ OnPath i → g.first ≤ i → get_or mid.on_circle.items v false ≡ on_circle
    flag_given v i is from =
        let there = (s.path.placed v i is).0 in
        c.flags v ∙ ap (λ (m : Mark). cond (stands_within g.first (length old.path.items) m) on_circle (get_or old.on_circle.items v false)) is
        ∙ ap (λ (b : Bool). cond b on_circle (get_or old.on_circle.items v false)) (within_true g.first (length old.path.items) i from there)

    circles_closed : (v : ℕ) → mark_of mid.marks.items v ≡ Finished → (IsTrue (get_or mid.on_circle.items v false) ↔ IsOnCircle graph v)
    circles_closed v now =
        elim (finished_now v now) [
          | inl finished ↦ rw (flag_stays v finished) (s.finished.circles v finished)
          | inr on_path ↦
              let i = on_path.0 in
              let there = s.path.placed v i on_path.1 in
              rw (flag_given v i on_path.1 on_path.2) (subst (λ (u : ℕ). IsTrue on_circle ↔ IsOnCircle graph u) there.1 (answered on_circle says i on_path.2 there.0))
        ]

    closed_closed : (v w : ℕ) → mark_of mid.marks.items v ≡ Finished → Leads graph v w → mark_of mid.marks.items w ≡ Finished
    closed_closed v w now lead =
        elim (finished_now v now) [
          | inl finished ↦ marked_by w Finished (s.finished.closed v w finished lead)
          | inr on_path ↦
              let there = s.path.placed v on_path.0 on_path.1 in
              elim (own_edges on_path.0 w on_path.2 there.0 (subst (λ (u : ℕ). Leads graph u w) (sym there.1) lead)) [
                | inl finished ↦ marked_by w Finished finished
                | inr own ↦ of_group w own.0 own.1 own.2
              ]
        ]

    ordered_closed : (v : ℕ) → mark_of mid.marks.items v ≡ Finished → Contains (old.order.items ++ drop g.first old.path.items) v
    ordered_closed v now =
        elim (finished_now v now) [
          | inl finished ↦ Contains-append_left old.order.items (drop g.first old.path.items) v (s.finished.ordered v finished)
          | inr on_path ↦
              let i = on_path.0 in
              let there = s.path.placed v i on_path.1 in
              let at : g.first + (i - g.first) ≡ i = omega (arith, on_path.2) in
              Contains-append_right old.order.items (drop g.first old.path.items) v (
                i - g.first,
                omega (arith, there.0, on_path.2, length-drop g.first old.path.items),
                get_or-drop g.first old.path.items (i - g.first) v ∙ ap (λ (n : ℕ). get_or old.path.items n v) at ∙ get_or_default old.path.items i v 0 there.0 ∙ there.1,
              )
        ]

    behind_closed : (i w : ℕ) → i < length (old.order.items ++ drop g.first old.path.items) → (IsOnCircle graph (slice_index (old.order.items ++ drop g.first old.path.items) i) → ⊥)
        → Leads graph (slice_index (old.order.items ++ drop g.first old.path.items) i) w → (j : ℕ) × (j < i) × (slice_index (old.order.items ++ drop g.first old.path.items) j ≡ w)
    behind_closed i w h none lead =
        let order = old.order.items in
        let group = drop g.first old.path.items in
        elim (cases_lt i (length order)) [
          | inl front ↦
              let at = get_or_append_left order group 0 i front in
              let found = s.finished.behind i w front (λ circle. none (subst (λ (u : ℕ). IsOnCircle graph u) (sym at) circle)) (subst (λ (u : ℕ). Leads graph u w) at lead) in
              (found.0, found.1, get_or_append_left order group 0 found.0 (omega (arith, found.1)) ∙ found.2)
          | inr behind ↦
              let k = g.first + (i - length order) in
              let at : get_or (order ++ group) i 0 ≡ get_or old.path.items k 0 = get_or-append_right order group (length order) i 0 refl behind ∙ get_or-drop g.first old.path.items (i - length order) 0 in
              let there : k < length old.path.items = omega (arith, length-append order group, length-drop g.first old.path.items) in
              let from : g.first ≤ k = omega arith in
              let free : IsOnCircle graph (get_or old.path.items k 0) → ⊥ = λ circle. none (subst (λ (u : ℕ). IsOnCircle graph u) (sym at) circle) in
              let leads = subst (λ (u : ℕ). Leads graph u w) at lead in
              elim (cases_lt (g.first + 1) (length old.path.items)) [
                | inl more ↦ absurd (free (grouped k from there more))
                | inr one ↦ elim (alone k w from there one leads) [
                  | inl finished ↦
                      let found = s.finished.ordered w finished in
                      (found.0, omega (arith, found.1), get_or_append_left order group 0 found.0 found.1 ∙ get_or_default order found.0 0 w found.1 ∙ found.2)
                  | inr same ↦ let v = get_or old.path.items k 0 in absurd (free (at_once v v (subst (λ (u : ℕ). Leads graph v u) same leads)))
                ]
              ]
        ]

    finished_closed : AreFinished graph mid.marks.items mid.on_circle.items (old.order.items ++ drop g.first old.path.items)
    finished_closed = record {
      ordered = ordered_closed;
      vertices = All-append (λ v. v < length graph) old.order.items (drop g.first old.path.items) s.finished.vertices (All-drop (λ v. v < length graph) g.first old.path.items path_within);
      closed = closed_closed;
      circles = circles_closed;
      behind = behind_closed;
    }

    -- the search goes on without the last group
    pub closed : (new : Search) → mid.order.items ≡ old.order.items ++ drop g.first old.path.items
        → new.marks ≡ mid.marks → new.on_circle ≡ mid.on_circle → new.order ≡ mid.order → new.ahead ≡ mid.ahead
        → new.path.items ≡ take g.first old.path.items → new.groups.items ≡ before
        → GoesOn graph old new
    closed new in_order marks flags order ahead path groups =
        let still : new.ahead.items ≡ old.ahead.items = ap (λ v. v.items) ahead ∙ c.ahead in
        let now : new.order.items ≡ old.order.items ++ drop g.first old.path.items = ap (λ v. v.items) order ∙ in_order in
        let short = length-take-le g.first old.path.items (omega (arith, g_within.0)) in record {
          search = record {
            marks_long = ap (λ v. length v.items) marks ∙ c.marks_long ∙ s.marks_long;
            flags_long = ap (λ v. length v.items) flags ∙ c.flags_long ∙ s.flags_long;
            path = rw (marks, path) path_closed;
            groups = rw (path, groups, still) groups_closed;
            joined = rw (path, groups) joined_closed;
            ahead = rw (path, groups, still) ahead_closed;
            gone = rw (marks, path, groups, still) (λ i w h lead.
                let less : i < g.first = omega arith in
                gone_closed i w less (s.gone i w (omega (arith, g_within.0)) (subst (λ (u : ℕ). Leads graph u w) (get_or-take g.first old.path.items i 0 less) lead)));
            finished = rw (marks, flags, now) finished_closed;
            counted = rw (marks, path, now) (omega (arith, c.unseen, s.counted, length-append old.order.items (drop g.first old.path.items), length-drop g.first old.path.items, short, g_within.0));
          };
          seen = rw marks (λ v seen. ap is_unseen (c.marks v) ∙ after_seen g.first (length old.path.items) (mark_of old.marks.items v) seen);
          fewer = rw (marks, groups, still, last) (omega (arith, c.unseen, length_push before g));
        }
