-- A vertex is put at the end of the path.
use Rattle.std.proofs.Common.{◌≡◌, ℕ, ◌+◌, ◌-◌, ◌<◌, ◌≤◌, Bool, true, false, cond, List, [], ◌∷◌, ◌++◌, length, get_or, set, sym, ap, subst, ◌∙◌, refl, inl, inr, arith}
use Rattle.std.specs.List.{count_by}
use Rattle.std.specs.Prelude.{slice_index}
use Rattle.std.proofs.lemmas.Bool.{cases_lt, cases_eq, false≢true}
use Rattle.std.proofs.lemmas.List.{get_or_append_left, get_or_push, get_or-append_right, get_or-append-add, get_or_default, length-append, length_push, length-set}
use Rattle.std.proofs.lemmas.List.Elements.{All-push, Contains-get_or}
use Rattle.std.proofs.lemmas.List.Quantifiers.{all_pairs_push, Any-push}
use Rattle.ag_graph.specs.declared.search.Mark.{Mark}
use Rattle.ag_graph.specs.declared.search.Mark.TheVariants.{OnPath, Finished}
use Rattle.ag_graph.specs.declared.search.Group.{Group}
use Rattle.ag_graph.specs.declared.search.Search.{Search}
use Rattle.ag_graph.specs.Circles.{Leads, Reaches}
use Rattle.ag_graph.specs.Search.{mark_of, is_unseen, IsPath, AreGroups, AreJoined, AreAhead, IsGoneOrAhead, AreFinished, IsSearch, GoesOn}
use Rattle.ag_graph.proofs.Paths.{All-front, All-last, Any-front}
use Rattle.ag_graph.proofs.Marks.{mark-set, mark-set_other, unseen-set, finished_kept}

module _ (marks : List Mark) (path : List ℕ) (v : ℕ) (there : v < length marks) (unseen : is_unseen (mark_of marks v) ≡ true) where
  -- a vertex that was seen keeps its mark
  pub mark_kept : (u : ℕ) → is_unseen (mark_of marks u) ≡ false → mark_of (set marks v (OnPath (length path))) u ≡ mark_of marks u
  mark_kept u seen = mark-set_other marks v u (OnPath (length path)) (λ same. false≢true (sym seen ∙ ap (λ (w : ℕ). is_unseen (mark_of marks w)) same ∙ unseen))

  seen_by : (u : ℕ) (m : Mark) → mark_of marks u ≡ m → is_unseen m ≡ false → mark_of (set marks v (OnPath (length path))) u ≡ m
  seen_by u m is seen = mark_kept u (ap is_unseen is ∙ seen) ∙ is

  pub path_opened : IsPath marks path → IsPath (set marks v (OnPath (length path))) (path ++ v ∷ [])
  path_opened p = record {
    marked = λ i h. elim (cases_lt i (length path)) [
      | inl front ↦
          rw (get_or_append_left path (v ∷ []) 0 i front) (seen_by (get_or path i 0) (OnPath i) (p.marked i front) refl)
      | inr behind ↦
          let last : length path ≡ i = omega (arith, length_push path v) in
          rw (get_or_push path v 0 i last) (mark-set marks v (OnPath (length path)) there ∙ ap OnPath last)
    ];
    placed = λ u i h. elim (cases_eq u v) [
      | inl same ↦
          let is : OnPath (length path) ≡ OnPath i = sym (mark-set marks v (OnPath (length path)) there) ∙ ap (mark_of (set marks v (OnPath (length path)))) (sym same) ∙ h in
          let last : length path ≡ i = cc in
          (omega (arith, length_push path v), get_or_push path v 0 i last ∙ sym same)
      | inr other ↦
          let old = p.placed u i (sym (mark-set_other marks v u (OnPath (length path)) other) ∙ h) in
          (omega (arith, old.0, length_push path v), get_or_append_left path (v ∷ []) 0 i old.0 ∙ old.1)
    ];
  }

  pub finished_opened : (graph : List (List ℕ)) (on_circle : List Bool) (order : List ℕ) → AreFinished graph marks on_circle order → AreFinished graph (set marks v (OnPath (length path))) on_circle order
  finished_opened graph on_circle order f =
      finished_kept graph marks (set marks v (OnPath (length path))) on_circle order
      (λ u h. elim (cases_eq u v) [
        | inl same ↦
            let is : OnPath (length path) ≡ Finished = sym (mark-set marks v (OnPath (length path)) there) ∙ ap (mark_of (set marks v (OnPath (length path)))) (sym same) ∙ h in
            absurd cc
        | inr other ↦ sym (mark-set_other marks v u (OnPath (length path)) other) ∙ h
      ])
      (λ u h. seen_by u Finished h refl)
      f

  pub unseen_opened : count_by is_unseen (set marks v (OnPath (length path))) + 1 ≡ count_by is_unseen marks
  unseen_opened =
      let counts = unseen-set marks v (OnPath (length path)) there in
      let one : cond {A = ℕ} (is_unseen (mark_of marks v)) 1 0 ≡ 1 = ap (λ (b : Bool). cond {A = ℕ} b 1 0) unseen in
      omega (arith, counts, one)

  pub gone_opened : (groups : List Group) (g : Group) (ahead targets : List ℕ) (i w : ℕ) → i < g.first
      → IsGoneOrAhead marks groups ahead i w → IsGoneOrAhead (set marks v (OnPath (length path))) (groups ++ g ∷ []) (ahead ++ targets) i w
  gone_opened groups g ahead targets i w before gone = elim gone [
    | inl finished ↦ inl (seen_by w Finished finished refl)
    | inr rest ↦ elim rest [
      | inl on_path ↦ inr (inl (on_path.0, seen_by w (OnPath on_path.0) on_path.1 refl, All-push (λ (h : Group). h.first ≤ i → h.first ≤ on_path.0) groups g on_path.2 (λ le. absurd (omega arith))))
      | inr later ↦
          let k = later.0 in
          inr (inr (k, omega (arith, later.1, length-append ahead targets), get_or_append_left ahead targets 0 k later.1 ∙ later.2, All-push (λ (h : Group). h.first ≤ i → h.edges ≤ k) groups g later.3 (λ le. absurd (omega arith))))
    ]
  ]

module _ (path : List ℕ) (groups : List Group) (ahead : List ℕ) (g : Group) (first : g.first ≡ length path) (edges : g.edges ≡ length ahead) (are : AreGroups path groups ahead) where
  pub groups_opened : (v : ℕ) (targets : List ℕ) → AreGroups (path ++ v ∷ []) (groups ++ g ∷ []) (ahead ++ targets)
  groups_opened v targets = record {
    sorted = all_pairs_push (λ (h i : Group). (h.first < i.first) × (h.edges ≤ i.edges)) groups g are.sorted (λ k d h. (omega (arith, (are.within k d h).0), omega (arith, (are.within k d h).1)));
    within = All-push (λ (h : Group). (h.first < length (path ++ v ∷ [])) × (h.edges ≤ length (ahead ++ targets))) groups g
        (λ k d h. (omega (arith, (are.within k d h).0, length_push path v), omega (arith, (are.within k d h).1, length-append ahead targets)))
        (omega (arith, length_push path v), omega (arith, length-append ahead targets));
    begins = λ some. elim (cases_lt 0 (length path)) [
      | inl more ↦ Any-front (λ (h : Group). h.first ≡ 0) groups (g ∷ []) (are.begins more)
      | inr none ↦ Any-push (λ (h : Group). h.first ≡ 0) groups g (omega arith)
    ];
  }

  pub joined_opened : (graph : List (List ℕ)) (v : ℕ) → ((i : ℕ) → i < length path → Reaches graph (slice_index path i) v) → AreJoined graph path groups → AreJoined graph (path ++ v ∷ []) (groups ++ g ∷ [])
  joined_opened graph v reached joined = λ i j hi hj later.
      elim (cases_lt i (length path)) [
        | inl front ↦ elim (cases_lt j (length path)) [
          | inl before ↦
              rw (get_or_append_left path (v ∷ []) 0 i front, get_or_append_left path (v ∷ []) 0 j before)
              (joined i j front before (All-front (λ (h : Group). h.first ≤ i → h.first ≤ j) groups (g ∷ []) later))
          | inr last ↦
              let is : length path ≡ j = omega (arith, length_push path v) in
              rw (get_or_append_left path (v ∷ []) 0 i front, get_or_push path v 0 j is) (inr (reached i front))
        ]
        | inr behind ↦
            let is : length path ≡ i = omega (arith, length_push path v) in
            let le : g.first ≤ j = All-last (λ (h : Group). h.first ≤ i → h.first ≤ j) groups g later (omega arith) in
            let same : length path ≡ j = omega (arith, length_push path v) in
            rw (get_or_push path v 0 i is, get_or_push path v 0 j same) (inl refl)
      ]

  pub ahead_opened : (graph : List (List ℕ)) (v : ℕ) → AreAhead graph path groups ahead → AreAhead graph (path ++ v ∷ []) (groups ++ g ∷ []) (ahead ++ get_or graph v [])
  ahead_opened graph v old = λ k hk.
      let targets = get_or graph v [] in
      elim (cases_lt k (length ahead)) [
        | inl front ↦
            let a = old k front in
            let i = a.0 in (
              i,
              omega (arith, a.1, length_push path v),
              rw (get_or_append_left path (v ∷ []) 0 i a.1, get_or_append_left ahead targets 0 k front) a.2,
              All-push (λ (h : Group). (h.edges ≤ k → h.first ≤ i) × (h.first ≤ i → h.edges ≤ k)) groups g a.3 (λ le. absurd (omega arith), λ le. absurd (omega (arith, a.1))),
            )
        | inr behind ↦ (
          length path,
          omega (arith, length_push path v),
          rw (get_or_push path v 0 (length path) refl, get_or-append_right ahead targets (length ahead) k 0 refl behind) (Contains-get_or targets (k - length ahead) 0 (omega (arith, length-append ahead targets))),
          All-push (λ (h : Group). (h.edges ≤ k → h.first ≤ length path) × (h.first ≤ length path → h.edges ≤ k)) groups g (λ m d h. (λ le. omega (arith, (are.within m d h).0), λ le. omega (arith, (are.within m d h).1))) (λ le. omega arith, λ le. omega arith),
        )
      ]

  -- the new vertex's own edges are all ahead
  pub own_ahead : (graph : List (List ℕ)) (marks : List Mark) (v w : ℕ) → Leads graph v w → IsGoneOrAhead marks (groups ++ g ∷ []) (ahead ++ get_or graph v []) (length path) w
  own_ahead graph marks v w lead =
      let targets = get_or graph v [] in
      let k = length ahead + lead.0 in
      let at : get_or targets lead.0 0 ≡ w = get_or_default targets lead.0 0 w lead.1 ∙ lead.2 in
      inr (inr (
        k,
        omega (arith, lead.1, length-append ahead targets),
        get_or-append-add ahead targets lead.0 0 ∙ at,
        All-push (λ (h : Group). h.first ≤ length path → h.edges ≤ k) groups g (λ m d h le. omega (arith, (are.within m d h).1)) (λ le. omega arith),
      ))

-- the search goes on by a vertex more on the path
pub opened : (graph : List (List ℕ)) (old new : Search) (v : ℕ) (g : Group)
    → v < length graph → IsSearch graph old → is_unseen (mark_of old.marks.items v) ≡ true → ((i : ℕ) → i < length old.path.items → Reaches graph (slice_index old.path.items i) v)
    → g.first ≡ length old.path.items → g.edges ≡ length old.ahead.items
    → new.marks.items ≡ set old.marks.items v (OnPath (length old.path.items)) → new.path.items ≡ old.path.items ++ v ∷ [] → new.groups.items ≡ old.groups.items ++ g ∷ []
    → new.ahead.items ≡ old.ahead.items ++ get_or graph v [] → new.on_circle.items ≡ old.on_circle.items → new.order.items ≡ old.order.items
    → GoesOn graph old new
opened graph old new v g in_graph s unseen reached first edges marks path groups ahead on_circle order =
    let there : v < length old.marks.items = omega (arith, s.marks_long) in
    let count = unseen_opened old.marks.items old.path.items v there unseen in record {
      search = record {
        marks_long = ap length marks ∙ length-set old.marks.items v (OnPath (length old.path.items)) ∙ s.marks_long;
        flags_long = ap length on_circle ∙ s.flags_long;
        path = rw (marks, path) (path_opened old.marks.items old.path.items v there unseen s.path);
        groups = rw (path, groups, ahead) (groups_opened old.path.items old.groups.items old.ahead.items g first edges s.groups v (get_or graph v []));
        joined = rw (path, groups) (joined_opened old.path.items old.groups.items old.ahead.items g first edges s.groups graph v reached s.joined);
        ahead = rw (path, groups, ahead) (ahead_opened old.path.items old.groups.items old.ahead.items g first edges s.groups graph v s.ahead);
        gone = rw (marks, path, groups, ahead) (λ i w h lead. elim (cases_lt i (length old.path.items)) [
          | inl front ↦
              gone_opened old.marks.items old.path.items v there unseen old.groups.items g old.ahead.items (get_or graph v []) i w (omega arith)
              (s.gone i w front (subst (λ (u : ℕ). Leads graph u w) (get_or_append_left old.path.items (v ∷ []) 0 i front) lead))
          | inr behind ↦
              let is : length old.path.items ≡ i = omega (arith, length_push old.path.items v) in
              subst (λ (n : ℕ). IsGoneOrAhead (set old.marks.items v (OnPath (length old.path.items))) (old.groups.items ++ g ∷ []) (old.ahead.items ++ get_or graph v []) n w) is
              (own_ahead old.path.items old.groups.items old.ahead.items g first edges s.groups graph (set old.marks.items v (OnPath (length old.path.items))) v w
              (subst (λ (u : ℕ). Leads graph u w) (get_or_push old.path.items v 0 i is) lead))
        ]);
        finished = rw (marks, on_circle, order) (finished_opened old.marks.items old.path.items v there unseen graph old.on_circle.items old.order.items s.finished);
        counted = rw (marks, path, order) (omega (arith, count, s.counted, length_push old.path.items v));
      };
      seen = λ u seen. rw marks (ap is_unseen (mark_kept old.marks.items old.path.items v there unseen u seen) ∙ seen);
      fewer = rw marks (omega (arith, count, new.ahead.ok, new.groups.ok));
    }
