-- Vertices of the path get the mark of finished ones.
use Rattle.std.proofs.Common.{◌≡◌, ℕ, ◌+◌, ◌-◌, ◌<◌, ◌≤◌, Bool, true, false, cond, leb, ltb, List, [], ◌∷◌, ◌++◌, length, get_or, set, take, drop, sym, ap, ◌∙◌, refl, inl, inr, arith}
use Rattle.std.proofs.lemmas.Bool.{cases_lt, cases_eq, cases_order, and_from, and_left, and_right, le-leb, lt-leb, lt-ltb, le-ltb, false≢true}
use Rattle.std.proofs.lemmas.List.{get_or-set_same, get_or-set_other, get_or_past, get_or-drop, length-set, length-drop, take_more, append_assoc}
use Rattle.ag_graph.specs.declared.search.Mark.{Mark}
use Rattle.ag_graph.specs.declared.search.Mark.TheVariants.{Unseen, OnPath, Finished}
use Rattle.ag_graph.specs.declared.search.Search.{Search}
use Rattle.ag_graph.specs.Search.{mark_of, is_unseen, stands_within, IsPath, AreClosed}
use Rattle.ag_graph.proofs.Marks.{mark-set, mark-set_other, unseen-set}

pub within_true : (first end i : ℕ) → first ≤ i → i < end → stands_within first end (OnPath i) ≡ true
within_true first end i h k = and_from (leb first i) (ltb i end) (le-leb first i h) (lt-ltb i end k)

pub within_before : (first end i : ℕ) → i < first → stands_within first end (OnPath i) ≡ false
within_before first end i h = and_left (leb first i) (ltb i end) (lt-leb first i h)

within_behind : (first end i : ℕ) → end ≤ i → stands_within first end (OnPath i) ≡ false
within_behind first end i h = and_right (leb first i) (ltb i end) (le-ltb i end h)

-- a place more makes a difference for the vertex of this place alone
within_more : (first end : ℕ) (m : Mark) → (m ≡ OnPath end → ⊥) → stands_within first (end + 1) m ≡ stands_within first end m
within_more first end Unseen other = refl
within_more first end (OnPath i) other =
    elim (cases_order i end) [
      | inl same ↦ absurd (other (ap OnPath same))
      | inr apart ↦ elim apart [
        | inl less ↦ elim (cases_lt i first) [
          | inl before ↦ within_before first (end + 1) i before ∙ sym (within_before first end i before)
          | inr from ↦ within_true first (end + 1) i from (omega arith) ∙ sym (within_true first end i from less)
        ]
        | inr more ↦ within_behind first (end + 1) i (omega arith) ∙ sym (within_behind first end i (omega arith))
      ]
    ]
within_more first end Finished other = refl

-- a vertex that was seen is one of the graph
pub seen_within : (marks : List Mark) (v : ℕ) → is_unseen (mark_of marks v) ≡ false → v < length marks
seen_within marks v seen =
    elim (cases_lt v (length marks)) [
      | inl within ↦ within
      | inr past ↦ absurd (false≢true (sym seen ∙ ap is_unseen (get_or_past marks v Unseen past)))
    ]

seen_either : (b : Bool) (i : ℕ) → is_unseen (cond b Finished (OnPath i)) ≡ false
seen_either true i = refl
seen_either false i = refl

-- one vertex more is finished
pub closed_more : (first place : ℕ) (on_circle : Bool) (old mid new : Search) (v : ℕ)
    → IsPath old.marks.items old.path.items → length old.on_circle.items ≡ length old.marks.items → first ≤ place → place < length old.path.items → AreClosed first place on_circle old mid
    → v ≡ get_or old.path.items place 0
    → new.marks.items ≡ set mid.marks.items v Finished → new.on_circle.items ≡ set mid.on_circle.items v on_circle → new.path.items ≡ mid.path.items → new.groups.items ≡ mid.groups.items → new.ahead.items ≡ mid.ahead.items
    → AreClosed first (place + 1) on_circle old new
closed_more first place on_circle old mid new v path long from there c is marks flags same_path groups ahead =
    let marked : mark_of old.marks.items v ≡ OnPath place = ap (mark_of old.marks.items) is ∙ path.marked place there in
    let in_graph : v < length old.marks.items = seen_within old.marks.items v (ap is_unseen marked) in
    let in_mid : v < length mid.marks.items = omega (arith, c.marks_long) in
    let in_flags : v < length mid.on_circle.items = omega (arith, c.flags_long) in
    let now : stands_within first (place + 1) (mark_of old.marks.items v) ≡ true = ap (stands_within first (place + 1)) marked ∙ within_true first (place + 1) place from (omega arith) in
    let later : (u : ℕ) → (u ≡ v → ⊥) → stands_within first (place + 1) (mark_of old.marks.items u) ≡ stands_within first place (mark_of old.marks.items u) = λ u other.
    within_more first place (mark_of old.marks.items u) (λ same. other (sym (path.placed u place same).1 ∙ sym is)) in record {
      marks_long = ap length marks ∙ length-set mid.marks.items v Finished ∙ c.marks_long;
      flags_long = ap length flags ∙ length-set mid.on_circle.items v on_circle ∙ c.flags_long;
      marks = λ u. elim (cases_eq u v) [
        | inl same ↦
            rw (marks, same) (mark-set mid.marks.items v Finished in_mid ∙ sym (ap (λ (b : Bool). cond b Finished (mark_of old.marks.items v)) now))
        | inr other ↦
            rw marks (mark-set_other mid.marks.items v u Finished other ∙ c.marks u ∙ sym (ap (λ (b : Bool). cond b Finished (mark_of old.marks.items u)) (later u other)))
      ];
      flags = λ u. elim (cases_eq u v) [
        | inl same ↦
            rw (flags, same) (get_or-set_same mid.on_circle.items v on_circle false in_flags ∙ sym (ap (λ (b : Bool). cond b on_circle (get_or old.on_circle.items v false)) now))
        | inr other ↦
            rw flags (get_or-set_other mid.on_circle.items v u on_circle false other ∙ c.flags u ∙ sym (ap (λ (b : Bool). cond b on_circle (get_or old.on_circle.items u false)) (later u other)))
      ];
      unseen =
          let was : is_unseen (mark_of mid.marks.items v) ≡ false =
          ap is_unseen (c.marks v) ∙ ap (λ (m : Mark). is_unseen (cond (stands_within first place m) Finished m)) marked ∙ seen_either (stands_within first place (OnPath place)) place in
          let none : cond {A = ℕ} (is_unseen (mark_of mid.marks.items v)) 1 0 ≡ 0 = ap (λ (b : Bool). cond {A = ℕ} b 1 0) was in
          let count = unseen-set mid.marks.items v Finished in_mid in
          rw marks (omega (arith, count, none, c.unseen));
      path = same_path ∙ c.path;
      groups = groups ∙ c.groups;
      ahead = ahead ∙ c.ahead;
    }

-- the order of those that are finished has one more
pub order_more : (order path : List ℕ) (first place : ℕ) → first ≤ place → place < length path
    → (order ++ take (place - first) (drop first path)) ++ get_or path place 0 ∷ [] ≡ order ++ take (place + 1 - first) (drop first path)
order_more order path first place from there =
    let within : place - first < length (drop first path) = omega (arith, length-drop first path) in
    let at : first + (place - first) ≡ place = omega arith in
    let next : place - first + 1 ≡ place + 1 - first = omega arith in
    append_assoc order (take (place - first) (drop first path)) (get_or path place 0 ∷ [])
    ∙ ap (λ (xs : List ℕ). order ++ xs)
    (ap (λ (x : ℕ). take (place - first) (drop first path) ++ x ∷ []) (sym (get_or-drop first path (place - first) 0 ∙ ap (λ (n : ℕ). get_or path n 0) at))
    ∙ sym (take_more (drop first path) (place - first) 0 within) ∙ ap (λ (n : ℕ). take n (drop first path)) next)
