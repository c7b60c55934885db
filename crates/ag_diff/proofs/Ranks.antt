-- Vertices as the rank of one of them falls.
use Rattle.std.proofs.Common.{◌≡◌, inl, inr, ℕ, ◌+◌, ◌*◌, ◌^◌, ◌<◌, ◌≤◌, min, pos, ◌+ℤ◌, ◌*ℤ◌, ◌≤ℤ◌, ◌<ℤ◌, List, [], ◌∷◌, ◌++◌, length, sym, ap, subst, ◌∙◌, arith, All, Some, None}
use Rattle.std.specs.Prelude.{slice_set}
use Rattle.std.proofs.lemmas.Int.{ints}
use Rattle.std.proofs.lemmas.Bool.{cases_eq, cases_lt}
use Rattle.std.proofs.lemmas.List.{length-set, length_push, set_past}
use Rattle.ag_diff.specs.declared.edges.Edge.{Edge}
use Rattle.ag_diff.specs.declared.vertices.Vertex.{Vertex}
use Rattle.ag_diff.specs.Edges.{IsWithin}
use Rattle.ag_diff.specs.Cycles.{Leads}
use Rattle.ag_diff.specs.Vertices.{vertex_at, height_at, IsVertex, IsCause, AreVertices}
use Rattle.ag_diff.specs.Climbs.{IsLastCause, IsWayUp, IsWayDown, SameButRanks}
use Rattle.ag_diff.proofs.Values.{at_end_of, at_other, cause_other}
use Rattle.ag_diff.proofs.Rows.{All_front, All_last}

-- the vertex with this rank
abbrev pub ranked : List Vertex → ℕ → ℕ → Vertex
ranked vs i r = record { value = (vertex_at vs i).value; rank = r; cause = (vertex_at vs i).cause }

-- no vertex rises
ranked_lower : (vs : List Vertex) (i r : ℕ) → i < length vs → r ≤ (vertex_at vs i).rank → (n : ℕ) → height_at (slice_set vs i (ranked vs i r)) n ≤ℤ height_at vs n
ranked_lower vs i r lt less n =
    let ws : List Vertex = slice_set vs i (ranked vs i r) in
    elim (cases_eq n i) [
      | inl same ↦
          let new : vertex_at ws n ≡ ranked vs i r = subst (λ (m : ℕ). vertex_at ws m ≡ ranked vs i r) (sym same) (at_end_of vs i (ranked vs i r) lt) in
          let old : vertex_at vs n ≡ vertex_at vs i = ap (vertex_at vs) same in
          rw (new, old) (omega (arith, ints))
      | inr other ↦ rw (at_other vs i n (ranked vs i r) other) (omega (arith, ints))
    ]

pub ranked_vertices : (vs : List Vertex) (i r : ℕ) → i < length vs → AreVertices vs → r ≤ (vertex_at vs i).rank → pos 0 ≤ℤ ((vertex_at vs i).value +ℤ pos (2 ^ 60 + (2 ^ 48 + 1) * r)) → ((e : Edge) → (vertex_at vs i).cause ≡ Some e → (pos 16384 *ℤ e.weight +ℤ height_at vs e.from) <ℤ (pos 16384 *ℤ (vertex_at vs i).value +ℤ pos r)) → AreVertices (slice_set vs i (ranked vs i r))
ranked_vertices vs i r there are less low above n lt =
    let ws : List Vertex = slice_set vs i (ranked vs i r) in
    let count : length ws ≡ length vs = length-set vs i (ranked vs i r) in
    let lower = ranked_lower vs i r there less in
    elim (cases_eq n i) [
      | inl same ↦
          let new : vertex_at ws n ≡ ranked vs i r = subst (λ (m : ℕ). vertex_at ws m ≡ ranked vs i r) (sym same) (at_end_of vs i (ranked vs i r) there) in
          let old : IsVertex vs i (vertex_at vs i) = are i there in
          let V : Vertex → Type 0 = IsVertex ws n in
          let height : height_at ws n ≡ pos 16384 *ℤ (vertex_at vs i).value +ℤ pos r = ap (λ (v : Vertex). pos 16384 *ℤ v.value +ℤ pos v.rank) new in
          subst V (sym new) record {
            rank = let o = old.rank in omega (arith, count);
            high = old.high;
            low = low;
            start = old.start;
            cause = λ e is.
                let cause : IsCause vs i e = old.cause e is in
                let begin : height_at ws e.from ≤ℤ height_at vs e.from = lower e.from in
                let under = above e is in
                let W : ℕ → Type 0 = λ k. IsWithin k e in
                record {
                  to = cause.to ∙ sym same;
                  within = subst W (sym count) cause.within;
                  above = omega (arith, ints);
                };
          }
      | inr other ↦
          let at : vertex_at ws n ≡ vertex_at vs n = at_other vs i n (ranked vs i r) other in
          let old : IsVertex vs n (vertex_at vs n) = are n (omega (arith, lt, count)) in
          let V : Vertex → Type 0 = IsVertex ws n in
          subst V (sym at) record {
            rank = let o = old.rank in omega (arith, count);
            high = old.high;
            low = old.low;
            start = old.start;
            cause = λ e is. cause_other vs ws n e count lower at (old.cause e is);
          }
    ]

pub ranked_same : (vs : List Vertex) (i r : ℕ) → SameButRanks vs (slice_set vs i (ranked vs i r))
ranked_same vs i r =
    let ws : List Vertex = slice_set vs i (ranked vs i r) in
    record {
      count = length-set vs i (ranked vs i r);
      values = λ n. (both n).0;
      causes = λ n. (both n).1;
    }
  where
    both : (n : ℕ) → ((vertex_at (slice_set vs i (ranked vs i r)) n).value ≡ (vertex_at vs n).value) × ((vertex_at (slice_set vs i (ranked vs i r)) n).cause ≡ (vertex_at vs n).cause)
    both n =
        let ws : List Vertex = slice_set vs i (ranked vs i r) in
        elim (cases_lt i (length vs)) [
          | inl there ↦
              elim (cases_eq n i) [
                | inl same ↦
                    let new : vertex_at ws n ≡ ranked vs i r = subst (λ (m : ℕ). vertex_at ws m ≡ ranked vs i r) (sym same) (at_end_of vs i (ranked vs i r) there) in
                    let old : vertex_at vs n ≡ vertex_at vs i = ap (vertex_at vs) same in
                    (ap (λ (v : Vertex). v.value) new ∙ ap (λ (v : Vertex). v.value) (sym old), ap (λ (v : Vertex). v.cause) new ∙ ap (λ (v : Vertex). v.cause) (sym old))
                | inr other ↦
                    let at : vertex_at ws n ≡ vertex_at vs n = at_other vs i n (ranked vs i r) other in
                    (ap (λ (v : Vertex). v.value) at, ap (λ (v : Vertex). v.cause) at)
              ]
          | inr out ↦
              let same : ws ≡ vs = set_past vs i (ranked vs i r) out in
              (ap (λ (us : List Vertex). (vertex_at us n).value) same, ap (λ (us : List Vertex). (vertex_at us n).cause) same)
        ]

-- the rank at the edge's end falls to a rank above that at its begin
pub lowered_vertices : (vs : List Vertex) (e : Edge) (r : ℕ) → length vs ≤ 8193 → AreVertices vs → IsLastCause vs e → (vertex_at vs e.from).rank < r → AreVertices (slice_set vs e.to (ranked vs e.to (min (vertex_at vs e.to).rank r)))
lowered_vertices vs e r size are last begin =
    let end : IsVertex vs e.to (vertex_at vs e.to) = are e.to last.there in
    let cause : IsCause vs e.to e = end.cause e last.cause in
    let from : IsVertex vs e.from (vertex_at vs e.from) = are e.from cause.within.from in
    let above = cause.above in
    let low = end.low in
    let low' = from.low in
    let small = cause.within.low in
    let rank = end.rank in
    let rank' = from.rank in
    ranked_vertices vs e.to (min (vertex_at vs e.to).rank r) last.there are (omega arith) (omega (arith, ints)) (λ x is. let it : e ≡ x = cc in subst (λ (y : Edge). (pos 16384 *ℤ y.weight +ℤ height_at vs y.from) <ℤ (pos 16384 *ℤ (vertex_at vs e.to).value +ℤ pos (min (vertex_at vs e.to).rank r))) it (omega (arith, ints)))

-- the rank of one that never sank falls to 0
pub top_vertices : (vs : List Vertex) (i : ℕ) → i < length vs → AreVertices vs → (vertex_at vs i).cause ≡ None → AreVertices (slice_set vs i (ranked vs i 0))
top_vertices vs i there are none =
    let low = (are i there).start none in
    ranked_vertices vs i 0 there are (omega arith) (omega (arith, ints)) (λ x is. absurd (cc))

-- ---- the way down

causes_same : (vs ws : List Vertex) (path : List Edge) → SameButRanks vs ws → All (IsLastCause vs) path → All (IsLastCause ws) path
causes_same vs ws path same all k d lt =
    let e : IsLastCause vs _ = all k d lt in
    record {
      there = omega (arith, e.there, same.count);
      cause = same.causes _ ∙ e.cause;
    }

-- from the top on
pub down_begin : (vs ws : List Vertex) (at top : ℕ) (path : List Edge) → SameButRanks vs ws → (vertex_at ws top).rank ≡ 0 → IsWayUp vs at top path → IsWayDown ws at path 0
down_begin vs ws at top path same zero' way = record {
  now = top;
  leads = way.leads;
  low = omega (arith, zero');
  causes = causes_same vs ws path same way.causes;
  short = let s = way.short in omega (arith, same.count);
}

leads_pop : (v : ℕ) (es : List Edge) (e : Edge) (now : ℕ) → Leads v (es ++ e ∷ []) now → (e.from ≡ now) × Leads v es e.to
leads_pop v [] e now h = (h.1, sym h.0)
leads_pop v (x ∷ xs) e now h =
    let r = leads_pop x.from xs e now h.1 in
    (r.0, (h.0, r.1))

-- the last edge of what is left
pub down_at : (vs : List Vertex) (at : ℕ) (path rest : List Edge) (e : Edge) (r : ℕ) → path ≡ rest ++ e ∷ [] → IsWayDown vs at path r → IsLastCause vs e × ((vertex_at vs e.from).rank < r + 1) × (r + 1 + length rest < length vs)
down_at vs at path rest e r is way =
    let L : List Edge → Type 0 = λ es. Leads at es way.now in
    let A : List Edge → Type 0 = All (IsLastCause vs) in
    let pop = leads_pop at rest e way.now (subst L is way.leads) in
    let low : (vertex_at vs e.from).rank ≡ (vertex_at vs way.now).rank = ap (λ (n : ℕ). (vertex_at vs n).rank) pop.0 in
    let more = way.low in
    let short = way.short in
    (All_last (IsLastCause vs) rest e (subst A is way.causes), omega (arith, low), omega (arith, ap (λ (es : List Edge). length es) is, length_push rest e))

pub down_more : (vs ws : List Vertex) (at : ℕ) (path rest : List Edge) (e : Edge) (r : ℕ) → path ≡ rest ++ e ∷ [] → SameButRanks vs ws → (vertex_at ws e.to).rank ≤ r + 1 → IsWayDown vs at path r → IsWayDown ws at rest (r + 1)
down_more vs ws at path rest e r is same low way =
    let L : List Edge → Type 0 = λ es. Leads at es way.now in
    let A : List Edge → Type 0 = All (IsLastCause vs) in
    let pop = leads_pop at rest e way.now (subst L is way.leads) in
    let short = way.short in
    record {
      now = e.to;
      leads = pop.1;
      low = low;
      causes = causes_same vs ws rest same (All_front (IsLastCause vs) rest e (subst A is way.causes));
      short = omega (arith, same.count, ap (λ (es : List Edge). length es) is, length_push rest e);
    }

pub same_twice : (us vs ws : List Vertex) → SameButRanks us vs → SameButRanks vs ws → SameButRanks us ws
same_twice us vs ws a b = record {
  count = b.count ∙ a.count;
  values = λ n. b.values n ∙ a.values n;
  causes = λ n. b.causes n ∙ a.causes n;
}
