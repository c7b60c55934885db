-- Vertices as one of them sinks.
use Rattle.std.proofs.Common.{◌≡◌, ◌≢◌, inl, inr, ℕ, ◌+◌, ◌-◌, ◌^◌, ◌<◌, ◌≤◌, ℤ, pos, ◌+ℤ◌, ◌-ℤ◌, ◌*ℤ◌, ◌≤ℤ◌, ◌<ℤ◌, to_z, of_z, List, [], ◌∷◌, ◌++◌, length, take, get_or, sym, ap, subst, ◌∙◌, arith, true, Some, None}
use Rattle.std.specs.Prelude.{◌↔◌, IsTrue, negsuc, unsigned_abs, slice_set}
use Rattle.std.specs.Int.{w64}
use Rattle.std.proofs.lemmas.Int.{ints}
use Rattle.std.proofs.lemmas.Bool.{cases_eq}
use borrow.Author.Count.{below_more}
use Rattle.std.proofs.lemmas.List.{length-set, length-take, length_push, get_or-take, get_or_push, get_or_append_left, get_or-set_same, get_or-set_other}
use Rattle.std.proofs.lemmas.List.Sums.{sum_by-set}
use lib.Signed.{le_z}
use Rattle.ag_diff.specs.declared.edges.Edge.{Edge}
use Rattle.ag_diff.specs.declared.vertices.Vertex.{Vertex}
use Rattle.ag_diff.specs.Edges.{IsWithin}
use Rattle.ag_diff.specs.Vertices.{vertex_at, value_at, height_at, IsVertex, IsCause, AreVertices, room}

-- a value lies above -2^62
pub value_low : (vs : List Vertex) (n : ℕ) → length vs ≤ 8193 → AreVertices vs → n < length vs → pos 0 ≤ℤ (value_at vs n +ℤ pos (2 ^ 62))
value_low vs n size are lt =
    let v : IsVertex vs n (vertex_at vs n) = are n lt in
    omega (arith, ints)

pub value_high : (vs : List Vertex) (n : ℕ) → AreVertices vs → n < length vs → value_at vs n ≤ℤ pos 0
value_high vs n are lt = (are n lt).high

-- what the code computes of a value and a weight
pub back_sum : (b w : ℤ) → pos 0 ≤ℤ (b +ℤ pos (2 ^ 62)) → b ≤ℤ pos 0 → negsuc (2 ^ 48) ≤ℤ w → w ≤ℤ pos (2 ^ 48 + 1) → to_z w64 (of_z w64 (to_z w64 (of_z w64 b) +ℤ to_z w64 (of_z w64 w))) ≡ b +ℤ w
back_sum b w low high small large = omega (arith, ints)

pub le_both : (a c c' : ℤ) → pos 0 ≤ℤ (a +ℤ pos (2 ^ 62)) → a ≤ℤ pos 0 → c ≡ c' → IsTrue (le_z (to_z w64 (of_z w64 a)) c) ↔ (a ≤ℤ c')
le_both a c c' low high e =
    let back : to_z w64 (of_z w64 a) ≡ a = omega (arith, ints) in
    rw (back, e) (λ h. omega (arith, ints), λ h. (let g : true ≡ le_z a c' = omega (arith, ints) in sym g))

pub abs_lt : (a b : ℤ) → pos 0 ≤ℤ a → a <ℤ b → unsigned_abs a < unsigned_abs b
abs_lt (pos a) (pos b) low lt = omega (arith, ints)
abs_lt (pos a) (negsuc b) low lt = absurd (omega (arith, ints))
abs_lt (negsuc a) b low lt = absurd (omega (arith, ints))

-- ---- a vertex sinks

-- the edge's end, where the edge holds
abbrev pub sunk : List Vertex → Edge → Vertex
sunk vs e = record { value = value_at vs e.from +ℤ e.weight; rank = (vertex_at vs e.from).rank + 1; cause = Some e }

pub at_end_of : (vs : List Vertex) (i : ℕ) (v : Vertex) → i < length vs → vertex_at (slice_set vs i v) i ≡ v
at_end_of vs i v lt = get_or-set_same vs i v (record { value = pos 0; rank = 0; cause = None }) lt

pub at_other : (vs : List Vertex) (i n : ℕ) (v : Vertex) → n ≢ i → vertex_at (slice_set vs i v) n ≡ vertex_at vs n
at_other vs i n v ne = get_or-set_other vs i n v (record { value = pos 0; rank = 0; cause = None }) ne

-- no vertex rises
no_higher : (vs : List Vertex) (e : Edge) → length vs ≤ 8193 → IsWithin (length vs) e → AreVertices vs → (value_at vs e.from +ℤ e.weight) <ℤ value_at vs e.to → (vertex_at vs e.from).rank < length vs → (n : ℕ) → height_at (slice_set vs e.to (sunk vs e)) n ≤ℤ height_at vs n
no_higher vs e size within are above rank n =
    elim (cases_eq n e.to) [
      | inl same ↦
          let new : vertex_at (slice_set vs e.to (sunk vs e)) n ≡ sunk vs e = subst (λ (m : ℕ). vertex_at (slice_set vs e.to (sunk vs e)) m ≡ sunk vs e) (sym same) (at_end_of vs e.to (sunk vs e) within.to) in
          let old : vertex_at vs n ≡ vertex_at vs e.to = ap (vertex_at vs) same in
          rw (new, old) (omega (arith, ints))
      | inr other ↦ rw (at_other vs e.to n (sunk vs e) other) (omega (arith, ints))
    ]

pub cause_other : (vs ws : List Vertex) (n : ℕ) (e : Edge) → length ws ≡ length vs → ((m : ℕ) → height_at ws m ≤ℤ height_at vs m) → vertex_at ws n ≡ vertex_at vs n → IsCause vs n e → IsCause ws n e
cause_other vs ws n e count lower same h =
    let W : ℕ → Type 0 = λ k. IsWithin k e in
    let low : height_at ws e.from ≤ℤ height_at vs e.from = lower e.from in
    let here : height_at ws n ≡ height_at vs n = ap (λ (v : Vertex). pos 16384 *ℤ v.value +ℤ pos v.rank) same in
    record {
      to = h.to;
      within = subst W (sym count) h.within;
      above = let a = h.above in omega (arith, ints);
    }

pub sunk_vertices : (vs : List Vertex) (e : Edge) → length vs ≤ 8193 → IsWithin (length vs) e → AreVertices vs → (value_at vs e.from +ℤ e.weight) <ℤ value_at vs e.to → (vertex_at vs e.from).rank < length vs → AreVertices (slice_set vs e.to (sunk vs e))
sunk_vertices vs e size within are above rank n lt =
    let ws : List Vertex = slice_set vs e.to (sunk vs e) in
    let count : length ws ≡ length vs = length-set vs e.to (sunk vs e) in
    let lower = no_higher vs e size within are above rank in
    elim (cases_eq n e.to) [
      | inl same ↦
          let new : vertex_at ws n ≡ sunk vs e = subst (λ (m : ℕ). vertex_at ws m ≡ sunk vs e) (sym same) (at_end_of vs e.to (sunk vs e) within.to) in
          let begin : IsVertex vs e.from (vertex_at vs e.from) = are e.from within.from in
          let end : IsVertex vs e.to (vertex_at vs e.to) = are e.to within.to in
          let W : ℕ → Type 0 = λ k. IsWithin k e in
          let low : height_at ws e.from ≤ℤ height_at vs e.from = lower e.from in
          let V : Vertex → Type 0 = IsVertex ws n in
          subst V (sym new) record {
            rank = omega (arith, count);
            high = let h = end.high in omega (arith, ints);
            low = let l = begin.low in let s = within.low in omega (arith, ints);
            start = λ none. absurd (cc);
            cause = λ x is.
                let it : e ≡ x = cc in
                let cause : IsCause ws n e = record {
                  to = sym same;
                  within = subst W (sym count) within;
                  above = rw new (omega (arith, ints));
                } in
                subst (IsCause ws n) it cause;
          }
      | inr other ↦
          let at : vertex_at ws n ≡ vertex_at vs n = at_other vs e.to n (sunk vs e) other in
          let old : IsVertex vs n (vertex_at vs n) = are n (omega (arith, lt, count)) in
          let V : Vertex → Type 0 = IsVertex ws n in
          subst V (sym at) record {
            rank = let r = old.rank in omega (arith, count);
            high = old.high;
            low = old.low;
            start = old.start;
            cause = λ x is. cause_other vs ws n x count lower at (old.cause x is);
          }
    ]

pub sinks : (vs : List Vertex) (e : Edge) → length vs ≤ 8193 → IsWithin (length vs) e → AreVertices vs → (value_at vs e.from +ℤ e.weight) <ℤ value_at vs e.to → (vertex_at vs e.from).rank < length vs → room (slice_set vs e.to (sunk vs e)) < room vs
sinks vs e size within are above rank =
    let f : Vertex → ℕ = λ v. unsigned_abs (v.value +ℤ pos (2 ^ 62)) in
    let low : pos 0 ≤ℤ (value_at vs e.from +ℤ e.weight +ℤ pos (2 ^ 62)) = let b = are e.from within.from in let l = b.low in let s = within.low in omega (arith, ints) in
    let less : f (sunk vs e) < f (vertex_at vs e.to) = abs_lt (value_at vs e.from +ℤ e.weight +ℤ pos (2 ^ 62)) (value_at vs e.to +ℤ pos (2 ^ 62)) low (omega (arith, ints)) in
    omega (arith, sum_by-set f vs e.to (sunk vs e) (record { value = pos 0; rank = 0; cause = None }) within.to)

-- ---- the numbers of the variables

-- one number more
pub number_more : (vs : List Vertex) (xs ys : List ℤ) (i : ℕ) (x : ℤ) → length vs ≤ 8193 → AreVertices vs → 0 < length vs → i < length (take (length vs - 1) vs) → (length xs ≡ i) × ((k : ℕ) → k < i → get_or xs k (pos 0) ≡ value_at vs k -ℤ to_z w64 (of_z w64 (value_at vs (length vs - 1)))) → x ≡ to_z w64 (of_z w64 (to_z w64 (of_z w64 (vertex_at (take (length vs - 1) vs) i).value) -ℤ to_z w64 (of_z w64 (value_at vs (length vs - 1))))) → ys ≡ xs ++ x ∷ [] → (length ys ≡ i + 1) × ((k : ℕ) → k < i + 1 → get_or ys k (pos 0) ≡ value_at vs k -ℤ to_z w64 (of_z w64 (value_at vs (length vs - 1))))
number_more vs xs ys i x size are some lt inv e push =
    let last : ℕ = length vs - 1 in
    let z : ℤ = to_z w64 (of_z w64 (value_at vs last)) in
    let below : i < last = omega (arith, lt, length-take last vs) in
    let same : vertex_at (take last vs) i ≡ vertex_at vs i = get_or-take last vs i (record { value = pos 0; rank = 0; cause = None }) below in
    let low = value_low vs i size are (omega arith) in
    let high = value_high vs i are (omega arith) in
    let low' = value_low vs last size are (omega arith) in
    let high' = value_high vs last are (omega arith) in
    let F : Vertex → ℤ = λ v. to_z w64 (of_z w64 (to_z w64 (of_z w64 v.value) -ℤ z)) in
    let code : to_z w64 (of_z w64 (to_z w64 (of_z w64 (value_at vs i)) -ℤ z)) ≡ value_at vs i -ℤ z = omega (arith, ints) in
    let is : x ≡ value_at vs i -ℤ z = e ∙ ap F same ∙ code in
    let P : ℕ → Type 0 = λ k. get_or ys k (pos 0) ≡ value_at vs k -ℤ z in (
      ap length push ∙ length_push xs x ∙ ap (λ (n : ℕ). n + 1) inv.0,
      below_more P i
          (λ k l. ap (λ (ls : List ℤ). get_or ls k (pos 0)) push ∙ get_or_append_left xs (x ∷ []) (pos 0) k (omega (arith, l, inv.0)) ∙ inv.1 k l)
          (ap (λ (ls : List ℤ). get_or ls i (pos 0)) push ∙ get_or_push xs x (pos 0) i inv.0 ∙ is),
    )
