-- What the engine answers, from what its parts found.
use Rattle.std.proofs.Common.{◌≡◌, inl, inr, ℕ, ◌+◌, ◌-◌, ◌^◌, ◌<◌, ◌≤◌, ℤ, pos, ◌+ℤ◌, ◌-ℤ◌, ◌≤ℤ◌, List, length, map, get_or, sym, ap, ◌∙◌, arith, All, Some}
use Rattle.std.specs.Prelude.{negsuc, unsigned_abs, Contains}
use Rattle.std.proofs.lemmas.Int.{ints}
use Rattle.std.proofs.lemmas.Bool.{cases_lt}
use Rattle.std.proofs.lemmas.List.{get_or_past, get_or_default, get_or-take}
use Rattle.std.proofs.lemmas.List.Elements.{All-map, All-weaker, All-contains}
use Rattle.ag_query.specs.declared.rows.Atom.{Atom}
use Rattle.ag_query.specs.declared.rows.Atom.TheVariants.{Free}
use Rattle.ag_query.specs.declared.rows.LRow.{LRow}
use Rattle.ag_query.specs.declared.clauses.Lit.{Lit}
use Rattle.ag_query.specs.Meaning.{contrary}
use Rattle.ag_kernel.specs.State.{State, IsSound}
use Rattle.ag_kernel.specs.Rules.{row_of, row_at, line_at}
use Rattle.ag_kernel.specs.Theories.{numbers_at, RowIsAsSaid, SatisfiesRows, RefutesLits}
use Rattle.ag_diff.specs.declared.edges.Edge.{Edge}
use Rattle.ag_diff.specs.declared.vertices.Vertex.{Vertex}
use Rattle.ag_diff.specs.Differences.{IsFitting}
use Rattle.ag_diff.specs.Edges.{HoldsAt, IsWithin, IsSaid}
use Rattle.ag_diff.specs.Vertices.{value_at, IsVertex, vertex_at, AreVertices}

-- ---- the kernel's atoms begin with the query's

row_kept : (s : State) (n : ℕ) → IsSound s → n < length s.query.atoms → row_at s.atoms n ≡ row_at s.query.atoms n
row_kept s n sound lt = ap row_of (sym (get_or-take (length s.query.atoms) s.atoms n Free lt) ∙ ap (λ (as' : List Atom). get_or as' n Free) sound.begins)

some_there : (atoms : List Atom) (n : ℕ) (row : LRow) → row_at atoms n ≡ Some row → n < length atoms
some_there atoms n row some =
    elim (cases_lt n (length atoms)) [
      | inl lt ↦ lt
      | inr out ↦
          let none = ap row_of (get_or_past atoms n Free out) in
          absurd (cc)
    ]

said_kept : (s : State) (e : Edge) → IsSound s → IsSaid s.query.vars s.query.atoms e → IsSaid s.query.vars s.atoms e
said_kept s e sound h = record {
  within = h.within;
  row = h.row;
  is_row = row_kept s e.lit.atom sound (some_there s.query.atoms e.lit.atom h.row h.is_row) ∙ h.is_row;
  difference = h.difference;
  says = h.says;
}

pub cycle_said : (s : State) (edges cycle : List Edge) → IsSound s → All (IsSaid s.query.vars s.query.atoms) edges → All (Contains edges) cycle → All (IsSaid s.query.vars s.atoms) cycle
cycle_said s edges cycle sound said among k d lt = said_kept s (get_or cycle k d) sound (All-contains (IsSaid s.query.vars s.query.atoms) edges (get_or cycle k d) said (among k d lt))

-- ---- numbers

-- the numbers are the values, less that of the last vertex
shifted : (vs : List Vertex) (xs : List ℤ) (n : ℕ) → length xs + 1 ≡ length vs → ((k : ℕ) → k < length xs → get_or xs k (pos 0) ≡ value_at vs k -ℤ value_at vs (length vs - 1)) → n ≤ length xs → numbers_at xs n ≡ value_at vs n -ℤ value_at vs (length vs - 1)
shifted vs xs n count values le =
    elim (cases_lt n (length xs)) [
      | inl lt ↦ values n lt
      | inr out ↦
          let none : get_or xs n (pos 0) ≡ pos 0 = get_or_past xs n (pos 0) out in
          let last : n ≡ length vs - 1 = omega (arith, count) in
          let same : value_at vs n ≡ value_at vs (length vs - 1) = ap (value_at vs) last in
          omega (arith, ints)
    ]

pub satisfies : (s : State) (lits : List Lit) (vs : List Vertex) (xs : List ℤ) (edges : List Edge) → IsSound s → IsFitting s.query lits → length vs ≡ s.query.vars + 1 → length xs + 1 ≡ length vs → ((n : ℕ) → n < length xs → get_or xs n (pos 0) ≡ value_at vs n -ℤ value_at vs (length vs - 1)) → All (HoldsAt (value_at vs)) edges → All (IsSaid s.query.vars s.query.atoms) edges → ((x : ℕ → ℤ) → x s.query.vars ≡ pos 0 → All (HoldsAt x) edges → All (RowIsAsSaid s.query.atoms x) lits) → SatisfiesRows s lits xs
satisfies s lits vs xs edges sound fits size count values hold said whole =
    let x : ℕ → ℤ = numbers_at xs in
    let vars : length xs ≡ s.query.vars = omega (arith, size, count) in
    let zero' : x s.query.vars ≡ pos 0 = get_or_past xs s.query.vars (pos 0) (omega (arith, vars)) in
    let all : All (HoldsAt x) edges = λ k d lt.
    let e : Edge = get_or edges k d in
    let w : IsWithin (s.query.vars + 1) e = (said k d lt).within in
    let to-there = w.to in
    let from-there = w.from in
    let to = shifted vs xs e.to count values (omega (arith, vars)) in
    let from = shifted vs xs e.from count values (omega (arith, vars)) in
    let h : HoldsAt (value_at vs) e = hold k d lt in
    omega (arith, ints) in
    record {
      count = vars;
      rows = λ k d lt row is. whole x zero' all k d lt row (sym (row_kept s (get_or lits k d).atom sound (fits.there k d lt)) ∙ is);
    }

-- a value lies between -2^62 and 0
value_within : (vs : List Vertex) (n : ℕ) → length vs ≤ 8193 → AreVertices vs → n < length vs → (pos 0 ≤ℤ (value_at vs n +ℤ pos (2 ^ 62 - 1))) × (value_at vs n ≤ℤ pos 0)
value_within vs n size are lt =
    let v : IsVertex vs n (vertex_at vs n) = are n lt in
    let low = v.low in
    let rank = v.rank in
    (omega (arith, ints), v.high)

abs_below : (z : ℤ) → pos 0 ≤ℤ (z +ℤ pos (2 ^ 62 - 1)) → z ≤ℤ pos (2 ^ 62 - 1) → unsigned_abs z < 2 ^ 62
abs_below (pos n) low high = omega (arith, ints)
abs_below (negsuc n) low high = omega (arith, ints)

pub are_small : (vs : List Vertex) (xs : List ℤ) → length vs ≤ 8193 → AreVertices vs → length xs + 1 ≡ length vs → ((n : ℕ) → n < length xs → get_or xs n (pos 0) ≡ value_at vs n -ℤ value_at vs (length vs - 1)) → All (λ x. unsigned_abs x < 2 ^ 62) xs
are_small vs xs size are count values k d lt =
    let a = value_within vs k size are (omega (arith, lt, count)) in
    let b = value_within vs (length vs - 1) size are (omega (arith, lt, count)) in
    let is : get_or xs k d ≡ value_at vs k -ℤ value_at vs (length vs - 1) = get_or_default xs k d (pos 0) lt ∙ values k lt in
    let low : pos 0 ≤ℤ (value_at vs k -ℤ value_at vs (length vs - 1) +ℤ pos (2 ^ 62 - 1)) = omega (arith, ints, a.0, a.1, b.0, b.1) in
    let high : (value_at vs k -ℤ value_at vs (length vs - 1)) ≤ℤ pos (2 ^ 62 - 1) = omega (arith, ints, a.0, a.1, b.0, b.1) in
    rw is (abs_below (value_at vs k -ℤ value_at vs (length vs - 1)) low high)

-- ---- a line

pub refutes_more : (s : State) (lits : List Lit) (edges cycle : List Edge) (n : ℕ) → All (λ e. Contains lits e.lit) edges → All (Contains edges) cycle → RefutesLits s (map (λ e. e.lit) cycle) n → RefutesLits s lits n
refutes_more s lits edges cycle n said among h =
    let L : Edge → Type 0 = λ e. Contains lits e.lit in
    let here : All L cycle = λ k d lt. All-contains L edges (get_or cycle k d) said (among k d lt) in
    let all : All (Contains lits) (map (λ (e : Edge). e.lit) cycle) = All-map (Contains lits) (λ (e : Edge). e.lit) cycle here in
    record {
      there = h.there;
      no_row = h.no_row;
      contraries = All-weaker (λ (l : Lit). Contains (map (λ (e : Edge). e.lit) cycle) (contrary l)) (λ (l : Lit). Contains lits (contrary l)) (λ l has. All-contains (Contains lits) (map (λ (e : Edge). e.lit) cycle) (contrary l) all has) (line_at s.lines n).lits h.contraries;
    }
