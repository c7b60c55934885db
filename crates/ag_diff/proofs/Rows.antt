-- What edges say of rows.
use Rattle.std.proofs.Common.{◌≡◌, ◌+◌, ◌*◌, ◌^◌, ◌<◌, ◌≤◌, ℕ, ℤ, pos, ◌+ℤ◌, ◌-ℤ◌, ◌*ℤ◌, ◌≤ℤ◌, neg_ℤ, to_z, of_z, Bool, true, false, cond, List, [], ◌∷◌, ◌++◌, length, map, take, get_or, refl, sym, ap, subst, ◌∙◌, arith, All, Some}
use Rattle.std.specs.Prelude.{unsigned_abs}
use Rattle.std.specs.Int.{w64, w128}
use Rattle.std.specs.Int.RustNames.{int_le}
use borrow.Author.Differences.{up, down, neg_is}
use Rattle.std.proofs.lemmas.Int.{ints}
use Rattle.std.proofs.lemmas.List.{get_or_read, get_or_append_left, get_or_push, length_push}
use Rattle.std.proofs.lemmas.List.Elements.{All-more}
use Rattle.ag_query.specs.declared.rows.Atom.{Atom}
use Rattle.ag_query.specs.declared.rows.Atom.TheVariants.{Free, Bound}
use Rattle.ag_query.specs.declared.rows.LRow.{LRow}
use Rattle.ag_query.specs.declared.rows.LTerm.{LTerm}
use Rattle.ag_query.specs.declared.clauses.Lit.{Lit}
use Rattle.ag_query.specs.Rows.{sum_of, row_holds}
use Rattle.ag_kernel.specs.Rules.{row_of, row_at, negated, opposite, row_said}
use Rattle.ag_kernel.specs.Theories.{RowIsAsSaid}
use Rattle.ag_diff.specs.declared.edges.Edge.{Edge}
use Rattle.ag_diff.specs.Differences.{IsDifference, IsDifferenceAtom}
use Rattle.ag_diff.specs.Edges.{AreEnds, IsEdgeOf, IsSaid, IsWithin, HoldsAt}

-- ---- the opposite row

neg_step : (f x s r : ℤ) → r ≡ neg_ℤ s → neg_ℤ f *ℤ x +ℤ r ≡ neg_ℤ (f *ℤ x +ℤ s)
neg_step f x s r e =
    let n = neg_is f in
    omega (arith, ints, ap (λ (k : ℕ). k * up x) n.0, ap (λ (k : ℕ). k * down x) n.0, ap (λ (k : ℕ). k * up x) n.1, ap (λ (k : ℕ). k * down x) n.1)

pub sum_negated : (x : ℕ → ℤ) (ts : List LTerm) → sum_of x (map negated ts) ≡ neg_ℤ (sum_of x ts)
sum_negated x [] = refl
sum_negated x (t ∷ ts) = neg_step t.factor (x t.var) (sum_of x ts) (sum_of x (map negated ts)) (sum_negated x ts)

ends_turned : (base to from : ℕ) (ts : List LTerm) → AreEnds base ts to from → AreEnds base (map negated ts) from to
ends_turned base to from ts h = record {
  to_there = h.from_there;
  from_there = h.to_there;
  sum = λ x z. let a = h.sum x z in let n = sum_negated x ts in omega (arith, ints);
}

-- the edge of a literal that doesn't hold
pub edge_turned : (base to from : ℕ) (l : Lit) (row : LRow) (ts : List LTerm) (w : ℤ) → l.holds ≡ false → ts ≡ row.terms → AreEnds base ts to from → w ≡ neg_ℤ row.bound -ℤ pos 1 → IsEdgeOf base (row_said l row) (record { from = to; to = from; weight = w; lit = l })
edge_turned base to from l row ts w not_so same ends e =
    let E : List LTerm → Type 0 = λ us. AreEnds base us to from in
    rw not_so record {
      ends = ends_turned base to from row.terms (subst E same ends);
      weight = e;
    }

pub turned_weight : (b : ℤ) → unsigned_abs b ≤ 2 ^ 48 → to_z w64 (of_z w64 (to_z w64 (of_z w64 (pos 0 -ℤ to_z w64 (of_z w64 (to_z w128 (of_z w128 b))))) -ℤ pos 1)) ≡ neg_ℤ b -ℤ pos 1
turned_weight b small = omega (arith, ints)

-- ---- what holds

bound_holds : (s b : ℤ) → s ≤ℤ b → int_le s b ≡ true
bound_holds s b le = let g : true ≡ int_le s b = omega (arith, ints) in sym g

bound_fails : (s b : ℤ) → neg_ℤ s ≤ℤ (neg_ℤ b -ℤ pos 1) → int_le s b ≡ false
bound_fails s b le = let g : false ≡ int_le s b = omega (arith, ints) in sym g

said_holds : (x : ℕ → ℤ) (base : ℕ) (l : Lit) (row : LRow) (e : Edge) (h : Bool) → l.holds ≡ h → x base ≡ pos 0 → IsEdgeOf base (row_said l row) e → HoldsAt x e → row_holds x row ≡ l.holds
said_holds x base l row e true is z says at =
    let R : Bool → Type 0 = λ b. IsEdgeOf base (cond b row (opposite row)) e in
    let s : IsEdgeOf base row e = subst R is says in
    let sum = s.ends.sum x z in
    rw is (bound_holds (sum_of x row.terms) row.bound (let w = s.weight in omega (arith, ints)))
said_holds x base l row e false is z says at =
    let R : Bool → Type 0 = λ b. IsEdgeOf base (cond b row (opposite row)) e in
    let s : IsEdgeOf base (opposite row) e = subst R is says in
    let sum = s.ends.sum x z in
    let n = sum_negated x row.terms in
    rw is (bound_fails (sum_of x row.terms) row.bound (let w = s.weight in omega (arith, ints)))

-- ---- the rows of the atoms

pub row_there : (atoms : List Atom) (n : ℕ) (a : Atom) (row : LRow) → n < length atoms → a ≡ get_or atoms n a → a ≡ Bound row → row_at atoms n ≡ Some row
row_there atoms n a row lt read is = ap row_of (sym (get_or_read atoms n a lt read Free) ∙ is)

pub row_is_said : (atoms : List Atom) (x : ℕ → ℤ) (base : ℕ) (l : Lit) (row : LRow) (e : Edge) → row_at atoms l.atom ≡ Some row → x base ≡ pos 0 → IsEdgeOf base (row_said l row) e → HoldsAt x e → RowIsAsSaid atoms x l
row_is_said atoms x base l row e there z says at other is =
    let it : row ≡ other = cc in
    subst (λ (r : LRow). row_holds x r ≡ l.holds) it (said_holds x base l row e l.holds refl z says at)

-- an atom without a row says nothing
pub free_says_nothing : (atoms : List Atom) (x : ℕ → ℤ) (l : Lit) (a : Atom) → l.atom < length atoms → a ≡ get_or atoms l.atom a → ((row : LRow) → a ≡ Bound row → ⊥) → RowIsAsSaid atoms x l
free_says_nothing atoms x l a lt read free row there = absurd (by (get_or atoms l.atom Free) refl there)
  where
    by : (b : Atom) → get_or atoms l.atom Free ≡ b → row_of b ≡ Some row → ⊥
    by Free e some = cc
    by (Bound r) e some = free r (get_or_read atoms l.atom a lt read Free ∙ e)

-- ---- one edge more

pub All_front : {X : Type 0} (P : X → Type 0) (xs : List X) (y : X) → All P (xs ++ y ∷ []) → All P xs
All_front P xs y h k d lt = subst P (get_or_append_left xs (y ∷ []) d k lt) (h k d (omega (arith, lt, length_push xs y)))

pub All_last : {X : Type 0} (P : X → Type 0) (xs : List X) (y : X) → All P (xs ++ y ∷ []) → P y
All_last P xs y h = subst P (get_or_push xs y y (length xs) refl) (h (length xs) y (omega (arith, length_push xs y)))

pub whole_more : (atoms : List Atom) (x : ℕ → ℤ) (base : ℕ) (lits : List Lit) (i : ℕ) (d : Lit) (row : LRow) (edges : List Edge) (e : Edge) → i < length lits → (All (HoldsAt x) edges → All (RowIsAsSaid atoms x) (take i lits)) → row_at atoms (get_or lits i d).atom ≡ Some row → x base ≡ pos 0 → IsEdgeOf base (row_said (get_or lits i d) row) e → All (HoldsAt x) (edges ++ e ∷ []) → All (RowIsAsSaid atoms x) (take (i + 1) lits)
whole_more atoms x base lits i d row edges e lt whole there z says all =
    All-more (RowIsAsSaid atoms x) lits i d lt (whole (All_front (HoldsAt x) edges e all)) (row_is_said atoms x base (get_or lits i d) row e there z says (All_last (HoldsAt x) edges e all))

pub said_edge : (base : ℕ) (atoms : List Atom) (l : Lit) (row : LRow) (e : Edge) → row_at atoms l.atom ≡ Some row → IsDifference row.terms → e.lit ≡ l → IsWithin (base + 1) e → IsEdgeOf base (row_said l row) e → IsSaid base atoms e
said_edge base atoms l row e there difference is within says =
    let R : Lit → Type 0 = λ m. row_at atoms m.atom ≡ Some row in
    let S : Lit → Type 0 = λ m. IsEdgeOf base (row_said m row) e in
    record {
      within = within;
      row = row;
      is_row = subst R (sym is) there;
      difference = difference;
      says = subst S (sym is) says;
    }

pub difference_there : (a : Atom) (row : LRow) → IsDifferenceAtom a → a ≡ Bound row → IsDifference row.terms
difference_there a row h is = (subst IsDifferenceAtom is h).0
