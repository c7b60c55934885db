-- The rows of a cycle add up to no term and a negative bound.
use Rattle.std.proofs.Common.{◌≡◌, ℕ, ◌<◌, ◌==◌, ℤ, pos, ◌-ℤ◌, ◌*ℤ◌, ◌<ℤ◌, Bool, true, false, cond, List, [], ◌∷◌, map, refl, sym, ap, ◌∙◌, arith, All, Option, None, suc}
use Rattle.std.specs.Prelude.{negsuc, unwrap_or}
use Rattle.std.specs.Option.{option_map}
use Rattle.std.specs.Int.{is_negative}
use Rattle.std.proofs.lemmas.Int.{ints}
use Rattle.std.proofs.lemmas.Bool.{eq-eqb, ne_eqb}
use Rattle.std.proofs.lemmas.List.Elements.{All-head, All-tail}
use Rattle.ag_query.specs.declared.rows.Atom.{Atom}
use Rattle.ag_query.specs.declared.rows.LRow.{LRow}
use Rattle.ag_query.specs.declared.rows.LTerm.{LTerm}
use Rattle.ag_query.specs.Rows.{AreInOrder, sum_of}
use Rattle.ag_kernel.specs.Rules.{row_in, row_said, unfolded}
use Rattle.ag_kernel.specs.Sums.{total, unit, IsSumOf, kept}
use Rattle.ag_diff.specs.declared.edges.Edge.{Edge}
use Rattle.ag_diff.specs.Edges.{IsSaid}
use Rattle.ag_diff.specs.Cycles.{Leads, weight_of, IsNegativeCycle}

-- the row of the edge's literal, once
abbrev pub row_once : List Atom → Edge → LRow × ℤ
row_once atoms e = (row_in (unfolded atoms e.lit), pos 1)

-- it is the row that the edge says
pub row_once_is : (base : ℕ) (atoms : List Atom) (e : Edge) (h : IsSaid base atoms e) → row_in (unfolded atoms e.lit) ≡ row_said e.lit h.row
row_once_is base atoms e h = ap (λ (o : Option LRow). unwrap_or (option_map (row_said e.lit) o) (record { terms = []; bound = pos 0 })) h.is_row

-- ---- telescoping

pub sums_along : (base : ℕ) (atoms : List Atom) (x : ℕ → ℤ) (v : ℕ) (es : List Edge) (at : ℕ) → x base ≡ pos 0 → All (IsSaid base atoms) es → Leads v es at → total (λ r. sum_of x r.terms) (map (row_once atoms) es) ≡ x v -ℤ x at
sums_along base atoms x v [] at z all h =
    let same : x v ≡ x at = ap x h in
    omega (arith, ints)
sums_along base atoms x v (e ∷ es) at z all h =
    let said : IsSaid base atoms e = All-head (IsSaid base atoms) e es all in
    let rest = sums_along base atoms x e.from es at z (All-tail (IsSaid base atoms) e es all) h.1 in
    let row : sum_of x (row_in (unfolded atoms e.lit)).terms ≡ x e.to -ℤ x e.from = ap (λ (r : LRow). sum_of x r.terms) (row_once_is base atoms e said) ∙ said.says.ends.sum x z in
    let to : x e.to ≡ x v = ap x h.0 in
    omega (arith, ints)

pub bounds_along : (base : ℕ) (atoms : List Atom) (es : List Edge) → All (IsSaid base atoms) es → total (λ r. r.bound) (map (row_once atoms) es) ≡ weight_of es
bounds_along base atoms [] all = refl
bounds_along base atoms (e ∷ es) all =
    let said : IsSaid base atoms e = All-head (IsSaid base atoms) e es all in
    let rest = bounds_along base atoms es (All-tail (IsSaid base atoms) e es all) in
    let row : (row_in (unfolded atoms e.lit)).bound ≡ e.weight = ap (λ (r : LRow). r.bound) (row_once_is base atoms e said) ∙ sym said.says.weight in
    omega (arith, ints)

-- ---- a row that is 0 everywhere has no terms

-- 1 at this variable meets none of the later terms
unit_past : (v : ℕ) (ts : List LTerm) → All (λ t. v < t.var) ts → sum_of (unit v) ts ≡ pos 0
unit_past v [] h = refl
unit_past v (t ∷ ts) h =
    let lt : v < t.var = All-head (λ (t : LTerm). v < t.var) t ts h in
    let off : (t.var == v) ≡ false = ne_eqb t.var v (omega arith) in
    let none : unit v t.var ≡ pos 0 = ap (λ (b : Bool). cond b (pos 1) (pos 0)) off in
    let rest = unit_past v ts (All-tail (λ (t : LTerm). v < t.var) t ts h) in
    let zero' : t.factor *ℤ unit v t.var ≡ pos 0 = ap (λ (z : ℤ). t.factor *ℤ z) none ∙ omega (arith, ints) in
    omega (arith, ints)

later : (t : LTerm) (ts : List LTerm) (vars : ℕ) → AreInOrder vars (t ∷ ts) → All (λ s. t.var < s.var) ts
later t ts vars o k d lt = o.rise 0 (suc k) d (omega arith) (omega arith)

pub no_terms : (vars : ℕ) (ts : List LTerm) → AreInOrder vars ts → ((x : ℕ → ℤ) → x vars ≡ pos 0 → sum_of x ts ≡ pos 0) → ts ≡ []
no_terms vars [] o h = refl
no_terms vars (t ∷ ts) o h =
    let there : t.var < vars = o.there 0 t (omega arith) in
    let off : (vars == t.var) ≡ false = ne_eqb vars t.var (omega arith) in
    let on : (t.var == t.var) ≡ true = eq-eqb t.var t.var refl in
    let none : unit t.var vars ≡ pos 0 = ap (λ (b : Bool). cond b (pos 1) (pos 0)) off in
    let one : unit t.var t.var ≡ pos 1 = ap (λ (b : Bool). cond b (pos 1) (pos 0)) on in
    let sum = h (unit t.var) none in
    let rest = unit_past t.var ts (later t ts vars o) in
    let here : t.factor *ℤ unit t.var t.var ≡ t.factor = ap (λ (z : ℤ). t.factor *ℤ z) one ∙ omega (arith, ints) in
    let gone : t.factor ≡ pos 0 = omega (arith, ints) in
    absurd (o.nonzero 0 t (omega arith) gone)

-- the sum of a negative cycle's rows is left out
pub nothing_kept : (base : ℕ) (atoms : List Atom) (es : List Edge) (sum : LRow) → All (IsSaid base atoms) es → IsNegativeCycle es → IsSumOf base (map (row_once atoms) es) sum → kept sum ≡ None
nothing_kept base atoms es sum all cycle is =
    let zero' : (x : ℕ → ℤ) → x base ≡ pos 0 → sum_of x sum.terms ≡ pos 0 = λ x z.
    let a = is.terms x in
    let b = sums_along base atoms x cycle.at es cycle.at z all cycle.leads in
    omega (arith, ints) in
    let none : sum.terms ≡ [] = no_terms base sum.terms is.order zero' in
    let bound : sum.bound ≡ weight_of es = is.bound ∙ bounds_along base atoms es all in
    let negative : is_negative sum.bound ≡ true = below sum.bound (let n = cycle.negative in omega (arith, ints)) in
    rw (none, negative) refl
  where
    below : (z : ℤ) → z <ℤ pos 0 → is_negative z ≡ true
    below (pos n) h = absurd (omega (arith, ints))
    below (negsuc n) h = refl
