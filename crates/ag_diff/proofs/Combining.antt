-- The lines of a cycle can be combined, and what they give refutes its literals.
use Rattle.std.proofs.Common.{◌≡◌, ℕ, ◌+◌, ◌*◌, ◌^◌, ◌<◌, ◌==◌, ℤ, pos, ◌+ℤ◌, ◌*ℤ◌, ◌≤ℤ◌, neg_ℤ, FitsSigned, Bool, true, false, not, cond, List, [], ◌∷◌, ◌++◌, length, map, take, get_or, refl, sym, ap, subst, ◌∙◌, arith, All, Option, Some, None, zero, suc}
use Rattle.std.specs.Prelude.{negsuc, IsSome, IsNone, unsigned_abs, nat_le, Contains}
use Rattle.std.specs.Option.{option_map}
use Rattle.std.specs.List.{flat_map}
use Rattle.std.specs.Int.{w128}
use Rattle.std.proofs.lemmas.Int.{ints}
use Rattle.std.proofs.lemmas.Bool.{lt-leb}
use Rattle.std.proofs.lemmas.List.{length-map, length-take, length_push, take-map, get_or-map, get_or_push}
use Rattle.std.proofs.lemmas.List.Elements.{All-head, All-tail, All-nil, All-cons, All-push, All-map, All-take, All-weaker, Contains-get_or}
use Rattle.ag_query.specs.declared.rows.Atom.{Atom}
use Rattle.ag_query.specs.declared.rows.LRow.{LRow}
use Rattle.ag_query.specs.declared.rows.LTerm.{LTerm}
use Rattle.ag_query.specs.declared.clauses.Lit.{Lit}
use Rattle.ag_query.specs.Rows.{sum_of}
use Rattle.ag_query.specs.Meaning.{contrary}
use Rattle.ag_kernel.specs.declared.line.Line.{Line}
use Rattle.ag_kernel.specs.declared.line.KernelFault.{KernelFault}
use Rattle.ag_kernel.specs.declared.line.KernelFault.TheVariants as fault
use Rattle.ag_kernel.specs.State.{State}
use Rattle.ag_kernel.specs.Faults.{first_missing, IsCause}
use Rattle.ag_kernel.specs.Sets.{has, with_literal, joined}
use Rattle.ag_kernel.specs.Rules.{Adds, line_at, row_in, row_said, opposite, negated, unfolded, parts_of, CanCombine, IsCombined}
use Rattle.ag_kernel.specs.Sums.{total, unit, factor_of, FitTimes, AreMade, IsSumOf}
use Rattle.ag_kernel.specs.Theories.{RefutesLits}
use Rattle.ag_diff.specs.declared.edges.Edge.{Edge}
use Rattle.ag_diff.specs.Differences.{IsDifference}
use Rattle.ag_diff.specs.Edges.{IsSaid}
use Rattle.ag_diff.specs.Cycles.{IsNegativeCycle}
use Rattle.ag_diff.specs.Unfolding.{named, unfolded_once}
use Rattle.ag_diff.proofs.Sums.{row_once, row_once_is, nothing_kept}

-- ---- what the lines are

map_twice : {X Y Z : Type 0} (f : X → Y) (g : Y → Z) (xs : List X) → map (λ x. g (f x)) xs ≡ map g (map f xs)
map_twice f g [] = refl
map_twice f g (x ∷ xs) = ap (λ (zs : List _). g (f x) ∷ zs) (map_twice f g xs)

pub parts_are : (atoms : List Atom) (lines : List Line) (parts : List (ℕ × ℤ)) (cycle : List Edge) → map (named lines) parts ≡ map (unfolded_once atoms) cycle → parts_of lines parts ≡ map (row_once atoms) cycle
parts_are atoms lines parts cycle e =
    let g : Line × ℤ → LRow × ℤ = λ q. (row_in q.0, q.1) in
    map_twice (named lines) g parts ∙ ap (map g) e ∙ sym (map_twice (unfolded_once atoms) g cycle)

flat_map_twice : {X Y Z : Type 0} (f : X → Y) (g : Y → List Z) (xs : List X) → flat_map (λ x. g (f x)) xs ≡ flat_map g (map f xs)
flat_map_twice f g [] = refl
flat_map_twice f g (x ∷ xs) = ap (λ (zs : List _). g (f x) ++ zs) (flat_map_twice f g xs)

contraries : (atoms : List Atom) (cycle : List Edge) → flat_map (λ e. (unfolded atoms e.lit).lits) cycle ≡ map (λ e. contrary e.lit) cycle
contraries atoms [] = refl
contraries atoms (e ∷ es) = ap (λ (ls : List Lit). contrary e.lit ∷ ls) (contraries atoms es)

pub lits_are : (atoms : List Atom) (lines : List Line) (parts : List (ℕ × ℤ)) (cycle : List Edge) → map (named lines) parts ≡ map (unfolded_once atoms) cycle → flat_map (λ p. (line_at lines p.0).lits) parts ≡ map (λ e. contrary e.lit) cycle
lits_are atoms lines parts cycle e =
    let g : Line × ℤ → List Lit = λ q. q.0.lits in
    flat_map_twice (named lines) g parts ∙ ap (flat_map g) e ∙ sym (flat_map_twice (unfolded_once atoms) g cycle) ∙ contraries atoms cycle

-- ---- they can be combined

pub none_missing : (count : ℕ) (parts : List (ℕ × ℤ)) → All (λ p. p.0 < count) parts → first_missing count (map (λ p. p.0) parts) ≡ None
none_missing count [] there = refl
none_missing count (p ∷ ps) there =
    let P : ℕ × ℤ → Type 0 = λ q. q.0 < count in
    let lt : p.0 < count = All-head P p ps there in
    let no : nat_le count p.0 ≡ false = lt-leb count p.0 lt in
    rw no (none_missing count ps (All-tail P p ps there))

pub can_combine : (base : ℕ) (atoms : List Atom) (s : State) (parts : List (ℕ × ℤ)) (cycle : List Edge) → All (IsSaid base atoms) cycle → map (named s.lines) parts ≡ map (unfolded_once atoms) cycle → CanCombine s parts
can_combine base atoms s [] cycle all e = All-nil (λ (p : ℕ × ℤ). IsSome (line_at s.lines p.0).row × (pos 0 ≤ℤ p.1))
can_combine base atoms s (p ∷ ps) [] all e = absurd (cc)
can_combine base atoms s (p ∷ ps) (x ∷ xs) all e =
    let C : ℕ × ℤ → Type 0 = λ q. IsSome (line_at s.lines q.0).row × (pos 0 ≤ℤ q.1) in
    let head : named s.lines p ≡ unfolded_once atoms x = cc in
    let tail : map (named s.lines) ps ≡ map (unfolded_once atoms) xs = cc in
    let said : IsSaid base atoms x = All-head (IsSaid base atoms) x xs all in
    let row : (line_at s.lines p.0).row ≡ Some (row_said x.lit said.row) = ap (λ (q : Line × ℤ). q.0.row) head ∙ ap (option_map (row_said x.lit)) said.is_row in
    let one : p.1 ≡ pos 1 = ap (λ (q : Line × ℤ). q.1) head in
    let R : Option LRow → Type 0 = λ o. IsSome o in
    All-cons C p ps (subst R (sym row) refl, omega (arith, ints)) (can_combine base atoms s ps xs (All-tail (IsSaid base atoms) x xs all) tail)

-- ---- their sums fit

-- of magnitude at most b
record Within (b : ℕ) (z : ℤ) : Type 0 where
  low : pos 0 ≤ℤ (z +ℤ pos b)
  high : z ≤ℤ pos b

within_one : (f : ℤ) → unsigned_abs f ≡ 1 → Within 1 f
within_one (pos n) e = record { low = omega (arith, ints); high = omega (arith, ints) }
within_one (negsuc n) e = record { low = omega (arith, ints); high = omega (arith, ints) }

abs_neg : (f : ℤ) → unsigned_abs f ≡ 1 → unsigned_abs (neg_ℤ f) ≡ 1
abs_neg (pos zero) e = e
abs_neg (pos (suc n)) e = e
abs_neg (negsuc n) e = e

turned_difference : (ts : List LTerm) → IsDifference ts → IsDifference (map negated ts)
turned_difference [] h = tt
turned_difference (t ∷ []) h = abs_neg t.factor h
turned_difference (s ∷ t ∷ []) h = (abs_neg s.factor h.0, ap neg_ℤ h.1)
turned_difference (s ∷ t ∷ u ∷ ts) h = absurd h

said_difference : (l : Lit) (row : LRow) → IsDifference row.terms → IsDifference (row_said l row).terms
said_difference l row h = by l.holds
  where
    by : (b : Bool) → IsDifference (cond b row (opposite row)).terms
    by true = h
    by false = turned_difference row.terms h

small_factors : (ts : List LTerm) → IsDifference ts → All (λ t. Within 1 t.factor) ts
small_factors [] h = All-nil (λ (t : LTerm). Within 1 t.factor)
small_factors (t ∷ []) h = All-cons (λ (t : LTerm). Within 1 t.factor) t [] (within_one t.factor h) (All-nil (λ (t : LTerm). Within 1 t.factor))
small_factors (s ∷ t ∷ []) h =
    let P : LTerm → Type 0 = λ t. Within 1 t.factor in
    let one : Within 1 s.factor = within_one s.factor h.0 in
    let e = h.1 in
    All-cons P s (t ∷ []) one (All-cons P t [] (record { low = omega (arith, ints); high = omega (arith, ints) }) (All-nil P))
small_factors (s ∷ t ∷ u ∷ ts) h = absurd h

-- at 0 or 1 for each variable
unit_small : (v n : ℕ) (f : ℤ) → Within 1 f → Within 1 (f *ℤ unit v n)
unit_small v n f h = by (n == v)
  where
    by : (b : Bool) → Within 1 (f *ℤ cond b (pos 1) (pos 0))
    by true = record { low = omega (arith, ints); high = omega (arith, ints) }
    by false = record { low = omega (arith, ints); high = omega (arith, ints) }

factor_small : (v : ℕ) (ts : List LTerm) → IsDifference ts → Within 2 (sum_of (unit v) ts)
factor_small v [] h = record { low = omega (arith, ints); high = omega (arith, ints) }
factor_small v (t ∷ []) h =
    let a : Within 1 (t.factor *ℤ unit v t.var) = unit_small v t.var t.factor (within_one t.factor h) in
    record { low = omega (arith, ints); high = omega (arith, ints) }
factor_small v (s ∷ t ∷ []) h =
    let all = small_factors (s ∷ t ∷ []) h in
    let a : Within 1 (s.factor *ℤ unit v s.var) = unit_small v s.var s.factor (all 0 s (omega arith)) in
    let b : Within 1 (t.factor *ℤ unit v t.var) = unit_small v t.var t.factor (all 1 t (omega arith)) in
    record { low = omega (arith, ints); high = omega (arith, ints) }
factor_small v (s ∷ t ∷ u ∷ ts) h = absurd h

-- so many rows, each with a value of magnitude at most b
total_small : (atoms : List Atom) (f : LRow → ℤ) (b : ℕ) (es : List Edge) → All (λ e. Within b (f (row_in (unfolded atoms e.lit)))) es → Within (length es * b) (total f (map (row_once atoms) es))
total_small atoms f b [] all = record { low = omega (arith, ints); high = omega (arith, ints) }
total_small atoms f b (e ∷ es) all =
    let P : Edge → Type 0 = λ x. Within b (f (row_in (unfolded atoms x.lit))) in
    let here : P e = All-head P e es all in
    let rest : Within (length es * b) (total f (map (row_once atoms) es)) = total_small atoms f b es (All-tail P e es all) in
    record { low = omega (arith, ints); high = omega (arith, ints) }

rows_small : (base : ℕ) (atoms : List Atom) (e : Edge) → IsSaid base atoms e → IsDifference (row_in (unfolded atoms e.lit)).terms × Within (2 ^ 49) (row_in (unfolded atoms e.lit)).bound
rows_small base atoms e said =
    let P : LRow → Type 0 = λ r. IsDifference r.terms × Within (2 ^ 49) r.bound in
    let w = said.says.weight in
    let low = said.within.low in
    let high = said.within.high in
    subst P (sym (row_once_is base atoms e said)) (said_difference e.lit said.row said.difference, record { low = omega (arith, ints); high = omega (arith, ints) })

pub are_made : (base : ℕ) (atoms : List Atom) (cycle : List Edge) → All (IsSaid base atoms) cycle → length cycle < 2 ^ 64 → AreMade (map (row_once atoms) cycle)
are_made base atoms cycle all short = record {
  products = All-map (λ (p : LRow × ℤ). FitTimes p.0 p.1) (row_once atoms) cycle (All-weaker (IsSaid base atoms) (λ (e : Edge). FitTimes (row_in (unfolded atoms e.lit)) (pos 1)) (λ e said.
      let row = rows_small base atoms e said in
      let b = row.1 in
      record {
        factors = All-weaker (λ (t : LTerm). Within 1 t.factor) (λ (t : LTerm). FitsSigned w128 (pos 1 *ℤ t.factor)) (λ t h. omega (arith, ints)) (row_in (unfolded atoms e.lit)).terms (small_factors (row_in (unfolded atoms e.lit)).terms row.0);
        bound = omega (arith, ints);
      }) cycle all);
  factors = λ k v le.
      let some : All (IsSaid base atoms) (take k cycle) = All-take (IsSaid base atoms) k cycle all in
      let sum : Within (length (take k cycle) * 2) (total (factor_of v) (map (row_once atoms) (take k cycle))) = total_small atoms (factor_of v) 2 (take k cycle) (All-weaker (IsSaid base atoms) (λ (e : Edge). Within 2 (factor_of v (row_in (unfolded atoms e.lit)))) (λ e said. factor_small v (row_in (unfolded atoms e.lit)).terms (rows_small base atoms e said).0) (take k cycle) some) in
      rw (take-map (row_once atoms) k cycle) (omega (arith, ints, length-take k cycle));
  bounds = λ k le.
      let some : All (IsSaid base atoms) (take k cycle) = All-take (IsSaid base atoms) k cycle all in
      let sum : Within (length (take k cycle) * 2 ^ 49) (total (λ r. r.bound) (map (row_once atoms) (take k cycle))) = total_small atoms (λ (r : LRow). r.bound) (2 ^ 49) (take k cycle) (All-weaker (IsSaid base atoms) (λ (e : Edge). Within (2 ^ 49) (row_in (unfolded atoms e.lit)).bound) (λ e said. (rows_small base atoms e said).1) (take k cycle) some) in
      rw (take-map (row_once atoms) k cycle) (omega (arith, ints, length-take k cycle));
}

-- a rule that is allowed fails for want of memory alone
pub only_memory : (missing : Option ℕ) (P F : Type 0) (why : KernelFault) → missing ≡ None → P → F → IsCause missing P F why → why ≡ fault.OutOfMemory
only_memory missing P F (fault.NotThere n) none p f cause = absurd (cc)
only_memory missing P F fault.NotImplied none p f cause = absurd (cause.1 p)
only_memory missing P F fault.Wide none p f cause = absurd (cause.2 f)
only_memory missing P F fault.OutOfMemory none p f cause = refl

-- ---- what they give

with_all : (P : Lit → Type 0) (lits : List Lit) (l : Lit) → All P lits → P l → All P (with_literal lits l)
with_all P lits l all h = by (has lits l)
  where
    by : (b : Bool) → All P (cond b lits (lits ++ l ∷ []))
    by true = all
    by false = All-push P lits l all h

joined_all : (P : Lit → Type 0) (lits more : List Lit) → All P lits → All P more → All P (joined lits more)
joined_all P lits [] all h = all
joined_all P lits (l ∷ ls) all h = joined_all P (with_literal lits l) ls (with_all P lits l all (All-head P l ls h)) (All-tail P l ls h)

contrary_twice : (l : Lit) → contrary (contrary l) ≡ l
contrary_twice l = ap (λ (b : Bool). record { atom = l.atom; holds = b }) (by l.holds)
  where
    by : (b : Bool) → not (not b) ≡ b
    by true = refl
    by false = refl

-- each contrary of a contrary is a literal of the cycle
contraries_there : (cycle : List Edge) → All (λ l. Contains (map (λ (e : Edge). e.lit) cycle) (contrary l)) (map (λ (e : Edge). contrary e.lit) cycle)
contraries_there cycle =
    let lits : List Lit = map (λ (e : Edge). e.lit) cycle in
    All-map (λ (l : Lit). Contains lits (contrary l)) (λ (e : Edge). contrary e.lit) cycle (λ k d lt.
    let there : k < length lits = omega (arith, lt, length-map cycle (λ (e : Edge). e.lit)) in
    let same : get_or lits k d.lit ≡ contrary (contrary (get_or cycle k d).lit) = get_or-map (λ (e : Edge). e.lit) cycle k d d.lit lt ∙ sym (contrary_twice (get_or cycle k d).lit) in
    subst (Contains lits) same (Contains-get_or lits k d.lit there))

pub refutes_from : (atoms : List Atom) (s now : State) (parts : List (ℕ × ℤ)) (cycle : List Edge) (n : ℕ) → All (IsSaid s.query.vars atoms) cycle → IsNegativeCycle cycle → map (named s.lines) parts ≡ map (unfolded_once atoms) cycle → ((new : Line) × Adds s now n new × IsCombined s parts new) → RefutesLits now (map (λ e. e.lit) cycle) n
refutes_from atoms s now parts cycle n all negative lines made =
    let new : Line = made.0 in
    let add = made.1 in
    let is = made.2 in
    let count : length now.lines ≡ length s.lines + 1 = ap (λ (t : State). length t.lines) add.1 ∙ length_push s.lines new in
    let at : line_at now.lines n ≡ new = ap (λ (t : State). line_at t.lines n) add.1 ∙ get_or_push s.lines new (record { lits = []; row = None }) n (sym add.0) in
    let lits : List Lit = map (λ (e : Edge). e.lit) cycle in
    let P : Lit → Type 0 = λ l. Contains lits (contrary l) in
    let C : List Lit → Type 0 = λ ls. All P (joined [] ls) in
    let all-lits : C (flat_map (λ p. (line_at s.lines p.0).lits) parts) = subst C (sym (lits_are atoms s.lines parts cycle lines)) (joined_all P [] (map (λ (e : Edge). contrary e.lit) cycle) (All-nil P) (contraries_there cycle)) in
    let S : List (LRow × ℤ) → Type 0 = λ ps. IsSumOf s.query.vars ps is.sum in
    let sum : S (map (row_once atoms) cycle) = subst S (parts_are atoms s.lines parts cycle lines) is.is_sum in
    let none : new.row ≡ None = is.row ∙ nothing_kept s.query.vars atoms cycle is.sum all negative sum in
    let N : Line → Type 0 = λ line. IsNone line.row in
    let L : Line → Type 0 = λ line. All P line.lits in
    let A : List Lit → Type 0 = All P in
    let no-row : N new = (let R : Option LRow → Type 0 = λ o. IsNone o in subst R (sym none) refl) in
    let new-lits : L new = subst A (sym is.lits) all-lits in
    record {
      there = omega (arith, count, add.0);
      no_row = subst N (sym at) no-row;
      contraries = subst L (sym at) new-lits;
    }
