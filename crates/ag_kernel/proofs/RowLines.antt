-- The lines of a row that is unfolded or divided follow.
use Rattle.std.proofs.Common.{◌≡◌, ◌≢◌, inl, inr, ℕ, ◌*◌, ◌<◌, ℤ, pos, ◌+ℤ◌, ◌-ℤ◌, ◌*ℤ◌, ◌≤ℤ◌, neg_ℤ, Bool, true, false, not, ◌||◌, List, [], ◌∷◌, length, map, get_or, refl, sym, ap, subst, ◌∙◌, arith, All, Option, Some, None}
use Rattle.std.specs.Prelude.{IsSome, unwrap_or}
use Rattle.std.specs.Option.{option_map}
use Rattle.std.specs.Bool.{beq}
use Rattle.std.specs.Int.RustNames.{int_le}
use borrow.Author.Differences.{up, down, neg_is}
use Rattle.std.proofs.lemmas.Int.{ints}
use Rattle.std.proofs.lemmas.Bool.{cases_lt, false≢true}
use Rattle.std.proofs.lemmas.List.{get_or_past, get_or-map, length-map}
use Rattle.std.proofs.lemmas.List.Elements.{All-cons, All-nil}
use Rattle.ag_query.specs.declared.rows.Atom.{Atom}
use Rattle.ag_query.specs.declared.rows.Atom.TheVariants.{Free, Bound}
use Rattle.ag_query.specs.declared.rows.LRow.{LRow}
use Rattle.ag_query.specs.declared.rows.LTerm.{LTerm}
use Rattle.ag_query.specs.declared.clauses.Lit.{Lit}
use Rattle.ag_query.specs.Rows.{AreInOrder, sum_of, row_holds}
use Rattle.ag_query.specs.Meaning.{Assignment, atom_truth, one_holds, some_row_holds, contrary}
use Rattle.ag_kernel.specs.declared.line.Line.{Line}
use Rattle.ag_kernel.specs.State.{State, IsAtomIn, IsRowIn, IsLineOf, IsSound}
use Rattle.ag_kernel.specs.Rules.{row_of, row_at, negated, opposite, row_said, unfolded, row_in, times, IsQuotient, IsDivided, CanDivide}
use Rattle.ag_kernel.proofs.Numbers.{times_le, times_add, times_assoc}
use Rattle.ag_kernel.proofs.Truths.{or_cases, or_left, or_right}

-- ---- rows whose terms are changed one by one

-- a change that keeps the variables and takes no factor to 0 keeps the order
pub map_order : (vars : ℕ) (f : LTerm → LTerm) → ((t : LTerm) → (f t).var ≡ t.var) → ((t : LTerm) → t.factor ≢ pos 0 → (f t).factor ≢ pos 0) → (ts : List LTerm) → AreInOrder vars ts → AreInOrder vars (map f ts)
map_order vars f same' keeps ts h = record {
  rise = λ i j d lt p.
      let q : j < length ts = omega (arith, p, length-map ts f) in
      let a : (get_or (map f ts) i d).var ≡ (get_or ts i d).var = ap (λ (t : LTerm). t.var) (get_or-map f ts i d d (omega (arith, lt, q))) ∙ same' (get_or ts i d) in
      let b : (get_or (map f ts) j d).var ≡ (get_or ts j d).var = ap (λ (t : LTerm). t.var) (get_or-map f ts j d d q) ∙ same' (get_or ts j d) in
      omega (arith, h.rise i j d lt q);
  there = λ k d p.
      let q : k < length ts = omega (arith, p, length-map ts f) in
      let a : (get_or (map f ts) k d).var ≡ (get_or ts k d).var = ap (λ (t : LTerm). t.var) (get_or-map f ts k d d q) ∙ same' (get_or ts k d) in
      omega (arith, h.there k d q);
  nonzero = λ k d p.
      let q : k < length ts = omega (arith, p, length-map ts f) in
      let P : LTerm → Type 0 = λ t. t.factor ≢ pos 0 in
      subst P (sym (get_or-map f ts k d d q)) (keeps (get_or ts k d) (h.nonzero k d q));
}

-- the same from what the change gives
pub order_back : (vars : ℕ) (f : LTerm → LTerm) → ((t : LTerm) → (f t).var ≡ t.var) → ((t : LTerm) → (f t).factor ≢ pos 0 → t.factor ≢ pos 0) → (ts : List LTerm) → AreInOrder vars (map f ts) → AreInOrder vars ts
order_back vars f same' keeps ts h = record {
  rise = λ i j d lt q.
      let p : j < length (map f ts) = omega (arith, q, length-map ts f) in
      let a : (get_or (map f ts) i d).var ≡ (get_or ts i d).var = ap (λ (t : LTerm). t.var) (get_or-map f ts i d d (omega (arith, lt, q))) ∙ same' (get_or ts i d) in
      let b : (get_or (map f ts) j d).var ≡ (get_or ts j d).var = ap (λ (t : LTerm). t.var) (get_or-map f ts j d d q) ∙ same' (get_or ts j d) in
      omega (arith, h.rise i j d lt p);
  there = λ k d q.
      let p : k < length (map f ts) = omega (arith, q, length-map ts f) in
      let a : (get_or (map f ts) k d).var ≡ (get_or ts k d).var = ap (λ (t : LTerm). t.var) (get_or-map f ts k d d q) ∙ same' (get_or ts k d) in
      omega (arith, h.there k d p);
  nonzero = λ k d q.
      let p : k < length (map f ts) = omega (arith, q, length-map ts f) in
      let P : LTerm → Type 0 = λ t. t.factor ≢ pos 0 in
      keeps (get_or ts k d) (subst P (get_or-map f ts k d d q) (h.nonzero k d p));
}

-- ---- unfold

neg_step : (f x s r : ℤ) → r ≡ neg_ℤ s → neg_ℤ f *ℤ x +ℤ r ≡ neg_ℤ (f *ℤ x +ℤ s)
neg_step f x s r e =
    let n = neg_is f in
    omega (arith, ints, ap (λ (k : ℕ). k * up x) n.0, ap (λ (k : ℕ). k * down x) n.0, ap (λ (k : ℕ). k * up x) n.1, ap (λ (k : ℕ). k * down x) n.1)

sum_negated : (x : ℕ → ℤ) (ts : List LTerm) → sum_of x (map negated ts) ≡ neg_ℤ (sum_of x ts)
sum_negated x [] = refl
sum_negated x (t ∷ ts) = neg_step t.factor (x t.var) (sum_of x ts) (sum_of x (map negated ts)) (sum_negated x ts)

turned : (s b : ℤ) → int_le (neg_ℤ s) (neg_ℤ b -ℤ pos 1) ≡ not (int_le s b)
turned s b = by (int_le s b) refl
  where
    by : (t : Bool) → int_le s b ≡ t → int_le (neg_ℤ s) (neg_ℤ b -ℤ pos 1) ≡ not t
    by true e = let g : false ≡ int_le (neg_ℤ s) (neg_ℤ b -ℤ pos 1) = omega (arith, ints) in sym g
    by false e = let g : true ≡ int_le (neg_ℤ s) (neg_ℤ b -ℤ pos 1) = omega (arith, ints) in sym g

opposite_holds : (x : ℕ → ℤ) (row : LRow) → row_holds x (opposite row) ≡ not (row_holds x row)
opposite_holds x row = ap (λ (s : ℤ). int_le s (neg_ℤ row.bound -ℤ pos 1)) (sum_negated x row.terms) ∙ turned (sum_of x row.terms) row.bound

negated_nonzero : (t : LTerm) → t.factor ≢ pos 0 → (negated t).factor ≢ pos 0
negated_nonzero t h e = h (let g : neg_ℤ t.factor ≡ pos 0 = e in omega (arith, ints))

said_follows : (v : Assignment) (n : ℕ) (l : Lit) (row : LRow) (h : Bool) → l.holds ≡ h → (beq (row_holds v.whole row) (not l.holds) || false) || row_holds v.whole (row_said l row) ≡ true
said_follows v n l row true e = rw e (by (row_holds v.whole row))
  where
    by : (t : Bool) → (beq t false || false) || t ≡ true
    by true = refl
    by false = refl
said_follows v n l row false e = rw e (subst (λ (b : Bool). (beq (row_holds v.whole row) true || false) || b ≡ true) (sym (opposite_holds v.whole row)) (by (row_holds v.whole row)))
  where
    by : (t : Bool) → (beq t true || false) || not t ≡ true
    by true = refl
    by false = refl

unfold_follows : (v : Assignment) (n : ℕ) (l : Lit) (x : Atom) → IsSome (row_of x) → (beq (atom_truth v n x) (not l.holds) || false) || some_row_holds v (option_map (row_said l) (row_of x)) ≡ true
unfold_follows v n l Free some = absurd (false≢true some)
unfold_follows v n l (Bound row) some = said_follows v n l row l.holds refl

said_order : (vars : ℕ) (l : Lit) (row : LRow) (h : Bool) → l.holds ≡ h → AreInOrder vars row.terms → AreInOrder vars (row_said l row).terms
said_order vars l row true e o = rw e o
said_order vars l row false e o = rw e (map_order vars negated (λ t. refl) negated_nonzero row.terms o)

unfold_order : (vars : ℕ) (l : Lit) (x : Atom) → IsAtomIn vars x → IsRowIn vars (option_map (row_said l) (row_of x))
unfold_order vars l Free h = tt
unfold_order vars l (Bound row) h = said_order vars l row l.holds refl h

pub unfolded_line : (s : State) (l : Lit) → IsSound s → IsSome (row_at s.atoms l.atom) → IsLineOf s (unfolded s.atoms l)
unfolded_line s l sound some =
    let P : Lit → Type 0 = λ m. m.atom < length s.atoms in
    elim (cases_lt l.atom (length s.atoms)) [
      | inl lt ↦ record {
        there = All-cons P (contrary l) [] lt (All-nil P);
        order = unfold_order s.query.vars l (get_or s.atoms l.atom Free) (sound.rows l.atom Free lt);
        follows = λ v m. unfold_follows v l.atom l (get_or s.atoms l.atom Free) some;
      }
      | inr out ↦
          let none : row_at s.atoms l.atom ≡ None = ap row_of (get_or_past s.atoms l.atom Free out) in
          let Q : Option LRow → Type 0 = λ o. IsSome o in
          let bad : Q None = subst Q none some in
          absurd (false≢true bad)
    ]

-- ---- divide

sum_times : (x : ℕ → ℤ) (by' : ℤ) (ts : List LTerm) → sum_of x (map (times by') ts) ≡ by' *ℤ sum_of x ts
sum_times x by' [] = omega (arith, ints)
sum_times x by' (t ∷ ts) =
    let ih = sum_times x by' ts in
    let a = times_assoc by' t.factor (x t.var) in
    let d = times_add by' (t.factor *ℤ x t.var) (sum_of x ts) in
    omega (arith, ints)

quotient_holds : (x : ℕ → ℤ) (by' : ℤ) (row q : LRow) → pos 1 ≤ℤ by' → IsQuotient by' row q → row_holds x row ≡ true → row_holds x q ≡ true
quotient_holds x by' row q p is h = by (row_holds x q) refl
  where
    by : (t : Bool) → row_holds x q ≡ t → row_holds x q ≡ true
    by true e = e
    by false e =
        let more : (q.bound +ℤ pos 1) ≤ℤ sum_of x q.terms = omega (arith, ints) in
        let zero' : pos 0 ≤ℤ by' = omega (arith, ints) in
        let larger = times_le by' (q.bound +ℤ pos 1) (sum_of x q.terms) zero' more in
        let split = times_add by' q.bound (pos 1) in
        let sum : sum_of x row.terms ≡ by' *ℤ sum_of x q.terms = ap (sum_of x) (sym is.terms) ∙ sum_times x by' q.terms in
        let one : by' *ℤ pos 1 ≡ by' = omega (arith, ints) in
        absurd (omega (arith, ints, is.above))

times_nonzero : (by' : ℤ) (t : LTerm) → (times by' t).factor ≢ pos 0 → t.factor ≢ pos 0
times_nonzero by' t h e = h (ap (λ (z : ℤ). by' *ℤ z) e ∙ omega (arith, ints))

some_row : (v : Assignment) (vars : ℕ) (o : Option LRow) → IsSome o → IsRowIn vars o → AreInOrder vars (unwrap_or o (record { terms = []; bound = pos 0 })).terms × (some_row_holds v o ≡ row_holds v.whole (unwrap_or o (record { terms = []; bound = pos 0 })))
some_row v vars None some h = absurd (false≢true some)
some_row v vars (Some r) some h = (h, refl)

none_at : ℕ → ℤ
none_at n = pos 0

pub divided_line : (s : State) (by' : ℤ) (line new : Line) → IsLineOf s line → CanDivide line by' → IsDivided by' line new → IsLineOf s new
divided_line s by' line new h can is =
    let vars : ℕ = s.query.vars in
    let old : AreInOrder vars (row_in line).terms = (some_row (record { whole = none_at; flags = λ n. false }) vars line.row can.row h.order).0 in
    let Q : List LTerm → Type 0 = AreInOrder vars in
    let order : AreInOrder vars is.quotient.terms = order_back vars (times by') (λ t. refl) (times_nonzero by') is.quotient.terms (subst Q (sym is.is_quotient.terms) old) in
    let R : Option LRow → Type 0 = IsRowIn vars in
    let L : List Lit → Type 0 = λ ls. All (λ (l : Lit). l.atom < length s.atoms) ls in
    record {
      there = subst L (sym is.lits) h.there;
      order = subst R (sym is.row) order;
      follows = λ v m.
          let row = (some_row v vars line.row can.row h.order).1 in
          let goal : one_holds s.atoms v line.lits || row_holds v.whole is.quotient ≡ true =
          elim (or_cases (one_holds s.atoms v line.lits) (some_row_holds v line.row) (h.follows v m)) [
            | inl here ↦ or_left (one_holds s.atoms v line.lits) (row_holds v.whole is.quotient) here
            | inr rest ↦ or_right (one_holds s.atoms v line.lits) (row_holds v.whole is.quotient) (quotient_holds v.whole by' (row_in line) is.quotient can.positive is.is_quotient (sym row ∙ rest))
          ] in
          rw (is.lits, is.row) goal;
    }
