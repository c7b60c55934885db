-- Each rule's line follows.
use Rattle.std.proofs.Common.{◌≡◌, inl, inr, ℕ, ◌<◌, Bool, true, false, not, ◌&&◌, ◌||◌, List, [], length, map, get_or, refl, sym, ap, subst, ◌∙◌, All, Option, Some, None}
use Rattle.std.specs.Prelude.{IsNone, is_none}
use Rattle.std.specs.List.{list_any}
use Rattle.std.specs.Bool.{beq}
use Rattle.std.proofs.lemmas.Bool.{cases_Bool, false≢true}
use Rattle.std.proofs.lemmas.List.Elements.{All-nil, All-map, All-filter}
use Rattle.ag_query.specs.declared.rows.Atom.{Atom}
use Rattle.ag_query.specs.declared.rows.LRow.{LRow}
use Rattle.ag_query.specs.declared.clauses.Lit.{Lit}
use Rattle.ag_query.specs.Meaning.{Assignment, Meets, truth_at, lit_holds, one_holds, some_row_holds, contrary}
use Rattle.ag_kernel.specs.declared.line.Line.{Line}
use Rattle.ag_kernel.specs.State.{State, IsRowIn, IsLineOf, IsSound}
use Rattle.ag_kernel.specs.Sets.{joined, without}
use Rattle.ag_kernel.specs.Rules.{line_at, yes as yes_of, no as no_of, splits, either_row, resolvent, resolved, can_resolve, CanConclude}
use Rattle.ag_kernel.proofs.SetLemmas.{any_joined}
use Rattle.ag_kernel.proofs.Truths.{or_cases, or_left, or_right, any_without, All-joined, concluded}

-- ---- resolve

beq_true : (b : Bool) → beq b true ≡ b
beq_true true = refl
beq_true false = refl

beq_false : (b : Bool) → beq b false ≡ not b
beq_false true = refl
beq_false false = refl

pub lit_truth : (atoms : List Atom) (v : Assignment) (l : Lit) → lit_holds atoms v (contrary l) ≡ not (lit_holds atoms v l)
lit_truth atoms v l = by (truth_at atoms v l.atom) l.holds
  where
    by : (t h : Bool) → beq t (not h) ≡ not (beq t h)
    by true true = refl
    by true false = refl
    by false true = refl
    by false false = refl

either_in : (vars : ℕ) (r s : Option LRow) → IsRowIn vars r → IsRowIn vars s → IsRowIn vars (either_row r s)
either_in vars None s h g = g
either_in vars (Some r) s h g = h

left_row : (v : Assignment) (r s : Option LRow) → some_row_holds v r ≡ true → some_row_holds v (either_row r s) ≡ true
left_row v None s e = absurd (false≢true e)
left_row v (Some r) s e = e

right_row : (v : Assignment) (r s : Option LRow) → is_none r || is_none s ≡ true → some_row_holds v s ≡ true → some_row_holds v (either_row r s) ≡ true
right_row v None s n e = e
right_row v (Some r) None n e = absurd (false≢true e)
right_row v (Some r) (Some s) n e = absurd (false≢true n)

pub resolvent_line : (s : State) (atom : ℕ) (a b : Line) → IsLineOf s a → IsLineOf s b → is_none a.row || is_none b.row ≡ true → IsLineOf s (resolvent atom a b)
resolvent_line s atom a b ha hb rows =
    let P : Lit → Type 0 = λ l. l.atom < length s.atoms in
    let wa : List Lit = without a.lits (yes_of atom) in
    let wb : List Lit = without b.lits (no_of atom) in
    record {
      there = All-joined P (joined [] wa) wb (All-joined P [] wa (All-nil P) (All-filter _ P a.lits ha.there)) (All-filter _ P b.lits hb.there);
      order = either_in s.query.vars a.row b.row ha.order hb.order;
      follows = λ v m.
          let p : Lit → Bool = lit_holds s.atoms v in
          let lits : list_any p (joined (joined [] wa) wb) ≡ list_any p wa || list_any p wb = any_joined p (joined [] wa) wb ∙ ap (λ t. t || list_any p wb) (any_joined p [] wa) in
          let row : Bool = some_row_holds v (either_row a.row b.row) in
          let goal : (list_any p wa || list_any p wb) || row ≡ true =
          elim (cases_Bool (truth_at s.atoms v atom)) [
            | inl t ↦
                let gone : p (no_of atom) ≡ false = beq_false (truth_at s.atoms v atom) ∙ ap not t in
                elim (or_cases (one_holds s.atoms v b.lits) (some_row_holds v b.row) (hb.follows v m)) [
                  | inl here ↦ or_left (list_any p wa || list_any p wb) row (or_right (list_any p wa) (list_any p wb) (any_without p (no_of atom) gone b.lits ∙ here))
                  | inr rest ↦ or_right (list_any p wa || list_any p wb) row (right_row v a.row b.row rows rest)
                ]
            | inr f ↦
                let gone : p (yes_of atom) ≡ false = beq_true (truth_at s.atoms v atom) ∙ f in
                elim (or_cases (one_holds s.atoms v a.lits) (some_row_holds v a.row) (ha.follows v m)) [
                  | inl here ↦ or_left (list_any p wa || list_any p wb) row (or_left (list_any p wa) (list_any p wb) (any_without p (yes_of atom) gone a.lits ∙ here))
                  | inr rest ↦ or_right (list_any p wa || list_any p wb) row (left_row v a.row b.row rest)
                ]
          ] in
          rw lits goal;
    }

-- ---- by unit steps

no_row : (v : Assignment) (r : Option LRow) → IsNone r → some_row_holds v r ≡ false
no_row v None n = refl
no_row v (Some r) n = absurd (false≢true (sym n))

pub concluded_line : (s : State) (clause : List Lit) (named : List ℕ) → IsSound s → All (λ n. n < length s.lines) named → CanConclude s clause named → IsLineOf s (record { lits = clause; row = None })
concluded_line s clause named sound there can = record {
  there = can.there;
  order = tt;
  follows = λ v m.
      let p : Lit → Bool = lit_holds s.atoms v in
      let f : ℕ → List Lit = λ n. (line_at s.lines n).lits in
      let each : All (λ n. list_any p (f n) ≡ true) named = λ k d lt.
      let n : ℕ = get_or named k d in
      let line : Line = line_at s.lines n in
      let follows = (sound.lines n (record { lits = []; row = None }) (there k d lt)).follows v m in
      elim (or_cases (one_holds s.atoms v line.lits) (some_row_holds v line.row) follows) [
        | inl here ↦ here
        | inr row ↦ absurd (false≢true (sym (no_row v line.row (can.no_rows k d lt)) ∙ row))
      ] in
      or_left (one_holds s.atoms v clause) false (concluded p (lit_truth s.atoms v) clause (map f named) (All-map (λ line. list_any p line ≡ true) f named each) can.conflict);
}

-- ---- the empty clause, and a line that is added

pub empty_refutes : (s : State) → IsLineOf s (record { lits = []; row = None }) → (v : Assignment) → Meets s.query v → ⊥
empty_refutes s h v m = false≢true (h.follows v m)

and_cases : (a b : Bool) → a && b ≡ true → (a ≡ true) × (b ≡ true)
and_cases true b e = (refl, e)
and_cases false b e = absurd (false≢true e)

or_comm : (a b : Bool) → a || b ≡ b || a
or_comm true true = refl
or_comm true false = refl
or_comm false true = refl
or_comm false false = refl

pub resolved_line : (s : State) (atom : ℕ) (a b : Line) → IsLineOf s a → IsLineOf s b → can_resolve atom a b ≡ true → IsLineOf s (resolved atom a b)
resolved_line s atom a b ha hb can =
    let rows = (and_cases (splits atom a b || splits atom b a) (is_none a.row || is_none b.row) can).1 in
    elim (cases_Bool (splits atom a b)) [
      | inl t ↦ rw t (resolvent_line s atom a b ha hb rows)
      | inr f ↦ rw f (resolvent_line s atom b a hb ha (or_comm (is_none b.row) (is_none a.row) ∙ rows))
    ]

-- ---- the named lines are there

-- a line that was read
pub line_here : (s : State) (lines : List Line) (n : ℕ) (x : Line) → IsSound s → lines ≡ s.lines → n < length lines → x ≡ get_or lines n x → IsLineOf s x
line_here s lines n x sound is lt e =
    let A : List Line → Type 0 = All (IsLineOf s) in
    let all : A lines = subst A (sym is) sound.lines in
    let P : Line → Type 0 = IsLineOf s in
    subst P (sym e) (all n x lt)
