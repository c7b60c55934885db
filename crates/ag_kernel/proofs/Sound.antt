-- The lines of a query follow, and go on to follow when an atom is added.
use Rattle.std.proofs.Common.{◌≡◌, ℕ, ◌<◌, ◌≤◌, Bool, true, false, ◌||◌, List, [], ◌∷◌, ◌++◌, length, map, get_or, refl, ap, ◌∙◌, arith, All, None}
use Rattle.std.specs.Bool.{beq}
use Rattle.std.proofs.lemmas.List.{get_or_append_left, take_all, take-append-le, length-take, length_push}
use Rattle.std.proofs.lemmas.List.Elements.{All-cons, All-nil, All-head, All-tail, All-weaker, All-push, All-map}
use Rattle.ag_query.specs.declared.rows.Atom.{Atom}
use Rattle.ag_query.specs.declared.rows.Atom.TheVariants.{Free, Bound}
use Rattle.ag_query.specs.declared.rows.LRow.{LRow}
use Rattle.ag_query.specs.declared.clauses.Lit.{Lit}
use Rattle.ag_query.specs.declared.query.Query.{Query}
use Rattle.ag_query.specs.Rows.{AreInOrder}
use Rattle.ag_query.specs.Made.{IsAtomOver}
use Rattle.ag_query.specs.Meaning.{Assignment, Follows, atom_truth, truth_at, one_holds}
use Rattle.ag_kernel.specs.declared.line.Line.{Line}
use Rattle.ag_kernel.specs.State.{State, IsAtomIn, IsLineOf, IsSound}
use Rattle.ag_kernel.specs.Rules.{clause_line, case_line, with_case}

-- ---- one atom more

truth_more : (atoms : List Atom) (x : Atom) (v : Assignment) (n : ℕ) → n < length atoms → truth_at (atoms ++ x ∷ []) v n ≡ truth_at atoms v n
truth_more atoms x v n lt = ap (atom_truth v n) (get_or_append_left atoms (x ∷ []) Free n lt)

one_holds_more : (atoms : List Atom) (x : Atom) (v : Assignment) (lits : List Lit) → All (λ l. l.atom < length atoms) lits → one_holds (atoms ++ x ∷ []) v lits ≡ one_holds atoms v lits
one_holds_more atoms x v [] h = refl
one_holds_more atoms x v (l ∷ ls) h =
    let here = truth_more atoms x v l.atom (All-head (λ (m : Lit). m.atom < length atoms) l ls h) in
    let rest = one_holds_more atoms x v ls (All-tail (λ (m : Lit). m.atom < length atoms) l ls h) in
    rw (here, rest)

pub line_more : (s : State) (x : Atom) (lines : List Line) (line : Line) → IsLineOf s line → IsLineOf (record { query = s.query; atoms = s.atoms ++ x ∷ []; lines = lines }) line
line_more s x lines line h = record {
  there = All-weaker (λ (l : Lit). l.atom < length s.atoms) (λ (l : Lit). l.atom < length (s.atoms ++ x ∷ [])) (λ l lt. omega (arith, lt, length_push s.atoms x)) line.lits h.there;
  order = h.order;
  follows = λ v m. rw (one_holds_more s.atoms x v line.lits h.there) (h.follows v m);
}

either : (b : Bool) → (beq b true || (beq b false || false)) || false ≡ true
either true = refl
either false = refl

pub case_sound : (s : State) (row : LRow) → IsSound s → AreInOrder s.query.vars row.terms → IsSound (with_case s row)
case_sound s row sound order =
    let atoms : List Atom = s.atoms ++ Bound row ∷ [] in
    let n : ℕ = length s.atoms in
    let yes : Lit = record { atom = n; holds = true } in
    let no : Lit = record { atom = n; holds = false } in
    let new : Line = record { lits = yes ∷ no ∷ []; row = None } in
    let t : State = with_case s row in
    let P : Lit → Type 0 = λ l. l.atom < length atoms in
    let lt : n < length atoms = omega (arith, length_push s.atoms (Bound row)) in
    let fits : length s.query.atoms ≤ n = omega (arith, length-take (length s.query.atoms) s.atoms, ap length sound.begins) in
    let follows : Follows s.query atoms (yes ∷ no ∷ []) None = λ v m. either (truth_at atoms v n) in
    record {
      begins = take-append-le (length s.query.atoms) s.atoms (Bound row ∷ []) fits ∙ sound.begins;
      rows = All-push (IsAtomIn s.query.vars) s.atoms (Bound row) sound.rows order;
      lines = All-push (IsLineOf t) s.lines new
          (All-weaker (IsLineOf s) (IsLineOf t) (λ l h. line_more s (Bound row) t.lines l h) s.lines sound.lines)
          (record { there = All-cons P yes (no ∷ []) lt (All-cons P no [] lt (All-nil P)); order = tt; follows = follows });
    }

-- ---- the lines of a query

atom_in : (vars : ℕ) (a : Atom) → IsAtomOver vars a → IsAtomIn vars a
atom_in vars Free h = tt
atom_in vars (Bound row) h = h.0

or_false : (b : Bool) → b ≡ true → b || false ≡ true
or_false true e = refl
or_false false e = e

pub new_sound : (q : Query) → IsSound (record { query = q; atoms = q.atoms; lines = map clause_line q.clauses })
new_sound q =
    let s : State = record { query = q; atoms = q.atoms; lines = map clause_line q.clauses } in
    record {
      begins = take_all (length q.atoms) q.atoms (omega arith);
      rows = All-weaker (IsAtomOver q.vars) (IsAtomIn q.vars) (atom_in q.vars) q.atoms q.rows;
      lines = All-map (IsLineOf s) clause_line q.clauses (λ k d lt. record {
        there = q.literals k d lt;
        order = tt;
        follows = λ v m. or_false (one_holds q.atoms v (get_or q.clauses k d).lits) (m k d lt);
      });
    }

pub new_kept : (q q' : Query) (atoms : List Atom) (lines : List Line) → q' ≡ q → atoms ≡ q.atoms → lines ≡ map clause_line q.clauses → IsSound (record { query = q'; atoms = atoms; lines = lines })
new_kept q q' atoms lines h a l = rw (h, a, l) (new_sound q)

pub case_kept : (s : State) (row : LRow) (line : Line) (atoms : List Atom) (lines : List Line) → IsSound s → AreInOrder s.query.vars row.terms → atoms ≡ s.atoms ++ Bound row ∷ [] → line ≡ case_line s → lines ≡ s.lines ++ line ∷ [] → IsSound (record { query = s.query; atoms = atoms; lines = lines })
case_kept s row line atoms lines sound order a e l = rw (a, l, e) (case_sound s row sound order)

pub case_line_is : (s : State) (n : ℕ) (lits : List Lit) → n ≡ length s.atoms → lits ≡ record { atom = n; holds = true } ∷ record { atom = n; holds = false } ∷ [] → record { lits = lits; row = None } ≡ case_line s
case_line_is s n lits h e = rw (e, h) refl
