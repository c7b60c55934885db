-- The line of a sum of rows follows.
use Rattle.std.proofs.Common.{◌≡◌, inl, inr, ℕ, ◌<◌, ℤ, pos, ◌+ℤ◌, ◌*ℤ◌, ◌≤ℤ◌, Bool, true, false, ◌&&◌, ◌||◌, cond, List, [], ◌∷◌, length, refl, sym, ap, subst, ◌∙◌, arith, All, Option, Some, None}
use Rattle.std.specs.Prelude.{IsSome, unwrap_or}
use Rattle.std.specs.Int.{is_negative}
use Rattle.std.specs.Int.RustNames.{int_le}
use Rattle.std.specs.List.{list_any, flat_map}
use Rattle.std.proofs.lemmas.Int.{ints}
use Rattle.std.proofs.lemmas.Bool.{cases_Bool, false≢true, both_ways}
use Rattle.std.proofs.lemmas.List.Elements.{All-nil, All-head, All-tail, All-weaker, All-append}
use Rattle.ag_query.specs.declared.rows.LTerm.{LTerm}
use Rattle.ag_query.specs.declared.rows.LRow.{LRow}
use Rattle.ag_query.specs.declared.clauses.Lit.{Lit}
use Rattle.ag_query.specs.Rows.{AreInOrder, sum_of}
use Rattle.ag_query.specs.Meaning.{Assignment, Meets, lit_holds, one_holds, some_row_holds}
use Rattle.ag_kernel.specs.declared.line.Line.{Line}
use Rattle.ag_kernel.specs.State.{State, IsRowIn, IsLineOf, IsSound}
use Rattle.ag_kernel.specs.Sets.{joined}
use Rattle.ag_kernel.specs.Sums.{total, IsSumOf, AreMade, AreRowsIn, has_no_terms, kept}
use Rattle.ag_kernel.specs.Rules.{line_at, row_in, parts_of, CanCombine, IsCombined}
use Rattle.ag_kernel.proofs.SetLemmas.{any_joined, any-append}
use Rattle.ag_kernel.proofs.Truths.{or_cases, or_left, or_right, All-joined}
use Rattle.ag_kernel.proofs.Numbers.{times_le}

pub rows_of : (s : State) → IsSound s → AreRowsIn s.query.vars s.lines
rows_of s sound = All-weaker (IsLineOf s) (λ (l : Line). IsRowIn s.query.vars l.row) (λ l h. h.order) s.lines sound.lines

pub combined_of : (s : State) (parts : List (ℕ × ℤ)) (l2 l3 : List Line) (sum : LRow) (lits : List Lit) (row : Option LRow) → IsSound s → l2 ≡ s.lines → l3 ≡ s.lines → ((vars : ℕ) → AreRowsIn vars l2 → IsSumOf vars (parts_of l2 parts) sum × AreMade (parts_of l2 parts)) → lits ≡ joined [] (flat_map (λ p. (line_at l3 p.0).lits) parts) → row ≡ kept sum → IsCombined s parts (record { lits = lits; row = row }) × AreMade (parts_of s.lines parts)
combined_of s parts l2 l3 sum lits row sound e2 e3 made l r =
    let W : List Line → Type 0 = λ ls. (vars : ℕ) → AreRowsIn vars ls → IsSumOf vars (parts_of ls parts) sum × AreMade (parts_of ls parts) in
    let m = (subst W e2 made) s.query.vars (rows_of s sound) in (
      record {
        lits = l ∙ ap (λ (ls : List Line). joined [] (flat_map (λ p. (line_at ls p.0).lits) parts)) e3;
        sum = sum;
        is_sum = m.0;
        row = r;
      },
      m.1,
    )

-- ---- it follows

lits_there : (s : State) (parts : List (ℕ × ℤ)) → IsSound s → All (λ p. p.0 < length s.lines) parts → All (λ l. l.atom < length s.atoms) (flat_map (λ p. (line_at s.lines p.0).lits) parts)
lits_there s [] sound there = All-nil (λ (l : Lit). l.atom < length s.atoms)
lits_there s (p ∷ ps) sound there =
    let P : Lit → Type 0 = λ l. l.atom < length s.atoms in
    let lt : p.0 < length s.lines = All-head (λ (q : ℕ × ℤ). q.0 < length s.lines) p ps there in
    All-append P (line_at s.lines p.0).lits (flat_map (λ q. (line_at s.lines q.0).lits) ps)
    ((sound.lines p.0 (record { lits = []; row = None }) lt).there)
    (lits_there s ps sound (All-tail (λ (q : ℕ × ℤ). q.0 < length s.lines) p ps there))

or_false : (a b : Bool) → a || b ≡ false → (a ≡ false) × (b ≡ false)
or_false true b e = absurd (false≢true (sym e))
or_false false b e = (refl, e)

row_true : (v : Assignment) (o : Option LRow) → IsSome o → some_row_holds v o ≡ true → sum_of v.whole (unwrap_or o (record { terms = []; bound = pos 0 })).terms ≤ℤ (unwrap_or o (record { terms = []; bound = pos 0 })).bound
row_true v None some e = absurd (false≢true some)
row_true v (Some r) some e = omega (arith, ints)

add_le : (a b c d : ℤ) → a ≤ℤ b → c ≤ℤ d → (a +ℤ c) ≤ℤ (b +ℤ d)
add_le a b c d h g = omega (arith, ints)

-- where no literal of the lines is true, their rows hold, and so does the sum
totals : (s : State) (v : Assignment) (parts : List (ℕ × ℤ)) → IsSound s → Meets s.query v → All (λ p. p.0 < length s.lines) parts → CanCombine s parts → list_any (lit_holds s.atoms v) (flat_map (λ p. (line_at s.lines p.0).lits) parts) ≡ false → total (λ r. sum_of v.whole r.terms) (parts_of s.lines parts) ≤ℤ total (λ r. r.bound) (parts_of s.lines parts)
totals s v [] sound m there can none = omega (arith, ints)
totals s v (p ∷ ps) sound m there can none =
    let d : Line = record { lits = []; row = None } in
    let line : Line = line_at s.lines p.0 in
    let test : Lit → Bool = lit_holds s.atoms v in
    let rest : List Lit = flat_map (λ q. (line_at s.lines q.0).lits) ps in
    let C : ℕ × ℤ → Type 0 = λ q. IsSome (line_at s.lines q.0).row × (pos 0 ≤ℤ q.1) in
    let lt : p.0 < length s.lines = All-head (λ (q : ℕ × ℤ). q.0 < length s.lines) p ps there in
    let here : C p = All-head C p ps can in
    let both = or_false (list_any test line.lits) (list_any test rest) (sym (any-append test line.lits rest) ∙ none) in
    let follows = (sound.lines p.0 d lt).follows v m in
    let row : some_row_holds v line.row ≡ true =
    elim (or_cases (one_holds s.atoms v line.lits) (some_row_holds v line.row) follows) [
      | inl t ↦ absurd (both_ways (list_any test line.lits) both.0 t)
      | inr r ↦ r
    ] in
    let le = row_true v line.row here.0 row in
    let product = times_le p.1 (sum_of v.whole (row_in line).terms) (row_in line).bound here.1 le in
    let ih = totals s v ps sound m (All-tail (λ (q : ℕ × ℤ). q.0 < length s.lines) p ps there) (All-tail C p ps can) both.1 in
    add_le (p.1 *ℤ sum_of v.whole (row_in line).terms) (p.1 *ℤ (row_in line).bound) (total (λ r. sum_of v.whole r.terms) (parts_of s.lines ps)) (total (λ r. r.bound) (parts_of s.lines ps)) product ih

kept_holds : (v : Assignment) (sum : LRow) → sum_of v.whole sum.terms ≤ℤ sum.bound → some_row_holds v (kept sum) ≡ true
kept_holds v sum le = by sum.terms refl (is_negative sum.bound) refl
  where
    holds : int_le (sum_of v.whole sum.terms) sum.bound ≡ true
    holds = let g : true ≡ int_le (sum_of v.whole sum.terms) sum.bound = omega (arith, ints) in sym g

    by : (ts : List LTerm) → sum.terms ≡ ts → (b : Bool) → is_negative sum.bound ≡ b → some_row_holds v (cond (has_no_terms ts && b) None (Some sum)) ≡ true
    by [] e true f =
        let z : sum_of v.whole sum.terms ≡ pos 0 = ap (sum_of v.whole) e in
        absurd (omega (arith, ints))
    by [] e false f = holds
    by (t ∷ ts) e b f = holds

kept_order : (vars : ℕ) (sum : LRow) → AreInOrder vars sum.terms → IsRowIn vars (kept sum)
kept_order vars sum h = by (has_no_terms sum.terms && is_negative sum.bound)
  where
    by : (b : Bool) → IsRowIn vars (cond b None (Some sum))
    by true = tt
    by false = h

pub combined_line : (s : State) (parts : List (ℕ × ℤ)) (line : Line) → IsSound s → All (λ p. p.0 < length s.lines) parts → CanCombine s parts → IsCombined s parts line → IsLineOf s line
combined_line s parts line sound there can is =
    let P : Lit → Type 0 = λ l. l.atom < length s.atoms in
    let all : List Lit = flat_map (λ p. (line_at s.lines p.0).lits) parts in
    let A : List Lit → Type 0 = All P in
    let R : Option LRow → Type 0 = IsRowIn s.query.vars in
    record {
      there = subst A (sym is.lits) (All-joined P [] all (All-nil P) (lits_there s parts sound there));
      order = subst R (sym is.row) (kept_order s.query.vars is.sum is.is_sum.order);
      follows = λ v m.
          let test : Lit → Bool = lit_holds s.atoms v in
          let lits : list_any test (joined [] all) ≡ list_any test all = any_joined test [] all in
          let goal : list_any test (joined [] all) || some_row_holds v (kept is.sum) ≡ true =
          elim (cases_Bool (list_any test all)) [
            | inl t ↦ or_left (list_any test (joined [] all)) (some_row_holds v (kept is.sum)) (lits ∙ t)
            | inr f ↦
                let le = totals s v parts sound m there can f in
                let a = is.is_sum.terms v.whole in
                let b = is.is_sum.bound in
                let sum : sum_of v.whole is.sum.terms ≤ℤ is.sum.bound = omega (arith, ints) in
                or_right (list_any test (joined [] all)) (some_row_holds v (kept is.sum)) (kept_holds v is.sum sum)
          ] in
          rw (is.lits, is.row) goal;
    }
