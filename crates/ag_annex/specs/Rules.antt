-- The rules on what the tokens of a derivation say. Each is broken at a token, by what stands before it.
use Rattle.std.specs.Prelude.{◌≡◌, ℕ, Bool, ◌==◌, ◌||◌, nat_lt, List, [], ◌∷◌, Option, Some, None, Result, Ok, Err, if◌then◌else◌}
use Rattle.ag_base.specs.declared.place.Refusal.{Refusal}
use Rattle.ag_base.specs.declared.place.Rule.TheVariants.{TooDeep, Expected, Misplaced}
use Rattle.ag_aadl.specs.declared.marked.Marked.{Marked}
use Rattle.ag_aadl.specs.Rules.{refused_at}
use Rattle.ag_terms.specs.declared.clauses.Site.{Site}
use Rattle.ag_terms.specs.declared.clauses.Site.TheVariants.{Library, Frame, Body}
use Rattle.ag_annex.specs.declared.nesting.Open.{Open}
use Rattle.ag_annex.specs.Marks.{assume_mark, guarantee_mark, lemma_mark, eq_mark, assign_mark}
use Rattle.ag_annex.specs.Nesting.{behind, levels, most_levels}

-- the mark is that of the first word of a clause that has no place in such an annex: `assume` and `guarantee` stand in a
-- type's, `lemma` and `assign` in an implementation's, `eq` in both; `const` and `node` stand in every annex
abbrev pub is_misplaced : Site → ℕ → Bool
is_misplaced Library mark = mark == assume_mark || (mark == guarantee_mark || (mark == lemma_mark || (mark == eq_mark || mark == assign_mark)))
is_misplaced Frame mark = mark == lemma_mark || mark == assign_mark
is_misplaced Body mark = mark == assume_mark || mark == guarantee_mark

-- what is open behind a token that has this to be open, or the refusal: too much is open, or the token has no place there
abbrev pub opened : Marked → Option (List Open) → Result (List Open) Refusal
opened m None = Err (refused_at Expected m.token)
opened m (Some opens) = if nat_lt most_levels (levels opens) then Err (refused_at TooDeep m.token) else Ok opens

-- what is open behind a token, or the refusal
abbrev pub obey : Site → List Open → Marked → Result (List Open) Refusal
obey site opens m = if is_misplaced site m.mark then Err (refused_at Misplaced m.token) else opened m (behind m.mark opens)

-- from the left to the right: what is open behind the tokens, or the first broken rule
abbrev pub run_from : Site → Result (List Open) Refusal → List Marked → Result (List Open) Refusal
run_from site (Err r) _ = Err r
run_from site (Ok opens) [] = Ok opens
run_from site (Ok opens) (m ∷ ms) = run_from site (obey site opens m) ms

-- what is open behind some tokens of an annex, or the first refusal
abbrev pub run : Site → List Marked → Result (List Open) Refusal
run site ms = run_from site (Ok []) ms

-- the tokens break no rule
abbrev pub Obeys : Site → List Marked → Type 0
Obeys site ms = (opens : List Open) × (run site ms ≡ Ok opens)
