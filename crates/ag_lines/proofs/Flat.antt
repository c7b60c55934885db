-- Tokens of an expression as the grammar has them: flat, with no ranks. And what is open behind tokens that break no rule.
use Rattle.std.proofs.Common.{◌≡◌, ◌⊎◌, ℕ, Bool, true, false, if◌then◌else◌, List, [], ◌∷◌, ◌++◌, Option, Some, None, Result, Ok, Err, refl, sym, ap, subst, ◌∙◌}
use Rattle.std.specs.Prelude.{nat_lt}
use Rattle.ag_base.specs.declared.place.Refusal.{Refusal}
use Rattle.ag_base.specs.declared.place.Rule.TheVariants.{TooDeep, Misplaced}
use Rattle.ag_aadl.specs.declared.marked.Marked.{Marked}
use Rattle.ag_aadl.specs.Rules.{refused_at}
use Rattle.ag_terms.specs.declared.clauses.Site.{Site}
use Rattle.ag_annex.specs.declared.nesting.Open.{Open}
use Rattle.ag_terms.specs.declared.terms.Binary.{Binary}
use Rattle.ag_lines.specs.Lines.{GoesOn}
use Rattle.ag_annex.specs.Marks.{negative_mark, not_mark, pre_mark, prev_mark, if_mark, then_mark, else_mark, number_mark, true_mark, false_mark, group_mark, operand_mark, call_mark, argument_mark, close_mark, path_mark}
use Rattle.ag_annex.specs.Nesting.{behind, levels, most_levels}
use Rattle.ag_annex.specs.Operators.{binary_of}
use Rattle.ag_annex.specs.Rules.{is_misplaced, opened, obey, run_from}

mutual
  -- an operand with all that follows it
  pub data IsFlat : List Marked → Type 0 where
    flat_choice : (w m n : Marked) (tests firsts others : List Marked) → w.mark ≡ if_mark → m.mark ≡ then_mark → n.mark ≡ else_mark → IsFlat tests → IsFlat firsts → IsFlat others → IsFlat (w ∷ (tests ++ m ∷ (firsts ++ n ∷ others)))
    flat_prefix : (m : Marked) (ms : List Marked) → (m.mark ≡ negative_mark) ⊎ (m.mark ≡ not_mark) → IsFlat ms → IsFlat (m ∷ ms)
    flat_alone : (ps : List Marked) → IsPrimary ps → IsFlat ps
    flat_between : (op : Binary) (ps : List Marked) (m : Marked) (ms : List Marked) → IsPrimary ps → binary_of m.mark ≡ Some op → IsFlat ms → IsFlat (ps ++ m ∷ ms)

  -- an operand without operators outside brackets
  pub data IsPrimary : List Marked → Type 0 where
    flat_number : (m : Marked) → m.mark ≡ number_mark → IsPrimary (m ∷ [])
    flat_truth : (m : Marked) → m.mark ≡ true_mark → IsPrimary (m ∷ [])
    flat_falsity : (m : Marked) → m.mark ≡ false_mark → IsPrimary (m ∷ [])
    flat_group : (m n : Marked) (ms : List Marked) → m.mark ≡ group_mark → n.mark ≡ close_mark → IsFlat ms → IsPrimary (m ∷ (ms ++ n ∷ []))
    flat_pre : (w m n : Marked) (ms : List Marked) → w.mark ≡ pre_mark → m.mark ≡ operand_mark → n.mark ≡ close_mark → IsFlat ms → IsPrimary (w ∷ m ∷ (ms ++ n ∷ []))
    flat_prev : (w m c n : Marked) (es is : List Marked) → w.mark ≡ prev_mark → m.mark ≡ operand_mark → c.mark ≡ argument_mark → n.mark ≡ close_mark → IsFlat es → IsFlat is → IsPrimary (w ∷ m ∷ (es ++ c ∷ (is ++ n ∷ [])))
    flat_name : (m : Marked) (ms : List Marked) → m.mark ≡ path_mark → GoesOn ms → IsPrimary (m ∷ ms)
    flat_bare_call : (m : Marked) (ms : List Marked) (o n : Marked) → m.mark ≡ path_mark → GoesOn ms → o.mark ≡ call_mark → n.mark ≡ close_mark → IsPrimary ((m ∷ ms) ++ o ∷ n ∷ [])
    flat_call : (m : Marked) (ms : List Marked) (o n : Marked) (args : List Marked) → m.mark ≡ path_mark → GoesOn ms → o.mark ≡ call_mark → n.mark ≡ close_mark → AreFlat args → IsPrimary ((m ∷ ms) ++ o ∷ (args ++ n ∷ []))

  -- arguments apart by `,`
  pub data AreFlat : List Marked → Type 0 where
    flat_last : (ms : List Marked) → IsFlat ms → AreFlat ms
    flat_more : (c : Marked) (ms more : List Marked) → c.mark ≡ argument_mark → IsFlat ms → AreFlat more → AreFlat (ms ++ c ∷ more)

-- ---- what is open

-- behind these tokens this is open
abbrev pub Opens : List Open → List Marked → List Open → Type 0
Opens before [] after = before ≡ after
Opens before (m ∷ ms) after = (next : List Open) × (behind m.mark before ≡ Some next) × Opens next ms after

-- what is open between some tokens and those behind them
pub opens-apart : (before : List Open) (ms more : List Marked) (after : List Open) → Opens before (ms ++ more) after → (middle : List Open) × Opens before ms middle × Opens middle more after
opens-apart before [] more after o = (before, refl, o)
opens-apart before (m ∷ ms) more after o = let p = opens-apart o.0 ms more after o.2 in (p.0, (o.0, o.1, p.1), p.2)

-- the first of some tokens, by its mark
pub opens-next : (before : List Open) (m : Marked) (ms : List Marked) (after : List Open) (k : ℕ) (next : List Open) → m.mark ≡ k → behind k before ≡ Some next → Opens before (m ∷ ms) after → Opens next ms after
opens-next before m ms after k next e f o =
    let two : Some o.0 ≡ Some next = sym o.1 ∙ ap (λ z. behind z before) e ∙ f in
    let same : o.0 ≡ next = cc in
    subst (λ (z : List Open). Opens z ms after) same o.2

-- where not too much is open
within-levels : (b : Bool) (m : Marked) (found opens : List Open) → (if b then Err (refused_at TooDeep m.token) else Ok found) ≡ Ok opens → found ≡ opens
within-levels true m found opens e = absurd cc
within-levels false m found opens e = cc

-- where a clause has its place in the annex
placed : (b : Bool) (m : Marked) (o : Option (List Open)) (opens : List Open) → (if b then Err (refused_at Misplaced m.token) else opened m o) ≡ Ok opens → o ≡ Some opens
placed true m o opens e = absurd cc
placed false m None opens e = absurd cc
placed false m (Some found) opens e = ap Some (within-levels (nat_lt most_levels (levels found)) m found opens e)

-- where a token breaks no rule, it has a place behind what is open
obeyed : (site : Site) (before : List Open) (m : Marked) (next : List Open) → obey site before m ≡ Ok next → behind m.mark before ≡ Some next
obeyed site before m next e = placed (is_misplaced site m.mark) m (behind m.mark before) next e

-- where the first of some tokens breaks no rule, and those behind it break none
runs-on : (site : Site) (before : List Open) (m : Marked) (ms : List Marked) (after : List Open) (o : Result (List Open) Refusal) → ((next : List Open) → run_from site (Ok next) ms ≡ Ok after → Opens next ms after)
    → obey site before m ≡ o → run_from site o ms ≡ Ok after → Opens before (m ∷ ms) after
runs-on site before m ms after (Err r) further o e = absurd cc
runs-on site before m ms after (Ok next) further o e = (next, obeyed site before m next o, further next e)

-- where the tokens break no rule
pub opens-behind : (site : Site) (before : List Open) (ms : List Marked) (after : List Open) → run_from site (Ok before) ms ≡ Ok after → Opens before ms after
opens-behind site before [] after e = let same : before ≡ after = cc in same
opens-behind site before (m ∷ ms) after e = runs-on site before m ms after (obey site before m) (λ next q. opens-behind site next ms after q) refl e
