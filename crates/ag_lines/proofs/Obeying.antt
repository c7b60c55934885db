-- In an expression that the lines of the grammar give each comparison has a place.
use Rattle.std.proofs.Common.{nat_lt, map, append_assoc, length, drop, take, ◌≡◌, ◌<◌, ◌≤◌, ◌⊎◌, inl, inr, ℕ, zero, suc, Bool, true, false, ◌==◌, ◌||◌, if◌then◌else◌, List, [], ◌∷◌, ◌++◌, Option, Some, None, Result, Ok, Err, refl, sym, ap, subst, ◌∙◌, arith}
use Rattle.std.proofs.lemmas.Bool.{cases_lt, lt-ltb, le-ltb, ne_eqb, eq-eqb, or_from}
use Rattle.ag_base.specs.declared.place.Refusal.{Refusal}
use Rattle.ag_base.specs.declared.place.Rule.TheVariants.{Expected, TooDeep, Misplaced}
use Rattle.std.proofs.lemmas.List.{length-map}
use Rattle.ag_grammar.specs.declared.grammar.Step.{Step}
use Rattle.ag_grammar.specs.declared.grammar.Step.TheVariants.{Expand, Shift}
use Rattle.ag_grammar.specs.Texts.{IsText, shifts, marks_of}
use Rattle.ag_lex.specs.declared.token.Token.{Token}
use Rattle.ag_aadl.specs.Marked.{marked, up_to}
use Rattle.ag_aadl.proofs.Shifting.{marked-append}
use Rattle.ag_annex.specs.Annexes.{BreaksRule}
use Rattle.ag_annex.specs.Grammar.{annex}
use Rattle.ag_annex.specs.Words.{terminals_of}
use Rattle.ag_lines.proofs.EachExpression.{AreParted, parted_none, parted_other, parted_value, text-parted, flat-within, up-to-end, past-expression}
use Rattle.ag_aadl.specs.declared.marked.Marked.{Marked}
use Rattle.ag_aadl.specs.Marks.{unmarked}
use Rattle.ag_aadl.specs.Rules.{refused_at}
use Rattle.ag_terms.specs.declared.clauses.Site.{Site}
use Rattle.ag_terms.specs.declared.clauses.Site.TheVariants.{Library, Frame, Body}
use Rattle.ag_annex.specs.declared.nesting.Open.{Open}
use Rattle.ag_annex.specs.declared.nesting.Open.TheVariants.{Bracket, Test, Yes, No, Prefix}
use Rattle.ag_terms.specs.declared.terms.Binary.{Binary}
use Rattle.ag_terms.specs.declared.terms.Term.{Term}
use Rattle.ag_lines.specs.Lines.{IsRanked, tighter, leftward, rightward, compared, negative, negated, number, truth, falsity, grouped, previous, started, chosen, named, called, AreArguments, no_argument, last_argument, next_argument, IsName, GoesOn, name_ends, next_part, a_body, AreRanked, AreByLines, expressions_in}
use Rattle.ag_annex.specs.Marks.{assume_mark, guarantee_mark, lemma_mark, eq_mark, assign_mark, value_mark, end_mark, negative_mark, not_mark, pre_mark, prev_mark, if_mark, then_mark, else_mark, number_mark, true_mark, false_mark, group_mark, operand_mark, call_mark, argument_mark, close_mark, path_mark, part_mark, path_body_mark}
use Rattle.ag_annex.specs.Nesting.{outside, inside, behind_then, behind_else, behind_operator, behind_rank, behind_mark, behind, levels, most_levels}
use Rattle.ag_annex.specs.Operators.{binary_of, rank, comparison}
use Rattle.ag_annex.specs.Rules.{run, run_from, obey, opened, is_misplaced}
use Rattle.ag_lines.proofs.Allowing.{is_compared, IsOver, over_all, Allows, over-from, over-alike, compared-free, allows-comparison, allows-tight, allows-loose, allows-prefix, allows-one, Within, within, allows-choice}
use Rattle.ag_lines.proofs.Flat.{Opens}
use Rattle.ag_lines.proofs.Reaching.{crosses-close, crosses-comma, crosses-then, crosses-else, opens-operator, rank-compared, rank-other}

-- ---- some tokens and those behind them

opens-join : (a : List Open) (ms : List Marked) (b : List Open) (more : List Marked) (c : List Open) → Opens a ms b → Opens b more c → Opens a (ms ++ more) c
opens-join a [] b more c x y = subst (λ (q : List Open). Opens q more c) (sym x) y
opens-join a (m ∷ ms) b more c x y = (x.0, x.1, opens-join x.0 ms b more c x.2 y)

-- one token by its mark, and those behind it
opens-one : (a : List Open) (m : Marked) (k : ℕ) (b : List Open) (ms : List Marked) (c : List Open) → m.mark ≡ k → behind k a ≡ Some b → Opens b ms c → Opens a (m ∷ ms) c
opens-one a m k b ms c e f o = (b, ap (λ (z : ℕ). behind z a) e ∙ f, o)

-- what goes on a name opens nothing
opens-parts : (a : List Open) {ms : List Marked} → GoesOn ms → Opens a ms a
opens-parts a name_ends = refl
opens-parts a (next_part c m ms x y z g) = opens-one a c unmarked a (m ∷ ms) a x refl (opens-one a m part_mark a ms a z refl (opens-parts a g))
opens-parts a (a_body d m x y z) = opens-one a d unmarked a (m ∷ []) a x refl (opens-one a m path_body_mark a [] a z refl refl)

opens-name : (bytes : List ℕ) (a : List Open) (ms : List Marked) (path : _) → IsName bytes ms path → Opens a ms a
opens-name bytes a ms path n = subst (λ (q : List Marked). Opens a q a) (sym n.tokens) (opens-one a n.first path_mark a n.more a n.begins refl (opens-parts a n.goes))

-- ---- expressions

-- The tokens are gone over from what is open in one place, and what is then open has all that a second such thing has. Where only tight operators
-- may stand outside brackets, it allows what that does.
record Followed (r : ℕ) (more less : List Open) (ms : List Marked) : Type 0 where
  opens : List Open
  goes : Opens more ms opens
  free : Bool
  over : IsOver free opens less
  covers : comparison < r → is_compared less ≡ false → free ≡ true

-- the same where only tight ones may
allows-all : (r : ℕ) (more less : List Open) (ms : List Marked) → comparison < r → (w : Followed r more less ms) → Allows w.opens less
allows-all r more less ms h w = record { free = w.free; over = w.over; covers = w.covers h }

-- an operand that leaves open what was so
stays : (r : ℕ) (more less : List Open) (ms : List Marked) → Opens more ms more → Allows more less → Followed r more less ms
stays r more less ms o a = record { opens = more; goes = o; free = a.free; over = a.over; covers = λ h. a.covers }

-- what an operand leaves open
leaves : (r : ℕ) (more less opens : List Open) (ms : List Marked) → Opens more ms opens → Allows opens less → Followed r more less ms
leaves r more less opens ms o a = record { opens = opens; goes = o; free = a.free; over = a.over; covers = λ h. a.covers }

-- behind an operator other than comparisons
other-operator : (opens : List Open) (m : Marked) (op : Binary) → binary_of m.mark ≡ Some op → (rank op ≡ comparison → ⊥) → behind m.mark opens ≡ Some (behind_operator (rank op) opens)
other-operator opens m op b h = opens-operator m.mark opens op b ∙ rank-other (rank op) opens h

-- the arguments of a call, with its bracket open
record Called (above under : List Open) (ms : List Marked) : Type 0 where
  opens : List Open
  goes : Opens (Bracket ∷ above) ms opens
  within : Within Bracket opens under

-- an expression and the `)` behind it, with the bracket open
record Bracketed (more less : List Open) (ms : List Marked) : Type 0 where
  above : List Open
  goes : Opens (Bracket ∷ more) ms above
  allows : Allows above less

-- an expression and the `,` behind it
record Separated (more less : List Open) (ms : List Marked) (c : Marked) : Type 0 where
  above : List Open
  further : (rest : List Marked) (opens : List Open) → Opens (Bracket ∷ above) rest opens → Opens (Bracket ∷ more) (ms ++ c ∷ rest) opens
  allows : Allows above less

-- an expression with its `)` behind it
bracketed : {more less : List Open} {ms : List Marked} → Followed 0 (Bracket ∷ more) (Bracket ∷ less) ms → (n : Marked) → n.mark ≡ close_mark → Bracketed more less (ms ++ n ∷ [])
bracketed {more} {less} {ms} w n e =
    let v = within w.over Bracket less refl (λ k. absurd cc) in
    record {
      above = v.above;
      goes = opens-join (Bracket ∷ more) ms w.opens (n ∷ []) v.above w.goes (opens-one w.opens n close_mark v.above [] v.above e (ap Some (ap outside v.parts ∙ crosses-close v.front v.above v.inner)) refl);
      allows = v.allows;
    }

-- an expression with a `,` behind it
separated : {more less : List Open} {ms : List Marked} → Followed 0 (Bracket ∷ more) (Bracket ∷ less) ms → (c : Marked) → c.mark ≡ argument_mark → Separated more less ms c
separated {more} {less} {ms} w c e =
    let v = within w.over Bracket less refl (λ k. absurd cc) in
    record {
      above = v.above;
      further = λ rest opens o. opens-join (Bracket ∷ more) ms w.opens (c ∷ rest) opens w.goes (opens-one w.opens c argument_mark (Bracket ∷ v.above) rest opens e (ap Some (ap inside v.parts ∙ crosses-comma v.front v.above v.inner)) o);
      allows = v.allows;
    }

-- both in a further bracket
allows-bracket : (more less : List Open) → Allows more less → Allows (Bracket ∷ more) (Bracket ∷ less)
allows-bracket more less a = allows-one Bracket more less refl refl refl a

-- a rank below that of comparisons
below-comparison : (r : ℕ) → r ≤ comparison → (r ≡ comparison → ⊥) → r < comparison
below-comparison r h other = elim (cases_lt r comparison) [
  | inl k ↦ k
  | inr k ↦ let e : r ≡ comparison = omega (arith, h, k) in absurd (other e)
]

mutual
  follow : (bytes : List ℕ) {r : ℕ} {ms : List Marked} {t : Term} → IsRanked bytes r ms t → (more less : List Open) → (r ≤ comparison → is_compared less ≡ false) → Allows more less → Followed r more less ms
  follow bytes (tighter r ms t h is) more less free a =
      let w = follow bytes is more less (λ k. free (omega (arith, k))) a in
      record { opens = w.opens; goes = w.goes; free = w.free; over = w.over; covers = λ k. w.covers (omega (arith, k)) }
  follow bytes (leftward op m before after left right b low other l r) more less free a = elim (cases_lt comparison (rank op)) [
    | inl h ↦
        let v = follow bytes l more less (λ k. absurd (omega (arith, k, h))) a in
        let there = allows-tight (rank op) v.opens less h (allows-all (rank op) more less before h v) in
        let w = follow bytes r (behind_operator (rank op) v.opens) less (λ k. absurd (omega (arith, k, h))) there in
        record {
          opens = w.opens;
          goes = opens-join more before v.opens (m ∷ after) w.opens v.goes (behind_operator (rank op) v.opens, other-operator v.opens m op b other, w.goes);
          free = w.free;
          over = w.over;
          covers = λ k. w.covers (omega (arith, k));
        }
    | inr h ↦
        let below : rank op < comparison = below-comparison (rank op) h other in
        let v = follow bytes l more less free a in
        let there = allows-loose (rank op) v.opens less below (over-from v.opens less v.free v.over) in
        let w = follow bytes r (behind_operator (rank op) v.opens) less (λ k. free h) there in
        record {
          opens = w.opens;
          goes = opens-join more before v.opens (m ∷ after) w.opens v.goes (behind_operator (rank op) v.opens, other-operator v.opens m op b other, w.goes);
          free = w.free;
          over = w.over;
          covers = λ k. absurd (omega (arith, k, h));
        }
  ]
  follow bytes (rightward op m before after left right b low l r) more less free a =
      let v = follow bytes l more less (λ k. free (omega (arith, low))) a in
      let there = allows-loose (rank op) v.opens less (omega (arith, low)) (over-from v.opens less v.free v.over) in
      let w = follow bytes r (behind_operator (rank op) v.opens) less free there in
      record {
        opens = w.opens;
        goes = opens-join more before v.opens (m ∷ after) w.opens v.goes (behind_operator (rank op) v.opens, other-operator v.opens m op b (λ e. absurd (omega (arith, low, e))), w.goes);
        free = w.free;
        over = w.over;
        covers = λ k. absurd (omega (arith, low, k));
      }
  follow bytes (compared op m before after left right b e l r) more less free a =
      let v = follow bytes l more less (λ k. absurd (omega (arith, k))) a in
      let c = compared-free less (free (omega arith)) in
      let f = allows-comparison v.opens less c.found (allows-all (suc comparison) more less before (omega arith) v) c.goes in
      let w = follow bytes r f.opens c.found (λ k. absurd (omega (arith, k))) f.allows in
      record {
        opens = w.opens;
        goes = opens-join more before v.opens (m ∷ after) w.opens v.goes (f.opens, opens-operator m.mark v.opens op b ∙ rank-compared (rank op) v.opens e ∙ f.goes, w.goes);
        free = w.free;
        over = over-alike w.over w.opens less refl (sym c.outer) refl;
        covers = λ k. absurd (omega (arith, k));
      }
  follow bytes (negative m ms t e is) more less free a =
      let w = follow bytes is (Prefix ∷ more) less (λ k. absurd (omega (arith, k))) (allows-prefix more less a) in
      record { opens = w.opens; goes = opens-one more m negative_mark (Prefix ∷ more) ms w.opens e refl w.goes; free = w.free; over = w.over; covers = w.covers }
  follow bytes (negated m ms t e is) more less free a =
      let w = follow bytes is (Prefix ∷ more) less (λ k. absurd (omega (arith, k))) (allows-prefix more less a) in
      record { opens = w.opens; goes = opens-one more m not_mark (Prefix ∷ more) ms w.opens e refl w.goes; free = w.free; over = w.over; covers = w.covers }
  follow bytes (number m e) more less free a = stays _ more less (m ∷ []) (opens-one more m number_mark more [] more e refl refl) a
  follow bytes (truth m e) more less free a = stays _ more less (m ∷ []) (opens-one more m true_mark more [] more e refl refl) a
  follow bytes (falsity m e) more less free a = stays _ more less (m ∷ []) (opens-one more m false_mark more [] more e refl refl) a
  follow bytes (grouped m n ms t x y is) more less free a =
      let w = bracketed (follow bytes is (Bracket ∷ more) (Bracket ∷ less) (λ k. refl) (allows-bracket more less a)) n y in
      leaves _ more less w.above (m ∷ (ms ++ n ∷ [])) (opens-one more m group_mark (Bracket ∷ more) (ms ++ n ∷ []) w.above x refl w.goes) w.allows
  follow bytes (previous v m n ms t x y z is) more less free a =
      let w = bracketed (follow bytes is (Bracket ∷ more) (Bracket ∷ less) (λ k. refl) (allows-bracket more less a)) n z in
      leaves _ more less w.above (v ∷ m ∷ (ms ++ n ∷ [])) (opens-one more v pre_mark more (m ∷ (ms ++ n ∷ [])) w.above x refl (opens-one more m operand_mark (Bracket ∷ more) (ms ++ n ∷ []) w.above y refl w.goes)) w.allows
  follow bytes (started v m c n es is e i x y z q l r) more less free a =
      let u = separated (follow bytes l (Bracket ∷ more) (Bracket ∷ less) (λ k. refl) (allows-bracket more less a)) c z in
      let w = bracketed (follow bytes r (Bracket ∷ u.above) (Bracket ∷ less) (λ k. refl) (allows-bracket u.above less u.allows)) n q in
      leaves _ more less w.above (v ∷ m ∷ (es ++ c ∷ (is ++ n ∷ [])))
      (opens-one more v prev_mark more (m ∷ (es ++ c ∷ (is ++ n ∷ []))) w.above x refl
      (opens-one more m operand_mark (Bracket ∷ more) (es ++ c ∷ (is ++ n ∷ [])) w.above y refl (u.further (is ++ n ∷ []) w.above w.goes)))
      w.allows
  follow bytes (chosen v m n tests firsts others test first other x y z p q r) more less free a =
      let s = follow bytes p (Test ∷ more) (Test ∷ less) (λ k. refl) (allows-one Test more less refl refl refl a) in
      let tested = within s.over Test less refl (λ e. absurd cc) in
      let u = follow bytes q (Yes ∷ tested.above) (Yes ∷ less) (λ k. refl) (allows-one Yes tested.above less refl refl refl tested.allows) in
      let done = within u.over Yes less refl (λ e. absurd cc) in
      let w = follow bytes r (No ∷ done.above) (No ∷ less) (λ k. refl) (allows-one No done.above less refl refl refl done.allows) in
      leaves _ more less w.opens (v ∷ (tests ++ m ∷ (firsts ++ n ∷ others)))
      (opens-one more v if_mark (Test ∷ more) (tests ++ m ∷ (firsts ++ n ∷ others)) w.opens x refl
      (opens-join (Test ∷ more) tests s.opens (m ∷ (firsts ++ n ∷ others)) w.opens s.goes
      (opens-one s.opens m then_mark (Yes ∷ tested.above) (firsts ++ n ∷ others) w.opens y (ap Some (ap behind_then tested.parts ∙ crosses-then tested.front tested.above tested.inner))
      (opens-join (Yes ∷ tested.above) firsts u.opens (n ∷ others) w.opens u.goes
      (opens-one u.opens n else_mark (No ∷ done.above) others w.opens z (ap Some (ap behind_else done.parts ∙ crosses-else done.front done.above done.inner)) w.goes)))))
      (allows-choice w.over less refl)
  follow bytes (named ms path n) more less free a = stays _ more less ms (opens-name bytes more ms path n) a
  follow bytes (called ms args m n path ts is x y are) more less free a =
      let w = arguments bytes are more less a in
      leaves _ more less w.within.above (ms ++ m ∷ (args ++ n ∷ []))
      (opens-join more ms more (m ∷ (args ++ n ∷ [])) w.within.above (opens-name bytes more ms path is)
      (opens-one more m call_mark (Bracket ∷ more) (args ++ n ∷ []) w.within.above x refl
      (opens-join (Bracket ∷ more) args w.opens (n ∷ []) w.within.above w.goes
      (opens-one w.opens n close_mark w.within.above [] w.within.above y (ap Some (ap outside w.within.parts ∙ crosses-close w.within.front w.within.above w.within.inner)) refl))))
      w.within.allows

  arguments : (bytes : List ℕ) {ms : List Marked} {ts : List Term} → AreArguments bytes ms ts → (more less : List Open) → Allows more less → Called more less ms
  arguments bytes no_argument more less a = record { opens = Bracket ∷ more; goes = refl; within = record { front = []; inner = tt; above = more; parts = refl; allows = a } }
  arguments bytes (last_argument ms t is) more less a =
      let w = follow bytes is (Bracket ∷ more) (Bracket ∷ less) (λ k. refl) (allows-bracket more less a) in
      record { opens = w.opens; goes = w.goes; within = within w.over Bracket less refl (λ k. absurd cc) }
  arguments bytes (next_argument c ms rest t u us e is are) more less a =
      let s = separated (follow bytes is (Bracket ∷ more) (Bracket ∷ less) (λ k. refl) (allows-bracket more less a)) c e in
      let w = arguments bytes are s.above less s.allows in
      record { opens = w.opens; goes = s.further rest w.opens w.goes; within = w.within }

-- each comparison of an expression has a place
pub expression-open : (bytes : List ℕ) (ms : List Marked) (t : Term) → IsRanked bytes 0 ms t → (opens : List Open) × Opens [] ms opens
expression-open bytes ms t is =
    let w = follow bytes is [] [] (λ k. refl) (record { free = true; over = over_all [] [] refl refl; covers = λ k. refl }) in
    (w.opens, w.goes)

-- ---- the rules

-- a clause of any site may have the token
abbrev IsPlaced : Marked → Type 0
IsPlaced m = (site : Site) → is_misplaced site m.mark ≡ false

-- each of some tokens is so
abbrev ArePlaced : List Marked → Type 0
ArePlaced [] = Unit {0}
ArePlaced (m ∷ ms) = IsPlaced m × ArePlaced ms

placed-append : (a b : List Marked) → ArePlaced a → ArePlaced b → ArePlaced (a ++ b)
placed-append [] b x y = y
placed-append (m ∷ a) b x y = (x.0, placed-append a b x.1 y)

-- a mark that is none of a clause's first words
not-that : (k w : ℕ) → w < k → (k == w) ≡ false
not-that k w h = ne_eqb k w (λ e. absurd (omega (arith, h, e)))

behind-words : (site : Site) (k : ℕ) → assign_mark < k → is_misplaced site k ≡ false
behind-words Library k h =
    or_from (k == assume_mark) (k == guarantee_mark || (k == lemma_mark || (k == eq_mark || k == assign_mark))) (not-that k assume_mark (omega arith))
    (or_from (k == guarantee_mark) (k == lemma_mark || (k == eq_mark || k == assign_mark)) (not-that k guarantee_mark (omega arith))
    (or_from (k == lemma_mark) (k == eq_mark || k == assign_mark) (not-that k lemma_mark (omega arith)) (or_from (k == eq_mark) (k == assign_mark) (not-that k eq_mark (omega arith)) (not-that k assign_mark h))))
behind-words Frame k h = or_from (k == lemma_mark) (k == assign_mark) (not-that k lemma_mark (omega arith)) (not-that k assign_mark h)
behind-words Body k h = or_from (k == assume_mark) (k == guarantee_mark) (not-that k assume_mark (omega arith)) (not-that k guarantee_mark (omega arith))

-- a token by its mark
placed-at : (m : Marked) (k : ℕ) → m.mark ≡ k → assign_mark < k → IsPlaced m
placed-at m k e h site = ap (is_misplaced site) e ∙ behind-words site k h

placed-unmarked : (m : Marked) → m.mark ≡ unmarked → IsPlaced m
placed-unmarked m e Library = ap (is_misplaced Library) e
placed-unmarked m e Frame = ap (is_misplaced Frame) e
placed-unmarked m e Body = ap (is_misplaced Body) e

-- no operator has a mark as small
no-operator : (k : ℕ) → k ≤ end_mark → binary_of k ≡ None
no-operator zero h = refl
no-operator (suc zero) h = refl
no-operator (suc (suc zero)) h = refl
no-operator (suc (suc (suc zero))) h = refl
no-operator (suc (suc (suc (suc zero)))) h = refl
no-operator (suc (suc (suc (suc (suc zero))))) h = refl
no-operator (suc (suc (suc (suc (suc (suc zero)))))) h = refl
no-operator (suc (suc (suc (suc (suc (suc (suc zero))))))) h = refl
no-operator (suc (suc (suc (suc (suc (suc (suc (suc zero)))))))) h = refl
no-operator (suc (suc (suc (suc (suc (suc (suc (suc (suc zero))))))))) h = refl
no-operator (suc (suc (suc (suc (suc (suc (suc (suc (suc (suc zero)))))))))) h = refl
no-operator (suc (suc (suc (suc (suc (suc (suc (suc (suc (suc (suc zero))))))))))) h = refl
no-operator (suc (suc (suc (suc (suc (suc (suc (suc (suc (suc (suc (suc zero)))))))))))) h = refl
no-operator (suc (suc (suc (suc (suc (suc (suc (suc (suc (suc (suc (suc (suc zero))))))))))))) h = refl
no-operator (suc (suc (suc (suc (suc (suc (suc (suc (suc (suc (suc (suc (suc (suc zero)))))))))))))) h = refl
no-operator (suc (suc (suc (suc (suc (suc (suc (suc (suc (suc (suc (suc (suc (suc (suc zero))))))))))))))) h = refl
no-operator (suc (suc (suc (suc (suc (suc (suc (suc (suc (suc (suc (suc (suc (suc (suc (suc zero)))))))))))))))) h = refl
no-operator (suc (suc (suc (suc (suc (suc (suc (suc (suc (suc (suc (suc (suc (suc (suc (suc (suc zero))))))))))))))))) h = refl
no-operator (suc (suc (suc (suc (suc (suc (suc (suc (suc (suc (suc (suc (suc (suc (suc (suc (suc (suc zero)))))))))))))))))) h = refl
no-operator (suc (suc (suc (suc (suc (suc (suc (suc (suc (suc (suc (suc (suc (suc (suc (suc (suc (suc (suc zero))))))))))))))))))) h = refl
no-operator (suc (suc (suc (suc (suc (suc (suc (suc (suc (suc (suc (suc (suc (suc (suc (suc (suc (suc (suc (suc k)))))))))))))))))))) h = absurd (omega (arith, h))

placed-operator : (m : Marked) (op : Binary) → binary_of m.mark ≡ Some op → IsPlaced m
placed-operator m op b = elim (cases_lt assign_mark m.mark) [
  | inl h ↦ placed-at m m.mark refl h
  | inr h ↦ let two : None ≡ Some op = sym (no-operator m.mark (omega (arith, h))) ∙ b in absurd cc
]

placed-parts : {ms : List Marked} → GoesOn ms → ArePlaced ms
placed-parts name_ends = tt
placed-parts (next_part c m ms x y z g) = (placed-unmarked c x, (placed-at m part_mark z (omega arith), placed-parts g))
placed-parts (a_body d m x y z) = (placed-unmarked d x, (placed-at m path_body_mark z (omega arith), tt))

placed-name : (bytes : List ℕ) (ms : List Marked) (path : _) → IsName bytes ms path → ArePlaced ms
placed-name bytes ms path n = subst ArePlaced (sym n.tokens) (placed-at n.first path_mark n.begins (omega arith), placed-parts n.goes)

mutual
  -- each token of an expression
  placed : (bytes : List ℕ) {r : ℕ} {ms : List Marked} {t : Term} → IsRanked bytes r ms t → ArePlaced ms
  placed bytes (tighter r ms t h is) = placed bytes is
  placed bytes (leftward op m before after left right b low other l r) = placed-append before (m ∷ after) (placed bytes l) (placed-operator m op b, placed bytes r)
  placed bytes (rightward op m before after left right b low l r) = placed-append before (m ∷ after) (placed bytes l) (placed-operator m op b, placed bytes r)
  placed bytes (compared op m before after left right b e l r) = placed-append before (m ∷ after) (placed bytes l) (placed-operator m op b, placed bytes r)
  placed bytes (negative m ms t e is) = (placed-at m negative_mark e (omega arith), placed bytes is)
  placed bytes (negated m ms t e is) = (placed-at m not_mark e (omega arith), placed bytes is)
  placed bytes (number m e) = (placed-at m number_mark e (omega arith), tt)
  placed bytes (truth m e) = (placed-at m true_mark e (omega arith), tt)
  placed bytes (falsity m e) = (placed-at m false_mark e (omega arith), tt)
  placed bytes (grouped m n ms t x y is) = (placed-at m group_mark x (omega arith), placed-append ms (n ∷ []) (placed bytes is) (placed-at n close_mark y (omega arith), tt))
  placed bytes (previous v m n ms t x y z is) =
      (placed-at v pre_mark x (omega arith), (placed-at m operand_mark y (omega arith), placed-append ms (n ∷ []) (placed bytes is) (placed-at n close_mark z (omega arith), tt)))
  placed bytes (started v m c n es is e i x y z q l r) = (
    placed-at v prev_mark x (omega arith),
    (
      placed-at m operand_mark y (omega arith),
      placed-append es (c ∷ (is ++ n ∷ [])) (placed bytes l) (placed-at c argument_mark z (omega arith), placed-append is (n ∷ []) (placed bytes r) (placed-at n close_mark q (omega arith), tt)),
    ),
  )
  placed bytes (chosen v m n tests firsts others test first other x y z a b c) = (
    placed-at v if_mark x (omega arith),
    placed-append tests (m ∷ (firsts ++ n ∷ others)) (placed bytes a)
        (placed-at m then_mark y (omega arith), placed-append firsts (n ∷ others) (placed bytes b) (placed-at n else_mark z (omega arith), placed bytes c)),
  )
  placed bytes (named ms path n) = placed-name bytes ms path n
  placed bytes (called ms args m n path ts is x y are) =
      placed-append ms (m ∷ (args ++ n ∷ [])) (placed-name bytes ms path is) (placed-at m call_mark x (omega arith), placed-append args (n ∷ []) (placed-arguments bytes are) (placed-at n close_mark y (omega arith), tt))

  placed-arguments : (bytes : List ℕ) {ms : List Marked} {ts : List Term} → AreArguments bytes ms ts → ArePlaced ms
  placed-arguments bytes no_argument = tt
  placed-arguments bytes (last_argument ms t is) = placed bytes is
  placed-arguments bytes (next_argument c ms more t u us e is are) = placed-append ms (c ∷ more) (placed bytes is) (placed-at c argument_mark e (omega arith), placed-arguments bytes are)

-- where a token has a place, it breaks no rule but that of levels
obeyed-by : (site : Site) (m : Marked) (o : Option (List Open)) (b : Bool) → b ≡ false → (next : List Open) → o ≡ Some next
    → ((if b then Err (refused_at Misplaced m.token) else opened m o) ≡ Ok next) ⊎ ((if b then Err (refused_at Misplaced m.token) else opened m o) ≡ Err (refused_at TooDeep m.token))
obeyed-by site m o true e next f = absurd cc
obeyed-by site m None false e next f = absurd cc
obeyed-by site m (Some found) false e next f =
    let same : found ≡ next = cc in
    elim (cases_lt most_levels (levels found)) [
      | inl h ↦ inr (ap (λ (b : Bool). let x : Result (List Open) Refusal = if b then Err (refused_at TooDeep m.token) else Ok found in x) (lt-ltb most_levels (levels found) h))
      | inr h ↦ inl (ap (λ (b : Bool). let x : Result (List Open) Refusal = if b then Err (refused_at TooDeep m.token) else Ok found in x) (le-ltb most_levels (levels found) h) ∙ ap Ok same)
    ]

-- some tokens, and those behind them
run-append : (site : Site) (o : Result (List Open) Refusal) (a b : List Marked) → run_from site o (a ++ b) ≡ run_from site (run_from site o a) b
run-append site (Err r) a b = refl
run-append site (Ok opens) [] b = refl
run-append site (Ok opens) (m ∷ a) b = run-append site (obey site opens m) a b

-- where some tokens have places, the first rule that they break is that of levels, or it is broken behind them
obeyed-all : (site : Site) (ms rest : List Marked) (opens after : List Open) (r : Refusal) → Opens opens ms after → ArePlaced ms → run_from site (Ok opens) (ms ++ rest) ≡ Err r → (r.rule ≡ TooDeep) ⊎ (run_from site (Ok after) rest ≡ Err r)
obeyed-all site [] rest opens after r o p e = inr (ap (λ (q : List Open). run_from site (Ok q) rest) (sym o) ∙ e)
obeyed-all site (m ∷ ms) rest opens after r o p e =
    elim (obeyed-by site m (behind m.mark opens) (is_misplaced site m.mark) (p.0 site) o.0 o.1) [
      | inl f ↦ obeyed-all site ms rest o.0 after r o.2 p.1 (sym (ap (λ (q : Result (List Open) Refusal). run_from site q (ms ++ rest)) f) ∙ e)
      | inr f ↦
          let two : Err (refused_at TooDeep m.token) ≡ Err r = sym (ap (λ (q : Result (List Open) Refusal). run_from site q (ms ++ rest)) f) ∙ e in
          let same : refused_at TooDeep m.token ≡ r = cc in
          inl (sym (ap (λ (q : Refusal). q.rule) same))
    ]

-- a token that is no operator has a place
plain-place : (k : ℕ) (a : List Open) → k ≤ end_mark → behind k a ≡ Some (behind_mark k a)
plain-place k a h = ap (λ (o : Option Binary). let x : Option (List Open) = elim o [
  | None ↦ Some (behind_mark k a)
  | Some op ↦ behind_rank (rank op) a
] in x) (no-operator k h)

run-none : (site : Site) (o : Result (List Open) Refusal) → run_from site o [] ≡ o
run-none site (Err r) = refl
run-none site (Ok opens) = refl

-- what may be broken of clauses by the lines
abbrev IsOther : Refusal → Type 0
IsOther r = (r.rule ≡ TooDeep) ⊎ (r.rule ≡ Misplaced)

-- a token outside expressions
plain-by : (site : Site) (m : Marked) (o : Option (List Open)) (b : Bool) (next : List Open) → o ≡ Some next
    → ((if b then Err (refused_at Misplaced m.token) else opened m o) ≡ Ok next) ⊎ ((r : Refusal) × ((if b then Err (refused_at Misplaced m.token) else opened m o) ≡ Err r) × IsOther r)
plain-by site m o true next e = inr (refused_at Misplaced m.token, refl, inr refl)
plain-by site m o false next e = elim (obeyed-by site m o false refl next e) [
  | inl f ↦ inl f
  | inr f ↦ inr (refused_at TooDeep m.token, f, inl refl)
]

plain-obeys : (site : Site) (m : Marked) (ms : List Marked) (opens : List Open) (r : Refusal) → m.mark ≤ end_mark → ((next : List Open) → run_from site (Ok next) ms ≡ Err r → IsOther r) → run_from site (Ok opens) (m ∷ ms) ≡ Err r → IsOther r
plain-obeys site m ms opens r h further e = elim (plain-by site m (behind m.mark opens) (is_misplaced site m.mark) (behind_mark m.mark opens) (plain-place m.mark opens h)) [
  | inl f ↦ further (behind_mark m.mark opens) (sym (ap (λ (q : Result (List Open) Refusal). run_from site q ms) f) ∙ e)
  | inr p ↦
      let two : Err p.0 ≡ Err r = sym (ap (λ (q : Result (List Open) Refusal). run_from site q ms) p.1) ∙ e in
      let same : p.0 ≡ r = cc in
      subst IsOther same p.2
]

-- a `:` or `=`, or a `;`, which ends what is open
ends-obey : (site : Site) (m : Marked) (k : ℕ) (ms : List Marked) (opens : List Open) (r : Refusal) → m.mark ≡ k → assign_mark < k → behind k opens ≡ Some [] → run_from site (Ok opens) (m ∷ ms) ≡ Err r → run_from site (Ok []) ms ≡ Err r
ends-obey site m k ms opens r e h f g =
    let o : obey site opens m ≡ Ok [] =
    ap (λ (b : Bool). let x : Result (List Open) Refusal = if b then Err (refused_at Misplaced m.token) else opened m (behind m.mark opens) in x) (placed-at m k e h site)
    ∙ ap (opened m) (ap (λ (z : ℕ). behind z opens) e ∙ f) in
    sym (ap (λ (q : Result (List Open) Refusal). run_from site q ms) o) ∙ g

-- tokens of clauses whose expressions the lines give
parted-obey : (bytes : List ℕ) (site : Site) {ms : List Marked} → AreParted ms → AreRanked bytes (expressions_in ms) → (opens : List Open) (r : Refusal) → run_from site (Ok opens) ms ≡ Err r → IsOther r
parted-obey bytes site parted_none are opens r e = let two : Ok opens ≡ Err r = sym (run-none site (Ok opens)) ∙ e in absurd cc
parted-obey bytes site (parted_other m ms low other is) are opens r e =
    let f : expressions_in (m ∷ ms) ≡ expressions_in ms = ap (λ (b : Bool). if b then up_to (end_mark ∷ []) ms ∷ expressions_in ms else expressions_in ms) (ne_eqb m.mark value_mark other) in
    plain-obeys site m ms opens r low (λ next g. parted-obey bytes site is (subst (AreRanked bytes) f are) next r g) e
parted-obey bytes site (parted_value v es m ms x is y parts) are opens r e =
    let w = flat-within is in
    let same : expressions_in (v ∷ (es ++ m ∷ ms)) ≡ es ∷ expressions_in ms =
    ap (λ (b : Bool). if b then up_to (end_mark ∷ []) (es ++ m ∷ ms) ∷ expressions_in (es ++ m ∷ ms) else expressions_in (es ++ m ∷ ms)) (eq-eqb v.mark value_mark x)
    ∙ ap (λ z. z ∷ expressions_in (es ++ m ∷ ms)) (up-to-end es m ms w y) ∙ ap (λ z. es ∷ z) (past-expression es m ms w y) in
    let ranked = subst (AreRanked bytes) same are in
    let all = expression-open bytes es ranked.0.0 ranked.0.1 in
    let from = ends-obey site v value_mark (es ++ m ∷ ms) opens r x (omega arith) refl e in
    elim (obeyed-all site es (m ∷ ms) [] all.0 r all.1 (placed bytes ranked.0.1) from) [
      | inl h ↦ inl h
      | inr h ↦ parted-obey bytes site parts ranked.1 [] r (ends-obey site m end_mark ms all.0 r y (omega arith) refl h)
    ]

-- clauses whose expressions the lines give break no rule but that of levels and that of the site
pub clauses-obey : (bytes : List ℕ) (tokens : List Token) (site : Site) (steps : List Step) (r : Refusal) → AreByLines bytes tokens steps → run site (marked (terminals_of bytes tokens) tokens steps) ≡ Err r → (r.rule ≡ TooDeep) ⊎ (r.rule ≡ Misplaced)
clauses-obey bytes tokens site steps r are e = parted-obey bytes site (text-parted bytes tokens steps are.text) are.expressions [] r e

-- ---- the first refusal

-- the marks of some tokens
abbrev marks : List Marked → List ℕ
marks ms = map (λ (m : Marked). m.mark) ms

-- the tokens that some steps shift have their marks
marks-shifted : (xs : List ℕ) (ts : List Token) (steps : List Step) → length xs ≡ length ts → shifts steps ≤ length ts → marks (marked xs ts steps) ≡ marks_of steps
marks-shifted xs ts [] e h = refl
marks-shifted xs ts (Expand n ∷ steps) e h = marks-shifted xs ts steps e h
marks-shifted [] [] (Shift k ∷ steps) e h = absurd (omega (arith, h))
marks-shifted [] (t ∷ ts) (Shift k ∷ steps) e h = absurd (omega (arith, e))
marks-shifted (x ∷ xs) [] (Shift k ∷ steps) e h = absurd (omega (arith, e))
marks-shifted (x ∷ xs) (t ∷ ts) (Shift k ∷ steps) e h = ap (λ (z : List ℕ). k ∷ z) (marks-shifted xs ts steps (omega (arith, e)) (omega (arith, h)))

-- the same rule is broken
abbrev BreaksAlike : Site → List Open → List Marked → Refusal → Type 0
BreaksAlike site opens ms r = (q : Refusal) × (run_from site (Ok opens) ms ≡ Err q) × (q.rule ≡ r.rule)

alike-levels : (b : Bool) (found : List Open) (site : Site) (m n : Marked) (ms ns : List Marked) (r : Refusal) → (run_from site (Ok found) ms ≡ Err r → BreaksAlike site found ns r)
    → run_from site (if b then Err (refused_at TooDeep m.token) else Ok found) ms ≡ Err r → (q : Refusal) × (run_from site (if b then Err (refused_at TooDeep n.token) else Ok found) ns ≡ Err q) × (q.rule ≡ r.rule)
alike-levels true found site m n ms ns r further e = let same : refused_at TooDeep m.token ≡ r = cc in (refused_at TooDeep n.token, refl, ap (λ (q : Refusal). q.rule) same)
alike-levels false found site m n ms ns r further e = further e

-- what one token breaks, whatever token it is
alike-by : (b : Bool) (o : Option (List Open)) (site : Site) (m n : Marked) (ms ns : List Marked) (r : Refusal) → ((next : List Open) → run_from site (Ok next) ms ≡ Err r → BreaksAlike site next ns r)
    → run_from site (if b then Err (refused_at Misplaced m.token) else opened m o) ms ≡ Err r
    → (q : Refusal) × (run_from site (if b then Err (refused_at Misplaced n.token) else opened n o) ns ≡ Err q) × (q.rule ≡ r.rule)
alike-by true o site m n ms ns r further e = let same : refused_at Misplaced m.token ≡ r = cc in (refused_at Misplaced n.token, refl, ap (λ (q : Refusal). q.rule) same)
alike-by false None site m n ms ns r further e = let same : refused_at Expected m.token ≡ r = cc in (refused_at Expected n.token, refl, ap (λ (q : Refusal). q.rule) same)
alike-by false (Some found) site m n ms ns r further e = alike-levels (nat_lt most_levels (levels found)) found site m n ms ns r (further found) e

-- where tokens of the same marks stand, the same rule is broken first
alike : (site : Site) (opens : List Open) (ms ns : List Marked) (r : Refusal) → marks ms ≡ marks ns → run_from site (Ok opens) ms ≡ Err r → BreaksAlike site opens ns r
alike site opens [] ns r e f = let two : Ok opens ≡ Err r = sym (run-none site (Ok opens)) ∙ f in absurd cc
alike site opens (m ∷ ms) [] r e f = absurd cc
alike site opens (m ∷ ms) (n ∷ ns) r e f =
    let first : m.mark ≡ n.mark = cc in
    let more : marks ms ≡ marks ns = cc in
    subst (λ (k : ℕ). (q : Refusal) × (run_from site (if is_misplaced site k then Err (refused_at Misplaced n.token) else opened n (behind k opens)) ns ≡ Err q) × (q.rule ≡ r.rule)) first
    (alike-by (is_misplaced site m.mark) (behind m.mark opens) site m n ms ns r (λ next g. alike site next ms ns r more g) f)

-- how many the last step makes them
shifts-one : (steps : List Step) (k : ℕ) → shifts (steps ++ Shift k ∷ []) ≡ suc (shifts steps)
shifts-one [] k = refl
shifts-one (Shift j ∷ steps) k = ap suc (shifts-one steps k)
shifts-one (Expand n ∷ steps) k = shifts-one steps k

front-count : (k : ℕ) (xs rest : List ℕ) → k ≤ length xs → k ≤ length (take k xs ++ rest)
front-count zero xs rest h = omega arith
front-count (suc k) [] rest h = absurd (omega (arith, h))
front-count (suc k) (x ∷ xs) rest h = let g = front-count k xs rest (omega (arith, h)) in omega (arith, g)

-- some terminals and others are as many at least
front-length : (k : ℕ) (xs rest ys : List ℕ) → k ≤ length xs → ys ≡ take k xs ++ rest → k ≤ length ys
front-length k xs rest ys h e = let f : length ys ≡ length (take k xs ++ rest) = ap length e in let g = front-count k xs rest h in omega (arith, f, g)

-- no clauses by the lines begin with the tokens up to the refused one
pub none-begins : (bytes : List ℕ) (tokens : List Token) (site : Site) (r : Refusal) (b : BreaksRule bytes tokens site r) → r.rule ≡ Expected → (others : List ℕ) (found : List Token) (rest : List ℕ) (steps : List Step)
    → terminals_of others found ≡ take (suc (shifts b.before)) (terminals_of bytes tokens) ++ rest → AreByLines others found steps → ⊥
none-begins bytes tokens site r b expected others found rest steps same are =
    let k = suc (shifts b.before) in
    let xs = terminals_of bytes tokens in
    let ys = terminals_of others found in
    let front = b.before ++ Shift b.mark ∷ [] in
    let more = b.always rest steps (subst (λ (z : List ℕ). IsText annex z steps) same are.text) in
    let parts : steps ≡ front ++ more.0 = more.1 ∙ sym (append_assoc b.before (Shift b.mark ∷ []) more.0) in
    let count : shifts front ≡ k = shifts-one b.before b.mark in
    let even : length xs ≡ length tokens = simp length-map in
    let evens : length ys ≡ length found = simp length-map in
    let within : shifts front ≤ length tokens = let h = b.within in omega (arith, count, h) in
    let reach : k ≤ length ys = front-length k xs rest ys (let h = b.within in omega (arith, h, even)) same in
    let alikes : marks (marked xs tokens front) ≡ marks (marked ys found front) = marks-shifted xs tokens front even within ∙ sym (marks-shifted ys found front evens (omega (arith, count, reach, evens))) in
    let broken = alike site [] (marked xs tokens front) (marked ys found front) r alikes b.broken in
    let behind_it = marked (drop (shifts front) ys) (drop (shifts front) found) more.0 in
    let all : run site (marked ys found steps) ≡ Err broken.0 =
    ap (λ (z : List Step). run site (marked ys found z)) parts ∙ ap (run site) (marked-append ys found front more.0)
    ∙ run-append site (Ok []) (marked ys found front) behind_it ∙ ap (λ (z : Result (List Open) Refusal). run_from site z behind_it) broken.1 in
    elim (clauses-obey others found site steps broken.0 are all) [
      | inl e ↦ let two : Expected ≡ TooDeep = sym expected ∙ sym broken.2 ∙ e in absurd cc
      | inr e ↦ let two : Expected ≡ Misplaced = sym expected ∙ sym broken.2 ∙ e in absurd cc
    ]
