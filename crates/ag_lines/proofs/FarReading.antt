-- Where each operand behind an `else` reaches as far as it can, the expression that the lines give is read.
use Rattle.std.proofs.Common.{◌≡◌, ◌<◌, ◌≤◌, inl, inr, ℕ, suc, Bool, true, false, ◌==◌, ◌&&◌, ◌||◌, if◌then◌else◌, List, [], ◌∷◌, ◌++◌, Option, Some, None, refl, sym, ap, ap₂, ◌∙◌, append_assoc, arith}
use Rattle.std.specs.Prelude.{nat_lt}
use Rattle.std.proofs.lemmas.Bool.{cases_lt, lt-ltb, le-ltb, eq-eqb, ne_eqb, or_from, ltb-true, eqb-true}
use Rattle.std.proofs.lemmas.List.{append-nil}
use Rattle.ag_base.specs.declared.place.Place.{Place}
use Rattle.ag_aadl.specs.declared.marked.Marked.{Marked}
use Rattle.ag_terms.specs.declared.names.Path.{Path}
use Rattle.ag_aadl.specs.Marked.{under}
use Rattle.ag_aadl.specs.Meaning.{path_of}
use Rattle.ag_annex.specs.declared.frames.Frame.{Frame}
use Rattle.ag_annex.specs.declared.frames.Frame.TheVariants as frame
use Rattle.ag_annex.specs.declared.frames.Operand.{Operand}
use Rattle.ag_annex.specs.declared.frames.Operand.TheVariants.{Nothing, Name, Whole}
use Rattle.ag_annex.specs.declared.frames.Reading.{Reading}
use Rattle.ag_terms.specs.declared.terms.Binary.{Binary}
use Rattle.ag_terms.specs.declared.terms.Binary.TheVariants.{Arrow}
use Rattle.ag_terms.specs.declared.terms.Term.{Term, Named}
use Rattle.ag_terms.specs.declared.terms.Term.TheViews as term
use Rattle.ag_terms.specs.declared.terms.Unary.{Unary}
use Rattle.ag_terms.specs.declared.terms.Unary.TheVariants as unary
use Rattle.ag_annex.specs.Expressions.{operand_term, named as named_as, is_nothing, ends_before, close_before, close_choice, close_all, behind_infix, behind_close, behind_comma, behind_test, behind_yes, read_token, read_tokens, finished, term_of}
use Rattle.ag_annex.specs.Marks.{negative_mark, not_mark, pre_mark, prev_mark, if_mark, then_mark, else_mark, number_mark, true_mark, false_mark, group_mark, operand_mark, call_mark, argument_mark, close_mark, path_body_mark}
use Rattle.ag_annex.specs.Operators.{binary_of, rank, comparison, last_right}
use Rattle.ag_lines.specs.Lines.{factor, IsName, name_parts_in}
use Rattle.ag_lines.specs.Reach.{Tail, NoChoice, Taking, Full, tail_of_choice, IsFar, IsStated, tighter, leftward, rightward, compared, negative, negated, number, truth, falsity, grouped, previous, started, chosen, named, called, AreFar, no_argument, last_argument, next_argument}
use Rattle.ag_lines.proofs.FlatReading.{unread_in, with-some}
use Rattle.ag_lines.proofs.Names.{read-name, told-as}
use Rattle.ag_lines.proofs.Ranks.{rank_within, none-waits}
use Rattle.ag_lines.proofs.Reaching.{read-as, read-apart, read-operator}

-- ---- what waits for its last operand

-- operators and choices alone
abbrev AreOpen : List Frame → Type 0
AreOpen [] = Unit {0}
AreOpen (frame.Prefix op place ∷ frames) = AreOpen frames
AreOpen (frame.Infix op place left ∷ frames) = AreOpen frames
AreOpen (frame.No place test first ∷ frames) = AreOpen frames
AreOpen (f ∷ frames) = ⊥

-- what they state with their last operand
abbrev folded : List Frame → Term → Term
folded [] t = t
folded (frame.Prefix op place ∷ frames) t = folded frames (term.Unary op place t)
folded (frame.Infix op place left ∷ frames) t = folded frames (term.Binary op place left t)
folded (frame.No place test first ∷ frames) t = folded frames (term.Choice place test first t)
folded (f ∷ frames) t = t

-- operators of this rank and tighter ones alone
abbrev AreTight : ℕ → List Frame → Type 0
AreTight r [] = Unit {0}
AreTight r (frame.Prefix op place ∷ frames) = AreTight r frames
AreTight r (frame.Infix op place left ∷ frames) = (r ≤ rank op) × AreTight r frames
AreTight r (f ∷ frames) = ⊥

-- each ends before a comparison, which goes on behind them
abbrev mutual
  pass : List Frame → Bool
  pass [] = true
  pass (frame.Prefix op place ∷ frames) = pass frames
  pass (frame.Infix op place left ∷ frames) = if nat_lt comparison (rank op) then pass frames else (if rank op == comparison then pass_choice frames else false)
  pass (f ∷ frames) = false

  -- the same where a comparison among them has ended, so that a choice has to
  pass_choice : List Frame → Bool
  pass_choice [] = false
  pass_choice (frame.Prefix op place ∷ frames) = pass_choice frames
  pass_choice (frame.Infix op place left ∷ frames) = pass_choice frames
  pass_choice (frame.No place test first ∷ frames) = pass frames
  pass_choice (f ∷ frames) = false

-- each ends before a comparison, and so has to a choice outside them
abbrev mutual
  pend : List Frame → Bool
  pend [] = false
  pend (frame.Prefix op place ∷ frames) = pend frames
  pend (frame.Infix op place left ∷ frames) = if nat_lt comparison (rank op) then pend frames else (if rank op == comparison then pend_choice frames else false)
  pend (f ∷ frames) = false

  pend_choice : List Frame → Bool
  pend_choice [] = true
  pend_choice (frame.Prefix op place ∷ frames) = pend_choice frames
  pend_choice (frame.Infix op place left ∷ frames) = pend_choice frames
  pend_choice (frame.No place test first ∷ frames) = pend frames
  pend_choice (f ∷ frames) = false

-- ---- what follows it

open-append : (a b : List Frame) → AreOpen a → AreOpen b → AreOpen (a ++ b)
open-append [] b x y = y
open-append (frame.Prefix op place ∷ a) b x y = open-append a b x y
open-append (frame.Infix op place left ∷ a) b x y = open-append a b x y
open-append (frame.No place test first ∷ a) b x y = open-append a b x y
open-append (frame.Group ∷ a) b x y = absurd x
open-append (frame.Pre place ∷ a) b x y = absurd x
open-append (frame.Prev place ∷ a) b x y = absurd x
open-append (frame.Start place arg ∷ a) b x y = absurd x
open-append (frame.Call path args ∷ a) b x y = absurd x
open-append (frame.Test place ∷ a) b x y = absurd x
open-append (frame.Yes place test ∷ a) b x y = absurd x

folded-append : (a b : List Frame) (t : Term) → AreOpen a → folded (a ++ b) t ≡ folded b (folded a t)
folded-append [] b t x = refl
folded-append (frame.Prefix op place ∷ a) b t x = folded-append a b (term.Unary op place t) x
folded-append (frame.Infix op place left ∷ a) b t x = folded-append a b (term.Binary op place left t) x
folded-append (frame.No place test first ∷ a) b t x = folded-append a b (term.Choice place test first t) x
folded-append (frame.Group ∷ a) b t x = absurd x
folded-append (frame.Pre place ∷ a) b t x = absurd x
folded-append (frame.Prev place ∷ a) b t x = absurd x
folded-append (frame.Start place arg ∷ a) b t x = absurd x
folded-append (frame.Call path args ∷ a) b t x = absurd x
folded-append (frame.Test place ∷ a) b t x = absurd x
folded-append (frame.Yes place test ∷ a) b t x = absurd x

-- before a bracket's end all of it ends
closes-all : (a base : List Frame) (t : Term) → AreOpen a → close_all (a ++ base) t ≡ close_all base (folded a t)
closes-all [] base t x = refl
closes-all (frame.Prefix op place ∷ a) base t x = closes-all a base (term.Unary op place t) x
closes-all (frame.Infix op place left ∷ a) base t x = closes-all a base (term.Binary op place left t) x
closes-all (frame.No place test first ∷ a) base t x = closes-all a base (term.Choice place test first t) x
closes-all (frame.Group ∷ a) base t x = absurd x
closes-all (frame.Pre place ∷ a) base t x = absurd x
closes-all (frame.Prev place ∷ a) base t x = absurd x
closes-all (frame.Start place arg ∷ a) base t x = absurd x
closes-all (frame.Call path args ∷ a) base t x = absurd x
closes-all (frame.Test place ∷ a) base t x = absurd x
closes-all (frame.Yes place test ∷ a) base t x = absurd x

-- one operator that ends
ends-one : (q : ℕ) (op : Binary) (place : Place) (left : Term) (frames : List Frame) (t : Term) → ends_before op q ≡ true → (q == comparison) ≡ false
    → close_before q (frame.Infix op place left ∷ frames) t ≡ close_before q frames (term.Binary op place left t)
ends-one q op place left frames t e f =
    let inner = if q == comparison && rank op == comparison then close_choice q frames (term.Binary op place left t) else close_before q frames (term.Binary op place left t) in
    ap (λ (b : Bool). if b then inner else (frame.Infix op place left ∷ frames, t)) e
    ∙ ap (λ (b : Bool). if b && rank op == comparison then close_choice q frames (term.Binary op place left t) else close_before q frames (term.Binary op place left t)) f

-- before an operator other than comparisons tight ones end
closes-tight : (q r : ℕ) → ((op : Binary) → r ≤ rank op → ends_before op q ≡ true) → (q == comparison) ≡ false → (a base : List Frame) (t : Term) → AreTight r a → close_before q (a ++ base) t ≡ close_before q base (folded a t)
closes-tight q r ends f [] base t x = refl
closes-tight q r ends f (frame.Prefix op place ∷ a) base t x = closes-tight q r ends f a base (term.Unary op place t) x
closes-tight q r ends f (frame.Infix op place left ∷ a) base t x = ends-one q op place left (a ++ base) t (ends op x.0) f ∙ closes-tight q r ends f a base (term.Binary op place left t) x.1
closes-tight q r ends f (frame.No place test first ∷ a) base t x = absurd x
closes-tight q r ends f (frame.Group ∷ a) base t x = absurd x
closes-tight q r ends f (frame.Pre place ∷ a) base t x = absurd x
closes-tight q r ends f (frame.Prev place ∷ a) base t x = absurd x
closes-tight q r ends f (frame.Start place arg ∷ a) base t x = absurd x
closes-tight q r ends f (frame.Call path args ∷ a) base t x = absurd x
closes-tight q r ends f (frame.Test place ∷ a) base t x = absurd x
closes-tight q r ends f (frame.Yes place test ∷ a) base t x = absurd x

-- no rank is above that of comparisons and is that
both-ranks : (r : ℕ) → nat_lt comparison r ≡ true → (r == comparison) ≡ true → ⊥
both-ranks r e f = let h = ltb-true comparison r e in let k = eqb-true r comparison f in absurd (omega (arith, h, k))

-- before a comparison one operator ends by its rank
compares-one : (b c : Bool) (op : Binary) (place : Place) (left : Term) (frames base : List Frame) (t : Term) (after : List Frame × Term) → nat_lt comparison (rank op) ≡ b → (rank op == comparison) ≡ c
    → (if b then pass frames else (if c then pass_choice frames else false)) ≡ true
    → (pass frames ≡ true → close_before comparison (frames ++ base) (term.Binary op place left t) ≡ after)
    → (pass_choice frames ≡ true → close_choice comparison (frames ++ base) (term.Binary op place left t) ≡ after)
    → close_before comparison (frame.Infix op place left ∷ (frames ++ base)) t ≡ after
compares-one true true op place left frames base t after e f h goes ends = absurd (both-ranks (rank op) e f)
compares-one true false op place left frames base t after e f h goes ends =
    ap₂ (λ (x y : Bool). if x || (y && nat_lt last_right comparison) then (if comparison == comparison && y then close_choice comparison (frames ++ base) (term.Binary op place left t) else close_before comparison (frames ++ base) (term.Binary op place left t)) else (frame.Infix op place left ∷ (frames ++ base), t)) e f
    ∙ goes h
compares-one false true op place left frames base t after e f h goes ends =
    ap₂ (λ (x y : Bool). if x || (y && nat_lt last_right comparison) then (if comparison == comparison && y then close_choice comparison (frames ++ base) (term.Binary op place left t) else close_before comparison (frames ++ base) (term.Binary op place left t)) else (frame.Infix op place left ∷ (frames ++ base), t)) e f
    ∙ ends h
compares-one false false op place left frames base t after e f h goes ends = absurd cc

mutual
  -- what passes ends before a comparison
  closes-pass : (a base : List Frame) (t : Term) → pass a ≡ true → close_before comparison (a ++ base) t ≡ close_before comparison base (folded a t)
  closes-pass [] base t x = refl
  closes-pass (frame.Prefix op place ∷ a) base t x = closes-pass a base (term.Unary op place t) x
  closes-pass (frame.Infix op place left ∷ a) base t x =
      compares-one (nat_lt comparison (rank op)) (rank op == comparison) op place left a base t (close_before comparison base (folded a (term.Binary op place left t))) refl refl x
      (λ h. closes-pass a base (term.Binary op place left t) h) (λ h. closes-pass-choice a base (term.Binary op place left t) h)
  closes-pass (frame.No place test first ∷ a) base t x = absurd cc
  closes-pass (frame.Group ∷ a) base t x = absurd cc
  closes-pass (frame.Pre place ∷ a) base t x = absurd cc
  closes-pass (frame.Prev place ∷ a) base t x = absurd cc
  closes-pass (frame.Start place arg ∷ a) base t x = absurd cc
  closes-pass (frame.Call path args ∷ a) base t x = absurd cc
  closes-pass (frame.Test place ∷ a) base t x = absurd cc
  closes-pass (frame.Yes place test ∷ a) base t x = absurd cc

  closes-pass-choice : (a base : List Frame) (t : Term) → pass_choice a ≡ true → close_choice comparison (a ++ base) t ≡ close_before comparison base (folded a t)
  closes-pass-choice [] base t x = absurd cc
  closes-pass-choice (frame.Prefix op place ∷ a) base t x = closes-pass-choice a base (term.Unary op place t) x
  closes-pass-choice (frame.Infix op place left ∷ a) base t x = closes-pass-choice a base (term.Binary op place left t) x
  closes-pass-choice (frame.No place test first ∷ a) base t x = closes-pass a base (term.Choice place test first t) x
  closes-pass-choice (frame.Group ∷ a) base t x = absurd cc
  closes-pass-choice (frame.Pre place ∷ a) base t x = absurd cc
  closes-pass-choice (frame.Prev place ∷ a) base t x = absurd cc
  closes-pass-choice (frame.Start place arg ∷ a) base t x = absurd cc
  closes-pass-choice (frame.Call path args ∷ a) base t x = absurd cc
  closes-pass-choice (frame.Test place ∷ a) base t x = absurd cc
  closes-pass-choice (frame.Yes place test ∷ a) base t x = absurd cc

-- what is so by an operator's rank
by-rank : (b c p q s u : Bool) → (if b then p else (if c then q else false)) ≡ true → (p ≡ true → s ≡ true) → (q ≡ true → u ≡ true) → (if b then s else (if c then u else false)) ≡ true
by-rank true c p q s u x main choice = main x
by-rank false true p q s u x main choice = choice x
by-rank false false p q s u x main choice = absurd cc

-- ---- with one more outside

mutual
  -- a tight operator
  pass-tight : (a : List Frame) (o : Binary) (at : Place) (l : Term) → comparison < rank o → pass a ≡ true → pass (a ++ frame.Infix o at l ∷ []) ≡ true
  pass-tight [] o at l h x = ap (λ (b : Bool). if b then true else (if rank o == comparison then false else false)) (lt-ltb comparison (rank o) h)
  pass-tight (frame.Prefix op place ∷ a) o at l h x = pass-tight a o at l h x
  pass-tight (frame.Infix op place left ∷ a) o at l h x = by-rank (nat_lt comparison (rank op)) (rank op == comparison) (pass a) (pass_choice a) (pass (a ++ frame.Infix o at l ∷ [])) (pass_choice (a ++ frame.Infix o at l ∷ [])) x (λ k. pass-tight a o at l h k) (λ k. pass-tight-choice a o at l h k)
  pass-tight (frame.No place test first ∷ a) o at l h x = absurd cc
  pass-tight (frame.Group ∷ a) o at l h x = absurd cc
  pass-tight (frame.Pre place ∷ a) o at l h x = absurd cc
  pass-tight (frame.Prev place ∷ a) o at l h x = absurd cc
  pass-tight (frame.Start place arg ∷ a) o at l h x = absurd cc
  pass-tight (frame.Call path args ∷ a) o at l h x = absurd cc
  pass-tight (frame.Test place ∷ a) o at l h x = absurd cc
  pass-tight (frame.Yes place test ∷ a) o at l h x = absurd cc

  pass-tight-choice : (a : List Frame) (o : Binary) (at : Place) (l : Term) → comparison < rank o → pass_choice a ≡ true → pass_choice (a ++ frame.Infix o at l ∷ []) ≡ true
  pass-tight-choice [] o at l h x = absurd cc
  pass-tight-choice (frame.Prefix op place ∷ a) o at l h x = pass-tight-choice a o at l h x
  pass-tight-choice (frame.Infix op place left ∷ a) o at l h x = pass-tight-choice a o at l h x
  pass-tight-choice (frame.No place test first ∷ a) o at l h x = pass-tight a o at l h x
  pass-tight-choice (frame.Group ∷ a) o at l h x = absurd cc
  pass-tight-choice (frame.Pre place ∷ a) o at l h x = absurd cc
  pass-tight-choice (frame.Prev place ∷ a) o at l h x = absurd cc
  pass-tight-choice (frame.Start place arg ∷ a) o at l h x = absurd cc
  pass-tight-choice (frame.Call path args ∷ a) o at l h x = absurd cc
  pass-tight-choice (frame.Test place ∷ a) o at l h x = absurd cc
  pass-tight-choice (frame.Yes place test ∷ a) o at l h x = absurd cc

mutual
  -- an operator before its operand
  pass-prefix : (a : List Frame) (o : Unary) (at : Place) → pass a ≡ true → pass (a ++ frame.Prefix o at ∷ []) ≡ true
  pass-prefix [] o at x = refl
  pass-prefix (frame.Prefix op place ∷ a) o at x = pass-prefix a o at x
  pass-prefix (frame.Infix op place left ∷ a) o at x = by-rank (nat_lt comparison (rank op)) (rank op == comparison) (pass a) (pass_choice a) (pass (a ++ frame.Prefix o at ∷ [])) (pass_choice (a ++ frame.Prefix o at ∷ [])) x (λ h. pass-prefix a o at h) (λ h. pass-prefix-choice a o at h)
  pass-prefix (frame.No place test first ∷ a) o at x = absurd cc
  pass-prefix (frame.Group ∷ a) o at x = absurd cc
  pass-prefix (frame.Pre place ∷ a) o at x = absurd cc
  pass-prefix (frame.Prev place ∷ a) o at x = absurd cc
  pass-prefix (frame.Start place arg ∷ a) o at x = absurd cc
  pass-prefix (frame.Call path args ∷ a) o at x = absurd cc
  pass-prefix (frame.Test place ∷ a) o at x = absurd cc
  pass-prefix (frame.Yes place test ∷ a) o at x = absurd cc

  pass-prefix-choice : (a : List Frame) (o : Unary) (at : Place) → pass_choice a ≡ true → pass_choice (a ++ frame.Prefix o at ∷ []) ≡ true
  pass-prefix-choice [] o at x = absurd cc
  pass-prefix-choice (frame.Prefix op place ∷ a) o at x = pass-prefix-choice a o at x
  pass-prefix-choice (frame.Infix op place left ∷ a) o at x = pass-prefix-choice a o at x
  pass-prefix-choice (frame.No place test first ∷ a) o at x = pass-prefix a o at x
  pass-prefix-choice (frame.Group ∷ a) o at x = absurd cc
  pass-prefix-choice (frame.Pre place ∷ a) o at x = absurd cc
  pass-prefix-choice (frame.Prev place ∷ a) o at x = absurd cc
  pass-prefix-choice (frame.Start place arg ∷ a) o at x = absurd cc
  pass-prefix-choice (frame.Call path args ∷ a) o at x = absurd cc
  pass-prefix-choice (frame.Test place ∷ a) o at x = absurd cc
  pass-prefix-choice (frame.Yes place test ∷ a) o at x = absurd cc

mutual
  -- a comparison
  pass-comparison : (a : List Frame) (o : Binary) (at : Place) (l : Term) → rank o ≡ comparison → pass a ≡ true → pend (a ++ frame.Infix o at l ∷ []) ≡ true
  pass-comparison [] o at l h x = ap (λ (z : ℕ). if nat_lt comparison z then false else (if z == comparison then true else false)) h
  pass-comparison (frame.Prefix op place ∷ a) o at l h x = pass-comparison a o at l h x
  pass-comparison (frame.Infix op place left ∷ a) o at l h x = by-rank (nat_lt comparison (rank op)) (rank op == comparison) (pass a) (pass_choice a) (pend (a ++ frame.Infix o at l ∷ [])) (pend_choice (a ++ frame.Infix o at l ∷ [])) x (λ k. pass-comparison a o at l h k) (λ k. pass-comparison-choice a o at l h k)
  pass-comparison (frame.No place test first ∷ a) o at l h x = absurd cc
  pass-comparison (frame.Group ∷ a) o at l h x = absurd cc
  pass-comparison (frame.Pre place ∷ a) o at l h x = absurd cc
  pass-comparison (frame.Prev place ∷ a) o at l h x = absurd cc
  pass-comparison (frame.Start place arg ∷ a) o at l h x = absurd cc
  pass-comparison (frame.Call path args ∷ a) o at l h x = absurd cc
  pass-comparison (frame.Test place ∷ a) o at l h x = absurd cc
  pass-comparison (frame.Yes place test ∷ a) o at l h x = absurd cc

  pass-comparison-choice : (a : List Frame) (o : Binary) (at : Place) (l : Term) → rank o ≡ comparison → pass_choice a ≡ true → pend_choice (a ++ frame.Infix o at l ∷ []) ≡ true
  pass-comparison-choice [] o at l h x = absurd cc
  pass-comparison-choice (frame.Prefix op place ∷ a) o at l h x = pass-comparison-choice a o at l h x
  pass-comparison-choice (frame.Infix op place left ∷ a) o at l h x = pass-comparison-choice a o at l h x
  pass-comparison-choice (frame.No place test first ∷ a) o at l h x = pass-comparison a o at l h x
  pass-comparison-choice (frame.Group ∷ a) o at l h x = absurd cc
  pass-comparison-choice (frame.Pre place ∷ a) o at l h x = absurd cc
  pass-comparison-choice (frame.Prev place ∷ a) o at l h x = absurd cc
  pass-comparison-choice (frame.Start place arg ∷ a) o at l h x = absurd cc
  pass-comparison-choice (frame.Call path args ∷ a) o at l h x = absurd cc
  pass-comparison-choice (frame.Test place ∷ a) o at l h x = absurd cc
  pass-comparison-choice (frame.Yes place test ∷ a) o at l h x = absurd cc

mutual
  -- any operator
  pend-operator : (a : List Frame) (o : Binary) (at : Place) (l : Term) → pend a ≡ true → pend (a ++ frame.Infix o at l ∷ []) ≡ true
  pend-operator [] o at l x = absurd cc
  pend-operator (frame.Prefix op place ∷ a) o at l x = pend-operator a o at l x
  pend-operator (frame.Infix op place left ∷ a) o at l x = by-rank (nat_lt comparison (rank op)) (rank op == comparison) (pend a) (pend_choice a) (pend (a ++ frame.Infix o at l ∷ [])) (pend_choice (a ++ frame.Infix o at l ∷ [])) x (λ h. pend-operator a o at l h) (λ h. pend-operator-choice a o at l h)
  pend-operator (frame.No place test first ∷ a) o at l x = absurd cc
  pend-operator (frame.Group ∷ a) o at l x = absurd cc
  pend-operator (frame.Pre place ∷ a) o at l x = absurd cc
  pend-operator (frame.Prev place ∷ a) o at l x = absurd cc
  pend-operator (frame.Start place arg ∷ a) o at l x = absurd cc
  pend-operator (frame.Call path args ∷ a) o at l x = absurd cc
  pend-operator (frame.Test place ∷ a) o at l x = absurd cc
  pend-operator (frame.Yes place test ∷ a) o at l x = absurd cc

  pend-operator-choice : (a : List Frame) (o : Binary) (at : Place) (l : Term) → pend_choice a ≡ true → pend_choice (a ++ frame.Infix o at l ∷ []) ≡ true
  pend-operator-choice [] o at l x = refl
  pend-operator-choice (frame.Prefix op place ∷ a) o at l x = pend-operator-choice a o at l x
  pend-operator-choice (frame.Infix op place left ∷ a) o at l x = pend-operator-choice a o at l x
  pend-operator-choice (frame.No place test first ∷ a) o at l x = pend-operator a o at l x
  pend-operator-choice (frame.Group ∷ a) o at l x = absurd cc
  pend-operator-choice (frame.Pre place ∷ a) o at l x = absurd cc
  pend-operator-choice (frame.Prev place ∷ a) o at l x = absurd cc
  pend-operator-choice (frame.Start place arg ∷ a) o at l x = absurd cc
  pend-operator-choice (frame.Call path args ∷ a) o at l x = absurd cc
  pend-operator-choice (frame.Test place ∷ a) o at l x = absurd cc
  pend-operator-choice (frame.Yes place test ∷ a) o at l x = absurd cc

mutual
  -- a choice
  pend-ended : (a : List Frame) (at : Place) (c d : Term) → pend a ≡ true → pass (a ++ frame.No at c d ∷ []) ≡ true
  pend-ended [] at c d x = absurd cc
  pend-ended (frame.Prefix op place ∷ a) at c d x = pend-ended a at c d x
  pend-ended (frame.Infix op place left ∷ a) at c d x = by-rank (nat_lt comparison (rank op)) (rank op == comparison) (pend a) (pend_choice a) (pass (a ++ frame.No at c d ∷ [])) (pass_choice (a ++ frame.No at c d ∷ [])) x (λ h. pend-ended a at c d h) (λ h. pend-ended-choice a at c d h)
  pend-ended (frame.No place test first ∷ a) at c d x = absurd cc
  pend-ended (frame.Group ∷ a) at c d x = absurd cc
  pend-ended (frame.Pre place ∷ a) at c d x = absurd cc
  pend-ended (frame.Prev place ∷ a) at c d x = absurd cc
  pend-ended (frame.Start place arg ∷ a) at c d x = absurd cc
  pend-ended (frame.Call path args ∷ a) at c d x = absurd cc
  pend-ended (frame.Test place ∷ a) at c d x = absurd cc
  pend-ended (frame.Yes place test ∷ a) at c d x = absurd cc

  pend-ended-choice : (a : List Frame) (at : Place) (c d : Term) → pend_choice a ≡ true → pass_choice (a ++ frame.No at c d ∷ []) ≡ true
  pend-ended-choice [] at c d x = refl
  pend-ended-choice (frame.Prefix op place ∷ a) at c d x = pend-ended-choice a at c d x
  pend-ended-choice (frame.Infix op place left ∷ a) at c d x = pend-ended-choice a at c d x
  pend-ended-choice (frame.No place test first ∷ a) at c d x = pend-ended a at c d x
  pend-ended-choice (frame.Group ∷ a) at c d x = absurd cc
  pend-ended-choice (frame.Pre place ∷ a) at c d x = absurd cc
  pend-ended-choice (frame.Prev place ∷ a) at c d x = absurd cc
  pend-ended-choice (frame.Start place arg ∷ a) at c d x = absurd cc
  pend-ended-choice (frame.Call path args ∷ a) at c d x = absurd cc
  pend-ended-choice (frame.Test place ∷ a) at c d x = absurd cc
  pend-ended-choice (frame.Yes place test ∷ a) at c d x = absurd cc

-- ---- what stops operators

-- a token's operators of this rank and tighter ones end nothing of what waits
abbrev Stops : ℕ → List Frame → Type 0
Stops r base = (op : Binary) (t : Term) → r ≤ rank op → close_before (rank op) base t ≡ (base, t)

-- an operator that waits goes on, where it binds looser than the next one, or as tight and associates to the right
goes-on : (op : Binary) (place : Place) (left : Term) (base : List Frame) (q : ℕ) (t : Term) → ends_before op q ≡ false → close_before q (frame.Infix op place left ∷ base) t ≡ (frame.Infix op place left ∷ base, t)
goes-on op place left base q t e =
    let inner = if q == comparison && rank op == comparison then close_choice q base (term.Binary op place left t) else close_before q base (term.Binary op place left t) in
    ap (λ (b : Bool). if b then inner else (frame.Infix op place left ∷ base, t)) e

looser-stays : (op : Binary) (q : ℕ) → rank op < q → ends_before op q ≡ false
looser-stays op q h = or_from (nat_lt q (rank op)) (rank op == q && nat_lt last_right q) (le-ltb q (rank op) (omega (arith, h))) (ap (λ (b : Bool). b && nat_lt last_right q) (ne_eqb (rank op) q (λ e. absurd (omega (arith, h, e)))))

right-stays : (op : Binary) (q : ℕ) → rank op ≤ last_right → rank op ≤ q → ends_before op q ≡ false
right-stays op q low h = elim (cases_lt (rank op) q) [
  | inl k ↦ looser-stays op q k
  | inr k ↦
      let e : q ≡ rank op = omega (arith, h, k) in
      ap (ends_before op) e
      ∙ or_from (nat_lt (rank op) (rank op)) (rank op == rank op && nat_lt last_right (rank op)) (le-ltb (rank op) (rank op) (omega arith))
      (ap₂ (λ (x y : Bool). x && y) (eq-eqb (rank op) (rank op) refl) (le-ltb last_right (rank op) low))
]

-- an operator ends before one that binds looser, and before one that binds as tight and associates to the left
tighter-ends : (op : Binary) (q : ℕ) → q < rank op → ends_before op q ≡ true
tighter-ends op q h = ap (λ (b : Bool). b || (rank op == q && nat_lt last_right q)) (lt-ltb q (rank op) h)

or-true : (b : Bool) → (b || true) ≡ true
or-true true = refl
or-true false = refl

left-ends : (op : Binary) (q : ℕ) → last_right < q → q ≤ rank op → ends_before op q ≡ true
left-ends op q low h = elim (cases_lt q (rank op)) [
  | inl k ↦ tighter-ends op q k
  | inr k ↦
      let e : rank op ≡ q = omega (arith, h, k) in
      ap₂ (λ (x y : Bool). nat_lt q (rank op) || (x && y)) (eq-eqb (rank op) q e) (lt-ltb last_right q low) ∙ or-true (nat_lt q (rank op))
]

-- ---- ends

-- where the end of a choice takes no comparison, its last operand has one that waits
not-taking : (tail : Tail) (waiting : Bool) → (tail_of_choice tail waiting ≡ Taking → ⊥) → (tail ≡ Taking → ⊥) × (waiting ≡ true)
not-taking Taking waiting h = absurd (h refl)
not-taking NoChoice true h = (λ e. absurd cc, refl)
not-taking NoChoice false h = absurd (h refl)
not-taking Full true h = (λ e. absurd cc, refl)
not-taking Full false h = absurd (h refl)

-- a choice is no closed end
not-closed : (tail : Tail) (waiting : Bool) → tail_of_choice tail waiting ≡ NoChoice → ⊥
not-closed Taking waiting e = absurd cc
not-closed NoChoice true e = absurd cc
not-closed NoChoice false e = absurd cc
not-closed Full true e = absurd cc
not-closed Full false e = absurd cc

-- looser operators may stand there too
tight-wider : (r q : ℕ) (frames : List Frame) → q ≤ r → AreTight r frames → AreTight q frames
tight-wider r q [] h x = tt
tight-wider r q (frame.Prefix op place ∷ frames) h x = tight-wider r q frames h x
tight-wider r q (frame.Infix op place left ∷ frames) h x = (let k = x.0 in omega (arith, h, k), tight-wider r q frames h x.1)
tight-wider r q (frame.No place test first ∷ frames) h x = absurd x
tight-wider r q (frame.Group ∷ frames) h x = absurd x
tight-wider r q (frame.Pre place ∷ frames) h x = absurd x
tight-wider r q (frame.Prev place ∷ frames) h x = absurd x
tight-wider r q (frame.Start place arg ∷ frames) h x = absurd x
tight-wider r q (frame.Call path args ∷ frames) h x = absurd x
tight-wider r q (frame.Test place ∷ frames) h x = absurd x
tight-wider r q (frame.Yes place test ∷ frames) h x = absurd x

tight-append : (r : ℕ) (a b : List Frame) → AreTight r a → AreTight r b → AreTight r (a ++ b)
tight-append r [] b x y = y
tight-append r (frame.Prefix op place ∷ a) b x y = tight-append r a b x y
tight-append r (frame.Infix op place left ∷ a) b x y = (x.0, tight-append r a b x.1 y)
tight-append r (frame.No place test first ∷ a) b x y = absurd x
tight-append r (frame.Group ∷ a) b x y = absurd x
tight-append r (frame.Pre place ∷ a) b x y = absurd x
tight-append r (frame.Prev place ∷ a) b x y = absurd x
tight-append r (frame.Start place arg ∷ a) b x y = absurd x
tight-append r (frame.Call path args ∷ a) b x y = absurd x
tight-append r (frame.Test place ∷ a) b x y = absurd x
tight-append r (frame.Yes place test ∷ a) b x y = absurd x

-- ---- operands that are read

-- what is known behind an operand
record Far (bytes : List ℕ) (r : ℕ) (base : List Frame) (ms : List Marked) (t : Term) (tail : Tail) (waiting : Bool) : Type 0 where
  frames : List Frame
  operand : Operand
  read : read_tokens bytes (unread_in base) ms ≡ record { frames = frames ++ base; operand = operand }
  open_ : AreOpen frames
  last : folded frames (operand_term bytes operand) ≡ t
  some : is_nothing operand ≡ false
  tight : tail ≡ NoChoice → AreTight r frames
  waits : (tail ≡ Taking → ⊥) → waiting ≡ true → pend frames ≡ true
  goes : (tail ≡ Taking → ⊥) → waiting ≡ false → comparison < r → pass frames ≡ true

-- the state that it is
abbrev stands : List Frame → Operand → Reading
stands frames operand = record { frames = frames; operand = operand }

-- an operand by itself
alone : (bytes : List ℕ) (r : ℕ) (base : List Frame) (ms : List Marked) (o : Operand) (t : Term) → read_tokens bytes (unread_in base) ms ≡ stands base o → operand_term bytes o ≡ t → is_nothing o ≡ false → Far bytes r base ms t NoChoice false
alone bytes r base ms o t e f g = record {
  frames = [];
  operand = o;
  read = e;
  open_ = tt;
  last = f;
  some = g;
  tight = λ h. tt;
  waits = λ h k. absurd cc;
  goes = λ h k j. refl;
}

-- a token that ends all that waits in it
separated : (bytes : List ℕ) {r : ℕ} {base : List Frame} {ms : List Marked} {t : Term} {tail : Tail} {waiting : Bool} → (w : Far bytes r base ms t tail waiting) → (n : Marked) (k : ℕ) (next : Operand → List Frame × Term → Reading) → n.mark ≡ k
    → ((q : Reading) → read_token bytes q (record { mark = k; terminal = n.terminal; token = n.token }) ≡ next q.operand (close_all q.frames (operand_term bytes q.operand)))
    → ((u : Term) → close_all base u ≡ (base, u)) → (more : List Marked) → read_tokens bytes (unread_in base) (ms ++ n ∷ more) ≡ read_tokens bytes (next w.operand (base, t)) more
separated bytes {base = base} {ms = ms} {t = t} w n k next e act ends more =
    read-apart bytes (unread_in base) ms (n ∷ more)
    ∙ ap (λ q. read_tokens bytes (read_token bytes q n) more) w.read
    ∙ ap (λ q. read_tokens bytes q more)
    (read-as bytes (stands (w.frames ++ base) w.operand) n k e ∙ act (stands (w.frames ++ base) w.operand)
    ∙ ap (next w.operand) (closes-all w.frames base (operand_term bytes w.operand) w.open_ ∙ ap (close_all base) w.last ∙ ends t))

-- an operator behind its left operand
operated : (bytes : List ℕ) {r : ℕ} {base : List Frame} {ms : List Marked} {t : Term} {tail : Tail} {waiting : Bool} → (w : Far bytes r base ms t tail waiting) → (m : Marked) (op : Binary) → binary_of m.mark ≡ Some op
    → close_before (rank op) (w.frames ++ base) (operand_term bytes w.operand) ≡ (base, t) → (more : List Marked) → read_tokens bytes (unread_in base) (ms ++ m ∷ more) ≡ read_tokens bytes (unread_in (frame.Infix op m.token.place t ∷ base)) more
operated bytes {base = base} {ms = ms} w m op b closes more =
    read-apart bytes (unread_in base) ms (m ∷ more)
    ∙ ap (λ q. read_tokens bytes (read_token bytes q m) more) w.read
    ∙ ap (λ q. read_tokens bytes q more) (read-operator bytes (stands (w.frames ++ base) w.operand) m op b ∙ ap (behind_infix op m.token.place) closes)

-- a first token, and those behind it
first-token : (bytes : List ℕ) (base : List Frame) (m : Marked) (k : ℕ) (next : Reading) (more : List Marked) → m.mark ≡ k → read_token bytes (unread_in base) (record { mark = k; terminal = m.terminal; token = m.token }) ≡ next
    → read_tokens bytes (unread_in base) (m ∷ more) ≡ read_tokens bytes next more
first-token bytes base m k next more e f = ap (λ q. read_tokens bytes q more) (read-as bytes (unread_in base) m k e ∙ f)

-- a name
name-read : (bytes : List ℕ) (base : List Frame) (ms : List Marked) (path : Path) → IsName bytes ms path → (o : Operand) × (read_tokens bytes (unread_in base) ms ≡ stands base o) × (operand_term bytes o ≡ Named path) × (is_nothing o ≡ false)
    × ((m : Marked) (more : List Marked) → m.mark ≡ call_mark → read_tokens bytes (stands base o) (m ∷ more) ≡ read_tokens bytes (unread_in (frame.Call path [] ∷ base)) more)
name-read bytes base ms path n =
    let o = Name (n.first.token ∷ name_parts_in n.more) (under path_body_mark n.more) in
    let told : path_of bytes (n.first.token ∷ name_parts_in n.more) (under path_body_mark n.more) ≡ Some path =
    sym (told-as bytes n.first n.more n.begins) ∙ ap (λ z. path_of bytes (name_parts_in z) (under path_body_mark z)) (sym n.tokens) ∙ n.told in (
      o,
      ap (read_tokens bytes (unread_in base)) n.tokens ∙ read-name bytes base n.first n.more n.begins n.goes,
      ap named_as told,
      refl,
      λ m more e.
          ap (λ q. read_tokens bytes q more)
          (read-as bytes (stands base o) m call_mark e
          ∙ ap (λ (p : Option Path). let x : Reading = elim p [
            | None ↦ record { frames = base; operand = Nothing }
            | Some q ↦ record { frames = frame.Call q [] ∷ base; operand = Nothing }
          ] in x) told),
    )

-- an operand with one more outside
abbrev Outside : List Frame → List Frame → Frame → Type 0
Outside frames base f = (frames ++ f ∷ base) ≡ ((frames ++ f ∷ []) ++ base)

outside : (frames base : List Frame) (f : Frame) → Outside frames base f
outside frames base f = sym (append_assoc frames (f ∷ []) base)

-- behind an operator between two operands, with its right one
behind-right : (bytes : List ℕ) (r q : ℕ) (base : List Frame) (before : List Marked) (m : Marked) (after : List Marked) (op : Binary) (left right : Term) {tail : Tail} {waiting waits_now : Bool}
    → read_tokens bytes (unread_in base) (before ++ m ∷ after) ≡ read_tokens bytes (unread_in (frame.Infix op m.token.place left ∷ base)) after
    → (u : Far bytes q (frame.Infix op m.token.place left ∷ base) after right tail waiting) → r ≤ rank op → r ≤ q
    → ((tail ≡ Taking → ⊥) → waits_now ≡ true → pend (u.frames ++ frame.Infix op m.token.place left ∷ []) ≡ true)
    → ((tail ≡ Taking → ⊥) → waits_now ≡ false → comparison < r → pass (u.frames ++ frame.Infix op m.token.place left ∷ []) ≡ true)
    → Far bytes r base (before ++ m ∷ after) (term.Binary op m.token.place left right) tail waits_now
behind-right bytes r q base before m after op left right e u low below pends passes = record {
  frames = u.frames ++ frame.Infix op m.token.place left ∷ [];
  operand = u.operand;
  read = e ∙ u.read ∙ ap (λ z. stands z u.operand) (outside u.frames base (frame.Infix op m.token.place left));
  open_ = open-append u.frames (frame.Infix op m.token.place left ∷ []) u.open_ tt;
  last = folded-append u.frames (frame.Infix op m.token.place left ∷ []) (operand_term bytes u.operand) u.open_ ∙ ap (λ z. term.Binary op m.token.place left z) u.last;
  some = u.some;
  tight = λ h. tight-append r u.frames (frame.Infix op m.token.place left ∷ []) (tight-wider q r u.frames below (u.tight h)) (low, tt);
  waits = pends;
  goes = passes;
}

-- behind an operator before its operand
behind-prefix : (bytes : List ℕ) (base : List Frame) (m : Marked) (k : ℕ) (ms : List Marked) (op : Unary) (t : Term) {tail : Tail} {waiting : Bool} → m.mark ≡ k
    → read_token bytes (unread_in base) (record { mark = k; terminal = m.terminal; token = m.token }) ≡ unread_in (frame.Prefix op m.token.place ∷ base)
    → waiting ≡ false → Far bytes factor (frame.Prefix op m.token.place ∷ base) ms t tail waiting → Far bytes factor base (m ∷ ms) (term.Unary op m.token.place t) tail false
behind-prefix bytes base m k ms op t e f h u = record {
  frames = u.frames ++ frame.Prefix op m.token.place ∷ [];
  operand = u.operand;
  read = first-token bytes base m k (unread_in (frame.Prefix op m.token.place ∷ base)) ms e f ∙ u.read ∙ ap (λ z. stands z u.operand) (outside u.frames base (frame.Prefix op m.token.place));
  open_ = open-append u.frames (frame.Prefix op m.token.place ∷ []) u.open_ tt;
  last = folded-append u.frames (frame.Prefix op m.token.place ∷ []) (operand_term bytes u.operand) u.open_ ∙ ap (term.Unary op m.token.place) u.last;
  some = u.some;
  tight = λ g. tight-append factor u.frames (frame.Prefix op m.token.place ∷ []) (u.tight g) tt;
  waits = λ g w. absurd cc;
  goes = λ g w j. pass-prefix u.frames op m.token.place (u.goes g h j);
}

-- nothing before an operand binds tighter than one without operators
prefix-stops : (base : List Frame) → Stops factor base
prefix-stops base op t h = let k = rank_within op in absurd (omega (arith, h, k))

mutual
  -- an expression in which each operand behind an `else` reaches as far as it can
  far : (bytes : List ℕ) {r : ℕ} {ms : List Marked} {t : Term} {tail : Tail} {waiting : Bool} → IsFar bytes r ms t tail waiting → (base : List Frame) → Stops r base → Far bytes r base ms t tail waiting
  far bytes (tighter r ms t tail waiting h is) base stops =
      let w = far bytes is base (λ op u k. stops op u (omega (arith, k))) in
      record {
        frames = w.frames;
        operand = w.operand;
        read = w.read;
        open_ = w.open_;
        last = w.last;
        some = w.some;
        tight = λ k. tight-wider (suc r) r w.frames (omega arith) (w.tight k);
        waits = w.waits;
        goes = λ k j i. w.goes k j (omega (arith, i));
      }
  far bytes (leftward op m before after left right tail waits waiting b low other l r) base stops =
      let v = far bytes l base stops in
      let closes : close_before (rank op) (v.frames ++ base) (operand_term bytes v.operand) ≡ (base, left) =
      closes-tight (rank op) (rank op) (λ p h. left-ends p (rank op) low h) (ne_eqb (rank op) comparison other) v.frames base (operand_term bytes v.operand) (v.tight refl)
      ∙ ap (close_before (rank op) base) v.last ∙ stops op left (omega arith) in
      let u = far bytes r (frame.Infix op m.token.place left ∷ base) (λ p w h. goes-on op m.token.place left base (rank p) w (looser-stays op (rank p) h)) in
      behind-right bytes (rank op) (suc (rank op)) base before m after op left right (operated bytes v m op b closes after) u (omega arith) (omega arith)
      (λ h k. pend-operator u.frames op m.token.place left (u.waits h k))
      (λ h k i. pass-tight u.frames op m.token.place left i (u.goes h k (omega (arith, i))))
  far bytes (rightward op m before after left right tail waits waiting b low l r) base stops =
      let v = far bytes l base (λ p w h. stops p w (omega (arith, h))) in
      let closes : close_before (rank op) (v.frames ++ base) (operand_term bytes v.operand) ≡ (base, left) =
      closes-tight (rank op) (suc (rank op)) (λ p h. tighter-ends p (rank op) h) (ne_eqb (rank op) comparison (λ e. absurd (omega (arith, low, e)))) v.frames base (operand_term bytes v.operand) (v.tight refl)
      ∙ ap (close_before (rank op) base) v.last ∙ stops op left (omega arith) in
      let u = far bytes r (frame.Infix op m.token.place left ∷ base) (λ p w h. goes-on op m.token.place left base (rank p) w (right-stays op (rank p) low h)) in
      behind-right bytes (rank op) (rank op) base before m after op left right (operated bytes v m op b closes after) u (omega arith) (omega arith)
      (λ h k. pend-operator u.frames op m.token.place left (u.waits h k))
      (λ h k i. absurd (omega (arith, low, i)))
  far bytes (compared op m before after left right end tail waits waiting b e taking l r) base stops =
      let v = far bytes l base (λ p w h. stops p w (omega (arith, h))) in
      let passes = v.goes taking (none-waits bytes l (omega arith)) (omega arith) in
      let closes : close_before (rank op) (v.frames ++ base) (operand_term bytes v.operand) ≡ (base, left) =
      ap (λ (z : ℕ). close_before z (v.frames ++ base) (operand_term bytes v.operand)) e
      ∙ closes-pass v.frames base (operand_term bytes v.operand) passes ∙ ap (close_before comparison base) v.last ∙ ap (λ (z : ℕ). close_before z base left) (sym e) ∙ stops op left (omega (arith, e)) in
      let u = far bytes r (frame.Infix op m.token.place left ∷ base) (λ p w h. goes-on op m.token.place left base (rank p) w (looser-stays op (rank p) (omega (arith, e, h)))) in
      behind-right bytes comparison (suc comparison) base before m after op left right (operated bytes v m op b closes after) u (omega (arith, e)) (omega arith)
      (λ h k. pass-comparison u.frames op m.token.place left e (u.goes h (none-waits bytes r (omega arith)) (omega arith)))
      (λ h k i. absurd cc)
  far bytes (negative m ms t tail waiting e is) base stops =
      behind-prefix bytes base m negative_mark ms unary.Minus t e refl (none-waits bytes is (omega arith)) (far bytes is (frame.Prefix unary.Minus m.token.place ∷ base) (prefix-stops (frame.Prefix unary.Minus m.token.place ∷ base)))
  far bytes (negated m ms t tail waiting e is) base stops =
      behind-prefix bytes base m not_mark ms unary.Not t e refl (none-waits bytes is (omega arith)) (far bytes is (frame.Prefix unary.Not m.token.place ∷ base) (prefix-stops (frame.Prefix unary.Not m.token.place ∷ base)))
  far bytes (number m e) base stops = alone bytes factor base (m ∷ []) _ _ (read-as bytes (unread_in base) m number_mark e) refl refl
  far bytes (truth m e) base stops = alone bytes factor base (m ∷ []) _ _ (read-as bytes (unread_in base) m true_mark e) refl refl
  far bytes (falsity m e) base stops = alone bytes factor base (m ∷ []) _ _ (read-as bytes (unread_in base) m false_mark e) refl refl
  far bytes (grouped m n ms t tail waiting x y is) base stops =
      let u = far bytes is (frame.Group ∷ base) (λ op w h. refl) in
      alone bytes factor base (m ∷ (ms ++ n ∷ [])) (Whole t) t
      (first-token bytes base m group_mark (unread_in (frame.Group ∷ base)) (ms ++ n ∷ []) x refl ∙ separated bytes u n close_mark behind_close y (λ q. refl) (λ w. refl) []) refl refl
  far bytes (previous v m n ms t tail waiting x y z is) base stops =
      let there = frame.Pre v.token.place ∷ base in
      let u = far bytes is there (λ op w h. refl) in
      alone bytes factor base (v ∷ m ∷ (ms ++ n ∷ [])) (Whole (term.Unary unary.Pre v.token.place t)) (term.Unary unary.Pre v.token.place t)
      (first-token bytes base v pre_mark (unread_in there) (m ∷ (ms ++ n ∷ [])) x refl ∙ first-token bytes there m operand_mark (unread_in there) (ms ++ n ∷ []) y refl
      ∙ separated bytes u n close_mark behind_close z (λ q. refl) (λ w. refl) []) refl refl
  far bytes (started v m c n es is e i end tail waits waiting x y z k l r) base stops =
      let there = frame.Prev v.token.place ∷ base in
      let further = frame.Start v.token.place e ∷ base in
      let u = far bytes l there (λ op w h. refl) in
      let w = far bytes r further (λ op w h. refl) in
      let t = term.Binary Arrow v.token.place i (term.Unary unary.Pre v.token.place e) in
      alone bytes factor base (v ∷ m ∷ (es ++ c ∷ (is ++ n ∷ []))) (Whole t) t
      (first-token bytes base v prev_mark (unread_in there) (m ∷ (es ++ c ∷ (is ++ n ∷ []))) x refl ∙ first-token bytes there m operand_mark (unread_in there) (es ++ c ∷ (is ++ n ∷ [])) y refl
      ∙ separated bytes u c argument_mark (λ o. behind_comma) z (λ q. refl) (λ w. refl) (is ++ n ∷ []) ∙ separated bytes w n close_mark behind_close k (λ q. refl) (λ w. refl) []) refl refl
  far bytes (chosen v m n tests firsts others test first other test_tail first_tail tail test_waits first_waits waiting x y z a b c) base stops =
      let place = v.token.place in
      let s = far bytes a (frame.Test place ∷ base) (λ op w h. refl) in
      let u = far bytes b (frame.Yes place test ∷ base) (λ op w h. refl) in
      let w = far bytes c (frame.No place test first ∷ base) (λ op w h. refl) in
      record {
        frames = w.frames ++ frame.No place test first ∷ [];
        operand = w.operand;
        read =
            first-token bytes base v if_mark (unread_in (frame.Test place ∷ base)) (tests ++ m ∷ (firsts ++ n ∷ others)) x refl
            ∙ separated bytes s m then_mark (λ o. behind_test) y (λ q. refl) (λ w. refl) (firsts ++ n ∷ others)
            ∙ separated bytes u n else_mark (λ o. behind_yes) z (λ q. refl) (λ w. refl) others
            ∙ w.read ∙ ap (λ z. stands z w.operand) (outside w.frames base (frame.No place test first));
        open_ = open-append w.frames (frame.No place test first ∷ []) w.open_ tt;
        last = folded-append w.frames (frame.No place test first ∷ []) (operand_term bytes w.operand) w.open_ ∙ ap (term.Choice place test first) w.last;
        some = w.some;
        tight = λ h. absurd (not-closed tail waiting h);
        waits = λ h k. absurd cc;
        goes = λ h k j. let p = not-taking tail waiting h in pend-ended w.frames place test first (w.waits p.0 p.1);
      }
  far bytes (named ms path n) base stops = let p = name-read bytes base ms path n in alone bytes factor base ms p.0 (Named path) p.1 p.2 p.3
  far bytes (called ms args m n path ts is x y are) base stops =
      let p = name-read bytes base ms path is in
      alone bytes factor base (ms ++ m ∷ (args ++ n ∷ [])) (Whole (term.Call path ts)) (term.Call path ts)
      (read-apart bytes (unread_in base) ms (m ∷ (args ++ n ∷ [])) ∙ ap (λ q. read_tokens bytes q (m ∷ (args ++ n ∷ []))) p.1 ∙ p.4 m (args ++ n ∷ []) x ∙ arguments-read bytes are base path [] n y) refl refl

  -- the arguments of a call and its `)`, behind some arguments
  arguments-read : (bytes : List ℕ) {args : List Marked} {ts : List Term} → AreFar bytes args ts → (base : List Frame) (path : Path) (done : List Term) (n : Marked) → n.mark ≡ close_mark
      → read_tokens bytes (unread_in (frame.Call path done ∷ base)) (args ++ n ∷ []) ≡ stands base (Whole (term.Call path (done ++ ts)))
  arguments-read bytes no_argument base path done n e =
      read-as bytes (unread_in (frame.Call path done ∷ base)) n close_mark e ∙ ap (λ z. stands base (Whole (term.Call path z))) (sym (append-nil done))
  arguments-read bytes (last_argument ms t tail waiting is) base path done n e =
      let u = far bytes is (frame.Call path done ∷ base) (λ op w h. refl) in
      separated bytes u n close_mark behind_close e (λ q. refl) (λ w. refl) [] ∙ ap (λ z. stands base (Whole (term.Call path z))) (with-some done u.operand t u.some)
  arguments-read bytes (next_argument c ms more t v vs tail waiting e is are) base path done n g =
      let u = far bytes is (frame.Call path done ∷ base) (λ op w h. refl) in
      ap (read_tokens bytes (unread_in (frame.Call path done ∷ base))) (append_assoc ms (c ∷ more) (n ∷ []))
      ∙ separated bytes u c argument_mark (λ o. behind_comma) e (λ q. refl) (λ w. refl) (more ++ n ∷ [])
      ∙ arguments-read bytes are base path (done ++ t ∷ []) n g
      ∙ ap (λ z. stands base (Whole (term.Call path z))) (append_assoc done (t ∷ []) (v ∷ vs))

-- what the lines give so is what is read
pub far-read : (bytes : List ℕ) (ms : List Marked) (t : Term) → IsStated bytes 0 ms t → term_of bytes ms ≡ t
far-read bytes ms t is =
    let w = far bytes is.far [] (λ op u h. refl) in
    ap (finished bytes) w.read ∙ ap (λ (c : List Frame × Term). c.1) (closes-all w.frames [] (operand_term bytes w.operand) w.open_) ∙ w.last
