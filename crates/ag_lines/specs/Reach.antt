-- Expressions by the same lines, where each operand behind an `else` reaches as far as it can: no operator stands behind such an operand,
-- outside brackets, but a comparison that it doesn't take in, as one waits in it already, and comparisons don't chain.
use Rattle.std.specs.Prelude.{◌≡◌, ◌<◌, ◌≤◌, ℕ, suc, pos, Bool, true, false, List, [], ◌∷◌, ◌++◌, Some, if◌then◌else◌}
use Rattle.ag_lex.specs.Rules.{decimal}
use Rattle.ag_aadl.specs.declared.marked.Marked.{Marked}
use Rattle.ag_terms.specs.declared.names.Path.{Path}
use Rattle.ag_aadl.specs.Marked.{own}
use Rattle.ag_terms.specs.declared.terms.Binary.{Binary}
use Rattle.ag_terms.specs.declared.terms.Binary.TheVariants.{Arrow}
use Rattle.ag_terms.specs.declared.terms.Term.{Term, Number, Truth, Named}
use Rattle.ag_terms.specs.declared.terms.Term.TheViews as term
use Rattle.ag_terms.specs.declared.terms.Unary.TheVariants as unary
use Rattle.ag_annex.specs.Marks.{negative_mark, not_mark, pre_mark, prev_mark, if_mark, then_mark, else_mark, number_mark, true_mark, false_mark, group_mark, operand_mark, call_mark, argument_mark, close_mark}
use Rattle.ag_annex.specs.Operators.{binary_of, rank, comparison, last_right}
use Rattle.ag_lines.specs.Lines.{IsName, factor}

-- what an expression ends with, outside brackets: with no operand behind an `else`; with one that would take a comparison in, itself or by
-- another one in it; or with one that wouldn't
pub data Tail : Type 0 where
  NoChoice : Tail
  Taking : Tail
  Full : Tail

-- A choice ends with the operand behind its `else`, which takes a comparison in where one in it does, and else unless one waits there for its
-- right operand.
abbrev pub tail_of_choice : Tail → Bool → Tail
tail_of_choice Taking waiting = Taking
tail_of_choice _ waiting = if waiting then Full else Taking

mutual
  -- Tokens that state an expression in which operators of this rank and tighter ones stand outside brackets and choices, with its end; and
  -- whether a comparison waits for the last operand, with no looser operator in between.
  pub data IsFar (bytes : List ℕ) : ℕ → List Marked → Term → Tail → Bool → Type 0 where
    tighter : (r : ℕ) (ms : List Marked) (t : Term) (tail : Tail) (waiting : Bool) → r < factor → IsFar bytes (suc r) ms t tail waiting → IsFar bytes r ms t tail waiting
    leftward : (op : Binary) (m : Marked) (before behind : List Marked) (left right : Term) (tail : Tail) (waits waiting : Bool) → binary_of m.mark ≡ Some op → last_right < rank op → (rank op ≡ comparison → ⊥)
        → IsFar bytes (rank op) before left NoChoice waits → IsFar bytes (suc (rank op)) behind right tail waiting → IsFar bytes (rank op) (before ++ m ∷ behind) (term.Binary op m.token.place left right) tail waiting
    rightward : (op : Binary) (m : Marked) (before behind : List Marked) (left right : Term) (tail : Tail) (waits waiting : Bool) → binary_of m.mark ≡ Some op → rank op ≤ last_right
        → IsFar bytes (suc (rank op)) before left NoChoice waits → IsFar bytes (rank op) behind right tail waiting → IsFar bytes (rank op) (before ++ m ∷ behind) (term.Binary op m.token.place left right) tail waiting
    compared : (op : Binary) (m : Marked) (before behind : List Marked) (left right : Term) (end tail : Tail) (waits waiting : Bool) → binary_of m.mark ≡ Some op → rank op ≡ comparison → (end ≡ Taking → ⊥)
        → IsFar bytes (suc comparison) before left end waits → IsFar bytes (suc comparison) behind right tail waiting → IsFar bytes comparison (before ++ m ∷ behind) (term.Binary op m.token.place left right) tail true
    negative : (m : Marked) (ms : List Marked) (t : Term) (tail : Tail) (waiting : Bool) → m.mark ≡ negative_mark → IsFar bytes factor ms t tail waiting → IsFar bytes factor (m ∷ ms) (term.Unary unary.Minus m.token.place t) tail false
    negated : (m : Marked) (ms : List Marked) (t : Term) (tail : Tail) (waiting : Bool) → m.mark ≡ not_mark → IsFar bytes factor ms t tail waiting → IsFar bytes factor (m ∷ ms) (term.Unary unary.Not m.token.place t) tail false
    number : (m : Marked) → m.mark ≡ number_mark → IsFar bytes factor (m ∷ []) (Number (pos (decimal (own bytes m.token))) m.token.place) NoChoice false
    truth : (m : Marked) → m.mark ≡ true_mark → IsFar bytes factor (m ∷ []) (Truth true m.token.place) NoChoice false
    falsity : (m : Marked) → m.mark ≡ false_mark → IsFar bytes factor (m ∷ []) (Truth false m.token.place) NoChoice false
    grouped : (m n : Marked) (ms : List Marked) (t : Term) (tail : Tail) (waiting : Bool) → m.mark ≡ group_mark → n.mark ≡ close_mark → IsFar bytes 0 ms t tail waiting → IsFar bytes factor (m ∷ (ms ++ n ∷ [])) t NoChoice false
    previous : (w m n : Marked) (ms : List Marked) (t : Term) (tail : Tail) (waiting : Bool) → w.mark ≡ pre_mark → m.mark ≡ operand_mark → n.mark ≡ close_mark → IsFar bytes 0 ms t tail waiting
        → IsFar bytes factor (w ∷ m ∷ (ms ++ n ∷ [])) (term.Unary unary.Pre w.token.place t) NoChoice false
    started : (w m c n : Marked) (es is : List Marked) (e i : Term) (end tail : Tail) (waits waiting : Bool) → w.mark ≡ prev_mark → m.mark ≡ operand_mark → c.mark ≡ argument_mark → n.mark ≡ close_mark
        → IsFar bytes 0 es e end waits → IsFar bytes 0 is i tail waiting
        → IsFar bytes factor (w ∷ m ∷ (es ++ c ∷ (is ++ n ∷ []))) (term.Binary Arrow w.token.place i (term.Unary unary.Pre w.token.place e)) NoChoice false
    chosen : (w m n : Marked) (tests firsts others : List Marked) (test first other : Term) (test_tail first_tail tail : Tail) (test_waits first_waits waiting : Bool) → w.mark ≡ if_mark → m.mark ≡ then_mark → n.mark ≡ else_mark
        → IsFar bytes 0 tests test test_tail test_waits → IsFar bytes 0 firsts first first_tail first_waits → IsFar bytes 0 others other tail waiting
        → IsFar bytes factor (w ∷ (tests ++ m ∷ (firsts ++ n ∷ others))) (term.Choice w.token.place test first other) (tail_of_choice tail waiting) false
    named : (ms : List Marked) (path : Path) → IsName bytes ms path → IsFar bytes factor ms (Named path) NoChoice false
    called : (ms args : List Marked) (m n : Marked) (path : Path) (ts : List Term) → IsName bytes ms path → m.mark ≡ call_mark → n.mark ≡ close_mark → AreFar bytes args ts
        → IsFar bytes factor (ms ++ m ∷ (args ++ n ∷ [])) (term.Call path ts) NoChoice false

  -- tokens that state such expressions, apart by `,`
  pub data AreFar (bytes : List ℕ) : List Marked → List Term → Type 0 where
    no_argument : AreFar bytes [] []
    last_argument : (ms : List Marked) (t : Term) (tail : Tail) (waiting : Bool) → IsFar bytes 0 ms t tail waiting → AreFar bytes ms (t ∷ [])
    next_argument : (c : Marked) (ms more : List Marked) (t u : Term) (us : List Term) (tail : Tail) (waiting : Bool) → c.mark ≡ argument_mark → IsFar bytes 0 ms t tail waiting → AreFar bytes more (u ∷ us)
        → AreFar bytes (ms ++ c ∷ more) (t ∷ u ∷ us)

-- tokens state an expression so, whatever its end
pub record IsStated (bytes : List ℕ) (r : ℕ) (ms : List Marked) (t : Term) : Type 0 where
  pub tail : Tail
  pub waiting : Bool
  pub far : IsFar bytes r ms t tail waiting
