-- Expressions by the lines of their grammar in docs/LANGUAGE.md: which tokens state which expression, with the operands that each
-- operator has. It knows no order of reading. Of several ways to state one text, which there are behind an `else` alone, it has each.
-- Which mark is which operator, and the ranks, are those of ag_annex (Operators.antt).
use Rattle.std.specs.Prelude.{◌≡◌, ◌<◌, ◌≤◌, ℕ, suc, pos, true, false, ◌==◌, ◌||◌, List, [], ◌∷◌, ◌++◌, Option, Some, None, if◌then◌else◌}
use Rattle.ag_grammar.specs.declared.grammar.Step.{Step}
use Rattle.ag_grammar.specs.Texts.{IsText}
use Rattle.ag_lex.specs.declared.token.Token.{Token}
use Rattle.ag_lex.specs.Rules.{decimal}
use Rattle.ag_aadl.specs.declared.marked.Marked.{Marked}
use Rattle.ag_terms.specs.declared.names.Path.{Path}
use Rattle.ag_aadl.specs.Marked.{marked, own, under, up_to}
use Rattle.ag_aadl.specs.Marks.{unmarked}
use Rattle.ag_aadl.specs.Meaning.{path_of}
use Rattle.ag_terms.specs.declared.terms.Binary.{Binary}
use Rattle.ag_terms.specs.declared.terms.Binary.TheVariants.{Arrow}
use Rattle.ag_terms.specs.declared.terms.Term.{Term, Number, Truth, Named}
use Rattle.ag_terms.specs.declared.terms.Term.TheViews as term
use Rattle.ag_terms.specs.declared.terms.Unary.TheVariants as unary
use Rattle.ag_annex.specs.Grammar.{annex}
use Rattle.ag_annex.specs.Marks.{value_mark, end_mark, arrow_mark, implies_mark, iff_mark, or_mark, and_mark, less_mark, at_most_mark, more_mark, at_least_mark, same_mark, differs_mark, plus_mark, minus_mark, times_mark, div_mark, mod_mark, negative_mark, not_mark, pre_mark, prev_mark, if_mark, then_mark, else_mark, number_mark, true_mark, false_mark, group_mark, operand_mark, call_mark, argument_mark, close_mark, path_mark, part_mark, path_body_mark}
use Rattle.ag_annex.specs.Operators.{binary_of, rank, comparison, last_right}
use Rattle.ag_annex.specs.Words.{terminals_of}
use Rattle.ag_annex.specs.Terminals.{name, number as number_token, true_word, false_word, pre_word, prev_word, if_word, then_word, else_word, and_word, or_word, not_word, div_word, mod_word, colons, comma, dot, open_paren, close_paren, arrow, implies, iff, less, at_most, more, at_least, equals, differs, plus, minus, times}

-- the parts of a name, apart by `::`
abbrev pub name_parts_in : List Marked → List Token
name_parts_in [] = []
name_parts_in (m ∷ ms) = if m.mark == path_mark || m.mark == part_mark then m.token ∷ name_parts_in ms else name_parts_in ms

-- what goes on a name: further parts behind `::`, and then a body behind `.`, or none
pub data GoesOn : List Marked → Type 0 where
  name_ends : GoesOn []
  next_part : (c m : Marked) (ms : List Marked) → c.mark ≡ unmarked → c.terminal ≡ colons → m.mark ≡ part_mark → GoesOn ms → GoesOn (c ∷ m ∷ ms)
  a_body : (d m : Marked) → d.mark ≡ unmarked → d.terminal ≡ dot → m.mark ≡ path_body_mark → GoesOn (d ∷ m ∷ [])

-- the tokens of a name
pub record IsName (bytes : List ℕ) (ms : List Marked) (path : Path) : Type 0 where
  pub first : Marked
  pub more : List Marked
  pub tokens : ms ≡ first ∷ more
  pub begins : first.mark ≡ path_mark
  pub goes : GoesOn more
  pub told : path_of bytes (name_parts_in ms) (under path_body_mark ms) ≡ Some path

-- the rank of operands: all operators between two of them bind looser
abbrev pub factor : ℕ
factor = 8

mutual
  -- Tokens that state an expression in which operators of this rank and tighter ones stand outside brackets and choices.
  pub data IsRanked (bytes : List ℕ) : ℕ → List Marked → Term → Type 0 where
    tighter : (r : ℕ) (ms : List Marked) (t : Term) → r < factor → IsRanked bytes (suc r) ms t → IsRanked bytes r ms t
    -- operators that associate to the left
    leftward : (op : Binary) (m : Marked) (before behind : List Marked) (left right : Term) → binary_of m.mark ≡ Some op → last_right < rank op → (rank op ≡ comparison → ⊥)
        → IsRanked bytes (rank op) before left → IsRanked bytes (suc (rank op)) behind right → IsRanked bytes (rank op) (before ++ m ∷ behind) (term.Binary op m.token.place left right)
    -- operators that associate to the right
    rightward : (op : Binary) (m : Marked) (before behind : List Marked) (left right : Term) → binary_of m.mark ≡ Some op → rank op ≤ last_right
        → IsRanked bytes (suc (rank op)) before left → IsRanked bytes (rank op) behind right → IsRanked bytes (rank op) (before ++ m ∷ behind) (term.Binary op m.token.place left right)
    -- comparisons don't chain
    compared : (op : Binary) (m : Marked) (before behind : List Marked) (left right : Term) → binary_of m.mark ≡ Some op → rank op ≡ comparison
        → IsRanked bytes (suc comparison) before left → IsRanked bytes (suc comparison) behind right → IsRanked bytes comparison (before ++ m ∷ behind) (term.Binary op m.token.place left right)
    negative : (m : Marked) (ms : List Marked) (t : Term) → m.mark ≡ negative_mark → IsRanked bytes factor ms t → IsRanked bytes factor (m ∷ ms) (term.Unary unary.Minus m.token.place t)
    negated : (m : Marked) (ms : List Marked) (t : Term) → m.mark ≡ not_mark → IsRanked bytes factor ms t → IsRanked bytes factor (m ∷ ms) (term.Unary unary.Not m.token.place t)
    number : (m : Marked) → m.mark ≡ number_mark → IsRanked bytes factor (m ∷ []) (Number (pos (decimal (own bytes m.token))) m.token.place)
    truth : (m : Marked) → m.mark ≡ true_mark → IsRanked bytes factor (m ∷ []) (Truth true m.token.place)
    falsity : (m : Marked) → m.mark ≡ false_mark → IsRanked bytes factor (m ∷ []) (Truth false m.token.place)
    -- an expression in parentheses is itself
    grouped : (m n : Marked) (ms : List Marked) (t : Term) → m.mark ≡ group_mark → n.mark ≡ close_mark → IsRanked bytes 0 ms t → IsRanked bytes factor (m ∷ (ms ++ n ∷ [])) t
    previous : (w m n : Marked) (ms : List Marked) (t : Term) → w.mark ≡ pre_mark → m.mark ≡ operand_mark → n.mark ≡ close_mark → IsRanked bytes 0 ms t
        → IsRanked bytes factor (w ∷ m ∷ (ms ++ n ∷ [])) (term.Unary unary.Pre w.token.place t)
    -- `prev(e, i)` is the arrow from `i` to `pre(e)`
    started : (w m c n : Marked) (es is : List Marked) (e i : Term) → w.mark ≡ prev_mark → m.mark ≡ operand_mark → c.mark ≡ argument_mark → n.mark ≡ close_mark
        → IsRanked bytes 0 es e → IsRanked bytes 0 is i
        → IsRanked bytes factor (w ∷ m ∷ (es ++ c ∷ (is ++ n ∷ []))) (term.Binary Arrow w.token.place i (term.Unary unary.Pre w.token.place e))
    chosen : (w m n : Marked) (tests firsts others : List Marked) (test first other : Term) → w.mark ≡ if_mark → m.mark ≡ then_mark → n.mark ≡ else_mark
        → IsRanked bytes 0 tests test → IsRanked bytes 0 firsts first → IsRanked bytes 0 others other
        → IsRanked bytes factor (w ∷ (tests ++ m ∷ (firsts ++ n ∷ others))) (term.Choice w.token.place test first other)
    named : (ms : List Marked) (path : Path) → IsName bytes ms path → IsRanked bytes factor ms (Named path)
    called : (ms args : List Marked) (m n : Marked) (path : Path) (ts : List Term) → IsName bytes ms path → m.mark ≡ call_mark → n.mark ≡ close_mark → AreArguments bytes args ts
        → IsRanked bytes factor (ms ++ m ∷ (args ++ n ∷ [])) (term.Call path ts)

  -- Tokens that state these expressions, apart by `,`.
  pub data AreArguments (bytes : List ℕ) : List Marked → List Term → Type 0 where
    no_argument : AreArguments bytes [] []
    last_argument : (ms : List Marked) (t : Term) → IsRanked bytes 0 ms t → AreArguments bytes ms (t ∷ [])
    next_argument : (c : Marked) (ms more : List Marked) (t u : Term) (us : List Term) → c.mark ≡ argument_mark → IsRanked bytes 0 ms t → AreArguments bytes more (u ∷ us)
        → AreArguments bytes (ms ++ c ∷ more) (t ∷ u ∷ us)

-- the tokens of each expression of an annex: those behind a `:` or `=`, up to the `;`
abbrev pub expressions_in : List Marked → List (List Marked)
expressions_in [] = []
expressions_in (m ∷ ms) = if m.mark == value_mark then up_to (end_mark ∷ []) ms ∷ expressions_in ms else expressions_in ms

-- ---- tokens by their marks

-- which terminal a token is that has one of these marks
abbrev pub terminals_by_mark : List (ℕ × ℕ)
terminals_by_mark =
    (arrow_mark, arrow) ∷ (implies_mark, implies) ∷ (iff_mark, iff) ∷ (or_mark, or_word) ∷ (and_mark, and_word) ∷
    (less_mark, less) ∷ (at_most_mark, at_most) ∷ (more_mark, more) ∷ (at_least_mark, at_least) ∷
    (same_mark, equals) ∷ (differs_mark, differs) ∷ (plus_mark, plus) ∷ (minus_mark, minus) ∷ (times_mark, times) ∷
    (div_mark, div_word) ∷ (mod_mark, mod_word) ∷ (negative_mark, minus) ∷ (not_mark, not_word) ∷
    (pre_mark, pre_word) ∷ (prev_mark, prev_word) ∷ (if_mark, if_word) ∷ (then_mark, then_word) ∷ (else_mark, else_word) ∷
    (number_mark, number_token) ∷ (true_mark, true_word) ∷ (false_mark, false_word) ∷ (group_mark, open_paren) ∷
    (operand_mark, open_paren) ∷ (call_mark, open_paren) ∷ (argument_mark, comma) ∷ (close_mark, close_paren) ∷
    (path_mark, name) ∷ (part_mark, name) ∷ (path_body_mark, name) ∷ []

-- the terminal beside a mark in such a list, if the mark stands there
abbrev pub terminal_beside : ℕ → List (ℕ × ℕ) → Option ℕ
terminal_beside mark [] = None
terminal_beside mark (p ∷ ps) = if p.0 == mark then Some p.1 else terminal_beside mark ps

-- the token is that terminal, if its mark is one of these
abbrev pub IsAsMarked : Marked → Type 0
IsAsMarked m = (t : ℕ) → terminal_beside m.mark terminals_by_mark ≡ Some t → m.terminal ≡ t

-- each of some tokens is so
abbrev pub AreAsMarked : List Marked → Type 0
AreAsMarked [] = Unit {0}
AreAsMarked (m ∷ ms) = IsAsMarked m × AreAsMarked ms

-- ---- clauses

-- the lines give each of these an expression
abbrev pub AreRanked : List ℕ → List (List Marked) → Type 0
AreRanked bytes [] = Unit {0}
AreRanked bytes (ms ∷ more) = ((t : Term) × IsRanked bytes 0 ms t) × AreRanked bytes more

-- The tokens are clauses by these steps of the flat grammar, with expressions that the lines give.
pub record AreByLines (bytes : List ℕ) (tokens : List Token) (steps : List Step) : Type 0 where
  pub text : IsText annex (terminals_of bytes tokens) steps
  pub expressions : AreRanked bytes (expressions_in (marked (terminals_of bytes tokens) tokens steps))
