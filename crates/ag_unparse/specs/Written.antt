-- What a writer has written, word by word and line by line.
use Rattle.std.specs.Prelude.{ℕ, Bool, true, ◌||◌, List, [], ◌∷◌, ◌++◌, codes, if◌then◌else◌}
use Rattle.ag_terms.specs.declared.terms.Term.{Term}
use Rattle.ag_terms.specs.declared.terms.Unary.{Unary}
use Rattle.ag_terms.specs.declared.terms.Unary.TheVariants as unary
use Rattle.ag_annex.specs.Marks.{negative_mark, not_mark, pre_mark, operand_mark, argument_mark}
use Rattle.ag_unparse.specs.Canonical.{name_at, sign_at, open_word, term_words}
use Rattle.ag_unparse.specs.Layout.{Spelled, joins_before, joins_behind}

-- the bytes so far, and whether the next word stands right behind them in any case
pub record Written : Type 0 where
  pub bytes : List ℕ
  pub joined : Bool

-- these bytes more: behind a space, unless they join what stands before; and whether what comes behind joins them
abbrev pub with_bytes : Written → Bool → List ℕ → Bool → Written
with_bytes so_far before own behind = record { bytes = so_far.bytes ++ ((if so_far.joined || before then [] else codes " ") ++ own); joined = behind }

-- a word more
abbrev pub with_word : Written → Spelled → Written
with_word so_far w = with_bytes so_far (joins_before w) w.own (joins_behind w)

-- so many words more
abbrev pub with_words : Written → List Spelled → Written
with_words so_far [] = so_far
with_words so_far (w ∷ ws) = with_words (with_word so_far w) ws

-- the line's end more
abbrev pub with_end : Written → Written
with_end so_far = record { bytes = so_far.bytes ++ codes "\n"; joined = true }

-- so many whole lines more
abbrev pub with_lines : Written → List (List Spelled) → Written
with_lines so_far [] = so_far
with_lines so_far (line ∷ lines) = with_lines (with_end (with_words so_far line)) lines

-- ---- parts of expressions

-- what stands before the one operand
abbrev pub unary_words : Unary → List Spelled
unary_words unary.Minus = open_word ∷ sign_at negative_mark (codes "-") ∷ []
unary_words unary.Not = open_word ∷ name_at not_mark (codes "not") ∷ []
unary_words unary.Pre = name_at pre_mark (codes "pre") ∷ sign_at operand_mark (codes "(") ∷ []

abbrev pub comma : List Spelled
comma = sign_at argument_mark (codes ",") ∷ []

-- the arguments of a call as a list, the first of them behind the words before
abbrev pub listed_words : List Spelled → List Term → List Spelled
listed_words before [] = []
listed_words before (t ∷ ts) = before ++ (term_words t ++ listed_words comma ts)
