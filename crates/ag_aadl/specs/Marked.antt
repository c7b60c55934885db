-- The tokens of a file under the marks that the grammar gives them, and what to look for among them.
use Rattle.std.specs.Prelude.{ℕ, Bool, ◌==◌, List, [], ◌∷◌, slice_range, if◌then◌else◌}
use Rattle.std.specs.List.{list_any}
use Rattle.ag_grammar.specs.declared.grammar.Step.{Step}
use Rattle.ag_grammar.specs.declared.grammar.Step.TheVariants.{Expand, Shift}
use Rattle.ag_lex.specs.declared.token.Token.{Token}
use Rattle.ag_lex.specs.declared.token.TokenKind.TheVariants.{Name}
use Rattle.ag_aadl.specs.declared.marked.Marked.{Marked}

-- the tokens that the steps shift, with their terminals
abbrev pub marked : List ℕ → List Token → List Step → List Marked
marked terminals tokens [] = []
marked terminals tokens (Expand name ∷ steps) = marked terminals tokens steps
marked (x ∷ xs) (t ∷ ts) (Shift mark ∷ steps) = record { mark = mark; terminal = x; token = t } ∷ marked xs ts steps
marked _ _ (Shift mark ∷ steps) = []

-- the bytes of a token
abbrev pub own : List ℕ → Token → List ℕ
own bytes t = slice_range bytes t.start t.end

-- the tokens under a mark
abbrev pub under : ℕ → List Marked → List Token
under mark [] = []
under mark (m ∷ ms) = if m.mark == mark then m.token ∷ under mark ms else under mark ms

-- some token stands under a mark
abbrev pub has_mark : ℕ → List Marked → Bool
has_mark mark ms = list_any (λ m. m.mark == mark) ms

-- the first of some tokens; the grammar sees to it that there is one wherever this is asked
abbrev pub first_of : List Token → Token
first_of [] = record { kind = Name; start = 0; end = 0; place = record { file = 0; line = 0; column = 0 } }
first_of (t ∷ ts) = t

-- whether a mark is one of these
abbrev pub is_among : List ℕ → ℕ → Bool
is_among marks mark = list_any (λ k. k == mark) marks

-- the marked tokens before the first under one of these marks
abbrev pub up_to : List ℕ → List Marked → List Marked
up_to marks [] = []
up_to marks (m ∷ ms) = if is_among marks m.mark then [] else m ∷ up_to marks ms

-- for each token under one of these marks it and those behind it up to the next one
abbrev pub segments : List ℕ → List Marked → List (List Marked)
segments marks [] = []
segments marks (m ∷ ms) = if is_among marks m.mark then (m ∷ up_to marks ms) ∷ segments marks ms else segments marks ms
