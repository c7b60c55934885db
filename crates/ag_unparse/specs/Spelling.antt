-- When words, each under its mark, are a text of the grammar of clauses, and when they stand in a text.
use Rattle.std.specs.Prelude.{◌≡◌, ℕ, List, [], ◌∷◌, map}
use Rattle.std.specs.List.{flat_map}
use Rattle.ag_grammar.specs.declared.grammar.Step.{Step}
use Rattle.ag_grammar.specs.Texts.{IsText, marks_of}
use Rattle.ag_lex.specs.declared.token.Token.{Token}
use Rattle.ag_aadl.specs.Marked.{own}
use Rattle.ag_terms.specs.declared.clauses.Clause.{Clause}
use Rattle.ag_annex.specs.Grammar.{annex}
use Rattle.ag_annex.specs.Words.{terminal_of}
use Rattle.ag_unparse.specs.Canonical.{clause_words}
use Rattle.ag_unparse.specs.Layout.{Spelled}

-- the words of all clauses in order
abbrev pub clauses_words : List Clause → List Spelled
clauses_words clauses = flat_map clause_words clauses

abbrev pub terminals_of_words : List Spelled → List ℕ
terminals_of_words ws = map (λ w. terminal_of w.kind w.own) ws

abbrev pub marks_of_words : List Spelled → List ℕ
marks_of_words ws = map (λ w. w.mark) ws

-- the grammar derives the words, and each one under its mark
abbrev pub IsSpelling : List Spelled → List Step → Type 0
IsSpelling ws steps = IsText annex (terminals_of_words ws) steps × (marks_of steps ≡ marks_of_words ws)

-- the words stand in a text as these tokens
abbrev pub StandAs : List ℕ → List Token → List Spelled → Type 0
StandAs bytes [] [] = Unit {0}
StandAs bytes (t ∷ ts) (w ∷ ws) = (t.kind ≡ w.kind) × (own bytes t ≡ w.own) × StandAs bytes ts ws
StandAs bytes _ _ = ⊥
