-- When words, each under its mark, are a text of the grammar of packages.
use Rattle.std.specs.Prelude.{◌≡◌, ℕ, List, [], map}
use Rattle.std.specs.List.{flat_map}
use Rattle.ag_grammar.specs.declared.grammar.Step.{Step}
use Rattle.ag_grammar.specs.Texts.{IsText, marks_of}
use Rattle.ag_lex.specs.declared.token.Language.TheVariants.{Aadl}
use Rattle.ag_lex.specs.declared.token.Token.{Token}
use Rattle.ag_lex.specs.Answers.{AreKept}
use Rattle.ag_aadl.specs.declared.packages.Package.{Package}
use Rattle.ag_aadl.specs.Grammar.{aadl}
use Rattle.ag_aadl.specs.Words.{terminal_of, terminals_of}
use Rattle.ag_print.specs.Annexes.{Stated}
use Rattle.ag_print.specs.Canonical.{Spelled, canonical_lines, canonical_text}
use Rattle.ag_print.specs.Layout.{Word, word_at}

-- the words of all lines in order
abbrev pub all_words : List (List Spelled) → List Spelled
all_words lines = flat_map (λ line. line) lines

abbrev pub canonical_words : List Package → Stated → List Spelled
canonical_words packages stated = all_words (canonical_lines packages stated)

abbrev pub terminal_of_word : Spelled → ℕ
terminal_of_word w = terminal_of w.word.kind w.word.own

abbrev pub terminals_of_words : List Spelled → List ℕ
terminals_of_words ws = map terminal_of_word ws

abbrev pub marks_of_words : List Spelled → List ℕ
marks_of_words ws = map (λ w. w.mark) ws

-- the grammar derives the words, and each one under its mark
abbrev pub IsSpelling : List Spelled → List Step → Type 0
IsSpelling ws steps = IsText aadl (terminals_of_words ws) steps × (marks_of steps ≡ marks_of_words ws)

abbrev pub plain_words : List Spelled → List Word
plain_words ws = map (λ w. w.word) ws

-- Canonical text as it is read: it breaks no rule, its tokens are the words, and the steps derive them under their marks.
pub record IsReadCanonical (file : ℕ) (packages : List Package) (stated : Stated) (tokens : List Token) (steps : List Step) : Type 0 where
  pub kept : AreKept Aadl file [] (canonical_text packages stated) tokens
  pub words : map (word_at (canonical_text packages stated)) tokens ≡ plain_words (canonical_words packages stated)
  pub text : IsText aadl (terminals_of (canonical_text packages stated) tokens) steps
  pub marks : marks_of steps ≡ marks_of_words (canonical_words packages stated)
