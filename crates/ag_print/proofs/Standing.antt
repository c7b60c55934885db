-- The tokens of canonical text are its words, and so a text of the grammar.
use Rattle.std.proofs.Common.{◌≡◌, ℕ, true, not, ltb, List, [], ◌∷◌, ◌++◌, map, refl, sym, ap, subst, ◌∙◌, IsTrue}
use Rattle.std.specs.Prelude.{codes}
use Rattle.std.specs.List.{All, list_all}
use Rattle.std.specs.Str.{IsUtf8}
use Rattle.std.proofs.lemmas.Str.{IsUtf8-append, IsUtf8-from_ascii}
use Rattle.std.proofs.lemmas.List.{map-append}
use Rattle.ag_grammar.specs.declared.grammar.Step.{Step}
use Rattle.ag_grammar.specs.Texts.{IsText}
use Rattle.ag_lex.specs.declared.token.Language.TheVariants.{Aadl}
use Rattle.ag_lex.specs.declared.token.Token.{Token}
use Rattle.ag_lex.specs.Answers.{AreKept}
use Rattle.ag_aadl.specs.declared.packages.Package.{Package}
use Rattle.ag_aadl.specs.Grammar.{aadl}
use Rattle.ag_aadl.specs.Words.{terminal_of, terminals_of}
use Rattle.ag_lex.specs.Spelling.{has_close}
use Rattle.ag_terms.specs.declared.clauses.Clause.{Clause}
use Rattle.ag_unparse.specs.Canonical.{inside_text}
use Rattle.ag_unparse.specs.Printable.{are_printable_clauses, AreLabelsText}
use Rattle.ag_print.specs.Annexes.{Stated}
use Rattle.ag_print.specs.Canonical.{Spelled, canonical_lines, canonical_text}
use Rattle.ag_print.specs.Layout.{Word, IsSoundLine, text_bytes, words_of, word_at}
use Rattle.ag_print.specs.Printable.{are_printable, StatedMayBePrinted}
use Rattle.ag_print.specs.Spelling.{all_words, canonical_words, terminals_of_words, plain_words, IsReadCanonical}
use Rattle.ag_print.proofs.Lines.{low_ascii}
use Rattle.ag_print.proofs.Sound.{AnnexesSpelled, lines_sound}
use Rattle.ag_print.proofs.Spelling.{spells}

-- what the law of lines says
abbrev pub LinesRead : Type 0
LinesRead = (file : ℕ) (lines : List (List Word)) → All IsSoundLine lines → (tokens : List Token) × AreKept Aadl file [] (text_bytes lines) tokens × (map (word_at (text_bytes lines)) tokens ≡ words_of lines)

words_together : (lines : List (List Spelled)) → words_of (map plain_words lines) ≡ plain_words (all_words lines)
words_together [] = refl
words_together (line ∷ lines) =
    ap (λ (z : List Word). plain_words line ++ z) (words_together lines) ∙ sym (map-append (λ (s : Spelled). s.word) line (all_words lines))

-- tokens that are the words have the words' terminals
terminals_are : (bytes : List ℕ) (tokens : List Token) → terminals_of bytes tokens ≡ map (λ w. terminal_of w.kind w.own) (map (word_at bytes) tokens)
terminals_are bytes [] = refl
terminals_are bytes (t ∷ tokens) = ap (λ (z : List ℕ). terminal_of (word_at bytes t).kind (word_at bytes t).own ∷ z) (terminals_are bytes tokens)

terminals_same : (ws : List Spelled) → map (λ w. terminal_of w.kind w.own) (plain_words ws) ≡ terminals_of_words ws
terminals_same [] = refl
terminals_same (w ∷ ws) = ap (λ (z : List ℕ). terminal_of w.word.kind w.word.own ∷ z) (terminals_same ws)

-- ---- annexes are spelled

-- what the laws of clauses say
abbrev pub NeverCloses : Type 0
NeverCloses = (clauses : List Clause) → IsTrue (are_printable_clauses clauses) → IsTrue (not (has_close (inside_text clauses ++ codes "**")))

abbrev pub TextIsUtf8 : Type 0
TextIsUtf8 = (clauses : List Clause) → IsTrue (are_printable_clauses clauses) → AreLabelsText clauses → IsUtf8 (inside_text clauses)

ascii : (bs : List ℕ) → list_all (λ b. ltb b 128) bs ≡ true → IsUtf8 bs
ascii bs h = IsUtf8-from_ascii bs (low_ascii bs h)

annexes_spelled : NeverCloses → TextIsUtf8 → AnnexesSpelled
annexes_spelled never text clauses h labels =
    let inside = inside_text clauses in
    let last = IsUtf8-append inside (codes "**}") (text clauses h labels) (ascii (codes "**}") refl) in
    ((inside, refl, never clauses h), IsUtf8-append (codes "{**") (inside ++ codes "**}") (ascii (codes "{**") refl) last)

-- ---- the law

pub canonical_spells : NeverCloses → TextIsUtf8 → LinesRead → (file : ℕ) (packages : List Package) (stated : Stated) → IsTrue (are_printable packages) → StatedMayBePrinted packages stated
    → (tokens : List Token) × (steps : List Step) × IsReadCanonical file packages stated tokens steps
canonical_spells never text lines_read file packages stated h may =
    let lines = canonical_lines packages stated in
    let bytes = canonical_text packages stated in
    let read = lines_read file (map plain_words lines) (lines_sound (annexes_spelled never text) packages stated h may) in
    let spelled = spells packages stated h in
    let words = read.2 ∙ words_together lines in
    let terminals =
    terminals_are bytes read.0 ∙ ap (λ (z : List Word). map (λ (w : Word). terminal_of w.kind w.own) z) words ∙ terminals_same (canonical_words packages stated) in (
      read.0,
      spelled.0,
      record {
        kept = read.1;
        words = words;
        text = subst (λ (xs : List ℕ). IsText aadl xs spelled.0) (sym terminals) spelled.1.0;
        marks = spelled.1.1;
      },
    )
