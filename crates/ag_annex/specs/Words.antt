-- Which terminal of the grammar a token of an annex is.
use Rattle.std.specs.Prelude.{ℕ, List, [], ◌∷◌, map, slice_range, codes}
use Rattle.ag_lex.specs.declared.token.Token.{Token}
use Rattle.ag_lex.specs.declared.token.TokenKind.{TokenKind}
use Rattle.ag_lex.specs.declared.token.TokenKind.TheVariants.{Name, Number, Real, Text, Annex, Symbol}
use Rattle.ag_aadl.specs.Words.{listed}
use Rattle.ag_annex.specs.Terminals.{name, number, text, assume_word, guarantee_word, lemma_word, eq_word, assign_word, const_word, node_word, returns_word, var_word, let_word, tel_word, int_word, bool_word, true_word, false_word, pre_word, prev_word, if_word, then_word, else_word, and_word, or_word, not_word, div_word, mod_word, other_word, colons, comma, semicolon, colon, dot, open_paren, close_paren, arrow, implies, iff, less, at_most, more, at_least, equals, differs, plus, minus, times, other_token}

-- the reserved words of an annex, and which of them the grammar knows
unfoldable pub reserved_words : List (List ℕ × ℕ)
reserved_words =
    (codes "assume", assume_word) ∷ (codes "guarantee", guarantee_word) ∷ (codes "lemma", lemma_word) ∷
    (codes "eq", eq_word) ∷ (codes "assign", assign_word) ∷ (codes "const", const_word) ∷
    (codes "node", node_word) ∷ (codes "returns", returns_word) ∷ (codes "var", var_word) ∷
    (codes "let", let_word) ∷ (codes "tel", tel_word) ∷ (codes "int", int_word) ∷ (codes "bool", bool_word) ∷
    (codes "true", true_word) ∷ (codes "false", false_word) ∷ (codes "pre", pre_word) ∷
    (codes "prev", prev_word) ∷ (codes "if", if_word) ∷ (codes "then", then_word) ∷ (codes "else", else_word) ∷
    (codes "and", and_word) ∷ (codes "or", or_word) ∷ (codes "not", not_word) ∷ (codes "div", div_word) ∷
    (codes "mod", mod_word) ∷ (codes "real", other_word) ∷ (codes "event", other_word) ∷
    (codes "assert", other_word) ∷ (codes "property", other_word) ∷ (codes "fun", other_word) ∷
    (codes "enum", other_word) ∷ (codes "struct", other_word) ∷ (codes "calendar", other_word) ∷
    (codes "synchrony", other_word) ∷ (codes "linearization", other_word) ∷ (codes "forall", other_word) ∷
    (codes "exists", other_word) ∷ (codes "foreach", other_word) ∷ []

-- the symbols that the grammar knows
unfoldable pub known_symbols : List (List ℕ × ℕ)
known_symbols =
    (codes "::", colons) ∷ (codes ",", comma) ∷ (codes ";", semicolon) ∷ (codes ":", colon) ∷ (codes ".", dot) ∷
    (codes "(", open_paren) ∷ (codes ")", close_paren) ∷ (codes "->", arrow) ∷ (codes "=>", implies) ∷
    (codes "<=>", iff) ∷ (codes "<", less) ∷ (codes "<=", at_most) ∷ (codes ">", more) ∷
    (codes ">=", at_least) ∷ (codes "=", equals) ∷ (codes "<>", differs) ∷ (codes "!=", differs) ∷
    (codes "+", plus) ∷ (codes "-", minus) ∷ (codes "*", times) ∷ []

-- the terminal of a token with these bytes
abbrev pub terminal_of : TokenKind → List ℕ → ℕ
terminal_of Name own = listed reserved_words name own
terminal_of Number own = number
terminal_of Real own = other_token
terminal_of Text own = text
terminal_of Annex own = other_token
terminal_of Symbol own = listed known_symbols other_token own

-- the terminals of an annex's tokens, in a file with these bytes
abbrev pub terminals_of : List ℕ → List Token → List ℕ
terminals_of bytes tokens = map (λ t. terminal_of t.kind (slice_range bytes t.start t.end)) tokens
