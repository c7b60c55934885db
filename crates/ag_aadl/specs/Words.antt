-- Which terminal of the grammar a token is.
use Rattle.std.specs.Prelude.{ℕ, List, [], ◌∷◌, map, slice_range, codes, if◌then◌else◌}
use Rattle.ag_lex.specs.declared.token.Language.TheVariants.{Aadl}
use Rattle.ag_lex.specs.declared.token.Token.{Token}
use Rattle.ag_lex.specs.declared.token.TokenKind.{TokenKind}
use Rattle.ag_lex.specs.declared.token.TokenKind.TheVariants.{Name, Number, Real, Text, Annex, Symbol}
use Rattle.ag_lex.specs.Tokens.{AreTokens}
use Rattle.ag_terms.specs.Names.{same}
use Rattle.ag_aadl.specs.Terminals.{name, package_word, public_word, with_word, end_word, system_word, process_word, thread_word, device_word, abstract_word, data_word, subprogram_word, processor_word, memory_word, bus_word, implementation_word, features_word, flows_word, properties_word, subcomponents_word, connections_word, annex_word, in_word, out_word, event_word, port_word, requires_word, provides_word, parameter_word, none_word, other_word, colons, comma, semicolon, colon, dot, arrow, gives, open_paren, close_paren, open_bracket, close_bracket, open_brace, close_brace, annex_text, other_token}

-- the reserved words (SAE AS5506), and which of them the grammar knows
unfoldable pub reserved_words : List (List ℕ × ℕ)
reserved_words =
    (codes "package", package_word) ∷ (codes "public", public_word) ∷ (codes "private", other_word) ∷
    (codes "with", with_word) ∷ (codes "renames", other_word) ∷ (codes "end", end_word) ∷
    (codes "system", system_word) ∷ (codes "process", process_word) ∷ (codes "thread", thread_word) ∷
    (codes "device", device_word) ∷ (codes "abstract", abstract_word) ∷ (codes "data", data_word) ∷
    (codes "subprogram", subprogram_word) ∷ (codes "processor", processor_word) ∷ (codes "memory", memory_word) ∷
    (codes "bus", bus_word) ∷ (codes "virtual", other_word) ∷ (codes "implementation", implementation_word) ∷
    (codes "extends", other_word) ∷ (codes "features", features_word) ∷ (codes "flows", flows_word) ∷
    (codes "modes", other_word) ∷ (codes "mode", other_word) ∷ (codes "properties", properties_word) ∷
    (codes "property", other_word) ∷ (codes "subcomponents", subcomponents_word) ∷
    (codes "connections", connections_word) ∷ (codes "calls", other_word) ∷ (codes "annex", annex_word) ∷
    (codes "in", in_word) ∷ (codes "out", out_word) ∷ (codes "event", event_word) ∷ (codes "port", port_word) ∷
    (codes "feature", other_word) ∷ (codes "group", other_word) ∷ (codes "requires", requires_word) ∷
    (codes "provides", provides_word) ∷ (codes "prototypes", other_word) ∷ (codes "parameter", parameter_word) ∷
    (codes "access", other_word) ∷ (codes "none", none_word) ∷ (codes "refined", other_word) ∷
    (codes "to", other_word) ∷ (codes "set", other_word) ∷ (codes "applies", other_word) ∷ []

-- the symbols that the grammar knows
unfoldable pub known_symbols : List (List ℕ × ℕ)
known_symbols =
    (codes "::", colons) ∷ (codes ",", comma) ∷ (codes ";", semicolon) ∷ (codes ":", colon) ∷ (codes ".", dot) ∷
    (codes "->", arrow) ∷ (codes "=>", gives) ∷ (codes "(", open_paren) ∷ (codes ")", close_paren) ∷
    (codes "[", open_bracket) ∷ (codes "]", close_bracket) ∷ (codes "{", open_brace) ∷ (codes "}", close_brace) ∷ []

-- what stands beside a text in a list, and where the list lacks it another terminal
abbrev pub listed : List (List ℕ × ℕ) → ℕ → List ℕ → ℕ
listed [] otherwise own = otherwise
listed (e ∷ es) otherwise own = if same own e.0 then e.1 else listed es otherwise own

-- the terminal of a token with these bytes
abbrev pub terminal_of : TokenKind → List ℕ → ℕ
terminal_of Name own = listed reserved_words name own
terminal_of Number own = other_token
terminal_of Real own = other_token
terminal_of Text own = other_token
terminal_of Annex own = annex_text
terminal_of Symbol own = listed known_symbols other_token own

-- the terminals of a file's tokens
abbrev pub terminals_of : List ℕ → List Token → List ℕ
terminals_of bytes tokens = map (λ t. terminal_of t.kind (slice_range bytes t.start t.end)) tokens

-- these are the tokens of a file with these bytes
abbrev pub AreTokensOf : List ℕ → List Token → Type 0
AreTokensOf bytes tokens = (file : ℕ) × AreTokens Aadl file [] bytes tokens
