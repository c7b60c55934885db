-- Bytes by kind, texts without regard to case, and what a name is.
use Rattle.std.specs.Prelude.{ℕ, Bool, false, not, List, [], ◌∷◌, length, map, ◌==◌, ◌||◌, ◌&&◌, nat_le, codes}
use Rattle.std.specs.Char.{is_ascii_alphabetic, is_ascii_alphanumeric, to_ascii_lowercase}
use Rattle.std.specs.List.{list_any, list_all}
use Rattle.std.specs.Str.{bytes_eq}

-- TAB, LF, CR or space
abbrev pub is_space : ℕ → Bool
is_space b = b == 9 || b == 10 || b == 13 || b == 32

-- a letter, a digit or `_`
abbrev pub is_word_byte : ℕ → Bool
is_word_byte b = is_ascii_alphanumeric b || b == 95

abbrev pub is_quote : ℕ → Bool
is_quote b = b == 34

-- a byte that a label holds
abbrev pub is_label_byte : ℕ → Bool
is_label_byte b = nat_le 32 b && nat_le b 126 && not (is_quote b)

-- whether the first byte passes a test
abbrev pub begins : (ℕ → Bool) → List ℕ → Bool
begins test [] = false
begins test (b ∷ bs) = test b

-- a text with small letters for capitals
abbrev pub folded : List ℕ → List ℕ
folded text = map to_ascii_lowercase text

-- whether two texts differ in case at most
unfoldable pub same : List ℕ → List ℕ → Bool
same a b = bytes_eq (folded a) (folded b)

-- the reserved words of AADL (SAE AS5506)
unfoldable pub aadl_words : List (List ℕ)
aadl_words =
    codes "package" ∷ codes "public" ∷ codes "private" ∷ codes "with" ∷ codes "renames" ∷ codes "end"
    ∷ codes "system" ∷ codes "process" ∷ codes "thread" ∷ codes "device" ∷ codes "abstract" ∷ codes "data"
    ∷ codes "subprogram" ∷ codes "processor" ∷ codes "memory" ∷ codes "bus" ∷ codes "virtual"
    ∷ codes "implementation" ∷ codes "extends" ∷ codes "features" ∷ codes "flows" ∷ codes "modes"
    ∷ codes "mode" ∷ codes "properties" ∷ codes "property" ∷ codes "subcomponents" ∷ codes "connections"
    ∷ codes "calls" ∷ codes "annex" ∷ codes "in" ∷ codes "out" ∷ codes "event" ∷ codes "port"
    ∷ codes "feature" ∷ codes "group" ∷ codes "requires" ∷ codes "provides" ∷ codes "prototypes"
    ∷ codes "parameter" ∷ codes "access" ∷ codes "none" ∷ codes "refined" ∷ codes "to" ∷ codes "set"
    ∷ codes "applies" ∷ []

-- the reserved words of contracts (AGREE Users Guide)
unfoldable pub annex_words : List (List ℕ)
annex_words =
    codes "assume" ∷ codes "guarantee" ∷ codes "lemma" ∷ codes "eq" ∷ codes "assign" ∷ codes "const"
    ∷ codes "node" ∷ codes "returns" ∷ codes "var" ∷ codes "let" ∷ codes "tel" ∷ codes "int" ∷ codes "bool"
    ∷ codes "true" ∷ codes "false" ∷ codes "pre" ∷ codes "prev" ∷ codes "if" ∷ codes "then" ∷ codes "else"
    ∷ codes "and" ∷ codes "or" ∷ codes "not" ∷ codes "div" ∷ codes "mod" ∷ codes "real" ∷ codes "event"
    ∷ codes "assert" ∷ codes "property" ∷ codes "fun" ∷ codes "enum" ∷ codes "struct" ∷ codes "calendar"
    ∷ codes "synchrony" ∷ codes "linearization" ∷ codes "forall" ∷ codes "exists" ∷ codes "foreach" ∷ []

-- whether a word may not be a name, in any case
unfoldable pub is_reserved : List ℕ → Bool
is_reserved word =
    list_any (λ w. same word w) aadl_words || list_any (λ w. same word w) annex_words || same word (codes "Base_Types")

-- a letter, then letters, digits and `_`, at most 255 bytes, and not reserved
unfoldable pub is_name : List ℕ → Bool
is_name word =
    begins is_ascii_alphabetic word && list_all is_word_byte word && nat_le (length word) 255 && not (is_reserved word)
