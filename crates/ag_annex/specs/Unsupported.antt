-- Words and symbols that the clauses of annexes have (AGREE Users Guide), and this profile of them doesn't.
use Rattle.std.specs.Prelude.{ℕ, ◌-◌, List, [], ◌∷◌, codes, nat_lt, slice_index_or, if◌then◌else◌}
use Rattle.ag_base.specs.declared.place.Rule.{Rule}
use Rattle.ag_base.specs.declared.place.Word.{Word}
use Rattle.ag_aadl.specs.Unsupported.{first_bad_rule, word_text as aadl_word_text}

-- a word's number is its position here, counted on from the words of packages
unfoldable pub unsupported_words : List (List ℕ)
unsupported_words =
    codes "real" ∷ codes "event" ∷ codes "assert" ∷ codes "property" ∷ codes "fun" ∷ codes "enum" ∷ codes "struct"
    ∷ codes "calendar" ∷ codes "synchrony" ∷ codes "linearization" ∷ codes "forall" ∷ codes "exists" ∷ codes "foreach"
    ∷ codes "/" ∷ codes "[" ∷ codes "{" ∷ []

-- how many words of packages there are
abbrev pub words_before : ℕ
words_before = 17

-- the word of a number, of packages or of annexes
abbrev pub word_text : Word → List ℕ
word_text word = if nat_lt word.number words_before then aadl_word_text word else slice_index_or unsupported_words (word.number - words_before) []

-- the rule that a token of an annex breaks which can't stand where it stands
abbrev pub bad_rule : List ℕ → Rule
bad_rule text = first_bad_rule words_before unsupported_words text
