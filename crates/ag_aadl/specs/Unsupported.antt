-- Words and symbols that AADL has, and this profile of it doesn't.
use Rattle.std.specs.Prelude.{ℕ, ◌+◌, List, [], ◌∷◌, codes, slice_index_or, if◌then◌else◌}
use Rattle.ag_base.specs.declared.place.Rule.{Rule}
use Rattle.ag_base.specs.declared.place.Rule.TheVariants.{Unsupported, Expected}
use Rattle.ag_base.specs.declared.place.Word.{Word}
use Rattle.ag_terms.specs.Names.{same}

-- a word's number is its position
unfoldable pub unsupported_words : List (List ℕ)
unsupported_words =
    codes "private" ∷ codes "renames" ∷ codes "extends" ∷ codes "prototypes" ∷ codes "modes" ∷ codes "mode" ∷ codes "calls"
    ∷ codes "refined" ∷ codes "feature" ∷ codes "out" ∷ codes "virtual" ∷ codes "property" ∷ codes "set" ∷ codes "<->"
    ∷ codes "[" ∷ codes "in" ∷ codes "delayed" ∷ []

-- the word of a number, empty where the list lacks it
abbrev pub word_text : Word → List ℕ
word_text word = slice_index_or unsupported_words word.number []

-- the number of `delayed`
abbrev pub delayed : ℕ
delayed = 16

-- the rule of a text that may be one of these words, the first of which has this number
abbrev pub first_bad_rule : ℕ → List (List ℕ) → List ℕ → Rule
first_bad_rule n [] text = Expected
first_bad_rule n (w ∷ words) text = if same text w then Unsupported (record { number = n }) else first_bad_rule (n + 1) words text

-- the rule that a token breaks which can't stand where it stands
abbrev pub bad_rule : List ℕ → Rule
bad_rule text = first_bad_rule 0 unsupported_words text
