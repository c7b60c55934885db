-- What the words ask for, which file they name, and what is written where they are no command.
use Rattle.std.specs.Prelude.{◌≡◌, ◌≢◌, ◌⊎◌, ◌∷◌, [], ℕ, List, codes}
use Rattle.ag_top.specs.declared.words.Order.{Order}
use Rattle.ag_top.specs.declared.words.Order.TheVariants as orders

-- the word of a command
abbrev pub word_of : Order → List ℕ
word_of orders.Check = codes "check"
word_of orders.Print = codes "print"

-- the name of the source
abbrev pub source_name : List ℕ
source_name = codes "-"

-- a word that names a file by itself: it isn't empty, and it is `-` or doesn't begin with that
abbrev pub IsPlainWord : List ℕ → Type 0
IsPlainWord [] = ⊥
IsPlainWord (b ∷ bs) = b ≡ 45 → bs ≡ []

-- the words name this one file: behind `--` every word does that isn't empty
abbrev pub NamesFile : List (List ℕ) → List ℕ → Type 0
NamesFile words name =
    (IsPlainWord name × ((words ≡ name ∷ []) ⊎ (words ≡ name ∷ codes "--" ∷ [])))
    ⊎ ((name ≢ []) × (words ≡ codes "--" ∷ name ∷ []))

-- the words ask for this, of the file of this name
pub record AsksFor (words : List (List ℕ)) (o : Order) (name : List ℕ) : Type 0 where
  pub rest : List (List ℕ)
  pub command : words ≡ word_of o ∷ rest
  pub file : NamesFile rest name

-- the words of a check of that file
abbrev pub IsCheck : List (List ℕ) → List ℕ → Type 0
IsCheck words name = AsksFor words orders.Check name

-- the words of a print of it
abbrev pub IsPrint : List (List ℕ) → List ℕ → Type 0
IsPrint words name = AsksFor words orders.Print name

-- the words of some command
abbrev pub IsCommand : List (List ℕ) → Type 0
IsCommand words = (o : Order) × (name : List ℕ) × AsksFor words o name

-- they ask for the source
abbrev pub AsksSource : List (List ℕ) → Type 0
AsksSource words = (o : Order) × AsksFor words o source_name

-- they ask for a file of the folder
abbrev pub AsksFolder : List (List ℕ) → Type 0
AsksFolder words = (o : Order) × (name : List ℕ) × (name ≢ source_name) × AsksFor words o name

abbrev pub usage_text : List ℕ
usage_text = codes "usage: agreec check [--top NAME] [LIMITS] FILE [FILE ...]\n       agreec print FILE\n       agreec serve [--workers N] [LIMITS]\n       agreec gen N [--workers N] [LIMITS]\nlimits: --depth N --work N --leaf N --consistency N\n"
