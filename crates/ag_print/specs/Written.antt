-- What a writer has written, word by word and line by line.
use Rattle.std.specs.Prelude.{ℕ, Bool, true, ◌||◌, List, [], ◌∷◌, ◌++◌, codes, if◌then◌else◌}
use Rattle.ag_lex.specs.declared.token.TokenKind.TheVariants as kinds
use Rattle.ag_print.specs.declared.symbol.Symbol.{Symbol}
use Rattle.ag_print.specs.declared.symbol.Symbol.TheVariants.{Colons, Dot, Semicolon, Comma, Colon, Arrow}
use Rattle.ag_print.specs.Layout.{Word, joins_before, joins_behind}
use Rattle.ag_print.specs.Canonical.{Spelled}

abbrev pub symbol_bytes : Symbol → List ℕ
symbol_bytes Colons = codes "::"
symbol_bytes Dot = codes "."
symbol_bytes Semicolon = codes ";"
symbol_bytes Comma = codes ","
symbol_bytes Colon = codes ":"
symbol_bytes Arrow = codes "->"

abbrev pub symbol_word : Symbol → Word
symbol_word symbol = record { kind = kinds.Symbol; own = symbol_bytes symbol }

abbrev pub name_word : List ℕ → Word
name_word own = record { kind = kinds.Name; own = own }

-- the bytes so far, and whether the next word stands right behind them in any case
pub record Written : Type 0 where
  pub bytes : List ℕ
  pub joined : Bool

abbrev pub nothing : Written
nothing = record { bytes = []; joined = true }

-- a word more, behind a space if it doesn't join
abbrev pub with_word : Written → Word → Written
with_word so_far w = record { bytes = so_far.bytes ++ ((if so_far.joined || joins_before w then [] else codes " ") ++ w.own); joined = joins_behind w }

-- so many words more, whatever their marks
abbrev pub with_words : Written → List Spelled → Written
with_words so_far [] = so_far
with_words so_far (w ∷ ws) = with_words (with_word so_far w.word) ws

-- the line's end more
abbrev pub with_end : Written → Written
with_end so_far = record { bytes = so_far.bytes ++ codes "\n"; joined = true }

-- so many whole lines more
abbrev pub with_lines : Written → List (List Spelled) → Written
with_lines so_far [] = so_far
with_lines so_far (line ∷ lines) = with_lines (with_end (with_words so_far line)) lines
