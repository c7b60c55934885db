-- Bytes by kind.
use Rattle.std.specs.Prelude.{ℕ, Bool, true, false, not, List, [], ◌∷◌, ◌==◌, ◌||◌, ◌&&◌, nat_le, nat_lt}
use Rattle.std.specs.Char.{is_ascii_alphanumeric, is_ascii_digit}
use Rattle.std.specs.List.{list_all}
use Rattle.ag_lex.specs.declared.token.Language.{Language}
use Rattle.ag_lex.specs.declared.token.Language.TheVariants.{Aadl, Agree}

-- TAB, LF, CR or space
abbrev pub is_space : ℕ → Bool
is_space b = b == 9 || b == 10 || b == 13 || b == 32

-- a byte of a comment: not LF
abbrev pub is_line_byte : ℕ → Bool
is_line_byte b = not (b == 10)

-- a letter, a digit or `_`
abbrev pub is_word_byte : ℕ → Bool
is_word_byte b = is_ascii_alphanumeric b || b == 95

-- what follows a number's first digit: in AADL letters, digits, `_` and `#`, in an annex digits alone
abbrev pub is_number_byte : Language → ℕ → Bool
is_number_byte Aadl b = is_word_byte b || b == 35
is_number_byte Agree b = is_ascii_digit b

-- a byte between quotes: neither `"` nor LF
abbrev pub is_text_byte : ℕ → Bool
is_text_byte b = not (b == 34) && not (b == 10)

-- a byte that is a symbol by itself: of 33 to 126, and no letter, digit or `"`
abbrev pub is_sign : ℕ → Bool
is_sign b = nat_le 33 b && nat_le b 126 && not (is_ascii_alphanumeric b || b == 34)

-- a byte that stands in comments, texts and annexes alone: under 32 and no white space, or over 126
abbrev pub is_bad_byte : ℕ → Bool
is_bad_byte b = (nat_lt b 32 && not (is_space b)) || nat_lt 126 b

-- whether the first byte passes a test
abbrev pub begins : (ℕ → Bool) → List ℕ → Bool
begins test [] = false
begins test (b ∷ bs) = test b

-- one byte that passes the first test, and then bytes that pass the other
abbrev pub is_run : (ℕ → Bool) → (ℕ → Bool) → List ℕ → Bool
is_run first others [] = false
is_run first others (b ∷ bs) = first b && list_all others bs

-- whether a line ends here: by LF, or with the bytes
abbrev pub ends_line : List ℕ → Bool
ends_line [] = true
ends_line (b ∷ bs) = b == 10
