-- Fronts of bytes that pass a test.
use Rattle.std.proofs.Common.{◌≡◌, ℕ, ◌<◌, Bool, true, eqb, List, [], ◌∷◌, length, take, refl, inl, inr, arith}
use Rattle.std.specs.List.{prefix_len, list_all}
use Rattle.std.specs.Str.{IsAscii}
use Rattle.std.proofs.lemmas.Bool.{cases_lt, cases_Bool}
use Rattle.std.proofs.lemmas.Bool.Decides.{nat_tests}
use Rattle.std.proofs.lemmas.List.{get_or-take, get_or_past, length-take}
use Rattle.std.proofs.lemmas.List.Sums.{prefix_len_passes}
use Rattle.ag_small.specs.Characters.{is_word_byte, is_label_byte}

-- the front is the whole list exactly where each element passes
pub eqb-prefix_len : (p : ℕ → Bool) (xs : List ℕ) → eqb (prefix_len p xs) (length xs) ≡ list_all p xs
eqb-prefix_len p [] = refl
eqb-prefix_len p (x ∷ xs) = let h = eqb-prefix_len p xs in elim (cases_Bool (p x)) [ inl passes ↦ rw passes (grind (arith, nat_tests)) | inr fails ↦ rw fails (grind (arith, nat_tests)) ]

pub ascii_front : (p : ℕ → Bool) (xs : List ℕ) → ((b : ℕ) → p b ≡ true → b < 128) → IsAscii (take (prefix_len p xs) xs)
ascii_front p xs small i =
    elim (cases_lt i (prefix_len p xs)) [
      | inl lt ↦ rw (get_or-take (prefix_len p xs) xs i 0 lt) (small _ (prefix_len_passes p xs i 0 lt))
      | inr le ↦ rw (get_or_past (take (prefix_len p xs) xs) i 0 (omega (arith, length-take (prefix_len p xs) xs))) (omega arith)
    ]

pub ascii_word : (b : ℕ) → is_word_byte b ≡ true → b < 128
ascii_word b h = grind (arith, nat_tests)

pub ascii_label : (b : ℕ) → is_label_byte b ≡ true → b < 128
ascii_label b h = grind (arith, nat_tests)
