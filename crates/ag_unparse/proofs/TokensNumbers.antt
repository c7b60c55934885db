-- The digits of a number are a number of annexes, and it is the number that they write.
use Rattle.std.proofs.Common.{◌≡◌, ℕ, ◌+◌, ◌-◌, ◌*◌, ◌%◌, ◌/◌, ◌<◌, ◌≤◌, ◌^◌, true, ◌&&◌, List, [], ◌∷◌, ◌++◌, fold, refl, ◌∙◌, decimal, arith}
use Rattle.std.specs.Char.{is_ascii_digit}
use Rattle.std.specs.List.{list_all}
use Rattle.std.proofs.lemmas.Bool.{and_parts, and_from}
use Rattle.std.proofs.lemmas.Bool.Decides.{nat_tests}
use Rattle.std.proofs.lemmas.Fmt.{decimal_by_steps}
use Rattle.std.proofs.lemmas.List.Folds.{list_all-append}
use Rattle.ag_lex.specs.declared.token.Language.TheVariants.{Agree}
use Rattle.ag_lex.specs.Characters.{is_number_byte}
use Rattle.ag_lex.specs.Spelling.{is_number}
use Rattle.ag_lex.specs.Rules as rules

digit_is : (n : ℕ) → n < 10 → is_ascii_digit (48 + n) ≡ true
digit_is n h = grind (arith, nat_tests)

-- digits that write the number n
record Write (n : ℕ) (ds : List ℕ) : Type 0 where
  number : is_number Agree ds ≡ true
  value : rules.decimal ds ≡ n

one_digit : (n : ℕ) → n < 10 → Write n ((48 + n) ∷ [])
one_digit n h = record { number = and_from (is_ascii_digit (48 + n)) true (digit_is n h) refl; value = omega arith }

number_more : (ds : List ℕ) (d : ℕ) → is_number Agree ds ≡ true → is_ascii_digit d ≡ true → is_number Agree (ds ++ (d ∷ [])) ≡ true
number_more [] d h digit = absurd cc
number_more (b ∷ bs) d h digit =
    let parts = and_parts (is_ascii_digit b) (list_all (is_number_byte Agree) bs) h in
    let later : list_all (is_number_byte Agree) (bs ++ (d ∷ [])) ≡ true = list_all-append (is_number_byte Agree) bs (d ∷ []) ∙ and_from (list_all (is_number_byte Agree) bs) (is_ascii_digit d && true) parts.1 (and_from (is_ascii_digit d) true digit refl) in
    and_from (is_ascii_digit b) (list_all (is_number_byte Agree) (bs ++ (d ∷ []))) parts.0 later

value_more : (v : ℕ) (ds : List ℕ) (d : ℕ) → fold (λ value digit. value * 10 + (digit - 48)) v (ds ++ (d ∷ [])) ≡ fold (λ value digit. value * 10 + (digit - 48)) v ds * 10 + (d - 48)
value_more v [] d = refl
value_more v (b ∷ bs) d = value_more (v * 10 + (b - 48)) bs d

one_more : (n : ℕ) (ds : List ℕ) → 10 ≤ n → Write (n / 10) ds → Write n (ds ++ ((48 + n % 10) ∷ []))
one_more n ds h w =
    let same = w.value in
    record {
      number = number_more ds (48 + n % 10) w.number (digit_is (n % 10) (omega arith));
      value = value_more 0 ds (48 + n % 10) ∙ omega arith;
    }

written : (n : ℕ) → n < 2 ^ 64 → Write n (decimal n)
written n small = decimal_by_steps Write one_digit one_more n small

pub decimal_is_number : (n : ℕ) → n ≤ 2 ^ 47 → is_number Agree (decimal n) ≡ true
decimal_is_number n h = (written n (omega arith)).number

pub decimal_writes : (n : ℕ) → n ≤ 2 ^ 47 → rules.decimal (decimal n) ≡ n
decimal_writes n h = (written n (omega arith)).value
