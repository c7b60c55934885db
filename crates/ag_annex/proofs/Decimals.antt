-- Digits make a number greater, and never less.
use Rattle.std.proofs.Common.{◌≡◌, ◌≤◌, ◌<◌, ℕ, ◌+◌, ◌-◌, ◌*◌, List, [], ◌∷◌, length, drop, get_or, fold, arith, add-one, drop-cons}

-- the number that digits write behind others, which write this value
abbrev pub decimal_from : ℕ → List ℕ → ℕ
decimal_from value digits = fold (λ more digit. more * 10 + (digit - 48)) value digits

at_least : (value : ℕ) (digits : List ℕ) → value ≤ decimal_from value digits
at_least value [] = omega arith
at_least value (d ∷ digits) = omega (arith, at_least (value * 10 + (d - 48)) digits)

-- with one digit more the number is at most the whole
pub with_next : (value at whole : ℕ) (digits : List ℕ) → decimal_from value (drop at digits) ≡ whole → at < length digits → value * 10 + (get_or digits at 0 - 48) ≤ whole
with_next value at whole digits same within =
    let again : decimal_from value (get_or digits at 0 ∷ drop (at + 1) digits) ≡ whole = rw (add-one, ← drop-cons digits at 0) same in
    omega (arith, again, at_least (value * 10 + (get_or digits at 0 - 48)) (drop (at + 1) digits))

-- and so it is within what the whole is within
pub next_within : (value at most : ℕ) (digits : List ℕ) → decimal_from value (drop at digits) ≡ decimal_from 0 digits → at < length digits → decimal_from 0 digits ≤ most →
    value * 10 + (get_or digits at 0 - 48) ≤ most
next_within value at most digits same within below = omega (arith, with_next value at (decimal_from 0 digits) digits same within, below)
