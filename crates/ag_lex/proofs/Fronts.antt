-- Fronts of lists of bytes.
use Rattle.std.proofs.Common.{◌≡◌, ℕ, suc, ◌+◌, ◌<◌, ◌≤◌, Bool, true, false, eqb, List, [], ◌∷◌, ◌++◌, length, get_or, take, drop, refl, sym, ap, ◌∙◌, inl, inr, arith}
use Rattle.std.specs.Prelude.{nat_eq}
use Rattle.std.specs.List.{prefix_len, list_all, starts_with}
use Rattle.std.proofs.lemmas.Bool.{cases_Bool, and_parts, and_from, both_ways}
use Rattle.std.proofs.lemmas.Bool.Decides.{nat_tests, Decides-eqb}
use Rattle.std.proofs.lemmas.List.{take_at, drop_at, append_assoc}
use Rattle.std.proofs.lemmas.List.Folds.{prefix_len-append}
use Rattle.std.proofs.lemmas.List.Sums.{take_while-cons}
use Rattle.std.proofs.lemmas.Slice.Eq.{starts_is}
use Rattle.ag_lex.specs.Characters.{begins, is_run, ends_line, is_line_byte, is_text_byte}

-- the front is the whole list exactly where each element passes
pub eqb-prefix_len : (p : ℕ → Bool) (xs : List ℕ) → eqb (prefix_len p xs) (length xs) ≡ list_all p xs
eqb-prefix_len p [] = refl
eqb-prefix_len p (x ∷ xs) = let h = eqb-prefix_len p xs in elim (cases_Bool (p x)) [ inl passes ↦ rw passes (grind (arith, nat_tests)) | inr fails ↦ rw fails (grind (arith, nat_tests)) ]

-- a front that passes, and a rest that begins with what fails
pub prefix_len-front : (p : ℕ → Bool) (front rest : List ℕ) → list_all p front ≡ true → begins p rest ≡ false → prefix_len p (front ++ rest) ≡ length front
prefix_len-front p front rest passes fails =
    let none : prefix_len p rest ≡ 0 = prefix_len_none p rest fails in
    let whole : eqb (prefix_len p front) (length front) ≡ true = eqb-prefix_len p front ∙ passes in
    rw (prefix_len-append p front rest, whole, none) (omega arith)
  where
    prefix_len_none : (p : ℕ → Bool) (xs : List ℕ) → begins p xs ≡ false → prefix_len p xs ≡ 0
    prefix_len_none p [] h = refl
    prefix_len_none p (x ∷ xs) h = rw h refl

pub list_all-take : (p : ℕ → Bool) (xs : List ℕ) → list_all p (take (prefix_len p xs) xs) ≡ true
list_all-take p [] = refl
list_all-take p (x ∷ xs) =
    elim (cases_Bool (p x)) [
      | inl passes ↦ rw (take_while-cons p x xs, passes) (rw passes (list_all-take p xs))
      | inr fails ↦ rw (take_while-cons p x xs, fails) refl
    ]

pub begins-drop : (p : ℕ → Bool) (xs : List ℕ) → begins p (drop (prefix_len p xs) xs) ≡ false
begins-drop p [] = refl
begins-drop p (x ∷ xs) =
    elim (cases_Bool (p x)) [
      | inl passes ↦ let e : 1 + prefix_len p xs ≡ suc (prefix_len p xs) = omega arith in rw (passes, e) (begins-drop p xs)
      | inr fails ↦ rw fails fails
    ]

-- two fronts of one length
pub same_parts : (a x b y : List ℕ) → length a ≡ length b → a ++ x ≡ b ++ y → (a ≡ b) × (x ≡ y)
same_parts a x b y len e =
    let same : a ≡ b = sym (take_at a x (length a) refl) ∙ ap (take (length a)) e ∙ rw len (take_at b y (length b) refl) in
    let rest : x ≡ y = sym (drop_at a x (length a) refl) ∙ ap (drop (length a)) e ∙ rw len (drop_at b y (length b) refl) in
    (same, rest)

-- two fronts that pass, before rests that begin with what fails
pub same_front : (p : ℕ → Bool) (a x b y : List ℕ) → a ++ x ≡ b ++ y → list_all p a ≡ true → list_all p b ≡ true → begins p x ≡ false → begins p y ≡ false → (a ≡ b) × (x ≡ y)
same_front p a x b y e pa pb fx fy =
    let la = prefix_len-front p a x pa fx in
    let lb = prefix_len-front p b y pb fy in
    let len : length a ≡ length b = sym la ∙ ap (prefix_len p) e ∙ lb in
    same_parts a x b y len e

-- a front that passes is no longer than the longest
pub front_fits : (p : ℕ → Bool) (a x : List ℕ) → list_all p a ≡ true → length a ≤ prefix_len p (a ++ x)
front_fits p [] x h = omega arith
front_fits p (b ∷ bs) x h =
    let parts = and_parts (p b) (list_all p bs) h in
    let more = front_fits p bs x parts.1 in
    rw parts.0 (omega arith)

-- the longer of two fronts goes on from the shorter
pub longer_front : (a x b y : List ℕ) → a ++ x ≡ b ++ y → length a ≤ length b → (d : List ℕ) × (b ≡ a ++ d)
longer_front [] x b y e le = (b, refl)
longer_front (c ∷ a) x [] y e le = absurd (omega arith)
longer_front (c ∷ a) x (d ∷ b) y e le =
    let tails : a ++ x ≡ b ++ y = cc in
    let h = longer_front a x b y tails (omega arith) in
    let rest : b ≡ a ++ h.0 = h.1 in
    (h.0, cc)

pub starts : (bs p : List ℕ) → starts_with nat_eq bs p ≡ true → bs ≡ p ++ drop (length p) bs
starts bs p h = (starts_is Decides-eqb bs p (starts_with nat_eq bs p) refl).0 h

pub starts_from : (bs p rest : List ℕ) → bs ≡ p ++ rest → starts_with nat_eq bs p ≡ true
starts_from bs p rest e = (starts_is Decides-eqb bs p (starts_with nat_eq bs p) refl).1 rest e

pub starts_not : (bs p rest : List ℕ) → starts_with nat_eq bs p ≡ false → bs ≡ p ++ rest → ⊥
starts_not bs p rest h e = both_ways (starts_with nat_eq bs p) h (starts_from bs p rest e)

pub starts-append : (xs ys p : List ℕ) → starts_with nat_eq xs p ≡ true → starts_with nat_eq (xs ++ ys) p ≡ true
starts-append xs ys p h =
    starts_from (xs ++ ys) p (drop (length p) xs ++ ys) (ap (λ (z : List ℕ). z ++ ys) (starts xs p h) ∙ append_assoc p (drop (length p) xs) ys)

pub begins-append : (p : ℕ → Bool) (xs ys : List ℕ) → begins p xs ≡ true → begins p (xs ++ ys) ≡ true
begins-append p [] ys h = absurd cc
begins-append p (x ∷ xs) ys h = h

pub begins_filled : (p : ℕ → Bool) (xs : List ℕ) → begins p xs ≡ true → 0 < length xs
begins_filled p [] h = absurd cc
begins_filled p (x ∷ xs) h = omega arith

abbrev pub head : List ℕ → ℕ
head xs = get_or xs 0 0

pub begins-head : (p : ℕ → Bool) (xs : List ℕ) → begins p xs ≡ true → p (head xs) ≡ true
begins-head p [] h = absurd cc
begins-head p (x ∷ xs) h = h

pub head-append : (xs ys : List ℕ) → 0 < length xs → head (xs ++ ys) ≡ head xs
head-append [] ys h = absurd (omega arith)
head-append (x ∷ xs) ys h = refl

-- ---- runs

pub run_begins : (first others : ℕ → Bool) (own : List ℕ) → is_run first others own ≡ true → begins first own ≡ true
run_begins first others [] h = absurd cc
run_begins first others (b ∷ bs) h = (and_parts (first b) (list_all others bs) h).0

pub run_all : (first others : ℕ → Bool) (own : List ℕ) → ((b : ℕ) → first b ≡ true → others b ≡ true) → is_run first others own ≡ true → list_all others own ≡ true
run_all first others [] sub h = absurd cc
run_all first others (b ∷ bs) sub h =
    let parts = and_parts (first b) (list_all others bs) h in
    and_from (others b) (list_all others bs) (sub b parts.0) parts.1

pub run_found : (first others : ℕ → Bool) (here : List ℕ) → ((b : ℕ) → first b ≡ true → others b ≡ true) → begins first here ≡ true → is_run first others (take (prefix_len others here) here) ≡ true
run_found first others [] sub h = absurd cc
run_found first others (b ∷ bs) sub h =
    let passes = sub b h in
    rw (take_while-cons others b bs, passes) (and_from (first b) (list_all others (take (prefix_len others bs) bs)) h (list_all-take others bs))

pub run_fits : (first others : ℕ → Bool) (more after here : List ℕ) → ((b : ℕ) → first b ≡ true → others b ≡ true) → is_run first others more ≡ true → here ≡ more ++ after → length more ≤ prefix_len others here
run_fits first others more after here sub h e = rw e (front_fits others more after (run_all first others more sub h))

-- ---- ends of lines

pub line_ends : (rest : List ℕ) → ends_line rest ≡ true → begins is_line_byte rest ≡ false
line_ends [] h = refl
line_ends (b ∷ bs) h = grind (arith, nat_tests)

pub line_ended : (rest : List ℕ) → begins is_line_byte rest ≡ false → ends_line rest ≡ true
line_ended [] h = refl
line_ended (b ∷ bs) h = grind (arith, nat_tests)

pub text_ends : (rest : List ℕ) → ends_line rest ≡ true → begins is_text_byte rest ≡ false
text_ends [] h = refl
text_ends (b ∷ bs) h = grind (arith, nat_tests)
