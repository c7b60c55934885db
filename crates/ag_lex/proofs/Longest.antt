-- What a front is made of makes it the longest token at its place.
use Rattle.std.proofs.Common.{◌≡◌, ℕ, ◌+◌, ◌<◌, ◌≤◌, Bool, true, false, leb, ltb, ◌&&◌, ◌||◌, ◌⊎◌, List, [], ◌∷◌, ◌++◌, length, take, drop, refl, sym, ap, subst, ◌∙◌, inl, inr, lit<, arith}
use Rattle.std.specs.Prelude.{codes, nat_eq}
use Rattle.std.specs.Char.{is_ascii_alphabetic, is_ascii_digit}
use Rattle.std.specs.List.{list_all, list_any, prefix_len, starts_with}
use Rattle.std.specs.Str.{bytes_eq}
use Rattle.std.proofs.lemmas.Bool.{cases_Bool, or_cases, or_left, or_right, and_parts, not-true, leb-true, ltb-true}
use Rattle.std.proofs.lemmas.List.{take-append-drop, append_assoc, length-append, length-take-le, take_at, drop_at}
use Rattle.std.proofs.lemmas.List.Sums.{prefix_len-le-length}
use Rattle.std.proofs.lemmas.Slice.Eq.{bytes_eq-Decides}
use Rattle.ag_lex.specs.declared.token.Language.{Language}
use Rattle.ag_lex.specs.declared.token.TokenKind.{TokenKind}
use Rattle.ag_lex.specs.declared.token.TokenKind.TheVariants.{Name, Number, Real, Text, Annex, Symbol}
use Rattle.ag_lex.specs.Characters.{is_word_byte, is_number_byte, is_text_byte, is_sign, begins}
use Rattle.ag_lex.specs.Spelling.{Spells, IsLexeme, IsToken, is_name, is_number, is_fraction, is_symbol, is_sign_alone, has_close, long_symbols}
use Rattle.ag_lex.specs.Scanning.{first_front}
use Rattle.ag_lex.proofs.Fronts.{prefix_len-front, same_front, starts, starts_not, head, begins-head, begins_filled, run_found, run_fits, run_all}
use Rattle.ag_lex.proofs.Closing.{first_close}
use Rattle.ag_lex.proofs.KindsApart.{group, group_of, group_led, group_is, letter_is_word, digit_is_word, digit_is_number, point_is_none, symbol_short}

-- a lexeme at a place where no symbol begins is a token of the first byte's group
pub record OfGroup (l : Language) (more : List ℕ) (n : ℕ) : Type 0 where
  pub kind : TokenKind
  pub spelled : Spells l kind more
  pub same : group kind ≡ n

pub of_group : (l : Language) (more after here : List ℕ) → IsLexeme l more → here ≡ more ++ after → group_of (head here) < 3 → OfGroup l more (group_of (head here))
of_group l more after here lex e small =
    elim lex [
      | inl k ↦ record { kind = k.0; spelled = k.1; same = group_is l k.0 more after k.1 ∙ ap (λ (z : List ℕ). group_of (head z)) (sym e) }
      | inr mark ↦ elim mark [
        | inl dashes ↦ let h : group_of (head here) ≡ 3 = ap (λ (z : List ℕ). group_of (head z)) (e ∙ ap (λ (z : List ℕ). z ++ after) dashes) in absurd (omega arith)
        | inr opening ↦ let h : group_of (head here) ≡ 3 = ap (λ (z : List ℕ). group_of (head z)) (e ∙ ap (λ (z : List ℕ). z ++ after) opening) in absurd (omega arith)
      ]
    ]

names : (l : Language) (k : TokenKind) (more : List ℕ) → group k ≡ 0 → Spells l k more → is_name more ≡ true
names l Name more g s = s
names l _ more g s = absurd (omega arith)

numbers : (l : Language) (k : TokenKind) (more : List ℕ) → group k ≡ 1 → Spells l k more → Spells l Number more ⊎ Spells l Real more
numbers l Number more g s = inl s
numbers l Real more g s = inr s
numbers l _ more g s = absurd (omega arith)

pub texts : (l : Language) (k : TokenKind) (more : List ℕ) → group k ≡ 2 → Spells l k more → Spells l Text more
texts l Text more g s = s
texts l _ more g s = absurd (omega arith)

pub signs : (l : Language) (k : TokenKind) (more : List ℕ) → group k ≡ 3 → Spells l k more → Spells l Annex more ⊎ Spells l Symbol more
signs l Annex more g s = inl s
signs l Symbol more g s = inr s
signs l _ more g s = absurd (omega arith)

-- ---- names

pub name_found : (l : Language) (here : List ℕ) → begins is_ascii_alphabetic here ≡ true → IsToken l Name (take (prefix_len is_word_byte here) here) (drop (prefix_len is_word_byte here) here)
name_found l here h =
    let n = prefix_len is_word_byte here in
    let zero_group : 0 ≡ group_of (head here) = group_led Name (head here) (begins-head is_ascii_alphabetic here h) in
    let len = length-take-le n here (prefix_len-le-length is_word_byte here) in
    record {
      spelled = run_found is_ascii_alphabetic is_word_byte here letter_is_word h;
      longest = λ more after lex e.
          let split : here ≡ more ++ after = sym (take-append-drop n here) ∙ e in
          let g = of_group l more after here lex split (omega arith) in
          let is = names l g.kind more (g.same ∙ sym zero_group) g.spelled in
          let fits = run_fits is_ascii_alphabetic is_word_byte more after here letter_is_word is split in
          omega arith;
    }

-- ---- numbers

pub record PointAt (l : Language) (here number fraction after : List ℕ) : Type 0 where
  pub whole : prefix_len (is_number_byte l) here ≡ length number
  pub point : drop (length number) here ≡ 46 ∷ (fraction ++ after)

pub point_at : (l : Language) (here number fraction after : List ℕ) → is_number l number ≡ true → here ≡ (number ++ (46 ∷ fraction)) ++ after → PointAt l here number fraction after
point_at l here number fraction after is e =
    let split : here ≡ number ++ (46 ∷ (fraction ++ after)) = e ∙ append_assoc number (46 ∷ fraction) after in
    record {
      whole = rw split (prefix_len-front (is_number_byte l) number (46 ∷ (fraction ++ after)) (run_all is_ascii_digit (is_number_byte l) number (digit_is_number l) is) (point_is_none l));
      point = rw split (drop_at number (46 ∷ (fraction ++ after)) (length number) refl);
    }

pub number_found : (l : Language) (here : List ℕ) → begins is_ascii_digit here ≡ true
    → ((fraction after : List ℕ) → drop (prefix_len (is_number_byte l) here) here ≡ 46 ∷ (fraction ++ after) → is_fraction fraction ≡ true → ⊥)
    → IsToken l Number (take (prefix_len (is_number_byte l) here) here) (drop (prefix_len (is_number_byte l) here) here)
number_found l here h no_fraction =
    let n = prefix_len (is_number_byte l) here in
    let one_group : 1 ≡ group_of (head here) = group_led Number (head here) (begins-head is_ascii_digit here h) in
    let len = length-take-le n here (prefix_len-le-length (is_number_byte l) here) in
    record {
      spelled = run_found is_ascii_digit (is_number_byte l) here (digit_is_number l) h;
      longest = λ more after lex e.
          let split : here ≡ more ++ after = sym (take-append-drop n here) ∙ e in
          let g = of_group l more after here lex split (omega arith) in
          elim (numbers l g.kind more (g.same ∙ sym one_group) g.spelled) [
            | inl is ↦ let fits = run_fits is_ascii_digit (is_number_byte l) more after here (digit_is_number l) is split in omega arith
            | inr real ↦
                let p = point_at l here real.0 real.1 after real.3 (split ∙ ap (λ (z : List ℕ). z ++ after) real.2) in
                absurd (no_fraction real.1 after (ap (λ (k : ℕ). drop k here) p.whole ∙ p.point) real.4)
          ];
    }

pub real_found : (l : Language) (here rest : List ℕ) → begins is_ascii_digit here ≡ true → drop (prefix_len (is_number_byte l) here) here ≡ 46 ∷ rest → begins is_ascii_digit rest ≡ true
    → IsToken l Real (take (prefix_len (is_number_byte l) here) here ++ (46 ∷ take (prefix_len is_word_byte rest) rest)) (drop (prefix_len is_word_byte rest) rest)
real_found l here rest h point more_digits =
    let n = prefix_len (is_number_byte l) here in
    let m = prefix_len is_word_byte rest in
    let one_group : 1 ≡ group_of (head here) = group_led Number (head here) (begins-head is_ascii_digit here h) in
    let len = length-take-le n here (prefix_len-le-length (is_number_byte l) here) in
    let len_fraction = length-take-le m rest (prefix_len-le-length is_word_byte rest) in
    let own = take n here ++ (46 ∷ take m rest) in
    let whole_len : length own ≡ n + (1 + m) = omega (arith, length-append (take n here) (46 ∷ take m rest)) in
    let whole : own ++ drop m rest ≡ here =
    append_assoc (take n here) (46 ∷ take m rest) (drop m rest) ∙ ap (λ (z : List ℕ). take n here ++ (46 ∷ z)) (take-append-drop m rest)
    ∙ ap (λ (z : List ℕ). take n here ++ z) (sym point) ∙ take-append-drop n here in
    record {
      spelled = (take n here, take m rest, refl, run_found is_ascii_digit (is_number_byte l) here (digit_is_number l) h, run_found is_ascii_digit is_word_byte rest digit_is_word more_digits);
      longest = λ more after lex e.
          let split : here ≡ more ++ after = sym whole ∙ e in
          let g = of_group l more after here lex split (omega arith) in
          elim (numbers l g.kind more (g.same ∙ sym one_group) g.spelled) [
            | inl is ↦ let fits = run_fits is_ascii_digit (is_number_byte l) more after here (digit_is_number l) is split in omega arith
            | inr real ↦
                let p = point_at l here real.0 real.1 after real.3 (split ∙ ap (λ (z : List ℕ). z ++ after) real.2) in
                let tails : 46 ∷ rest ≡ 46 ∷ (real.1 ++ after) = sym point ∙ ap (λ (k : ℕ). drop k here) p.whole ∙ p.point in
                let rest_is : rest ≡ real.1 ++ after = cc in
                let fits = run_fits is_ascii_digit is_word_byte real.1 after rest digit_is_word real.4 rest_is in
                let count : length more ≡ length real.0 + (1 + length real.1) = ap length real.2 ∙ length-append real.0 (46 ∷ real.1) ∙ omega arith in
                let same = p.whole in
                omega arith
          ];
    }

-- ---- texts

pub text_found : (l : Language) (text rest : List ℕ) → list_all is_text_byte text ≡ true → IsToken l Text (codes "\"" ++ (text ++ codes "\"")) rest
text_found l text rest all =
    record {
      spelled = (text, refl, all);
      longest = λ more after lex e.
          let here = (codes "\"" ++ (text ++ codes "\"")) ++ rest in
          let g = of_group l more after here lex e (lit< tt) in
          let other = texts l g.kind more g.same g.spelled in
          let heads : 34 ∷ ((text ++ codes "\"") ++ rest) ≡ 34 ∷ ((other.0 ++ codes "\"") ++ after) = e ∙ ap (λ (z : List ℕ). z ++ after) other.1 in
          let tails : (text ++ codes "\"") ++ rest ≡ (other.0 ++ codes "\"") ++ after = cc in
          let same = same_front is_text_byte text (34 ∷ rest) other.0 (34 ∷ after) (sym (append_assoc text (codes "\"") rest) ∙ tails ∙ append_assoc other.0 (codes "\"") after) all other.2 refl refl in
          let same_text = same.0 in
          let count : length more ≡ 1 + (length other.0 + 1) = ap length other.1 ∙ rw (length-append other.0 (codes "\"")) (omega arith) in
          let count_own : length (text ++ codes "\"") ≡ length text + 1 = length-append text (codes "\"") in
          let equal : length text ≡ length other.0 = ap length same_text in
          omega arith;
    }

-- ---- annexes

pub annex_found : (l : Language) (inside rest : List ℕ) → has_close (inside ++ codes "**") ≡ false → IsToken l Annex (codes "{**" ++ (inside ++ codes "**}")) rest
annex_found l inside rest none =
    record {
      spelled = (inside, refl, rw none refl);
      longest = λ more after lex e.
          let count_own : length (inside ++ codes "**}") ≡ length inside + 3 = length-append inside (codes "**}") in
          elim lex [
            | inl k ↦ elim (signs l k.0 more (group_is l k.0 more after k.1 ∙ ap (λ (z : List ℕ). group_of (head z)) (sym e)) k.1) [
              | inl annex ↦
                  let heads : 123 ∷ 42 ∷ 42 ∷ ((inside ++ codes "**}") ++ rest) ≡ 123 ∷ 42 ∷ 42 ∷ ((annex.0 ++ codes "**}") ++ after) = e ∙ ap (λ (z : List ℕ). z ++ after) annex.1 in
                  let tails : (inside ++ codes "**}") ++ rest ≡ (annex.0 ++ codes "**}") ++ after = cc in
                  let fits = first_close inside rest annex.0 after (not-true (has_close (annex.0 ++ codes "**")) annex.2) tails in
                  let count : length more ≡ 3 + (length annex.0 + 3) = ap length annex.1 ∙ rw (length-append annex.0 (codes "**}")) (omega arith) in
                  omega arith
              | inr symbol ↦ let short = symbol_short more symbol in omega arith
            ]
            | inr mark ↦ elim mark [
              | inl dashes ↦ let count : length more ≡ 2 = ap length dashes in omega arith
              | inr opening ↦ let count : length more ≡ 3 = ap length opening in omega arith
            ]
          ];
    }

-- ---- symbols

-- each list is at least as long as those behind it
abbrev falling : List (List ℕ) → Bool
falling [] = true
falling (s ∷ ss) = list_all (λ t. leb (length t) (length s)) ss && falling ss

shorter : (n : ℕ) (own : List ℕ) (ss : List (List ℕ)) → list_all (λ t. leb (length t) n) ss ≡ true → list_any (bytes_eq own) ss ≡ true → length own ≤ n
shorter n own [] all any = absurd cc
shorter n own (s ∷ ss) all any =
    let parts = and_parts (leb (length s) n) (list_all (λ t. leb (length t) n) ss) all in
    elim (or_cases (bytes_eq own s) (list_any (bytes_eq own) ss) any) [
      | inl this ↦ let e : own ≡ s = (bytes_eq-Decides own s).0 this in rw e (leb-true (length s) n parts.0)
      | inr later ↦ shorter n own ss parts.1 later
    ]

longest_front : (ss : List (List ℕ)) (here more after : List ℕ) → falling ss ≡ true → list_any (bytes_eq more) ss ≡ true → here ≡ more ++ after → length more ≤ first_front ss here
longest_front [] here more after f any e = absurd cc
longest_front (s ∷ ss) here more after f any e =
    let parts = and_parts (list_all (λ t. leb (length t) (length s)) ss) (falling ss) f in
    elim (cases_Bool (starts_with nat_eq here s)) [
      | inl stands ↦ rw stands (elim (or_cases (bytes_eq more s) (list_any (bytes_eq more) ss) any) [
        | inl this ↦ let same : more ≡ s = (bytes_eq-Decides more s).0 this in rw same (omega arith)
        | inr later ↦ shorter (length s) more ss parts.0 later
      ])
      | inr stands_not ↦ rw stands_not (elim (or_cases (bytes_eq more s) (list_any (bytes_eq more) ss) any) [
        | inl this ↦ let same : more ≡ s = (bytes_eq-Decides more s).0 this in absurd (starts_not here s after stands_not (e ∙ ap (λ (z : List ℕ). z ++ after) same))
        | inr later ↦ longest_front ss here more after parts.1 later e
      ])
    ]

front_some : (ss : List (List ℕ)) (here : List ℕ) → list_all (λ s. ltb 0 (length s)) ss ≡ true → 1 ≤ first_front ss here
front_some [] here all = omega arith
front_some (s ∷ ss) here all =
    let parts = and_parts (ltb 0 (length s)) (list_all (λ s. ltb 0 (length s)) ss) all in
    elim (cases_Bool (starts_with nat_eq here s)) [
      | inl stands ↦ rw stands (ltb-true 0 (length s) parts.0)
      | inr stands_not ↦ rw stands_not (front_some ss here parts.1)
    ]

front_within : (ss : List (List ℕ)) (here : List ℕ) → 0 < length here → first_front ss here ≤ length here
front_within [] here some = omega arith
front_within (s ∷ ss) here some =
    elim (cases_Bool (starts_with nat_eq here s)) [
      | inl stands ↦ rw stands (omega (arith, length-append s (drop (length s) here), ap length (starts here s stands)))
      | inr stands_not ↦ rw stands_not (front_within ss here some)
    ]

alone : (here : List ℕ) → begins is_sign here ≡ true → is_sign_alone (take 1 here) ≡ true
alone [] h = absurd cc
alone (b ∷ bs) h = h

front_spelled : (ss : List (List ℕ)) (here : List ℕ) → begins is_sign here ≡ true
    → (list_any (bytes_eq (take (first_front ss here) here)) ss || is_sign_alone (take (first_front ss here) here)) ≡ true
front_spelled [] here h = alone here h
front_spelled (s ∷ ss) here h =
    elim (cases_Bool (starts_with nat_eq here s)) [
      | inl stands ↦
          let own : take (length s) here ≡ s = ap (take (length s)) (starts here s stands) ∙ take_at s (drop (length s) here) (length s) refl in
          let n_is : first_front (s ∷ ss) here ≡ length s = rw stands refl in
          subst (λ (n : ℕ). (list_any (bytes_eq (take n here)) (s ∷ ss) || is_sign_alone (take n here)) ≡ true) (sym n_is) (or_left (bytes_eq (take (length s) here) s || list_any (bytes_eq (take (length s) here)) ss) (is_sign_alone (take (length s) here))
          (or_left (bytes_eq (take (length s) here) s) (list_any (bytes_eq (take (length s) here)) ss) ((bytes_eq-Decides (take (length s) here) s).1 own)))
      | inr stands_not ↦
          let n = first_front ss here in
          let n_is : first_front (s ∷ ss) here ≡ first_front ss here = rw stands_not refl in
          subst (λ (n : ℕ). (list_any (bytes_eq (take n here)) (s ∷ ss) || is_sign_alone (take n here)) ≡ true) (sym n_is) (elim (or_cases (list_any (bytes_eq (take n here)) ss) (is_sign_alone (take n here)) (front_spelled ss here h)) [
            | inl long ↦ or_left (bytes_eq (take n here) s || list_any (bytes_eq (take n here)) ss) (is_sign_alone (take n here)) (or_right (bytes_eq (take n here) s) (list_any (bytes_eq (take n here)) ss) long)
            | inr short ↦ or_right (bytes_eq (take n here) s || list_any (bytes_eq (take n here)) ss) (is_sign_alone (take n here)) short
          ])
    ]

pub one_byte : (more : List ℕ) → is_sign_alone more ≡ true → length more ≡ 1
one_byte [] h = absurd cc
one_byte (b ∷ []) h = refl
one_byte (b ∷ c ∷ bs) h = absurd cc

pub symbol_within : (here : List ℕ) → begins is_sign here ≡ true → first_front long_symbols here ≤ length here
symbol_within here h = front_within long_symbols here (begins_filled is_sign here h)

symbol_fits : (here more after : List ℕ) → is_symbol more ≡ true → here ≡ more ++ after → length more ≤ first_front long_symbols here
unfolding long_symbols
symbol_fits here more after h e =
    elim (or_cases (list_any (bytes_eq more) long_symbols) (is_sign_alone more) h) [
      | inl long ↦ longest_front long_symbols here more after refl long e
      | inr short ↦ let one = one_byte more short in let some = front_some long_symbols here refl in omega arith
    ]

pub symbol_found : (l : Language) (here : List ℕ) → begins is_sign here ≡ true → starts_with nat_eq here (codes "--") ≡ false → starts_with nat_eq here (codes "{**") ≡ false
    → IsToken l Symbol (take (first_front long_symbols here) here) (drop (first_front long_symbols here) here)
symbol_found l here h no_comment no_annex =
    let n = first_front long_symbols here in
    let three : 3 ≡ group_of (head here) = group_led Symbol (head here) (begins-head is_sign here h) in
    let len = length-take-le n here (symbol_within here h) in
    record {
      spelled = front_spelled long_symbols here h;
      longest = λ more after lex e.
          let split : here ≡ more ++ after = sym (take-append-drop n here) ∙ e in
          elim lex [
            | inl k ↦ elim (signs l k.0 more (group_is l k.0 more after k.1 ∙ ap (λ (z : List ℕ). group_of (head z)) (sym split) ∙ sym three) k.1) [
              | inl annex ↦ absurd (starts_not here (codes "{**") ((annex.0 ++ codes "**}") ++ after) no_annex (split ∙ ap (λ (z : List ℕ). z ++ after) annex.1))
              | inr symbol ↦ let fits = symbol_fits here more after symbol split in omega arith
            ]
            | inr mark ↦ elim mark [
              | inl dashes ↦ absurd (starts_not here (codes "--") after no_comment (split ∙ ap (λ (z : List ℕ). z ++ after) dashes))
              | inr opening ↦ absurd (starts_not here (codes "{**") after no_annex (split ∙ ap (λ (z : List ℕ). z ++ after) opening))
            ]
          ];
    }
