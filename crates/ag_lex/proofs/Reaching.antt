-- Where pieces that are fine stand, no rule is broken; and of the broken rules one comes first.
use Rattle.std.proofs.Common.{◌≡◌, ℕ, ◌<◌, ◌≤◌, true, false, cond, eqb, List, [], ◌∷◌, ◌++◌, length, refl, sym, ap, subst, ◌∙◌, inl, inr, arith}
use Rattle.std.specs.Prelude.{codes}
use Rattle.std.specs.Char.{is_ascii_alphabetic, is_ascii_digit}
use Rattle.std.specs.List.{list_all}
use Rattle.std.proofs.lemmas.Bool.{both_ways, eqb-false, not-true}
use Rattle.std.proofs.lemmas.Bool.Decides.{nat_tests}
use Rattle.std.proofs.lemmas.List.{append_assoc, length-append}
use Rattle.ag_base.specs.declared.place.Rule.{Rule}
use Rattle.ag_base.specs.declared.place.Rule.TheVariants.{BadByte, OpenString, OpenAnnex, LongName, WideNumber}
use Rattle.ag_lex.specs.declared.token.Language.{Language}
use Rattle.ag_lex.specs.declared.token.Language.TheVariants.{Agree}
use Rattle.ag_lex.specs.declared.token.TokenKind.TheVariants.{Name, Number}
use Rattle.ag_lex.specs.Characters.{is_space, is_text_byte, is_bad_byte, begins, ends_line}
use Rattle.ag_lex.specs.Spelling.{IsToken, has_close, is_symbol}
use Rattle.ag_lex.specs.Tokens.{Piece, Space, Comment, Lexeme, piece_bytes, IsPiece, AreRead}
use Rattle.ag_lex.specs.Rules.{Breaks, IsFine, AreFine, decimal}
use Rattle.ag_lex.proofs.Fronts.{same_front, longer_front, head, begins-head, text_ends}
use Rattle.ag_lex.proofs.Closing.{closes_inside}
use Rattle.ag_lex.proofs.KindsApart.{filled, group, group_of, group_is, not_bad, no_annex_symbol}
use Rattle.ag_lex.proofs.Longest.{signs, texts}
use Rattle.ag_lex.proofs.OnePiece.{led_by, one_piece}

bad_space : (b : ℕ) → is_space b ≡ true → is_bad_byte b ≡ true → ⊥
bad_space b white bad = grind (arith, nat_tests)

-- ---- each rule against a piece that is fine

no_bad_byte : (l : Language) (p : Piece) (after : List ℕ) → IsPiece l p after → begins is_bad_byte (piece_bytes p ++ after) ≡ true → ⊥
no_bad_byte l (Space b) after is h = bad_space b is h
no_bad_byte l (Comment text) after is h = both_ways (is_bad_byte 45) refl h
no_bad_byte l (Lexeme k own) after is h =
    both_ways (is_bad_byte (head (own ++ after))) (not_bad k (head (own ++ after)) (led_by l k own after is.spelled)) (begins-head is_bad_byte (own ++ after) h)

no_open_string : (l : Language) (p : Piece) (after text rest : List ℕ) → IsPiece l p after → piece_bytes p ++ after ≡ 34 ∷ (text ++ rest) → list_all is_text_byte text ≡ true → ends_line rest ≡ true → ⊥
no_open_string l (Space b) after text rest is e all ends = let first : b ≡ 34 = ap head e in both_ways (is_space 34) refl (rw first at is)
no_open_string l (Comment inner) after text rest is e all ends = eqb-false 45 34 refl (ap head e)
no_open_string l (Lexeme k own) after text rest is e all ends =
    let two : group k ≡ 2 = group_is l k own after is.spelled ∙ ap (λ (z : List ℕ). group_of (head z)) e in
    let s = texts l k own two is.spelled in
    let heads : 34 ∷ ((s.0 ++ codes "\"") ++ after) ≡ 34 ∷ (text ++ rest) = ap (λ (z : List ℕ). z ++ after) (sym s.1) ∙ e in
    let tails : (s.0 ++ codes "\"") ++ after ≡ text ++ rest = cc in
    let same = same_front is_text_byte s.0 (34 ∷ after) text rest (sym (append_assoc s.0 (codes "\"") after) ∙ tails) s.2 all refl (text_ends rest ends) in
    both_ways (ends_line (34 ∷ after)) refl (subst (λ (z : List ℕ). ends_line z ≡ true) (sym same.1) ends)

no_open_annex : (l : Language) (p : Piece) (after rest : List ℕ) → IsPiece l p after → piece_bytes p ++ after ≡ 123 ∷ 42 ∷ 42 ∷ rest → has_close rest ≡ false → ⊥
no_open_annex l (Space b) after rest is e none = let first : b ≡ 123 = ap head e in both_ways (is_space 123) refl (rw first at is)
no_open_annex l (Comment inner) after rest is e none = eqb-false 45 123 refl (ap head e)
no_open_annex l (Lexeme k own) after rest is e none =
    let three : group k ≡ 3 = group_is l k own after is.spelled ∙ ap (λ (z : List ℕ). group_of (head z)) e in
    let long = is.longest (codes "{**") rest (inr (inr refl)) e in
    elim (signs l k own three is.spelled) [
      | inl annex ↦
          let heads : 123 ∷ 42 ∷ 42 ∷ ((annex.0 ++ codes "**}") ++ after) ≡ 123 ∷ 42 ∷ 42 ∷ rest = ap (λ (z : List ℕ). z ++ after) (sym annex.1) ∙ e in
          let tails : (annex.0 ++ codes "**}") ++ after ≡ rest = cc in
          let closed : has_close rest ≡ true = subst (λ (z : List ℕ). has_close z ≡ true) (sym (append_assoc annex.0 (codes "**}") after) ∙ tails) (closes_inside annex.0 after) in
          both_ways (has_close rest) none closed
      | inr symbol ↦
          let d = longer_front (codes "{**") rest own after (sym e) long in
          let bad : is_symbol (123 ∷ 42 ∷ 42 ∷ d.0) ≡ true = rw d.1 at symbol in
          both_ways (is_symbol (123 ∷ 42 ∷ 42 ∷ d.0)) (no_annex_symbol d.0) bad
    ]

no_long_name : (l : Language) (p : Piece) (after own rest : List ℕ) → IsPiece l p after → IsFine l p → piece_bytes p ++ after ≡ own ++ rest → IsToken l Name own rest → 255 < length own → ⊥
no_long_name l p after own rest is fine e token long =
    let same = one_piece l p (Lexeme Name own) after rest is token e in
    let short : IsFine l (Lexeme Name own) = subst (IsFine l) same.0 fine in
    omega arith

no_wide_number : (p : Piece) (after own rest : List ℕ) → IsPiece Agree p after → IsFine Agree p → piece_bytes p ++ after ≡ own ++ rest → IsToken Agree Number own rest → 140737488355328 < decimal own → ⊥
no_wide_number p after own rest is fine e token wide =
    let same = one_piece Agree p (Lexeme Number own) after rest is token e in
    let narrow : IsFine Agree (Lexeme Number own) = subst (IsFine Agree) same.0 fine in
    omega arith

pub fine_keeps : (l : Language) (p : Piece) (after here : List ℕ) (rule : Rule) → IsPiece l p after → IsFine l p → here ≡ piece_bytes p ++ after → Breaks l rule here → ⊥
fine_keeps l p after here BadByte is fine e b = no_bad_byte l p after is (subst (λ (z : List ℕ). begins is_bad_byte z ≡ true) e b)
fine_keeps l p after here OpenString is fine e b = no_open_string l p after b.0 b.1 is (sym e ∙ b.2) b.3 b.4
fine_keeps l p after here OpenAnnex is fine e b = no_open_annex l p after b.0 is (sym e ∙ b.1) (not-true (has_close b.0) b.2)
fine_keeps l p after here LongName is fine e b = no_long_name l p after b.0 b.1 is fine (sym e ∙ b.2) b.3 b.4
fine_keeps Agree p after here WideNumber is fine e b = no_wide_number p after b.0 b.1 is fine (sym e ∙ b.2) b.3 b.4
fine_keeps l p after here _ is fine e b = absurd b

-- ---- how far reading comes

no_longer : (l : Language) (ps : List Piece) (text rest : List ℕ) → AreRead l ps text rest → length rest ≤ length text
no_longer l [] text rest r = omega (arith, ap length r)
no_longer l (p ∷ ps) text rest r = let h = no_longer l ps r.0 rest r.3 in omega (arith, ap length r.1, length-append (piece_bytes p) r.0)

-- no rule is broken before the end of pieces that are fine
pub reach_before : (l : Language) (ps qs : List Piece) (text rest here : List ℕ) (rule : Rule) → AreRead l ps text rest → AreFine l ps → AreRead l qs text here → Breaks l rule here → length here ≤ length rest
reach_before l [] qs text rest here rule a fine b broken = let h = no_longer l qs text here b in omega (arith, ap length a)
reach_before l (p ∷ ps) [] text rest here rule a fine b broken = absurd (fine_keeps l p a.0 here rule a.2 fine.0 (sym b ∙ a.1) broken)
reach_before l (p ∷ ps) (q ∷ qs) text rest here rule a fine b broken =
    let same = one_piece l p q a.0 b.0 a.2 b.2 (sym a.1 ∙ b.1) in
    reach_before l ps qs a.0 rest here rule a.3 fine.1 (subst (λ (z : List ℕ). AreRead l qs z here) (sym same.1) b.3) broken

-- ---- one rule at a place

-- the rule that the first byte tells
abbrev rule_at : ℕ → Rule
rule_at b = cond (is_bad_byte b) BadByte (cond (eqb b 34) OpenString (cond (eqb b 123) OpenAnnex (cond (is_ascii_alphabetic b) LongName WideNumber)))

bad_rule : (b : ℕ) → is_bad_byte b ≡ true → rule_at b ≡ BadByte
bad_rule b h = rw h refl

letter_rule : (b : ℕ) → is_ascii_alphabetic b ≡ true → rule_at b ≡ LongName
letter_rule b h =
    let not_bad : is_bad_byte b ≡ false = grind (arith, nat_tests) in
    let no_quote : eqb b 34 ≡ false = grind (arith, nat_tests) in
    let no_brace : eqb b 123 ≡ false = grind (arith, nat_tests) in
    rw (not_bad, no_quote, no_brace, h) refl

digit_rule : (b : ℕ) → is_ascii_digit b ≡ true → rule_at b ≡ WideNumber
digit_rule b h =
    let not_bad : is_bad_byte b ≡ false = grind (arith, nat_tests) in
    let no_quote : eqb b 34 ≡ false = grind (arith, nat_tests) in
    let no_brace : eqb b 123 ≡ false = grind (arith, nat_tests) in
    let no_letter : is_ascii_alphabetic b ≡ false = grind (arith, nat_tests) in
    rw (not_bad, no_quote, no_brace, no_letter) refl

rule_is : (l : Language) (rule : Rule) (here : List ℕ) → Breaks l rule here → rule_at (head here) ≡ rule
rule_is l BadByte here b = bad_rule (head here) (begins-head is_bad_byte here b)
rule_is l OpenString here b = ap (λ (z : List ℕ). rule_at (head z)) b.2
rule_is l OpenAnnex here b = ap (λ (z : List ℕ). rule_at (head z)) b.1
rule_is l LongName here b = ap (λ (z : List ℕ). rule_at (head z)) b.2 ∙ letter_rule (head (b.0 ++ b.1)) (led_by l Name b.0 b.1 b.3.spelled)
rule_is Agree WideNumber here b = ap (λ (z : List ℕ). rule_at (head z)) b.2 ∙ digit_rule (head (b.0 ++ b.1)) (led_by Agree Number b.0 b.1 b.3.spelled)
rule_is l _ here b = absurd b

pub one_rule : (l : Language) (rule other : Rule) (here : List ℕ) → Breaks l rule here → Breaks l other here → rule ≡ other
one_rule l rule other here a b = sym (rule_is l rule here a) ∙ rule_is l other here b

pub breaks_some : (l : Language) (rule : Rule) (here : List ℕ) → Breaks l rule here → 0 < length here
breaks_some l BadByte [] b = absurd cc
breaks_some l OpenString [] b = let e : [] ≡ 34 ∷ (b.0 ++ b.1) = b.2 in absurd cc
breaks_some l OpenAnnex [] b = let e : [] ≡ 123 ∷ 42 ∷ 42 ∷ b.0 = b.1 in absurd cc
breaks_some l LongName [] b = absurd (omega (arith, ap length b.2, length-append b.0 b.1, b.4))
breaks_some Agree WideNumber [] b = absurd (omega (arith, ap length b.2, length-append b.0 b.1, filled Agree Number b.0 b.3.spelled))
breaks_some l _ [] b = absurd b
breaks_some l rule (c ∷ cs) b = omega arith
