-- At each place stands one piece at most.
use Rattle.std.proofs.Common.{◌≡◌, ℕ, ◌<◌, ◌≤◌, true, List, [], ◌∷◌, ◌++◌, length, refl, sym, ap, subst, ◌∙◌, inl, inr, arith}
use Rattle.std.specs.Prelude.{codes}
use Rattle.std.proofs.lemmas.Bool.{both_ways, eqb-false}
use Rattle.std.proofs.lemmas.List.{length-append}
use Rattle.ag_lex.specs.declared.token.Language.{Language}
use Rattle.ag_lex.specs.declared.token.TokenKind.{TokenKind}
use Rattle.ag_lex.specs.Characters.{is_space, is_line_byte}
use Rattle.ag_lex.specs.Spelling.{Spells, IsToken, is_symbol}
use Rattle.ag_lex.specs.Tokens.{Piece, Space, Comment, Lexeme, piece_bytes, IsPiece, AreRead}
use Rattle.ag_lex.proofs.Fronts.{same_parts, same_front, longer_front, line_ends, head, head-append, begins-head}
use Rattle.ag_lex.proofs.KindsApart.{leads, led, filled, group, group_of, group_is, no_space, one_kind, no_comment_symbol}
use Rattle.ag_lex.proofs.Longest.{signs}

-- the first byte of a token
pub led_by : (l : Language) (k : TokenKind) (own rest : List ℕ) → Spells l k own → leads k (head (own ++ rest)) ≡ true
led_by l k own rest s = ap (leads k) (head-append own rest (filled l k own s)) ∙ begins-head (leads k) own (led l k own s)

pub some_bytes : (l : Language) (p : Piece) (rest : List ℕ) → IsPiece l p rest → 0 < length (piece_bytes p)
some_bytes l (Space b) rest is = omega arith
some_bytes l (Comment text) rest is = omega arith
some_bytes l (Lexeme k own) rest is = filled l k own is.spelled

space_no_token : (l : Language) (b : ℕ) (k : TokenKind) (own r s : List ℕ) → is_space b ≡ true → Spells l k own → b ∷ r ≡ own ++ s → ⊥
space_no_token l b k own r s white spelled e =
    let first : head (own ++ s) ≡ b = ap head (sym e) in
    both_ways (is_space b) (no_space k b (ap (leads k) (sym first) ∙ led_by l k own s spelled)) white

-- a token of two bytes or more doesn't begin with `--`
no_dashes : (l : Language) (k : TokenKind) (own s x : List ℕ) → Spells l k own → own ++ s ≡ 45 ∷ 45 ∷ x → 2 ≤ length own → ⊥
no_dashes l k own s x spelled e long =
    let three : group k ≡ 3 = group_is l k own s spelled ∙ ap (λ (z : List ℕ). group_of (head z)) e in
    elim (signs l k own three spelled) [
      | inl annex ↦
          let bytes : 123 ∷ 42 ∷ 42 ∷ ((annex.0 ++ codes "**}") ++ s) ≡ 45 ∷ 45 ∷ x = ap (λ (z : List ℕ). z ++ s) (sym annex.1) ∙ e in
          eqb-false 123 45 refl (ap head bytes)
      | inr symbol ↦
          let d = longer_front (45 ∷ 45 ∷ []) x own s (sym e) long in
          let bad : is_symbol (45 ∷ 45 ∷ d.0) ≡ true = rw d.1 at symbol in
          both_ways (is_symbol (45 ∷ 45 ∷ d.0)) (no_comment_symbol d.0) bad
    ]

comment_no_token : (l : Language) (text : List ℕ) (k : TokenKind) (own r s : List ℕ) → IsToken l k own s → 45 ∷ 45 ∷ (text ++ r) ≡ own ++ s → ⊥
comment_no_token l text k own r s is e =
    no_dashes l k own s (text ++ r) is.spelled (sym e) (is.longest (codes "--") (text ++ r) (inr (inl refl)) (sym e))

pub one_token : (l : Language) (k j : TokenKind) (own other r s : List ℕ) → IsToken l k own r → IsToken l j other s → own ++ r ≡ other ++ s → (k ≡ j) × (own ≡ other) × (r ≡ s)
one_token l k j own other r s is are e =
    let up = is.longest other s (inl (j, are.spelled)) e in
    let down = are.longest own r (inl (k, is.spelled)) (sym e) in
    let same = same_parts own r other s (omega arith) e in
    let groups : group k ≡ group j = group_is l k own r is.spelled ∙ ap (λ (z : List ℕ). group_of (head z)) e ∙ sym (group_is l j other s are.spelled) in
    let spelled : Spells l j own = subst (Spells l j) (sym same.0) are.spelled in
    (one_kind l k j own groups is.spelled spelled, same.0, same.1)

pub one_piece : (l : Language) (p q : Piece) (r s : List ℕ) → IsPiece l p r → IsPiece l q s → piece_bytes p ++ r ≡ piece_bytes q ++ s → (p ≡ q) × (r ≡ s)
one_piece l (Space b) (Space c) r s is are e = (cc, cc)
one_piece l (Space b) (Comment text) r s is are e = let first : b ≡ 45 = ap head e in absurd (both_ways (is_space 45) refl (rw first at is))
one_piece l (Space b) (Lexeme k own) r s is are e = absurd (space_no_token l b k own r s is are.spelled e)
one_piece l (Comment text) (Space c) r s is are e = let first : c ≡ 45 = sym (ap head e) in absurd (both_ways (is_space 45) refl (rw first at are))
one_piece l (Comment text) (Comment other) r s is are e =
    let tails : text ++ r ≡ other ++ s = cc in
    let same = same_front is_line_byte text r other s tails is.0 are.0 (line_ends r is.1) (line_ends s are.1) in
    (ap Comment same.0, same.1)
one_piece l (Comment text) (Lexeme k own) r s is are e = absurd (comment_no_token l text k own r s are e)
one_piece l (Lexeme k own) (Space c) r s is are e = absurd (space_no_token l c k own s r are is.spelled (sym e))
one_piece l (Lexeme k own) (Comment other) r s is are e = absurd (comment_no_token l other k own s r is (sym e))
one_piece l (Lexeme k own) (Lexeme j other) r s is are e =
    let same = one_token l k j own other r s is are e in
    let kinds = same.0 in
    let bytes = same.1 in
    (cc, same.2)

nothing_read : (l : Language) (q : Piece) (after : List ℕ) → IsPiece l q after → [] ≡ piece_bytes q ++ after → ⊥
nothing_read l q after is e = let some = some_bytes l q after is in let none : 0 ≡ length (piece_bytes q ++ after) = ap length e in omega (arith, length-append (piece_bytes q) after)

-- a text is pieces in one way
pub one_list : (l : Language) (ps qs : List Piece) (text : List ℕ) → AreRead l ps text [] → AreRead l qs text [] → ps ≡ qs
one_list l [] [] text a b = refl
one_list l [] (q ∷ qs) text a b = absurd (nothing_read l q b.0 b.2 (sym a ∙ b.1))
one_list l (p ∷ ps) [] text a b = absurd (nothing_read l p a.0 a.2 (sym b ∙ a.1))
one_list l (p ∷ ps) (q ∷ qs) text a b =
    let same = one_piece l p q a.0 b.0 a.2 b.2 (sym a.1 ∙ b.1) in
    let rest = one_list l ps qs a.0 a.3 (subst (λ (z : List ℕ). AreRead l qs z []) (sym same.1) b.3) in
    let first = same.0 in
    cc
