-- The tokens of an annex are plain names, numbers that are not too large, and labels, where the grammar takes them for such.
use Rattle.std.proofs.Common.{◌≡◌, ◌≤◌, ℕ, ◌+◌, ◌-◌, ◌^◌, Bool, true, false, ◌==◌, ◌&&◌, ◌||◌, not, if◌then◌else◌, List, [], ◌∷◌, ◌++◌, length, take, drop, refl, sym, ap, subst, ◌∙◌, inl, inr, codes, nat_eq, arith, append_assoc}
use Rattle.std.specs.Prelude.{nat_le, slice_range}
use Rattle.std.specs.List.{list_all, starts_with}
use Rattle.std.proofs.lemmas.Bool.{both_ways, cases_Bool, cases_lt, and_parts, and_from, le-leb, not_from_false, not-true, or_right}
use Rattle.std.proofs.lemmas.List.{append-nil, length-append, take-append-drop, take_at, drop_at}
use Rattle.ag_base.specs.declared.place.Rule.TheVariants.{LongName, WideNumber}
use Rattle.ag_lex.specs.declared.token.Language.TheVariants.{Aadl, Agree}
use Rattle.ag_lex.specs.declared.token.TokenKind.{TokenKind}
use Rattle.ag_lex.specs.declared.token.TokenKind.TheVariants.{Name, Number, Real, Text, Annex, Symbol}
use Rattle.ag_lex.specs.declared.token.Token.{Token}
use Rattle.ag_lex.specs.Answers.{IsAnnexOf, bytes_before, bytes_inside}
use Rattle.ag_lex.specs.Characters.{is_text_byte}
use Rattle.ag_lex.specs.Rules.{KeepsRules, decimal}
use Rattle.ag_lex.specs.Spelling.{Spells, IsToken, is_name, has_close}
use Rattle.ag_lex.specs.Tokens.{Piece, Space, Comment, Lexeme, piece_bytes, IsPiece, AreRead, token_of, tokens_of}
use Rattle.ag_lex.proofs.Annexes.{tokens_stand}
use Rattle.ag_lex.proofs.Closing.{has_close-append}
use Rattle.ag_aadl.specs.Marked.{own}
use Rattle.ag_aadl.specs.Words.{listed}
use Rattle.ag_annex.specs.Annexes.{AreAnnexTokens}
use Rattle.ag_annex.specs.Clauses.{label_of}
use Rattle.ag_annex.specs.Terminals.{name, number, text, other_token}
use Rattle.ag_annex.specs.Words.{terminal_of, reserved_words, known_symbols}
use Rattle.ag_unparse.specs.Printable.{is_plain_name, is_label}
use Rattle.ag_unparse.proofs.MeaningLabels.{label_told}

-- ---- one token

-- a token of this terminal, with these bytes, and with these between its quotes
abbrev pub is_right : ℕ → List ℕ → List ℕ → Bool
is_right x bytes label = (not (x == name) || is_plain_name bytes) && ((not (x == number) || nat_le (decimal bytes) (2 ^ 47)) && (not (x == text) || is_label label))

abbrev pub is_right_token : List ℕ → Token → Bool
is_right_token bytes t = is_right (terminal_of t.kind (own bytes t)) (own bytes t) (label_of bytes t)

unless : (b c : Bool) → not c ≡ true → (not c || b) ≡ true
unless b true h = absurd cc
unless b false h = refl

other_if : (k : ℕ) (b : Bool) (x y : ℕ) → not (x == k) ≡ true → not (y == k) ≡ true → not ((if b then x else y) == k) ≡ true
other_if k true x y f g = f
other_if k false x y f g = g

listed_other : (k : ℕ) (es : List (List ℕ × ℕ)) (o : ℕ) (bytes : List ℕ) → list_all (λ e. not (e.1 == k)) es ≡ true → not (o == k) ≡ true → not (listed es o bytes == k) ≡ true
listed_other k [] o bytes all h = h
listed_other k (e ∷ es) o bytes all h =
    let parts = and_parts (not (e.1 == k)) (list_all (λ f. not (f.1 == k)) es) all in
    other_if k _ e.1 (listed es o bytes) parts.0 (listed_other k es o bytes parts.1 h)

words_no_number : list_all (λ e. not (e.1 == number)) reserved_words ≡ true
unfolding reserved_words
words_no_number = refl

words_no_text : list_all (λ e. not (e.1 == text)) reserved_words ≡ true
unfolding reserved_words
words_no_text = refl

symbols_no_name : list_all (λ e. not (e.1 == name)) known_symbols ≡ true
unfolding known_symbols
symbols_no_name = refl

symbols_no_number : list_all (λ e. not (e.1 == number)) known_symbols ≡ true
unfolding known_symbols
symbols_no_number = refl

symbols_no_text : list_all (λ e. not (e.1 == text)) known_symbols ≡ true
unfolding known_symbols
symbols_no_text = refl

plain_name : (bytes : List ℕ) → is_name bytes ≡ true → length bytes ≤ 255 → (not (terminal_of Name bytes == name) || is_plain_name bytes) ≡ true
plain_name bytes named short =
    elim (cases_Bool (terminal_of Name bytes == name)) [
      | inl so ↦
          let least : nat_le (length bytes) 255 ≡ true = le-leb (length bytes) 255 short in
          rw so (and_from (is_name bytes) (nat_le (length bytes) 255 && true) named (and_from (nat_le (length bytes) 255) true least refl))
      | inr not_so ↦ rw not_so refl
    ]

three : (a b c : Bool) → a ≡ true → b ≡ true → c ≡ true → (a && (b && c)) ≡ true
three a b c f g h = and_from a (b && c) f (and_from b c g h)

token_right : (kind : TokenKind) (bytes label : List ℕ) → Spells Agree kind bytes → (kind ≡ Name → length bytes ≤ 255) → (kind ≡ Number → decimal bytes ≤ 2 ^ 47) → (kind ≡ Text → is_label label ≡ true) → is_right (terminal_of kind bytes) bytes label ≡ true
token_right Name bytes label s short small quoted =
    let x = terminal_of Name bytes in
    three (not (x == name) || is_plain_name bytes) (not (x == number) || nat_le (decimal bytes) (2 ^ 47)) (not (x == text) || is_label label) (plain_name bytes s (short refl))
    (unless (nat_le (decimal bytes) (2 ^ 47)) (x == number) (listed_other number reserved_words name bytes words_no_number refl))
    (unless (is_label label) (x == text) (listed_other text reserved_words name bytes words_no_text refl))
token_right Number bytes label s short small quoted = and_from (nat_le (decimal bytes) (2 ^ 47)) true (le-leb (decimal bytes) (2 ^ 47) (small refl)) refl
token_right Real bytes label s short small quoted = refl
token_right Text bytes label s short small quoted = quoted refl
token_right Annex bytes label s short small quoted = refl
token_right Symbol bytes label s short small quoted =
    let x = terminal_of Symbol bytes in
    three (not (x == name) || is_plain_name bytes) (not (x == number) || nat_le (decimal bytes) (2 ^ 47)) (not (x == text) || is_label label)
    (unless (is_plain_name bytes) (x == name) (listed_other name known_symbols other_token bytes symbols_no_name refl))
    (unless (nat_le (decimal bytes) (2 ^ 47)) (x == number) (listed_other number known_symbols other_token bytes symbols_no_number refl))
    (unless (is_label label) (x == text) (listed_other text known_symbols other_token bytes symbols_no_text refl))

-- ---- where it stands

own_is : (bytes before piece after : List ℕ) → bytes ≡ before ++ (piece ++ after) → slice_range bytes (length before) (length before + length piece) ≡ piece
own_is bytes before piece after e =
    let count : length piece ≡ (length before + length piece) - length before = omega arith in
    ap (λ (z : List ℕ). take ((length before + length piece) - length before) (drop (length before) z)) e
    ∙ ap (take ((length before + length piece) - length before)) (drop_at before (piece ++ after) (length before) refl)
    ∙ take_at piece after ((length before + length piece) - length before) count

read_more : (front : List Piece) (inside here : List ℕ) (p : Piece) (after : List ℕ) → AreRead Agree front inside here → here ≡ piece_bytes p ++ after → IsPiece Agree p after → AreRead Agree (front ++ p ∷ []) inside after
read_more [] inside here p after r e is = (after, r ∙ e, is, refl)
read_more (q ∷ front) inside here p after r e is = (r.0, r.1, r.2, read_more front r.0 here p after r.3 e is)

-- where pieces of the text between the marks come to
record Come (inside : List ℕ) (pieces : List Piece) (front here : List ℕ) : Type 0 where
  split : inside ≡ front ++ here
  read : AreRead Agree pieces inside here

come_on : (inside front here : List ℕ) (pieces : List Piece) (p : Piece) (after : List ℕ) → Come inside pieces front here → here ≡ piece_bytes p ++ after → IsPiece Agree p after → Come inside (pieces ++ p ∷ []) (front ++ piece_bytes p) after
come_on inside front here pieces p after c e is = record {
  split = c.split ∙ ap (λ (z : List ℕ). front ++ z) e ∙ sym (append_assoc front (piece_bytes p) after);
  read = read_more pieces inside here p after c.read e is;
}

there : (inside front here : List ℕ) → inside ≡ front ++ here → drop (length front) inside ≡ here
there inside front here e = ap (drop (length front)) e ∙ drop_at front here (length front) refl

not_long : (inside front here : List ℕ) (pieces : List Piece) (piece after : List ℕ) → Come inside pieces front here → here ≡ piece ++ after → IsToken Agree Name piece after → KeepsRules Agree inside → length piece ≤ 255
not_long inside front here pieces piece after c h is kept =
    elim (cases_lt 255 (length piece)) [
      | inl long ↦
          let at : here ≡ drop (length front) inside = sym (there inside front here c.split) in
          let within : length front ≤ length inside = omega (arith, ap length c.split, length-append front here) in
          absurd (kept (length front) LongName (inr (record {
            within = within;
            pieces = pieces;
            before = subst (λ (z : List ℕ). AreRead Agree pieces inside z) at c.read;
            broken = (piece, after, sym at ∙ h, is, long);
          })))
      | inr short ↦ short
    ]

not_wide : (inside front here : List ℕ) (pieces : List Piece) (piece after : List ℕ) → Come inside pieces front here → here ≡ piece ++ after → IsToken Agree Number piece after → KeepsRules Agree inside → decimal piece ≤ 2 ^ 47
not_wide inside front here pieces piece after c h is kept =
    elim (cases_lt (2 ^ 47) (decimal piece)) [
      | inl wide ↦
          let at : here ≡ drop (length front) inside = sym (there inside front here c.split) in
          let within : length front ≤ length inside = omega (arith, ap length c.split, length-append front here) in
          absurd (kept (length front) WideNumber (inr (record {
            within = within;
            pieces = pieces;
            before = subst (λ (z : List ℕ). AreRead Agree pieces inside z) at c.read;
            broken = (piece, after, sym at ∙ h, is, wide);
          })))
      | inr narrow ↦ narrow
    ]

-- ---- labels

close_behind : (xs ys : List ℕ) → has_close ys ≡ true → has_close (xs ++ ys) ≡ true
close_behind [] ys h = h
close_behind (x ∷ xs) ys h = or_right (starts_with nat_eq (x ∷ (xs ++ ys)) (codes "**}")) (has_close (xs ++ ys)) (close_behind xs ys h)

no_close_inside : (inside front inner after : List ℕ) → inside ≡ front ++ (inner ++ after) → has_close inside ≡ false → has_close inner ≡ false
no_close_inside inside front inner after e none =
    elim (cases_Bool (has_close inner)) [
      | inl some ↦ absurd (both_ways (has_close inside) none (ap has_close e ∙ close_behind front (inner ++ after) (has_close-append inner after some)))
      | inr free ↦ free
    ]

quoted_label : (bytes before piece after inside front rest : List ℕ) (t : Token) → t.start ≡ length before → t.end ≡ length before + length piece → bytes ≡ before ++ (piece ++ after) → inside ≡ front ++ (piece ++ rest) → has_close inside ≡ false → Spells Agree Text piece
    → is_label (label_of bytes t) ≡ true
quoted_label bytes before piece after inside front rest t starts ends e inner none s =
    let own_told : own bytes t ≡ piece = ap (λ (z : ℕ). slice_range bytes z t.end) starts ∙ ap (slice_range bytes (length before)) ends ∙ own_is bytes before piece after e in
    let fits : t.end ≤ length bytes = omega (arith, ends, ap length e, length-append before (piece ++ after), length-append piece after) in
    let told = label_told bytes s.0 t (own_told ∙ s.1) fits in
    let opened : inside ≡ (front ++ codes "\"") ++ (s.0 ++ (codes "\"" ++ rest)) =
    inner ∙ ap (λ (z : List ℕ). front ++ (z ++ rest)) s.1 ∙ ap (λ (z : List ℕ). front ++ (codes "\"" ++ z)) (append_assoc s.0 (codes "\"") rest) ∙ sym (append_assoc front (codes "\"") (s.0 ++ (codes "\"" ++ rest))) in
    let free = no_close_inside inside (front ++ codes "\"") s.0 (codes "\"" ++ rest) opened none in
    subst (λ (z : List ℕ). is_label z ≡ true) (sym told) (and_from (list_all is_text_byte s.0) (not (has_close s.0)) s.2 (not_from_false (has_close s.0) free))

-- ---- all tokens

-- a file with the text between an annex's marks
record Around (bytes first inside last : List ℕ) : Type 0 where
  whole : bytes ≡ first ++ (inside ++ last)
  kept : KeepsRules Agree inside
  closed : has_close inside ≡ false

lexeme_right : (file : ℕ) (bytes first inside last before front here : List ℕ) (pieces : List Piece) (kind : TokenKind) (piece after : List ℕ) → Around bytes first inside last → before ≡ first ++ front → Come inside pieces front here → here ≡ piece ++ after
    → IsToken Agree kind piece after → is_right_token bytes (token_of file before kind piece) ≡ true
lexeme_right file bytes first inside last before front here pieces kind piece after a b c h is =
    let inner : inside ≡ front ++ (piece ++ after) = c.split ∙ ap (λ (z : List ℕ). front ++ z) h in
    let e : bytes ≡ before ++ (piece ++ (after ++ last)) =
    a.whole ∙ ap (λ (z : List ℕ). first ++ (z ++ last)) inner ∙ ap (λ (z : List ℕ). first ++ z) (append_assoc front (piece ++ after) last) ∙ sym (append_assoc first front ((piece ++ after) ++ last))
    ∙ ap (λ (z : List ℕ). (first ++ front) ++ z) (append_assoc piece after last) ∙ ap (λ (z : List ℕ). z ++ (piece ++ (after ++ last))) (sym b) in
    let t = token_of file before kind piece in
    let told : own bytes t ≡ piece = own_is bytes before piece (after ++ last) e in
    subst (λ (z : List ℕ). is_right (terminal_of kind z) z (label_of bytes t) ≡ true) (sym told)
    (token_right kind piece (label_of bytes t) is.spelled
    (λ (k : kind ≡ Name). not_long inside front here pieces piece after c h (subst (λ (z : TokenKind). IsToken Agree z piece after) k is) a.kept)
    (λ (k : kind ≡ Number). not_wide inside front here pieces piece after c h (subst (λ (z : TokenKind). IsToken Agree z piece after) k is) a.kept)
    (λ (k : kind ≡ Text). quoted_label bytes before piece (after ++ last) inside front after t refl refl e inner a.closed (subst (λ (z : TokenKind). Spells Agree z piece) k is.spelled)))

all_right : (file : ℕ) (bytes first inside last before front here : List ℕ) (pieces ps : List Piece) → Around bytes first inside last → before ≡ first ++ front → Come inside pieces front here → AreRead Agree ps here []
    → list_all (is_right_token bytes) (tokens_of file before ps) ≡ true
all_right file bytes first inside last before front here pieces [] a b c r = refl
all_right file bytes first inside last before front here pieces (p ∷ ps) a b c r =
    let next : before ++ piece_bytes p ≡ first ++ (front ++ piece_bytes p) = ap (λ (z : List ℕ). z ++ piece_bytes p) b ∙ append_assoc first front (piece_bytes p) in
    step p r.1 r.2 (all_right file bytes first inside last (before ++ piece_bytes p) (front ++ piece_bytes p) r.0 (pieces ++ p ∷ []) ps a next (come_on inside front here pieces p r.0 c r.1 r.2) r.3)
  where
    step : (q : Piece) → here ≡ piece_bytes q ++ r.0 → IsPiece Agree q r.0 → list_all (is_right_token bytes) (tokens_of file (before ++ piece_bytes q) ps) ≡ true → list_all (is_right_token bytes) (tokens_of file before (q ∷ ps)) ≡ true
    step (Space x) e is more = more
    step (Comment inner) e is more = more
    step (Lexeme kind piece) e is more =
        and_from (is_right_token bytes (token_of file before kind piece)) (list_all (is_right_token bytes) (tokens_of file (before ++ piece) ps)) (lexeme_right file bytes first inside last before front here pieces kind piece r.0 a b c e is) more

-- no annex ends between its marks
inside_closed : (bytes : List ℕ) (annex : Token) → IsAnnexOf bytes annex → has_close (bytes_inside bytes annex) ≡ false
inside_closed bytes annex a =
    let s = tokens_stand Aadl a.file [] bytes a.tokens annex a.read a.among in
    let spelled : Spells Aadl Annex s.own = subst (λ (k : TokenKind). Spells Aadl k s.own) a.kind s.stands.spelled in
    let inner = spelled.0 in
    let start : annex.start ≡ length s.front = ap (λ (t : Token). t.start) s.is in
    let end : annex.end ≡ length s.front + length s.own = ap (λ (t : Token). t.end) s.is in
    let count : length s.own ≡ 3 + (length inner + 3) = ap length spelled.1 ∙ omega (arith, length-append inner (codes "**}")) in
    let opened : bytes ≡ (s.front ++ codes "{**") ++ (inner ++ (codes "**}" ++ s.after)) =
    s.parts ∙ ap (λ (z : List ℕ). s.front ++ (z ++ s.after)) spelled.1 ∙ ap (λ (z : List ℕ). s.front ++ (codes "{**" ++ z)) (append_assoc inner (codes "**}") s.after) ∙ sym (append_assoc s.front (codes "{**") (inner ++ (codes "**}" ++ s.after))) in
    let front : length (s.front ++ codes "{**") ≡ annex.start + 3 = length-append s.front (codes "{**") ∙ omega arith in
    let long : length inner ≡ (annex.end - 3) - (annex.start + 3) = omega arith in
    let told : bytes_inside bytes annex ≡ inner =
    ap (λ (z : List ℕ). take ((annex.end - 3) - (annex.start + 3)) (drop (annex.start + 3) z)) opened
    ∙ ap (take ((annex.end - 3) - (annex.start + 3))) (drop_at (s.front ++ codes "{**") (inner ++ (codes "**}" ++ s.after)) (annex.start + 3) front)
    ∙ take_at inner (codes "**}" ++ s.after) ((annex.end - 3) - (annex.start + 3)) long in
    ap has_close told ∙ no_close_inside (inner ++ codes "**") [] inner (codes "**") refl (not-true (has_close (inner ++ codes "**")) spelled.2)

pub annex_right : (bytes : List ℕ) (tokens : List Token) → AreAnnexTokens bytes tokens → list_all (is_right_token bytes) tokens ≡ true
annex_right bytes tokens a =
    let first = bytes_before bytes a.annex in
    let inside = bytes_inside bytes a.annex in
    let from = a.annex.start + 3 in
    let count = (a.annex.end - 3) - from in
    let last = drop count (drop from bytes) in
    let whole : bytes ≡ first ++ (inside ++ last) = sym (ap (λ (z : List ℕ). first ++ z) (take-append-drop count (drop from bytes)) ∙ take-append-drop from bytes) in
    let around : Around bytes first inside last = record { whole = whole; kept = a.kept.kept; closed = inside_closed bytes a.annex a.among } in
    let begins : first ≡ first ++ [] = sym (append-nil first) in
    subst (λ (z : List Token). list_all (is_right_token bytes) z ≡ true) (sym a.kept.read.told)
    (all_right a.annex.place.file bytes first inside last first [] inside [] a.kept.read.pieces around begins (record { split = refl; read = refl }) a.kept.read.read)
