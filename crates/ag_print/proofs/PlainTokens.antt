-- The names of a file that breaks no rule of tokens are plain names.
use Rattle.std.proofs.Common.{◌≡◌, ℕ, ◌≤◌, Bool, true, false, ◌==◌, ◌&&◌, ◌||◌, not, if◌then◌else◌, List, [], ◌∷◌, ◌++◌, length, drop, refl, sym, ap, subst, ◌∙◌, inl, inr, arith, append_assoc}
use Rattle.std.specs.Prelude.{nat_le}
use Rattle.std.specs.List.{list_all}
use Rattle.std.proofs.lemmas.Bool.{cases_Bool, cases_lt, and_parts, and_from, le-leb}
use Rattle.std.proofs.lemmas.List.{length-append}
use Rattle.ag_base.specs.declared.place.Rule.TheVariants.{LongName}
use Rattle.ag_lex.specs.declared.token.Language.TheVariants.{Aadl}
use Rattle.ag_lex.specs.declared.token.TokenKind.{TokenKind}
use Rattle.ag_lex.specs.declared.token.TokenKind.TheVariants.{Name, Number, Real, Text, Annex, Symbol}
use Rattle.ag_lex.specs.declared.token.Token.{Token}
use Rattle.ag_lex.specs.Answers.{AreKept}
use Rattle.ag_lex.specs.Rules.{KeepsRules}
use Rattle.ag_lex.specs.Spelling.{IsToken, is_name}
use Rattle.ag_lex.specs.Tokens.{Piece, Space, Comment, Lexeme, piece_bytes, IsPiece, AreRead, token_of, tokens_of}
use Rattle.ag_aadl.specs.Marked.{own}
use Rattle.ag_aadl.specs.Terminals.{name, other_token}
use Rattle.ag_aadl.specs.Words.{terminal_of, listed, known_symbols}
use Rattle.ag_print.specs.Printable.{is_plain_name}
use Rattle.ag_print.proofs.Lines.{stands_at}

-- where the grammar takes the token for a name it is a plain one
abbrev pub is_plain_token : List ℕ → Token → Bool
is_plain_token bytes t = not (terminal_of t.kind (own bytes t) == name) || is_plain_name (own bytes t)

-- ---- one token

abbrev is_plain_text : TokenKind → List ℕ → Bool
is_plain_text kind text = not (terminal_of kind text == name) || is_plain_name text

no_name : (b : Bool) (x : ℕ) → not (x == name) ≡ true → (not (x == name) || b) ≡ true
no_name b x h = rw h refl

other_if : (z : ℕ) (b : Bool) (x y : ℕ) → not (x == z) ≡ true → not (y == z) ≡ true → not ((if b then x else y) == z) ≡ true
other_if z true x y f g = f
other_if z false x y f g = g

-- what stands in a list is another than one that doesn't
pub listed_other : (z : ℕ) (es : List (List ℕ × ℕ)) (o : ℕ) (text : List ℕ) → list_all (λ e. not (e.1 == z)) es ≡ true → not (o == z) ≡ true → not (listed es o text == z) ≡ true
listed_other z [] o text all h = h
listed_other z (e ∷ es) o text all h =
    let parts = and_parts (not (e.1 == z)) (list_all (λ f. not (f.1 == z)) es) all in
    other_if z _ e.1 (listed es o text) parts.0 (listed_other z es o text parts.1 h)

symbols_other : list_all (λ e. not (e.1 == name)) known_symbols ≡ true
unfolding known_symbols
symbols_other = refl

plain_name : (text : List ℕ) → is_name text ≡ true → length text ≤ 255 → is_plain_text Name text ≡ true
plain_name text named short =
    elim (cases_Bool (terminal_of Name text == name)) [
      | inl so ↦
          let least : nat_le (length text) 255 ≡ true = le-leb (length text) 255 short in
          rw so (and_from (is_name text) (nat_le (length text) 255 && true) named (and_from (nat_le (length text) 255) true least refl))
      | inr not_so ↦ rw not_so refl
    ]

plain_text : (kind : TokenKind) (text after : List ℕ) → IsToken Aadl kind text after → (kind ≡ Name → length text ≤ 255) → is_plain_text kind text ≡ true
plain_text Name text after is short = plain_name text is.spelled (short refl)
plain_text Number text after is short = refl
plain_text Real text after is short = refl
plain_text Text text after is short = refl
plain_text Annex text after is short = refl
plain_text Symbol text after is short = no_name (is_plain_name text) (listed known_symbols other_token text) (listed_other name known_symbols other_token text symbols_other refl)

-- ---- all tokens

read_more : (front : List Piece) (text here : List ℕ) (p : Piece) (after : List ℕ) → AreRead Aadl front text here → here ≡ piece_bytes p ++ after → IsPiece Aadl p after → AreRead Aadl (front ++ p ∷ []) text after
read_more [] text here p after r e is = (after, r ∙ e, is, refl)
read_more (q ∷ front) text here p after r e is = (r.0, r.1, r.2, read_more front r.0 here p after r.3 e is)

behind : (before here : List ℕ) → drop (length before) (before ++ here) ≡ here
behind [] here = refl
behind (b ∷ before) here = behind before here

not_long : (text before here : List ℕ) (front : List Piece) (name_text after : List ℕ) → text ≡ before ++ here → AreRead Aadl front text here → here ≡ name_text ++ after → IsToken Aadl Name name_text after → KeepsRules Aadl text → length name_text ≤ 255
not_long text before here front name_text after e read h is kept =
    elim (cases_lt 255 (length name_text)) [
      | inl long ↦
          let there : here ≡ drop (length before) text = sym (ap (drop (length before)) e ∙ behind before here) in
          let within : length before ≤ length text = omega (arith, ap length e, length-append before here) in
          absurd (kept (length before) LongName (inr (record {
            within = within;
            pieces = front;
            before = subst (λ (z : List ℕ). AreRead Aadl front text z) there read;
            broken = (name_text, after, sym there ∙ h, is, long);
          })))
      | inr short ↦ short
    ]

plain_from : (file : ℕ) (text before here : List ℕ) (front ps : List Piece) → text ≡ before ++ here → AreRead Aadl front text here → AreRead Aadl ps here [] → KeepsRules Aadl text → list_all (is_plain_token text) (tokens_of file before ps) ≡ true
plain_from file text before here front [] e read r kept = refl
plain_from file text before here front (Space b ∷ ps) e read r kept =
    let next : text ≡ (before ++ b ∷ []) ++ r.0 = e ∙ ap (λ (z : List ℕ). before ++ z) r.1 ∙ sym (append_assoc before (b ∷ []) r.0) in
    plain_from file text (before ++ b ∷ []) r.0 (front ++ Space b ∷ []) ps next (read_more front text here (Space b) r.0 read r.1 r.2) r.3 kept
plain_from file text before here front (Comment inner ∷ ps) e read r kept =
    let bytes = piece_bytes (Comment inner) in
    let next : text ≡ (before ++ bytes) ++ r.0 = e ∙ ap (λ (z : List ℕ). before ++ z) r.1 ∙ sym (append_assoc before bytes r.0) in
    plain_from file text (before ++ bytes) r.0 (front ++ Comment inner ∷ []) ps next (read_more front text here (Comment inner) r.0 read r.1 r.2) r.3 kept
plain_from file text before here front (Lexeme kind piece ∷ ps) e read r kept =
    let whole : text ≡ before ++ (piece ++ r.0) = e ∙ ap (λ (z : List ℕ). before ++ z) r.1 in
    let next : text ≡ (before ++ piece) ++ r.0 = whole ∙ sym (append_assoc before piece r.0) in
    let rest = plain_from file text (before ++ piece) r.0 (front ++ Lexeme kind piece ∷ []) ps next (read_more front text here (Lexeme kind piece) r.0 read r.1 r.2) r.3 kept in
    let short = λ (k : kind ≡ Name). not_long text before here front piece r.0 e read r.1 (subst (λ (z : TokenKind). IsToken Aadl z piece r.0) k r.2) kept in
    let one = plain_text kind piece r.0 r.2 short in
    let here_plain = subst (λ (z : List ℕ). is_plain_text kind z ≡ true) (sym (stands_at text before piece r.0 whole)) one in
    and_from (is_plain_token text (token_of file before kind piece)) (list_all (is_plain_token text) (tokens_of file (before ++ piece) ps)) here_plain rest

pub plain_tokens : (file : ℕ) (bytes : List ℕ) (tokens : List Token) → AreKept Aadl file [] bytes tokens → list_all (is_plain_token bytes) tokens ≡ true
plain_tokens file bytes tokens k =
    subst (λ (z : List Token). list_all (is_plain_token bytes) z ≡ true) (sym k.read.told) (plain_from file bytes [] bytes [] k.read.pieces refl refl k.read.read k.kept)
