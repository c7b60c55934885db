-- The pieces of lines of words, and that the text reads again.
use Rattle.std.proofs.Common.{◌≡◌, ℕ, ◌+◌, ◌-◌, ◌<◌, Bool, true, false, cond, ltb, ◌||◌, List, [], ◌∷◌, ◌++◌, length, take, drop, map, refl, sym, ap, subst, ◌∙◌, arith}
use Rattle.std.specs.Prelude.{codes, slice_range}
use Rattle.std.specs.Char.{is_ascii_alphabetic}
use Rattle.std.specs.List.{All, flat_map, list_all}
use Rattle.std.specs.Str.{IsAscii, IsUtf8}
use Rattle.std.proofs.lemmas.Bool.{and_parts, ltb-true}
use Rattle.std.proofs.lemmas.Bool.Decides.{nat_tests}
use Rattle.std.proofs.lemmas.Grind.{flat_map-append}
use Rattle.std.proofs.lemmas.List.{append_assoc, append-nil, take_at, drop_at}
use Rattle.std.proofs.lemmas.List.Elements.{All-head, All-tail}
use Rattle.std.proofs.lemmas.Str.{IsUtf8-append, IsUtf8-from_ascii}
use Rattle.std.proofs.lemmas.Str.Ascii.{IsAscii-nil, IsAscii-cons}
use Rattle.ag_lex.specs.declared.token.Language.{Language}
use Rattle.ag_lex.specs.declared.token.Language.TheVariants.{Aadl}
use Rattle.ag_lex.specs.declared.token.Token.{Token}
use Rattle.ag_lex.specs.declared.token.TokenKind.{TokenKind}
use Rattle.ag_lex.specs.declared.token.TokenKind.TheVariants.{Name, Annex, Symbol}
use Rattle.ag_lex.specs.Characters.{is_word_byte}
use Rattle.ag_lex.specs.Spelling.{is_name}
use Rattle.ag_lex.specs.Tokens.{Piece, Space, Comment, Lexeme, AreRead, tokens_of}
use Rattle.ag_lex.specs.Rules.{IsFine, AreFine}
use Rattle.ag_lex.specs.Answers.{AreKept}
use Rattle.ag_print.specs.Layout.{Word, joins_before, joins_behind, words_bytes, line_bytes, text_bytes, package_symbols, IsSpelled, IsSoundLine, words_of, word_at}
use Rattle.ag_print.proofs.Symbols.{NamesEnd, SymbolsEnd, AnnexesEnd, passes, token_stands}

abbrev pub PiecesKeep : Type 0
PiecesKeep = (l : Language) (file : ℕ) (before text : List ℕ) (pieces : List Piece) → AreRead l pieces text [] → AreFine l pieces → (l ≡ Aadl → IsUtf8 text) → AreKept l file before text (tokens_of file before pieces)

-- ---- the pieces

abbrev gap : Bool → List Piece
gap true = []
gap false = Space 32 ∷ []

abbrev words_pieces : Bool → List Word → List Piece
words_pieces joined [] = []
words_pieces joined (w ∷ ws) = gap (joined || joins_before w) ++ (Lexeme w.kind w.own ∷ words_pieces (joins_behind w) ws)

abbrev line_pieces : List Word → List Piece
line_pieces words = words_pieces true words ++ Space 10 ∷ []

abbrev text_pieces : List (List Word) → List Piece
text_pieces lines = flat_map line_pieces lines

-- ---- they are read

read_gap : (joined : Bool) (ps : List Piece) (text : List ℕ) → AreRead Aadl ps text [] → AreRead Aadl (gap joined ++ ps) (cond joined [] (codes " ") ++ text) []
read_gap true ps text r = r
read_gap false ps text r = (text, refl, refl, r)

regroup : (a b c d : List ℕ) → (a ++ (b ++ c)) ++ d ≡ a ++ (b ++ (c ++ d))
regroup a b c d = simp append_assoc

regroup_pieces : (a : List Piece) (p : Piece) (c d : List Piece) → (a ++ (p ∷ c)) ++ d ≡ a ++ (p ∷ (c ++ d))
regroup_pieces a p c d = simp append_assoc

read_words : NamesEnd → SymbolsEnd → AnnexesEnd → (joined : Bool) (ws : List Word) (tail : List Piece) (rest : List ℕ) → IsSoundLine ws → AreRead Aadl tail rest []
    → AreRead Aadl (words_pieces joined ws ++ (Space 10 ∷ tail)) (words_bytes joined ws ++ (10 ∷ rest)) []
read_words names symbols annexes joined [] tail rest s r = (rest, refl, refl, r)
read_words names symbols annexes joined (w ∷ ws) tail rest s r =
    let later = read_words names symbols annexes (joins_behind w) ws tail rest s.2 r in
    let more = words_bytes (joins_behind w) ws ++ (10 ∷ rest) in
    let ps = words_pieces (joins_behind w) ws ++ (Space 10 ∷ tail) in
    let here : AreRead Aadl (Lexeme w.kind w.own ∷ ps) (w.own ++ more) [] = (more, refl, token_stands names symbols annexes w ws rest s, later) in
    let b = joined || joins_before w in
    let whole = read_gap b (Lexeme w.kind w.own ∷ ps) (w.own ++ more) here in
    subst (λ (z : List Piece). AreRead Aadl z (words_bytes joined (w ∷ ws) ++ (10 ∷ rest)) []) (sym (regroup_pieces (gap b) (Lexeme w.kind w.own) (words_pieces (joins_behind w) ws) (Space 10 ∷ tail)))
    (subst (λ (z : List ℕ). AreRead Aadl (gap b ++ (Lexeme w.kind w.own ∷ ps)) z []) (sym (regroup (cond b [] (codes " ")) w.own (words_bytes (joins_behind w) ws) (10 ∷ rest))) whole)

read_text : NamesEnd → SymbolsEnd → AnnexesEnd → (lines : List (List Word)) → All IsSoundLine lines → AreRead Aadl (text_pieces lines) (text_bytes lines) []
read_text names symbols annexes [] s = refl
read_text names symbols annexes (line ∷ lines) s =
    let later = read_text names symbols annexes lines (All-tail IsSoundLine line lines s) in
    let whole = read_words names symbols annexes true line (text_pieces lines) (text_bytes lines) (All-head IsSoundLine line lines s) later in
    subst (λ (z : List Piece). AreRead Aadl z (text_bytes (line ∷ lines)) []) (sym (append_assoc (words_pieces true line) (Space 10 ∷ []) (text_pieces lines)))
    (subst (λ (z : List ℕ). AreRead Aadl (words_pieces true line ++ (Space 10 ∷ text_pieces lines)) z []) (sym (append_assoc (words_bytes true line) (10 ∷ []) (text_bytes lines))) whole)

-- ---- they are fine

fine_append : (ps qs : List Piece) → AreFine Aadl ps → AreFine Aadl qs → AreFine Aadl (ps ++ qs)
fine_append [] qs a b = b
fine_append (p ∷ ps) qs a b = (a.0, fine_append ps qs a.1 b)

fine_gap : (joined : Bool) → AreFine Aadl (gap joined)
fine_gap true = tt
fine_gap false = (tt, tt)

fine_word : (k : TokenKind) (own : List ℕ) → IsSpelled k own → IsFine Aadl (Lexeme k own)
fine_word Name own s = s.1
fine_word Symbol own s = tt
fine_word Annex own s = tt
fine_word _ own s = absurd s

fine_words : (joined : Bool) (ws : List Word) → IsSoundLine ws → AreFine Aadl (words_pieces joined ws)
fine_words joined [] s = tt
fine_words joined (w ∷ ws) s =
    fine_append (gap (joined || joins_before w)) (Lexeme w.kind w.own ∷ words_pieces (joins_behind w) ws) (fine_gap (joined || joins_before w)) (fine_word w.kind w.own s.0, fine_words (joins_behind w) ws s.2)

fine_text : (lines : List (List Word)) → All IsSoundLine lines → AreFine Aadl (text_pieces lines)
fine_text [] s = tt
fine_text (line ∷ lines) s =
    fine_append (line_pieces line) (text_pieces lines) (fine_append (words_pieces true line) (Space 10 ∷ []) (fine_words true line (All-head IsSoundLine line lines s)) (tt, tt)) (fine_text lines (All-tail IsSoundLine line lines s))

-- ---- the text is UTF-8

word_ascii : (b : ℕ) → is_word_byte b ≡ true → b < 128
word_ascii b h = grind (arith, nat_tests)

letter_ascii : (b : ℕ) → is_ascii_alphabetic b ≡ true → b < 128
letter_ascii b h = grind (arith, nat_tests)

words_ascii : (bs : List ℕ) → list_all is_word_byte bs ≡ true → IsAscii bs
words_ascii [] h = IsAscii-nil
words_ascii (b ∷ bs) h =
    let parts = and_parts (is_word_byte b) (list_all is_word_byte bs) h in
    IsAscii-cons b bs (word_ascii b parts.0) (words_ascii bs parts.1)

name_ascii : (own : List ℕ) → is_name own ≡ true → IsAscii own
name_ascii [] h = IsAscii-nil
name_ascii (b ∷ bs) h =
    let parts = and_parts (is_ascii_alphabetic b) (list_all is_word_byte bs) h in
    IsAscii-cons b bs (letter_ascii b parts.0) (words_ascii bs parts.1)

abbrev pub all_low : List ℕ → Bool
all_low bs = list_all (λ b. ltb b 128) bs

pub low_ascii : (bs : List ℕ) → all_low bs ≡ true → IsAscii bs
low_ascii [] h = IsAscii-nil
low_ascii (b ∷ bs) h =
    let parts = and_parts (ltb b 128) (all_low bs) h in
    IsAscii-cons b bs (ltb-true b 128 parts.0) (low_ascii bs parts.1)

own_text : (k : TokenKind) (own : List ℕ) → IsSpelled k own → IsUtf8 own
unfolding package_symbols
own_text Name own s = IsUtf8-from_ascii own (name_ascii own s.0)
own_text Symbol own s = IsUtf8-from_ascii own (low_ascii own (passes all_low own package_symbols refl s))
own_text Annex own s = s.1
own_text _ own s = absurd s

gap_text : (joined : Bool) → IsUtf8 (cond joined [] (codes " "))
gap_text true = IsUtf8-from_ascii [] IsAscii-nil
gap_text false = IsUtf8-from_ascii (codes " ") (low_ascii (codes " ") refl)

words_text : (joined : Bool) (ws : List Word) → IsSoundLine ws → IsUtf8 (words_bytes joined ws)
words_text joined [] s = IsUtf8-from_ascii [] IsAscii-nil
words_text joined (w ∷ ws) s =
    IsUtf8-append (cond (joined || joins_before w) [] (codes " ")) (w.own ++ words_bytes (joins_behind w) ws) (gap_text (joined || joins_before w))
    (IsUtf8-append w.own (words_bytes (joins_behind w) ws) (own_text w.kind w.own s.0) (words_text (joins_behind w) ws s.2))

all_text : (lines : List (List Word)) → All IsSoundLine lines → IsUtf8 (text_bytes lines)
all_text [] s = IsUtf8-from_ascii [] IsAscii-nil
all_text (line ∷ lines) s =
    let end = IsUtf8-from_ascii (codes "\n") (low_ascii (codes "\n") refl) in
    IsUtf8-append (line_bytes line) (text_bytes lines) (IsUtf8-append (words_bytes true line) (codes "\n") (words_text true line (All-head IsSoundLine line lines s)) end) (all_text lines (All-tail IsSoundLine line lines s))

-- ---- the tokens are the words

abbrev word_in : Piece → List Word
word_in (Space b) = []
word_in (Comment text) = []
word_in (Lexeme kind own) = record { kind = kind; own = own } ∷ []

pub stands_at : (text before own after : List ℕ) → text ≡ before ++ (own ++ after) → slice_range text (length before) (length before + length own) ≡ own
stands_at text before own after e =
    let front : drop (length before) text ≡ own ++ after = ap (drop (length before)) e ∙ drop_at before (own ++ after) (length before) refl in
    let count : (length before + length own) - length before ≡ length own = omega arith in
    ap (λ (n : ℕ). take n (drop (length before) text)) count ∙ ap (take (length own)) front ∙ take_at own after (length own) refl

told : (file : ℕ) (text before here : List ℕ) (ps : List Piece) → text ≡ before ++ here → AreRead Aadl ps here [] → map (word_at text) (tokens_of file before ps) ≡ flat_map word_in ps
told file text before here [] e r = refl
told file text before here (Space b ∷ ps) e r = told file text (before ++ b ∷ []) r.0 ps (e ∙ ap (λ (z : List ℕ). before ++ z) r.1 ∙ sym (append_assoc before (b ∷ []) r.0)) r.3
told file text before here (Comment own ∷ ps) e r = told file text (before ++ (codes "--" ++ own)) r.0 ps (e ∙ ap (λ (z : List ℕ). before ++ z) r.1 ∙ sym (append_assoc before (codes "--" ++ own) r.0)) r.3
told file text before here (Lexeme kind own ∷ ps) e r =
    let split : text ≡ before ++ (own ++ r.0) = e ∙ ap (λ (z : List ℕ). before ++ z) r.1 in
    let first = stands_at text before own r.0 split in
    let later = told file text (before ++ own) r.0 ps (split ∙ sym (append_assoc before own r.0)) r.3 in
    ap (λ (z : List ℕ). record { kind = kind; own = z } ∷ map (word_at text) (tokens_of file (before ++ own) ps)) first ∙ ap (λ (z : List Word). record { kind = kind; own = own } ∷ z) later

gap_words : (joined : Bool) → flat_map word_in (gap joined) ≡ []
gap_words true = refl
gap_words false = refl

words_are : (joined : Bool) (ws : List Word) → flat_map word_in (words_pieces joined ws) ≡ ws
words_are joined [] = refl
words_are joined (w ∷ ws) =
    let b = joined || joins_before w in
    flat_map-append word_in (gap b) (Lexeme w.kind w.own ∷ words_pieces (joins_behind w) ws) ∙ ap (λ (z : List Word). z ++ (w ∷ flat_map word_in (words_pieces (joins_behind w) ws))) (gap_words b)
    ∙ ap (λ (z : List Word). w ∷ z) (words_are (joins_behind w) ws)

line_words : (line : List Word) → flat_map word_in (line_pieces line) ≡ line
line_words line = flat_map-append word_in (words_pieces true line) (Space 10 ∷ []) ∙ append-nil (flat_map word_in (words_pieces true line)) ∙ words_are true line

all_words : (lines : List (List Word)) → flat_map word_in (text_pieces lines) ≡ words_of lines
all_words [] = refl
all_words (line ∷ lines) =
    flat_map-append word_in (line_pieces line) (text_pieces lines) ∙ ap (λ (z : List Word). z ++ flat_map word_in (text_pieces lines)) (line_words line)
    ∙ ap (λ (z : List Word). line ++ z) (all_words lines)

-- ---- the law

pub lines_read : NamesEnd → SymbolsEnd → AnnexesEnd → PiecesKeep → (file : ℕ) (lines : List (List Word)) → All IsSoundLine lines
    → (tokens : List Token) × AreKept Aadl file [] (text_bytes lines) tokens × (map (word_at (text_bytes lines)) tokens ≡ words_of lines)
lines_read names symbols annexes keep file lines s =
    let text = text_bytes lines in
    let pieces = text_pieces lines in
    let read = read_text names symbols annexes lines s in
    (tokens_of file [] pieces, keep Aadl file [] text pieces read (fine_text lines s) (λ e. all_text lines s), told file text [] text pieces refl read ∙ all_words lines)
