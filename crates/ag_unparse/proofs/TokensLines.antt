-- The pieces of lines of words, and that the text reads again as the words.
use Rattle.std.proofs.Common.{◌≡◌, ℕ, ◌+◌, ◌-◌, Bool, true, false, cond, ◌||◌, List, [], ◌∷◌, ◌++◌, length, take, drop, map, refl, sym, ap, subst, ◌∙◌, arith}
use Rattle.std.specs.Prelude.{codes, slice_range}
use Rattle.std.specs.List.{flat_map}
use Rattle.std.specs.Str.{IsUtf8}
use Rattle.std.proofs.lemmas.Grind.{flat_map-append}
use Rattle.std.proofs.lemmas.List.{append_assoc, append-nil, map-append, take_at, drop_at}
use Rattle.ag_lex.specs.declared.token.Language.{Language}
use Rattle.ag_lex.specs.declared.token.Language.TheVariants.{Aadl, Agree}
use Rattle.ag_lex.specs.declared.token.Token.{Token}
use Rattle.ag_lex.specs.declared.token.TokenKind.{TokenKind}
use Rattle.ag_lex.specs.declared.token.TokenKind.TheVariants.{Name, Number, Text, Symbol}
use Rattle.ag_lex.specs.Tokens.{Piece, Space, Comment, Lexeme, AreRead, tokens_of}
use Rattle.ag_lex.specs.Rules.{IsFine, AreFine}
use Rattle.ag_lex.specs.Answers.{AreKept}
use Rattle.ag_aadl.specs.Marked.{own}
use Rattle.ag_unparse.specs.Layout.{Spelled, joins_before, joins_behind, words_bytes, text_bytes}
use Rattle.ag_unparse.specs.Spelling.{StandAs}
use Rattle.ag_unparse.proofs.TokensEnds.{TokensEnd, IsSpelled, IsSoundLine, token_stands}

abbrev pub PiecesKeep : Type 0
PiecesKeep = (l : Language) (file : ℕ) (before text : List ℕ) (pieces : List Piece) → AreRead l pieces text [] → AreFine l pieces → (l ≡ Aadl → IsUtf8 text) → AreKept l file before text (tokens_of file before pieces)

-- each of the lines is sound
abbrev pub AreSound : List (List Spelled) → Type 0
AreSound [] = Unit {0}
AreSound (line ∷ lines) = IsSoundLine line × AreSound lines

-- ---- the pieces

abbrev gap : Bool → List Piece
gap true = []
gap false = Space 32 ∷ []

abbrev words_pieces : Bool → List Spelled → List Piece
words_pieces joined [] = []
words_pieces joined (w ∷ ws) = gap (joined || joins_before w) ++ (Lexeme w.kind w.own ∷ words_pieces (joins_behind w) ws)

abbrev line_pieces : List Spelled → List Piece
line_pieces words = words_pieces true words ++ Space 10 ∷ []

abbrev text_pieces : List (List Spelled) → List Piece
text_pieces lines = flat_map line_pieces lines

-- ---- they are read

read_gap : (joined : Bool) (ps : List Piece) (text : List ℕ) → AreRead Agree ps text [] → AreRead Agree (gap joined ++ ps) (cond joined [] (codes " ") ++ text) []
read_gap true ps text r = r
read_gap false ps text r = (text, refl, refl, r)

regroup : (a b c d : List ℕ) → (a ++ (b ++ c)) ++ d ≡ a ++ (b ++ (c ++ d))
regroup a b c d = simp append_assoc

regroup_pieces : (a : List Piece) (p : Piece) (c d : List Piece) → (a ++ (p ∷ c)) ++ d ≡ a ++ (p ∷ (c ++ d))
regroup_pieces a p c d = simp append_assoc

read_words : TokensEnd → (joined : Bool) (ws : List Spelled) (tail : List Piece) (rest : List ℕ) → IsSoundLine ws → AreRead Agree tail rest []
    → AreRead Agree (words_pieces joined ws ++ (Space 10 ∷ tail)) (words_bytes joined ws ++ (10 ∷ rest)) []
read_words laws joined [] tail rest s r = (rest, refl, refl, r)
read_words laws joined (w ∷ ws) tail rest s r =
    let later = read_words laws (joins_behind w) ws tail rest s.2 r in
    let more = words_bytes (joins_behind w) ws ++ (10 ∷ rest) in
    let ps = words_pieces (joins_behind w) ws ++ (Space 10 ∷ tail) in
    let here : AreRead Agree (Lexeme w.kind w.own ∷ ps) (w.own ++ more) [] = (more, refl, token_stands laws w ws rest s, later) in
    let b = joined || joins_before w in
    let whole = read_gap b (Lexeme w.kind w.own ∷ ps) (w.own ++ more) here in
    subst (λ (z : List Piece). AreRead Agree z (words_bytes joined (w ∷ ws) ++ (10 ∷ rest)) []) (sym (regroup_pieces (gap b) (Lexeme w.kind w.own) (words_pieces (joins_behind w) ws) (Space 10 ∷ tail)))
    (subst (λ (z : List ℕ). AreRead Agree (gap b ++ (Lexeme w.kind w.own ∷ ps)) z []) (sym (regroup (cond b [] (codes " ")) w.own (words_bytes (joins_behind w) ws) (10 ∷ rest))) whole)

read_text : TokensEnd → (lines : List (List Spelled)) → AreSound lines → AreRead Agree (text_pieces lines) (text_bytes lines) []
read_text laws [] s = refl
read_text laws (line ∷ lines) s =
    let later = read_text laws lines s.1 in
    let whole = read_words laws true line (text_pieces lines) (text_bytes lines) s.0 later in
    subst (λ (z : List Piece). AreRead Agree z (text_bytes (line ∷ lines)) []) (sym (append_assoc (words_pieces true line) (Space 10 ∷ []) (text_pieces lines)))
    (subst (λ (z : List ℕ). AreRead Agree (words_pieces true line ++ (Space 10 ∷ text_pieces lines)) z []) (sym (append_assoc (words_bytes true line) (10 ∷ []) (text_bytes lines))) whole)

-- ---- they are fine

fine_append : (ps qs : List Piece) → AreFine Agree ps → AreFine Agree qs → AreFine Agree (ps ++ qs)
fine_append [] qs a b = b
fine_append (p ∷ ps) qs a b = (a.0, fine_append ps qs a.1 b)

fine_gap : (joined : Bool) → AreFine Agree (gap joined)
fine_gap true = tt
fine_gap false = (tt, tt)

fine_word : (k : TokenKind) (own : List ℕ) → IsSpelled k own → IsFine Agree (Lexeme k own)
fine_word Name own s = s.1
fine_word Number own s = s.1
fine_word Text own s = tt
fine_word Symbol own s = tt
fine_word _ own s = absurd s

fine_words : (joined : Bool) (ws : List Spelled) → IsSoundLine ws → AreFine Agree (words_pieces joined ws)
fine_words joined [] s = tt
fine_words joined (w ∷ ws) s =
    fine_append (gap (joined || joins_before w)) (Lexeme w.kind w.own ∷ words_pieces (joins_behind w) ws) (fine_gap (joined || joins_before w)) (fine_word w.kind w.own s.0, fine_words (joins_behind w) ws s.2)

fine_text : (lines : List (List Spelled)) → AreSound lines → AreFine Agree (text_pieces lines)
fine_text [] s = tt
fine_text (line ∷ lines) s =
    fine_append (line_pieces line) (text_pieces lines) (fine_append (words_pieces true line) (Space 10 ∷ []) (fine_words true line s.0) (tt, tt)) (fine_text lines s.1)

-- ---- the tokens are the words

-- a word without its mark
abbrev bare : Spelled → Spelled
bare w = record w { mark = 0 }

abbrev word_in : Piece → List Spelled
word_in (Space b) = []
word_in (Comment text) = []
word_in (Lexeme kind own) = record { mark = 0; kind = kind; own = own } ∷ []

stands_at : (bytes before own after : List ℕ) → bytes ≡ before ++ (own ++ after) → slice_range bytes (length before) (length before + length own) ≡ own
stands_at bytes before own after e =
    let front : drop (length before) bytes ≡ own ++ after = ap (drop (length before)) e ∙ drop_at before (own ++ after) (length before) refl in
    let count : (length before + length own) - length before ≡ length own = omega arith in
    ap (λ (n : ℕ). take n (drop (length before) bytes)) count ∙ ap (take (length own)) front ∙ take_at own after (length own) refl

-- where the text stands before other bytes, and behind its next piece
pub further : (bytes before here after own rest : List ℕ) → bytes ≡ before ++ (here ++ after) → here ≡ own ++ rest → bytes ≡ (before ++ own) ++ (rest ++ after)
further bytes before here after own rest e split =
    e ∙ ap (λ (z : List ℕ). before ++ (z ++ after)) split ∙ ap (λ (z : List ℕ). before ++ z) (append_assoc own rest after) ∙ sym (append_assoc before own (rest ++ after))

told : (file : ℕ) (bytes before here after : List ℕ) (ps : List Piece) → bytes ≡ before ++ (here ++ after) → AreRead Agree ps here [] → StandAs bytes (tokens_of file before ps) (flat_map word_in ps)
told file bytes before here after [] e r = tt
told file bytes before here after (Space b ∷ ps) e r = told file bytes (before ++ b ∷ []) r.0 after ps (further bytes before here after (b ∷ []) r.0 e r.1) r.3
told file bytes before here after (Comment text ∷ ps) e r = told file bytes (before ++ (codes "--" ++ text)) r.0 after ps (further bytes before here after (codes "--" ++ text) r.0 e r.1) r.3
told file bytes before here after (Lexeme kind text ∷ ps) e r =
    let split = e ∙ ap (λ (z : List ℕ). before ++ (z ++ after)) r.1 ∙ ap (λ (z : List ℕ). before ++ z) (append_assoc text r.0 after) in
    (refl, stands_at bytes before text (r.0 ++ after) split, told file bytes (before ++ text) r.0 after ps (further bytes before here after text r.0 e r.1) r.3)

gap_words : (joined : Bool) → flat_map word_in (gap joined) ≡ []
gap_words true = refl
gap_words false = refl

words_are : (joined : Bool) (ws : List Spelled) → flat_map word_in (words_pieces joined ws) ≡ map bare ws
words_are joined [] = refl
words_are joined (w ∷ ws) =
    let b = joined || joins_before w in
    flat_map-append word_in (gap b) (Lexeme w.kind w.own ∷ words_pieces (joins_behind w) ws) ∙ ap (λ (z : List Spelled). z ++ (bare w ∷ flat_map word_in (words_pieces (joins_behind w) ws))) (gap_words b)
    ∙ ap (λ (z : List Spelled). bare w ∷ z) (words_are (joins_behind w) ws)

line_words : (line : List Spelled) → flat_map word_in (line_pieces line) ≡ map bare line
line_words line = flat_map-append word_in (words_pieces true line) (Space 10 ∷ []) ∙ append-nil (flat_map word_in (words_pieces true line)) ∙ words_are true line

-- the words of all lines in order
abbrev pub words_of : List (List Spelled) → List Spelled
words_of lines = flat_map (λ line. line) lines

all_words : (lines : List (List Spelled)) → flat_map word_in (text_pieces lines) ≡ map bare (words_of lines)
all_words [] = refl
all_words (line ∷ lines) =
    flat_map-append word_in (line_pieces line) (text_pieces lines) ∙ ap (λ (z : List Spelled). z ++ flat_map word_in (text_pieces lines)) (line_words line)
    ∙ ap (λ (z : List Spelled). map bare line ++ z) (all_words lines) ∙ sym (map-append bare line (words_of lines))

-- what stands as words without marks stands as the words
with_marks : (bytes : List ℕ) (tokens : List Token) (ws : List Spelled) → StandAs bytes tokens (map bare ws) → StandAs bytes tokens ws
with_marks bytes [] [] s = tt
with_marks bytes (t ∷ ts) (w ∷ ws) s = (s.0, s.1, with_marks bytes ts ws s.2)
with_marks bytes [] (w ∷ ws) s = absurd s
with_marks bytes (t ∷ ts) [] s = absurd s

-- ---- the law

-- the tokens of lines that begin on a line of their own, behind and before these bytes of a file
pub record LinesRead (file : ℕ) (before after : List ℕ) (lines : List (List Spelled)) : Type 0 where
  pub tokens : List Token
  pub kept : AreKept Agree file before (codes "\n" ++ text_bytes lines) tokens
  pub words : StandAs (before ++ ((codes "\n" ++ text_bytes lines) ++ after)) tokens (words_of lines)

no_file : Agree ≡ Aadl → ⊥
no_file e = cc

pub lines_read : TokensEnd → PiecesKeep → (file : ℕ) (before after : List ℕ) (lines : List (List Spelled)) → AreSound lines → LinesRead file before after lines
lines_read laws keep file before after lines s =
    let text = codes "\n" ++ text_bytes lines in
    let pieces = Space 10 ∷ text_pieces lines in
    let read : AreRead Agree pieces text [] = (text_bytes lines, refl, refl, read_text laws lines s) in
    let tokens = tokens_of file before pieces in
    record {
      tokens = tokens;
      kept = keep Agree file before text pieces read (tt, fine_text lines s) (λ e. absurd (no_file e));
      words = with_marks (before ++ (text ++ after)) tokens (words_of lines)
          (subst (StandAs (before ++ (text ++ after)) tokens) (all_words lines) (told file (before ++ (text ++ after)) before text after pieces refl read));
    }
