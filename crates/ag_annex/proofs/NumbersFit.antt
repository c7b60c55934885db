-- The numbers of an annex are no larger than may be.
use Rattle.std.proofs.Common.{◌≡◌, ◌≤◌, ◌+◌, ◌-◌, ◌^◌, inl, inr, ℕ, zero, suc, Bool, true, false, not, ◌==◌, ◌&&◌, if◌then◌else◌, List, [], ◌∷◌, ◌++◌, Some, slice_get, slice_index_or, slice_range, length, take, drop, refl, sym, ap, subst, ◌∙◌, append_assoc, arith}
use Rattle.std.specs.List.{list_all}
use Rattle.std.proofs.Math.Seq.{drop-append_seam, take-append_seam}
use Rattle.std.proofs.lemmas.Bool.{cases_lt, and_parts, eqb-true}
use Rattle.std.proofs.lemmas.List.{take-append-drop, length-append}
use Rattle.std.proofs.lemmas.List.Folds.{list_all-append}
use Rattle.ag_base.specs.declared.place.Rule.TheVariants.{WideNumber}
use Rattle.ag_grammar.specs.declared.grammar.Step.{Step}
use Rattle.ag_grammar.specs.declared.grammar.Step.TheVariants.{Expand, Shift}
use Rattle.ag_grammar.specs.declared.grammar.Symbol.{Symbol}
use Rattle.ag_grammar.specs.declared.grammar.Symbol.TheVariants.{Terminal, Nonterminal}
use Rattle.ag_grammar.specs.Grammar.{PlainGrammar, PlainProduction, IsProductionOf, Derives, productions_of}
use Rattle.ag_grammar.specs.Texts.{IsText}
use Rattle.ag_lex.specs.declared.token.Language.TheVariants.{Agree}
use Rattle.ag_lex.specs.declared.token.Token.{Token}
use Rattle.ag_lex.specs.declared.token.TokenKind.{TokenKind}
use Rattle.ag_lex.specs.declared.token.TokenKind.TheVariants.{Name, Number, Real, Text, Annex, Symbol as Sign}
use Rattle.ag_lex.specs.Answers.{bytes_before, bytes_inside}
use Rattle.ag_lex.specs.Rules.{KeepsRules, decimal}
use Rattle.ag_lex.specs.Tokens.{Piece, Space, Comment, Lexeme, AreRead, IsPiece, piece_bytes, tokens_of}
use Rattle.ag_aadl.specs.Marked.{marked, own}
use Rattle.ag_aadl.specs.Words.{listed}
use Rattle.ag_terms.specs.Names.{same}
use Rattle.ag_annex.specs.Annexes.{AreAnnexTokens}
use Rattle.ag_annex.specs.Expressions.{AreNumbersFit}
use Rattle.ag_annex.specs.Grammar.{annex}
use Rattle.ag_annex.specs.Marks.{number_mark}
use Rattle.ag_annex.specs.Terminals.{number}
use Rattle.ag_annex.specs.Words.{reserved_words, known_symbols, terminal_of, terminals_of}

-- ---- pieces

-- a number among the pieces is at most 2^47
abbrev IsSmall : Piece → Type 0
IsSmall (Lexeme Number text) = decimal text ≤ 2 ^ 47
IsSmall _ = Unit {0}

abbrev AreSmall : List Piece → Type 0
AreSmall [] = Unit {0}
AreSmall (p ∷ ps) = IsSmall p × AreSmall ps

one-more : (front : List Piece) (p : Piece) (text here after : List ℕ) → AreRead Agree front text here → here ≡ piece_bytes p ++ after → IsPiece Agree p after → AreRead Agree (front ++ p ∷ []) text after
one-more [] p text here after r e is = (after, r ∙ e, is, refl)
one-more (q ∷ front) p text here after r e is = (r.0, r.1, r.2, one-more front p r.0 here after r.3 e is)

one-small : (text : List ℕ) → KeepsRules Agree text → (done after : List ℕ) (front : List Piece) (p : Piece) → text ≡ done ++ (piece_bytes p ++ after) → AreRead Agree front text (piece_bytes p ++ after) → IsPiece Agree p after → IsSmall p
one-small text keeps done after front (Space b) e r is = tt
one-small text keeps done after front (Comment c) e r is = tt
one-small text keeps done after front (Lexeme Name o) e r is = tt
one-small text keeps done after front (Lexeme Real o) e r is = tt
one-small text keeps done after front (Lexeme Text o) e r is = tt
one-small text keeps done after front (Lexeme Annex o) e r is = tt
one-small text keeps done after front (Lexeme Sign o) e r is = tt
one-small text keeps done after front (Lexeme Number o) e r is =
    elim (cases_lt (2 ^ 47) (decimal o)) [
      | inl h ↦
          let here : drop (length done) text ≡ o ++ after = ap (drop (length done)) e ∙ drop-append_seam done (o ++ after) in
          absurd (keeps (length done) WideNumber (inr (record {
            within = omega (arith, ap length e, length-append done (o ++ after));
            pieces = front;
            before = subst (λ z. AreRead Agree front text z) (sym here) r;
            broken = (o, after, here, is, h);
          })))
      | inr h ↦ h
    ]

small : (text : List ℕ) → KeepsRules Agree text → (done here : List ℕ) (front ps : List Piece) → text ≡ done ++ here → AreRead Agree front text here → AreRead Agree ps here [] → AreSmall ps
small text keeps done here front [] e r s = tt
small text keeps done here front (p ∷ ps) e r s =
    let parts : text ≡ done ++ (piece_bytes p ++ s.0) = e ∙ ap (λ z. done ++ z) s.1 in (
      one-small text keeps done s.0 front p parts (subst (λ z. AreRead Agree front text z) s.1 r) s.2,
      small text keeps (done ++ piece_bytes p) s.0 (front ++ p ∷ []) ps (parts ∙ sym (append_assoc done (piece_bytes p) s.0)) (one-more front p text here s.0 r s.1 s.2) s.3,
    )

-- ---- tokens

-- a number among the tokens is at most 2^47
abbrev AreSmallIn : List ℕ → List Token → Type 0
AreSmallIn bytes [] = Unit {0}
AreSmallIn bytes (t ∷ ts) = (t.kind ≡ Number → decimal (own bytes t) ≤ 2 ^ 47) × AreSmallIn bytes ts

own-is : (bytes before text after : List ℕ) → bytes ≡ before ++ (text ++ after) → slice_range bytes (length before) (length before + length text) ≡ text
own-is bytes before text after e =
    let n : length before + length text - length before ≡ length text = omega arith in
    ap (λ z. slice_range z (length before) (length before + length text)) e
    ∙ ap (take (length before + length text - length before)) (drop-append_seam before (text ++ after))
    ∙ ap (λ k. take k (text ++ after)) n ∙ take-append_seam text after

behind : (bytes before text rest own after : List ℕ) → bytes ≡ before ++ (text ++ rest) → text ≡ own ++ after → bytes ≡ (before ++ own) ++ (after ++ rest)
behind bytes before text rest own after e f =
    e ∙ ap (λ z. before ++ (z ++ rest)) f ∙ ap (λ z. before ++ z) (append_assoc own after rest) ∙ sym (append_assoc before own (after ++ rest))

told : (bytes before text rest : List ℕ) (file : ℕ) (ps : List Piece) → bytes ≡ before ++ (text ++ rest) → AreRead Agree ps text [] → AreSmall ps → AreSmallIn bytes (tokens_of file before ps)
told bytes before text rest file [] e r s = tt
told bytes before text rest file (Space b ∷ ps) e r s = told bytes (before ++ b ∷ []) r.0 rest file ps (behind bytes before text rest (b ∷ []) r.0 e r.1) r.3 s.1
told bytes before text rest file (Comment c ∷ ps) e r s = told bytes (before ++ piece_bytes (Comment c)) r.0 rest file ps (behind bytes before text rest (piece_bytes (Comment c)) r.0 e r.1) r.3 s.1
told bytes before text rest file (Lexeme kind o ∷ ps) e r s =
    let parts : bytes ≡ before ++ (o ++ (r.0 ++ rest)) = behind bytes before text rest o r.0 e r.1 ∙ append_assoc before o (r.0 ++ rest) in
    let bytes_are : slice_range bytes (length before) (length before + length o) ≡ o = own-is bytes before o (r.0 ++ rest) parts in (
      λ h. subst (λ z. decimal z ≤ 2 ^ 47) (sym bytes_are) (subst (λ k. IsSmall (Lexeme k o)) h s.0),
      told bytes (before ++ o) r.0 rest file ps (behind bytes before text rest o r.0 e r.1) r.3 s.1,
    )

pub tokens-small : (bytes : List ℕ) (ts : List Token) → AreAnnexTokens bytes ts → AreSmallIn bytes ts
tokens-small bytes ts a =
    let annex = a.annex in
    let before = bytes_before bytes annex in
    let text = bytes_inside bytes annex in
    let start = annex.start + 3 in
    let count = annex.end - 3 - start in
    let rest = drop count (drop start bytes) in
    let parts : bytes ≡ before ++ (text ++ rest) = sym (ap (λ z. before ++ z) (take-append-drop count (drop start bytes)) ∙ take-append-drop start bytes) in
    let read = a.kept.read in
    subst (λ z. AreSmallIn bytes z) (sym read.told) (told bytes before text rest annex.place.file read.pieces parts read.read (small text a.kept.kept [] text [] read.pieces refl refl read.read))

-- ---- terminals

listed-not : (k : ℕ) (es : List (List ℕ × ℕ)) (otherwise : ℕ) (text : List ℕ) → list_all (λ e. not (e.1 == k)) es ≡ true → (otherwise == k) ≡ false → (listed es otherwise text == k) ≡ false
listed-not k [] otherwise text h none = none
listed-not k (e ∷ es) otherwise text h none =
    let p = and_parts (not (e.1 == k)) (list_all (λ x. not (x.1 == k)) es) h in
    either (same text e.0) p.0 (listed-not k es otherwise text p.1 none)
  where
    unnot : (b : Bool) → not b ≡ true → b ≡ false
    unnot true h = absurd cc
    unnot false h = refl

    either : (b : Bool) → not (e.1 == k) ≡ true → (listed es otherwise text == k) ≡ false → ((if b then e.1 else listed es otherwise text) == k) ≡ false
    either true p q = unnot (e.1 == k) p
    either false p q = q

names-not : list_all (λ e. not (e.1 == number)) reserved_words ≡ true
unfolding reserved_words
names-not = refl

signs-not : list_all (λ e. not (e.1 == number)) known_symbols ≡ true
unfolding known_symbols
signs-not = refl

contrary : (n : ℕ) → (n == number) ≡ false → n ≡ number → ⊥
contrary n h e = let f : (n == number) ≡ true = ap (λ k. k == number) e in absurd cc

kind-is : (kind : TokenKind) (text : List ℕ) → terminal_of kind text ≡ number → kind ≡ Number
kind-is Name text h = absurd (contrary (terminal_of Name text) (listed-not number reserved_words 0 text names-not refl) h)
kind-is Number text h = refl
kind-is Real text h = absurd (omega (arith, h))
kind-is Text text h = absurd (omega (arith, h))
kind-is Annex text h = absurd (omega (arith, h))
kind-is Sign text h = absurd (contrary (terminal_of Sign text) (listed-not number known_symbols 48 text signs-not refl) h)

-- ---- marks

-- the mark of numbers stands at the terminal of numbers alone
is-right : Symbol → Bool
is-right (Terminal t m) = if m == number_mark then t == number else true
is-right (Nonterminal n) = true

are-right : List Symbol → Bool
are-right symbols = list_all is-right symbols

all-right : List PlainProduction → Bool
all-right ps = list_all (λ p. are-right p.right) ps

-- what passes throughout a list passes at each place, and at a place behind the last where what stands there passes
at-place : {X : Type 0} (test : X → Bool) (xs : List X) (i : ℕ) (x : X) → list_all test xs ≡ true → slice_get xs i ≡ Some x → test x ≡ true
at-place test [] i x h e = absurd cc
at-place test (y ∷ xs) zero x h e = let same : y ≡ x = cc in ap test (sym same) ∙ (and_parts (test y) (list_all test xs) h).0
at-place test (y ∷ xs) (suc i) x h e = at-place test xs i x (and_parts (test y) (list_all test xs) h).1 e

at-any : {X : Type 0} (test : X → Bool) (xs : List X) (i : ℕ) (otherwise : X) → list_all test xs ≡ true → test otherwise ≡ true → test (slice_index_or xs i otherwise) ≡ true
at-any test [] i otherwise h o = o
at-any test (y ∷ xs) zero otherwise h o = (and_parts (test y) (list_all test xs) h).0
at-any test (y ∷ xs) (suc i) otherwise h o = at-any test xs i otherwise (and_parts (test y) (list_all test xs) h).1 o

production-right : (g : PlainGrammar) (n : ℕ) (p : PlainProduction) → list_all all-right g.nonterminals ≡ true → IsProductionOf g n p → are-right p.right ≡ true
unfolding all-right
production-right g n p h is = at-place (λ (q : PlainProduction). are-right q.right) (productions_of g n) is.0 p (at-any all-right g.nonterminals n [] h refl) is.1

both-right : (a b : List Symbol) → are-right a ≡ true → are-right b ≡ true → are-right (a ++ b) ≡ true
unfolding are-right
both-right a b x y = list_all-append is-right a b ∙ ap (λ q. q && list_all is-right b) x ∙ y

first-right : (s : Symbol) (symbols : List Symbol) → are-right (s ∷ symbols) ≡ true → (is-right s ≡ true) × (are-right symbols ≡ true)
unfolding are-right
first-right s symbols h = and_parts (is-right s) (list_all is-right symbols) h

-- so a token under it is a number
number-at : (t m : ℕ) → is-right (Terminal t m) ≡ true → m ≡ number_mark → t ≡ number
unfolding is-right
number-at t m h e =
    let here : (m == number_mark) ≡ true = ap (λ k. k == number_mark) e in
    eqb-true t number (sym (ap (λ (b : Bool). if b then t == number else true) here) ∙ h)

fit : (g : PlainGrammar) → list_all all-right g.nonterminals ≡ true → (bytes : List ℕ) (ts : List Token) (steps : List Step) (symbols : List Symbol) → are-right symbols ≡ true → Derives g steps symbols (terminals_of bytes ts) → AreSmallIn bytes ts →
    AreNumbersFit bytes (marked (terminals_of bytes ts) ts steps)
fit g right bytes ts [] symbols h d s = tt
fit g right bytes ts (Expand n ∷ steps) [] h d s = absurd d
fit g right bytes ts (Expand n ∷ steps) (Terminal t m ∷ symbols) h d s = absurd d
fit g right bytes ts (Expand n ∷ steps) (Nonterminal k ∷ symbols) h d s =
    fit g right bytes ts steps (d.0.right ++ symbols) (both-right d.0.right symbols (production-right g k d.0 right d.1) (first-right (Nonterminal k) symbols h).1) d.3 s
fit g right bytes ts (Shift mark ∷ steps) [] h d s = absurd d
fit g right bytes ts (Shift mark ∷ steps) (Nonterminal k ∷ symbols) h d s = absurd d
fit g right bytes [] (Shift mark ∷ steps) (Terminal t m ∷ symbols) h d s = absurd d
fit g right bytes (u ∷ ts) (Shift mark ∷ steps) (Terminal t m ∷ symbols) h d s =
    let p = first-right (Terminal t m) symbols h in
    (λ e. s.0 (kind-is u.kind (own bytes u) (d.0 ∙ number-at t m p.0 (sym d.1 ∙ e))), fit g right bytes ts steps symbols p.1 d.2 s.1)

annex-right : list_all all-right annex.nonterminals ≡ true
unfolding all-right are-right is-right
annex-right = refl

start-right : (n : ℕ) → are-right (Nonterminal n ∷ []) ≡ true
unfolding are-right is-right
start-right n = refl

pub numbers-fit : (bytes : List ℕ) (ts : List Token) (steps : List Step) → AreAnnexTokens bytes ts → IsText annex (terminals_of bytes ts) steps → AreNumbersFit bytes (marked (terminals_of bytes ts) ts steps)
numbers-fit bytes ts steps a text = fit annex annex-right bytes ts steps (Nonterminal annex.start ∷ []) (start-right annex.start) text (tokens-small bytes ts a)
