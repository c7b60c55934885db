-- The labels of an annex's clauses stand between quotes of its file, so they are UTF-8 where the file is.
use Rattle.std.proofs.Common.{◌≡◌, ℕ, zero, suc, ◌+◌, ◌-◌, ◌<◌, Bool, true, false, not, ◌||◌, ◌==◌, if◌then◌else◌, List, [], ◌∷◌, ◌++◌, length, get_or, take, drop, map, Some, refl, sym, ap, subst, ◌∙◌, codes, arith, append_assoc}
use Rattle.std.specs.Prelude.{slice_get, slice_index_or, slice_range}
use Rattle.std.specs.List.{list_all}
use Rattle.std.specs.Str.{IsUtf8, is_utf8}
use Rattle.std.proofs.Math.Seq.{get_or-append_seam, drop-append-add}
use Rattle.std.proofs.lemmas.Bool.{and_parts, and_from}
use Rattle.std.proofs.lemmas.List.{length-append, take-append-drop, take_at}
use Rattle.std.proofs.lemmas.List.Folds.{list_all-append}
use Rattle.std.proofs.lemmas.Str.{IsUtf8-nil, IsUtf8-drop, IsUtf8-take, IsUtf8-from_is_utf8, is_utf8-from_IsUtf8, IsCharBoundary-after_ascii, IsCharBoundary-before_ascii}
use Rattle.ag_grammar.specs.declared.grammar.Symbol.{Symbol}
use Rattle.ag_grammar.specs.declared.grammar.Symbol.TheVariants.{Terminal, Nonterminal}
use Rattle.ag_grammar.specs.declared.grammar.Step.{Step}
use Rattle.ag_grammar.specs.declared.grammar.Step.TheVariants.{Expand, Shift}
use Rattle.ag_grammar.specs.Grammar.{PlainProduction, IsProductionOf, Derives}
use Rattle.ag_lex.specs.declared.token.Language.TheVariants.{Agree}
use Rattle.ag_lex.specs.declared.token.TokenKind.{TokenKind}
use Rattle.ag_lex.specs.declared.token.TokenKind.TheVariants.{Name, Number, Real, Text, Annex, Symbol as Sign}
use Rattle.ag_lex.specs.declared.token.Token.{Token}
use Rattle.ag_lex.specs.Answers.{bytes_before, bytes_inside}
use Rattle.ag_lex.specs.Spelling.{Spells}
use Rattle.ag_lex.specs.Tokens.{Piece, Space, Comment, Lexeme, AreRead, token_of, tokens_of}
use Rattle.ag_aadl.specs.declared.marked.Marked.{Marked}
use Rattle.ag_aadl.specs.Marked.{marked, own, under, first_of, is_among, up_to, segments}
use Rattle.ag_aadl.specs.Words.{listed}
use Rattle.ag_terms.specs.declared.clauses.Clause.{Clause}
use Rattle.ag_terms.specs.declared.clauses.Clause.TheVariants as clause
use Rattle.ag_terms.specs.declared.clauses.Site.{Site}
use Rattle.ag_annex.specs.Annexes.{AreAnnexTokens, IsAnnex}
use Rattle.ag_annex.specs.Clauses.{value_of, some_value, vars_of, var_of, equal_of, label_of, labelled_of, node_of, clause_under, clause_of, first_mark, clause_marks}
use Rattle.ag_annex.specs.Grammar.{annex}
use Rattle.ag_annex.specs.Marks.{assume_mark, guarantee_mark, lemma_mark, eq_mark, assign_mark, const_mark, label_mark}
use Rattle.ag_annex.specs.Terminals.{name, text, other_token}
use Rattle.ag_annex.specs.Words.{terminal_of, terminals_of, reserved_words, known_symbols}
use Rattle.ag_unparse.specs.Printable.{IsLabelText, AreLabelsText}
use Rattle.ag_unparse.proofs.TokensLines.{further}

-- ---- parts of texts

-- what stands behind an ASCII byte of a text is text
behind_ascii : (before rest : List ℕ) (a : ℕ) → a < 128 → IsUtf8 (before ++ (a ∷ rest)) → IsUtf8 rest
behind_ascii before rest a low u =
    let bytes = before ++ (a ∷ rest) in
    let here : get_or bytes (length before) 0 < 128 = subst (λ (z : ℕ). z < 128) (sym (get_or-append_seam before a rest 0)) low in
    let within : length before < length bytes = omega (arith, length-append before (a ∷ rest)) in
    subst IsUtf8 (drop-append-add before (a ∷ rest) 1) (IsUtf8-drop bytes (length before + 1) u (IsCharBoundary-after_ascii bytes (length before) u within here))

-- and what stands before one
before_ascii : (part after : List ℕ) (b : ℕ) → b < 128 → IsUtf8 (part ++ (b ∷ after)) → IsUtf8 part
before_ascii part after b low u =
    let bytes = part ++ (b ∷ after) in
    let here : get_or bytes (length part) 0 < 128 = subst (λ (z : ℕ). z < 128) (sym (get_or-append_seam part b after 0)) low in
    let within : length part < length bytes = omega (arith, length-append part (b ∷ after)) in
    subst IsUtf8 (take_at part (b ∷ after) (length part) refl) (IsUtf8-take bytes (length part) u (IsCharBoundary-before_ascii bytes (length part) within here))

-- ---- tokens

is_text : List ℕ → Bool
is_text bytes = is_utf8 bytes

text_is : (bytes : List ℕ) → IsUtf8 bytes → is_text bytes ≡ true
unfolding is_text
text_is bytes u = is_utf8-from_IsUtf8 bytes u

is_from : (bytes : List ℕ) → is_text bytes ≡ true → IsUtf8 bytes
unfolding is_text
is_from bytes h = IsUtf8-from_is_utf8 bytes h

-- where the grammar takes the token for a text, what stands between its quotes is one
abbrev has_text : List ℕ → Token → Bool
has_text bytes t = not (terminal_of t.kind (own bytes t) == text) || is_text (label_of bytes t)

no_text : (b : Bool) (x : ℕ) → not (x == text) ≡ true → (not (x == text) || b) ≡ true
no_text b x h = rw h refl

other_if : (b : Bool) (x y : ℕ) → not (x == text) ≡ true → not (y == text) ≡ true → not ((if b then x else y) == text) ≡ true
other_if true x y f g = f
other_if false x y f g = g

listed_other : (es : List (List ℕ × ℕ)) (o : ℕ) (bytes : List ℕ) → list_all (λ e. not (e.1 == text)) es ≡ true → not (o == text) ≡ true → not (listed es o bytes == text) ≡ true
listed_other [] o bytes all h = h
listed_other (e ∷ es) o bytes all h =
    let parts = and_parts (not (e.1 == text)) (list_all (λ f. not (f.1 == text)) es) all in
    other_if _ e.1 (listed es o bytes) parts.0 (listed_other es o bytes parts.1 h)

words_other : list_all (λ e. not (e.1 == text)) reserved_words ≡ true
unfolding reserved_words
words_other = refl

symbols_other : list_all (λ e. not (e.1 == text)) known_symbols ≡ true
unfolding known_symbols
symbols_other = refl

-- a token's bytes within its quotes
inner_is : (bytes before piece inner after : List ℕ) → bytes ≡ before ++ (piece ++ after) → piece ≡ codes "\"" ++ (inner ++ codes "\"")
    → slice_range bytes (length before + 1) ((length before + length piece) - 1) ≡ inner
inner_is bytes before piece inner after e q =
    let count : length piece ≡ length inner + 2 = ap length q ∙ omega (arith, length-append inner (codes "\"")) in
    let fewer : length inner ≡ ((length before + length piece) - 1) - (length before + 1) = omega arith in
    let split : piece ++ after ≡ 34 ∷ (inner ++ (34 ∷ after)) = ap (λ (z : List ℕ). z ++ after) q ∙ ap (λ (z : List ℕ). 34 ∷ z) (append_assoc inner (codes "\"") after) in
    let whole : bytes ≡ before ++ (34 ∷ (inner ++ (34 ∷ after))) = e ∙ ap (λ (z : List ℕ). before ++ z) split in
    let front : drop (length before + 1) bytes ≡ inner ++ (34 ∷ after) = ap (drop (length before + 1)) whole ∙ drop-append-add before (34 ∷ (inner ++ (34 ∷ after))) 1 in
    ap (take (((length before + length piece) - 1) - (length before + 1))) front ∙ take_at inner (34 ∷ after) (((length before + length piece) - 1) - (length before + 1)) fewer

inner_text : (bytes before piece inner after : List ℕ) → IsUtf8 bytes → bytes ≡ before ++ (piece ++ after) → piece ≡ codes "\"" ++ (inner ++ codes "\"") → IsUtf8 inner
inner_text bytes before piece inner after u e q =
    let split : piece ++ after ≡ 34 ∷ (inner ++ (34 ∷ after)) = ap (λ (z : List ℕ). z ++ after) q ∙ ap (λ (z : List ℕ). 34 ∷ z) (append_assoc inner (codes "\"") after) in
    let whole : bytes ≡ before ++ (34 ∷ (inner ++ (34 ∷ after))) = e ∙ ap (λ (z : List ℕ). before ++ z) split in
    before_ascii inner after 34 (omega arith) (behind_ascii before (inner ++ (34 ∷ after)) 34 (omega arith) (subst IsUtf8 whole u))

token_has : (file : ℕ) (bytes before : List ℕ) (kind : TokenKind) (piece after : List ℕ) → IsUtf8 bytes → bytes ≡ before ++ (piece ++ after) → Spells Agree kind piece → has_text bytes (token_of file before kind piece) ≡ true
token_has file bytes before Name piece after u e s =
    let t = token_of file before Name piece in
    no_text (is_text (label_of bytes t)) (terminal_of Name (own bytes t)) (listed_other reserved_words name (own bytes t) words_other refl)
token_has file bytes before Number piece after u e s = refl
token_has file bytes before Real piece after u e s = refl
token_has file bytes before Text piece after u e s = text_is (label_of bytes (token_of file before Text piece)) (subst IsUtf8 (sym (inner_is bytes before piece s.0 after e s.1)) (inner_text bytes before piece s.0 after u e s.1))
token_has file bytes before Annex piece after u e s = refl
token_has file bytes before Sign piece after u e s =
    let t = token_of file before Sign piece in
    no_text (is_text (label_of bytes t)) (terminal_of Sign (own bytes t)) (listed_other known_symbols other_token (own bytes t) symbols_other refl)

tokens_have : (file : ℕ) (bytes before here after : List ℕ) (ps : List Piece) → IsUtf8 bytes → bytes ≡ before ++ (here ++ after) → AreRead Agree ps here [] → list_all (has_text bytes) (tokens_of file before ps) ≡ true
tokens_have file bytes before here after [] u e r = refl
tokens_have file bytes before here after (Space b ∷ ps) u e r = tokens_have file bytes (before ++ b ∷ []) r.0 after ps u (further bytes before here after (b ∷ []) r.0 e r.1) r.3
tokens_have file bytes before here after (Comment inner ∷ ps) u e r =
    tokens_have file bytes (before ++ (codes "--" ++ inner)) r.0 after ps u (further bytes before here after (codes "--" ++ inner) r.0 e r.1) r.3
tokens_have file bytes before here after (Lexeme kind piece ∷ ps) u e r =
    let split = e ∙ ap (λ (z : List ℕ). before ++ (z ++ after)) r.1 ∙ ap (λ (z : List ℕ). before ++ z) (append_assoc piece r.0 after) in
    and_from (has_text bytes (token_of file before kind piece)) (list_all (has_text bytes) (tokens_of file (before ++ piece) ps))
    (token_has file bytes before kind piece (r.0 ++ after) u split r.2.spelled)
    (tokens_have file bytes (before ++ piece) r.0 after ps u (further bytes before here after piece r.0 e r.1) r.3)

annex_has : (bytes : List ℕ) (tokens : List Token) → IsUtf8 bytes → AreAnnexTokens bytes tokens → list_all (has_text bytes) tokens ≡ true
annex_has bytes tokens u a =
    let before = bytes_before bytes a.annex in
    let inside = bytes_inside bytes a.annex in
    let from = a.annex.start + 3 in
    let count = (a.annex.end - 3) - from in
    let rest = drop count (drop from bytes) in
    let whole : bytes ≡ before ++ (inside ++ rest) = sym (ap (λ (z : List ℕ). before ++ z) (take-append-drop count (drop from bytes)) ∙ take-append-drop from bytes) in
    subst (λ (z : List Token). list_all (has_text bytes) z ≡ true) (sym a.kept.read.told) (tokens_have a.annex.place.file bytes before inside rest a.kept.read.pieces u whole a.kept.read.read)

-- ---- tokens under marks

-- what the token holds between its quotes is text, if it stands under the mark of a label
abbrev is_fit : List ℕ → Marked → Bool
is_fit bytes m = not (m.mark == label_mark) || is_text (label_of bytes m.token)

-- the mark of a label is that of a text
abbrev is_labelled : Symbol → Bool
is_labelled (Terminal t k) = not (k == label_mark) || t == text
is_labelled (Nonterminal n) = true

abbrev are_labelled : List PlainProduction → Bool
are_labelled ps = list_all (λ p. list_all is_labelled p.right) ps

annex_labelled : list_all are_labelled annex.nonterminals ≡ true
annex_labelled = refl

labelled_at : (pss : List (List PlainProduction)) (i : ℕ) → list_all are_labelled pss ≡ true → are_labelled (slice_index_or pss i []) ≡ true
labelled_at [] i h = refl
labelled_at (ps ∷ pss) zero h = (and_parts (are_labelled ps) (list_all are_labelled pss) h).0
labelled_at (ps ∷ pss) (suc i) h = labelled_at pss i (and_parts (are_labelled ps) (list_all are_labelled pss) h).1

one_labelled : (ps : List PlainProduction) (i : ℕ) (p : PlainProduction) → are_labelled ps ≡ true → slice_get ps i ≡ Some p → list_all is_labelled p.right ≡ true
one_labelled [] i p all e = absurd cc
one_labelled (q ∷ ps) zero p all e =
    let one : q ≡ p = cc in
    subst (λ (z : PlainProduction). list_all is_labelled z.right ≡ true) one (and_parts (list_all is_labelled q.right) (are_labelled ps) all).0
one_labelled (q ∷ ps) (suc i) p all e = one_labelled ps i p (and_parts (list_all is_labelled q.right) (are_labelled ps) all).1 e

production_labelled : (n : ℕ) (p : PlainProduction) → IsProductionOf annex n p → list_all is_labelled p.right ≡ true
production_labelled n p is = one_labelled (slice_index_or annex.nonterminals n []) is.0 p (labelled_at annex.nonterminals n annex_labelled) is.1

through : (a b c : Bool) → (not a || b) ≡ true → (not b || c) ≡ true → (not a || c) ≡ true
through true true c f g = g
through true false c f g = absurd cc
through false b c f g = refl

fitting : (bytes : List ℕ) (steps : List Step) (symbols : List Symbol) (tokens : List Token) → Derives annex steps symbols (terminals_of bytes tokens) → list_all is_labelled symbols ≡ true → list_all (has_text bytes) tokens ≡ true
    → list_all (is_fit bytes) (marked (terminals_of bytes tokens) tokens steps) ≡ true
fitting bytes [] [] [] d labelled have = refl
fitting bytes (Shift mark ∷ steps) (Terminal t k ∷ symbols) (token ∷ tokens) d labelled have =
    let first = and_parts (not (k == label_mark) || t == text) (list_all is_labelled symbols) labelled in
    let one = and_parts (has_text bytes token) (list_all (has_text bytes) tokens) have in
    let so = subst (λ (z : ℕ). (not (z == label_mark) || t == text) ≡ true) (sym d.1) first.0 in
    let there = subst (λ (z : ℕ). (not (mark == label_mark) || z == text) ≡ true) (sym d.0) so in
    let terminal = terminal_of token.kind (own bytes token) in
    let fit = through (mark == label_mark) (terminal == text) (is_text (label_of bytes token)) there one.0 in
    and_from (is_fit bytes (record { mark = mark; terminal = terminal; token = token })) (list_all (is_fit bytes) (marked (terminals_of bytes tokens) tokens steps)) fit (fitting bytes steps symbols tokens d.2 first.1 one.1)
fitting bytes (Expand label ∷ steps) (Nonterminal n ∷ symbols) tokens d labelled have =
    let inner = list_all-append is_labelled d.0.right symbols ∙ and_from (list_all is_labelled d.0.right) (list_all is_labelled symbols) (production_labelled n d.0 d.1) labelled in
    fitting bytes steps (d.0.right ++ symbols) tokens d.3 inner have
fitting bytes _ _ _ d labelled have = absurd d

-- ---- clauses

fit_up_to : (bytes ks : List ℕ) (ms : List Marked) → list_all (is_fit bytes) ms ≡ true → list_all (is_fit bytes) (up_to ks ms) ≡ true
fit_up_to bytes ks [] h = refl
fit_up_to bytes ks (m ∷ ms) h =
    let parts = and_parts (is_fit bytes m) (list_all (is_fit bytes) ms) h in
    step (is_among ks m.mark) (and_from (is_fit bytes m) (list_all (is_fit bytes) (up_to ks ms)) parts.0 (fit_up_to bytes ks ms parts.1))
  where
    step : (c : Bool) → list_all (is_fit bytes) (m ∷ up_to ks ms) ≡ true → list_all (is_fit bytes) (if c then [] else m ∷ up_to ks ms) ≡ true
    step true one = refl
    step false one = one

fit_segments : (bytes ks : List ℕ) (ms : List Marked) → list_all (is_fit bytes) ms ≡ true → list_all (list_all (is_fit bytes)) (segments ks ms) ≡ true
fit_segments bytes ks [] h = refl
fit_segments bytes ks (m ∷ ms) h =
    let parts = and_parts (is_fit bytes m) (list_all (is_fit bytes) ms) h in
    step (is_among ks m.mark) (and_from (is_fit bytes m) (list_all (is_fit bytes) (up_to ks ms)) parts.0 (fit_up_to bytes ks ms parts.1)) (fit_segments bytes ks ms parts.1)
  where
    step : (c : Bool) → list_all (is_fit bytes) (m ∷ up_to ks ms) ≡ true → list_all (list_all (is_fit bytes)) (segments ks ms) ≡ true
        → list_all (list_all (is_fit bytes)) (if c then (m ∷ up_to ks ms) ∷ segments ks ms else segments ks ms) ≡ true
    step true one more = and_from (list_all (is_fit bytes) (m ∷ up_to ks ms)) (list_all (list_all (is_fit bytes)) (segments ks ms)) one more
    step false one more = more

first_label : (bytes : List ℕ) (ms : List Marked) → list_all (is_fit bytes) ms ≡ true → is_text (label_of bytes (first_of (under label_mark ms))) ≡ true
first_label bytes [] h = text_is [] IsUtf8-nil
first_label bytes (m ∷ ms) h =
    let parts = and_parts (is_fit bytes m) (list_all (is_fit bytes) ms) h in
    step (m.mark == label_mark) parts.0 (first_label bytes ms parts.1)
  where
    step : (c : Bool) → (not c || is_text (label_of bytes m.token)) ≡ true → is_text (label_of bytes (first_of (under label_mark ms))) ≡ true
        → is_text (label_of bytes (first_of (if c then m.token ∷ under label_mark ms else under label_mark ms))) ≡ true
    step true one more = one
    step false one more = more

either : (b : Bool) (c d : Clause) → IsLabelText c → IsLabelText d → IsLabelText (if b then c else d)
either true c d f g = f
either false c d f g = g

labelled_text : (bytes : List ℕ) (mark : ℕ) (ms : List Marked) → list_all (is_fit bytes) ms ≡ true → IsLabelText (clause_under bytes mark ms)
labelled_text bytes mark ms h =
    let u = is_from (label_of bytes (first_of (under label_mark ms))) (first_label bytes ms h) in
    let labelled = labelled_of bytes mark ms in
    let last = clause.Node (node_of bytes ms) in
    let sixth = if mark == const_mark then clause.Const (var_of bytes ms) (value_of bytes ms) else last in
    let fifth = if mark == assign_mark then clause.Assign (equal_of bytes ms) else sixth in
    let fourth = if mark == eq_mark then clause.Eq (vars_of bytes ms) (some_value bytes ms) else fifth in
    let third = if mark == lemma_mark then clause.Lemma labelled else fourth in
    let second = if mark == guarantee_mark then clause.Guarantee labelled else third in
    either (mark == assume_mark) (clause.Assume labelled) second u
    (either (mark == guarantee_mark) (clause.Guarantee labelled) third u
    (either (mark == lemma_mark) (clause.Lemma labelled) fourth u
    (either (mark == eq_mark) (clause.Eq (vars_of bytes ms) (some_value bytes ms)) fifth tt
    (either (mark == assign_mark) (clause.Assign (equal_of bytes ms)) sixth tt
    (either (mark == const_mark) (clause.Const (var_of bytes ms) (value_of bytes ms)) last tt tt)))))

labels_text : (bytes : List ℕ) (parts : List (List Marked)) → list_all (list_all (is_fit bytes)) parts ≡ true → AreLabelsText (map (clause_of bytes) parts)
labels_text bytes [] h = tt
labels_text bytes (part ∷ parts) h =
    let both = and_parts (list_all (is_fit bytes) part) (list_all (list_all (is_fit bytes)) parts) h in
    (labelled_text bytes (first_mark part) part both.0, labels_text bytes parts both.1)

-- ---- the law

pub labels_are_text : (bytes : List ℕ) (tokens : List Token) (site : Site) (clauses : List Clause) → IsUtf8 bytes → AreAnnexTokens bytes tokens → IsAnnex bytes tokens site clauses → AreLabelsText clauses
labels_are_text bytes tokens site clauses u a r =
    let ms = marked (terminals_of bytes tokens) tokens r.steps in
    let fit = fitting bytes r.steps (Nonterminal annex.start ∷ []) tokens r.text refl (annex_has bytes tokens u a) in
    subst AreLabelsText (sym r.told) (labels_text bytes (segments clause_marks ms) (fit_segments bytes clause_marks ms fit))
