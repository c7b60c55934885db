-- Behind each name of an annex stands the annex's text, and each such text is an annex among the tokens.
use Rattle.std.proofs.Common.{◌≡◌, ℕ, zero, suc, Bool, true, false, ◌==◌, ◌&&◌, ◌||◌, not, List, [], ◌∷◌, ◌++◌, refl, sym, subst, ◌∙◌}
use Rattle.std.specs.Prelude.{slice_index_or}
use Rattle.std.specs.List.{All, Contains, list_all}
use Rattle.std.proofs.lemmas.Bool.{and_parts, and_from, not-true, eq-eqb, eqb-true}
use Rattle.std.proofs.lemmas.List.Elements.{All-nil, All-cons, All-head, All-tail, All-weaker, All-contains_itself}
use Rattle.std.proofs.lemmas.List.Folds.{list_all-append}
use Rattle.ag_grammar.specs.declared.grammar.Symbol.{Symbol}
use Rattle.ag_grammar.specs.declared.grammar.Symbol.TheVariants.{Terminal, Nonterminal}
use Rattle.ag_grammar.specs.declared.grammar.Step.{Step}
use Rattle.ag_grammar.specs.declared.grammar.Step.TheVariants.{Expand, Shift}
use Rattle.ag_grammar.specs.Grammar.{PlainProduction, IsProductionOf, Derives}
use Rattle.ag_lex.specs.declared.token.Language.TheVariants.{Aadl}
use Rattle.ag_lex.specs.declared.token.Token.{Token}
use Rattle.ag_lex.specs.declared.token.TokenKind.{TokenKind}
use Rattle.ag_lex.specs.declared.token.TokenKind.TheVariants as kinds
use Rattle.ag_lex.specs.Answers.{IsAnnexOf}
use Rattle.ag_lex.specs.Tokens.{AreTokens}
use Rattle.ag_aadl.specs.declared.marked.Marked.{Marked}
use Rattle.ag_aadl.specs.Grammar.{aadl}
use Rattle.ag_aadl.specs.Marked.{marked, own}
use Rattle.ag_aadl.specs.Marks.{annex_name_mark, annex_text_mark}
use Rattle.ag_aadl.specs.Terminals.{name, annex_text, other_token}
use Rattle.ag_aadl.specs.Words.{terminal_of, terminals_of, reserved_words, known_symbols}
use Rattle.ag_print.proofs.PlainTokens.{listed_other}
use Rattle.ag_print.proofs.Segmented.{given}
use Rattle.ag_print.proofs.Situations.{all_at}

-- behind each name of an annex its text stands, and one stands first where it is due
abbrev pub is_paired : Bool → List Marked → Bool
is_paired due [] = not due
is_paired due (m ∷ ms) = (not due || m.mark == annex_text_mark) && is_paired (m.mark == annex_name_mark) ms

-- P holds of the token if it is marked as an annex's text
abbrev pub IsTextOf : (Token → Type 0) → Marked → Type 0
IsTextOf P m = m.mark ≡ annex_text_mark → P m.token

-- ---- the grammar

-- the mark of an annex's text is one of annexes alone
abbrev is_texted : Symbol → Bool
is_texted (Terminal t k) = not (k == annex_text_mark) || t == annex_text
is_texted (Nonterminal n) = true

-- behind each name of an annex its text stands, and one stands first where it is due
abbrev are_paired : List Symbol → Bool → Bool
are_paired [] due = not due
are_paired (Terminal t k ∷ symbols) due = (not due || k == annex_text_mark) && are_paired symbols (k == annex_name_mark)
are_paired (Nonterminal n ∷ symbols) due = not due && are_paired symbols false

abbrev is_annexed : PlainProduction → Bool
is_annexed p = list_all is_texted p.right && are_paired p.right false

abbrev are_annexed : List PlainProduction → Bool
are_annexed ps = list_all is_annexed ps

aadl_annexed : list_all are_annexed aadl.nonterminals ≡ true
aadl_annexed = refl

annexed_at : (pss : List (List PlainProduction)) (i : ℕ) → list_all are_annexed pss ≡ true → are_annexed (slice_index_or pss i []) ≡ true
annexed_at [] i h = refl
annexed_at (ps ∷ pss) zero h = (and_parts (are_annexed ps) (list_all are_annexed pss) h).0
annexed_at (ps ∷ pss) (suc i) h = annexed_at pss i (and_parts (are_annexed ps) (list_all are_annexed pss) h).1

production_annexed : (n : ℕ) (p : PlainProduction) → IsProductionOf aadl n p → (list_all is_texted p.right ≡ true) × (are_paired p.right false ≡ true)
production_annexed n p is =
    let one = all_at is_annexed (slice_index_or aadl.nonterminals n []) is.0 p (annexed_at aadl.nonterminals n aadl_annexed) is.1 in
    let parts = and_parts (list_all is_texted p.right) (are_paired p.right false) one in
    (parts.0, parts.1)

pairs_joined : (a b : List Symbol) (due : Bool) → are_paired a due ≡ true → are_paired b false ≡ true → are_paired (a ++ b) due ≡ true
pairs_joined [] b true h next = absurd cc
pairs_joined [] b false h next = next
pairs_joined (Terminal t k ∷ a) b due h next =
    let parts = and_parts (not due || k == annex_text_mark) (are_paired a (k == annex_name_mark)) h in
    and_from (not due || k == annex_text_mark) (are_paired (a ++ b) (k == annex_name_mark)) parts.0 (pairs_joined a b (k == annex_name_mark) parts.1 next)
pairs_joined (Nonterminal n ∷ a) b due h next =
    let parts = and_parts (not due) (are_paired a false) h in
    and_from (not due) (are_paired (a ++ b) false) parts.0 (pairs_joined a b false parts.1 next)

-- ---- its texts

pairs_stand : (bytes : List ℕ) (steps : List Step) (symbols : List Symbol) (tokens : List Token) (due : Bool) → Derives aadl steps symbols (terminals_of bytes tokens) → are_paired symbols due ≡ true
    → is_paired due (marked (terminals_of bytes tokens) tokens steps) ≡ true
pairs_stand bytes [] [] [] due d h = h
pairs_stand bytes (Shift mark ∷ steps) (Terminal t k ∷ symbols) (token ∷ tokens) due d h =
    let ms = marked (terminals_of bytes tokens) tokens steps in
    let parts = and_parts (not due || k == annex_text_mark) (are_paired symbols (k == annex_name_mark)) h in
    let later = pairs_stand bytes steps symbols tokens (k == annex_name_mark) d.2 parts.1 in
    subst (λ (z : ℕ). ((not due || z == annex_text_mark) && is_paired (z == annex_name_mark) ms) ≡ true) (sym d.1) (and_from (not due || k == annex_text_mark) (is_paired (k == annex_name_mark) ms) parts.0 later)
pairs_stand bytes (Expand label ∷ steps) (Nonterminal n ∷ symbols) tokens due d h =
    let parts = and_parts (not due) (are_paired symbols false) h in
    let whole = pairs_joined d.0.right symbols false (production_annexed n d.0 d.1).1 parts.1 in
    pairs_stand bytes steps (d.0.right ++ symbols) tokens due d.3 (subst (λ (z : Bool). are_paired (d.0.right ++ symbols) z ≡ true) (sym (not-true due parts.0)) whole)
pairs_stand bytes _ _ _ due d h = absurd d

texts_stand : (bytes : List ℕ) (P : Token → Type 0) (steps : List Step) (symbols : List Symbol) (tokens : List Token) → Derives aadl steps symbols (terminals_of bytes tokens) → list_all is_texted symbols ≡ true
    → All (λ t. terminal_of t.kind (own bytes t) ≡ annex_text → P t) tokens → All (IsTextOf P) (marked (terminals_of bytes tokens) tokens steps)
texts_stand bytes P [] [] [] d h all = All-nil (IsTextOf P)
texts_stand bytes P (Shift mark ∷ steps) (Terminal t k ∷ symbols) (token ∷ tokens) d h all =
    let Fine = λ (u : Token). terminal_of u.kind (own bytes u) ≡ annex_text → P u in
    let first = and_parts (not (k == annex_text_mark) || t == annex_text) (list_all is_texted symbols) h in
    let so = subst (λ (z : ℕ). (not (z == annex_text_mark) || t == annex_text) ≡ true) (sym d.1) first.0 in
    let there = subst (λ (z : ℕ). (not (mark == annex_text_mark) || z == annex_text) ≡ true) (sym d.0) so in
    let terminal = terminal_of token.kind (own bytes token) in
    let here = λ (e : mark ≡ annex_text_mark). All-head Fine token tokens all (eqb-true terminal annex_text (given (mark == annex_text_mark) (terminal == annex_text) there (eq-eqb mark annex_text_mark e))) in
    All-cons (IsTextOf P) (record { mark = mark; terminal = terminal; token = token }) (marked (terminals_of bytes tokens) tokens steps) here
    (texts_stand bytes P steps symbols tokens d.2 first.1 (All-tail Fine token tokens all))
texts_stand bytes P (Expand label ∷ steps) (Nonterminal n ∷ symbols) tokens d h all =
    let inner = list_all-append is_texted d.0.right symbols ∙ and_from (list_all is_texted d.0.right) (list_all is_texted symbols) (production_annexed n d.0 d.1).0 h in
    texts_stand bytes P steps (d.0.right ++ symbols) tokens d.3 inner all
texts_stand bytes P _ _ _ d h all = absurd d

-- ---- annexes among tokens

reserved_other : list_all (λ e. not (e.1 == annex_text)) reserved_words ≡ true
unfolding reserved_words
reserved_other = refl

symbols_other : list_all (λ e. not (e.1 == annex_text)) known_symbols ≡ true
unfolding known_symbols
symbols_other = refl

not_other : (x : ℕ) → not (x == annex_text) ≡ true → x ≡ annex_text → ⊥
not_other x h e = absurd cc

is_annex : (kind : TokenKind) (text : List ℕ) → terminal_of kind text ≡ annex_text → kind ≡ kinds.Annex
is_annex kinds.Name text e = absurd (not_other (terminal_of kinds.Name text) (listed_other annex_text reserved_words name text reserved_other refl) e)
is_annex kinds.Number text e = absurd (not_other other_token refl e)
is_annex kinds.Real text e = absurd (not_other other_token refl e)
is_annex kinds.Text text e = absurd (not_other other_token refl e)
is_annex kinds.Annex text e = refl
is_annex kinds.Symbol text e = absurd (not_other (terminal_of kinds.Symbol text) (listed_other annex_text known_symbols other_token text symbols_other refl) e)

among_tokens : (file : ℕ) (bytes : List ℕ) (tokens : List Token) → AreTokens Aadl file [] bytes tokens → All (λ t. terminal_of t.kind (own bytes t) ≡ annex_text → IsAnnexOf bytes t) tokens
among_tokens file bytes tokens read =
    All-weaker (Contains tokens) (λ t. terminal_of t.kind (own bytes t) ≡ annex_text → IsAnnexOf bytes t)
    (λ t among e. record { file = file; tokens = tokens; read = read; among = among; kind = is_annex t.kind (own bytes t) e })
    tokens (All-contains_itself tokens)

-- a text of an annex stands first where it is due and behind each name of an annex, and P holds of each
pub record Annexed (P : Token → Type 0) (ms : List Marked) : Type 0 where
  pub due : Bool
  pub paired : is_paired due ms ≡ true
  pub texts : All (IsTextOf P) ms

pub file_annexed : (file : ℕ) (bytes : List ℕ) (tokens : List Token) (steps : List Step) → AreTokens Aadl file [] bytes tokens → Derives aadl steps (Nonterminal aadl.start ∷ []) (terminals_of bytes tokens)
    → Annexed (IsAnnexOf bytes) (marked (terminals_of bytes tokens) tokens steps)
file_annexed file bytes tokens steps read d = record {
  due = false;
  paired = pairs_stand bytes steps (Nonterminal aadl.start ∷ []) tokens false d refl;
  texts = texts_stand bytes (IsAnnexOf bytes) steps (Nonterminal aadl.start ∷ []) tokens d refl (among_tokens file bytes tokens read);
}
