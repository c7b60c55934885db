-- Tokens of an annex that stand under the mark of a name, a number or a label are plain.
use Rattle.std.proofs.Common.{◌≡◌, ℕ, zero, suc, ◌^◌, Bool, true, false, ◌==◌, ◌&&◌, ◌||◌, not, List, [], ◌∷◌, ◌++◌, Some, refl, sym, subst, ◌∙◌}
use Rattle.std.specs.Prelude.{slice_get, slice_index_or, nat_le}
use Rattle.std.specs.List.{list_all}
use Rattle.std.proofs.lemmas.Bool.{and_parts, and_from}
use Rattle.std.proofs.lemmas.List.Folds.{list_all-append}
use Rattle.ag_grammar.specs.declared.grammar.Symbol.{Symbol}
use Rattle.ag_grammar.specs.declared.grammar.Symbol.TheVariants.{Terminal, Nonterminal}
use Rattle.ag_grammar.specs.declared.grammar.Step.{Step}
use Rattle.ag_grammar.specs.declared.grammar.Step.TheVariants.{Expand, Shift}
use Rattle.ag_grammar.specs.Grammar.{PlainProduction, IsProductionOf, Derives}
use Rattle.ag_lex.specs.declared.token.Token.{Token}
use Rattle.ag_lex.specs.Rules.{decimal}
use Rattle.ag_aadl.specs.declared.marked.Marked.{Marked}
use Rattle.ag_aadl.specs.Marked.{marked, own, is_among}
use Rattle.ag_annex.specs.Clauses.{label_of}
use Rattle.ag_annex.specs.Grammar.{annex}
use Rattle.ag_annex.specs.Marks.{label_mark, variable_mark, target_mark, node_name_mark, number_mark, path_mark, part_mark, path_body_mark}
use Rattle.ag_annex.specs.Terminals.{name, number, text}
use Rattle.ag_annex.specs.Words.{terminal_of, terminals_of}
use Rattle.ag_unparse.specs.Printable.{is_plain_name, is_label}
use Rattle.ag_unparse.proofs.PrintableTokens.{is_right_token}

-- whether a token under this mark is a name that is printed
abbrev pub is_name_mark : ℕ → Bool
is_name_mark k = is_among (variable_mark ∷ target_mark ∷ node_name_mark ∷ path_mark ∷ part_mark ∷ path_body_mark ∷ []) k

-- it is plain then; so is a number, and a label
abbrev pub is_fit : List ℕ → Marked → Bool
is_fit bytes m =
    (not (is_name_mark m.mark) || is_plain_name (own bytes m.token))
    && ((not (m.mark == number_mark) || nat_le (decimal (own bytes m.token)) (2 ^ 47)) && (not (m.mark == label_mark) || is_label (label_of bytes m.token)))

-- ---- the grammar

abbrev is_named : Symbol → Bool
is_named (Terminal t k) = (not (is_name_mark k) || t == name) && ((not (k == number_mark) || t == number) && (not (k == label_mark) || t == text))
is_named (Nonterminal n) = true

abbrev are_named : List PlainProduction → Bool
are_named ps = list_all (λ p. list_all is_named p.right) ps

annex_named : list_all are_named annex.nonterminals ≡ true
annex_named = refl

named_at : (pss : List (List PlainProduction)) (i : ℕ) → list_all are_named pss ≡ true → are_named (slice_index_or pss i []) ≡ true
named_at [] i h = refl
named_at (ps ∷ pss) zero h = (and_parts (are_named ps) (list_all are_named pss) h).0
named_at (ps ∷ pss) (suc i) h = named_at pss i (and_parts (are_named ps) (list_all are_named pss) h).1

pub all_at : {A : Type 0} (test : A → Bool) (xs : List A) (i : ℕ) (x : A) → list_all test xs ≡ true → slice_get xs i ≡ Some x → test x ≡ true
all_at test [] i x all e = absurd cc
all_at {A = A} test (y ∷ xs) zero x all e = let one : y ≡ x = cc in subst (λ (z : A). test z ≡ true) one (and_parts (test y) (list_all test xs) all).0
all_at test (y ∷ xs) (suc i) x all e = all_at test xs i x (and_parts (test y) (list_all test xs) all).1 e

production_named : (n : ℕ) (p : PlainProduction) → IsProductionOf annex n p → list_all is_named p.right ≡ true
production_named n p is = all_at (λ q. list_all is_named q.right) (slice_index_or annex.nonterminals n []) is.0 p (named_at annex.nonterminals n annex_named) is.1

-- ---- its texts

through : (a b c : Bool) → (not a || b) ≡ true → (not b || c) ≡ true → (not a || c) ≡ true
through true true c f g = g
through true false c f g = absurd cc
through false b c f g = refl

fit_by : (mark t : ℕ) (plain small quoted : Bool) → is_named (Terminal t mark) ≡ true → ((not (t == name) || plain) && ((not (t == number) || small) && (not (t == text) || quoted))) ≡ true
    → ((not (is_name_mark mark) || plain) && ((not (mark == number_mark) || small) && (not (mark == label_mark) || quoted))) ≡ true
fit_by mark t plain small quoted g h =
    let a = and_parts (not (is_name_mark mark) || t == name) ((not (mark == number_mark) || t == number) && (not (mark == label_mark) || t == text)) g in
    let b = and_parts (not (mark == number_mark) || t == number) (not (mark == label_mark) || t == text) a.1 in
    let c = and_parts (not (t == name) || plain) ((not (t == number) || small) && (not (t == text) || quoted)) h in
    let d = and_parts (not (t == number) || small) (not (t == text) || quoted) c.1 in
    and_from (not (is_name_mark mark) || plain) ((not (mark == number_mark) || small) && (not (mark == label_mark) || quoted)) (through (is_name_mark mark) (t == name) plain a.0 c.0)
    (and_from (not (mark == number_mark) || small) (not (mark == label_mark) || quoted) (through (mark == number_mark) (t == number) small b.0 d.0) (through (mark == label_mark) (t == text) quoted b.1 d.1))

fitting : (bytes : List ℕ) (steps : List Step) (symbols : List Symbol) (tokens : List Token) → Derives annex steps symbols (terminals_of bytes tokens) → list_all is_named symbols ≡ true → list_all (is_right_token bytes) tokens ≡ true
    → list_all (is_fit bytes) (marked (terminals_of bytes tokens) tokens steps) ≡ true
fitting bytes [] [] [] d named right = refl
fitting bytes (Shift mark ∷ steps) (Terminal t k ∷ symbols) (token ∷ tokens) d named right =
    let first = and_parts (is_named (Terminal t k)) (list_all is_named symbols) named in
    let one = and_parts (is_right_token bytes token) (list_all (is_right_token bytes) tokens) right in
    let so = subst (λ (z : ℕ). is_named (Terminal t z) ≡ true) (sym d.1) first.0 in
    let there = subst (λ (z : ℕ). is_named (Terminal z mark) ≡ true) (sym d.0) so in
    let terminal = terminal_of token.kind (own bytes token) in
    let fit = fit_by mark terminal (is_plain_name (own bytes token)) (nat_le (decimal (own bytes token)) (2 ^ 47)) (is_label (label_of bytes token)) there one.0 in
    and_from (is_fit bytes (record { mark = mark; terminal = terminal; token = token })) (list_all (is_fit bytes) (marked (terminals_of bytes tokens) tokens steps)) fit (fitting bytes steps symbols tokens d.2 first.1 one.1)
fitting bytes (Expand label ∷ steps) (Nonterminal n ∷ symbols) tokens d named right =
    let inner = list_all-append is_named d.0.right symbols ∙ and_from (list_all is_named d.0.right) (list_all is_named symbols) (production_named n d.0 d.1) named in
    fitting bytes steps (d.0.right ++ symbols) tokens d.3 inner right
fitting bytes _ _ _ d named right = absurd d

pub text_fits : (bytes : List ℕ) (steps : List Step) (tokens : List Token) → Derives annex steps (Nonterminal annex.start ∷ []) (terminals_of bytes tokens) → list_all (is_right_token bytes) tokens ≡ true
    → list_all (is_fit bytes) (marked (terminals_of bytes tokens) tokens steps) ≡ true
text_fits bytes steps tokens d right = fitting bytes steps (Nonterminal annex.start ∷ []) tokens d refl right
