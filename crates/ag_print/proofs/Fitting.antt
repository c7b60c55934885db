-- Tokens of a text of the grammar that stand under the mark of a name are plain names.
use Rattle.std.proofs.Common.{◌≡◌, ℕ, zero, suc, Bool, true, false, ◌==◌, ◌||◌, not, List, [], ◌∷◌, ◌++◌, refl, sym, subst, ◌∙◌}
use Rattle.std.specs.Prelude.{slice_index_or}
use Rattle.std.specs.List.{list_all}
use Rattle.std.proofs.lemmas.Bool.{and_parts, and_from}
use Rattle.std.proofs.lemmas.List.Folds.{list_all-append}
use Rattle.ag_grammar.specs.declared.grammar.Symbol.{Symbol}
use Rattle.ag_grammar.specs.declared.grammar.Symbol.TheVariants.{Terminal, Nonterminal}
use Rattle.ag_grammar.specs.declared.grammar.Step.{Step}
use Rattle.ag_grammar.specs.declared.grammar.Step.TheVariants.{Expand, Shift}
use Rattle.ag_grammar.specs.Grammar.{PlainProduction, IsProductionOf, Derives}
use Rattle.ag_lex.specs.declared.token.Token.{Token}
use Rattle.ag_aadl.specs.declared.marked.Marked.{Marked}
use Rattle.ag_aadl.specs.Grammar.{aadl}
use Rattle.ag_aadl.specs.Marked.{marked, own, is_among}
use Rattle.ag_aadl.specs.Marks.{part_mark, owner_mark, declared_mark, feature_mark, class_body_mark, sub_mark, connection_mark, spot_mark, spot_port_mark}
use Rattle.ag_aadl.specs.Terminals.{name}
use Rattle.ag_aadl.specs.Words.{terminal_of, terminals_of}
use Rattle.ag_print.specs.Printable.{is_plain_name}
use Rattle.ag_print.proofs.PlainTokens.{is_plain_token}
use Rattle.ag_print.proofs.Situations.{all_at}

-- whether a token under this mark is a name that is printed
abbrev pub is_name_mark : ℕ → Bool
is_name_mark k = is_among (part_mark ∷ owner_mark ∷ declared_mark ∷ feature_mark ∷ class_body_mark ∷ sub_mark ∷ connection_mark ∷ spot_mark ∷ spot_port_mark ∷ []) k

-- it is a plain name then
abbrev pub is_fit : List ℕ → Marked → Bool
is_fit bytes m = not (is_name_mark m.mark) || is_plain_name (own bytes m.token)

-- ---- the grammar

abbrev is_named : Symbol → Bool
is_named (Terminal t k) = not (is_name_mark k) || t == name
is_named (Nonterminal n) = true

abbrev are_named : List PlainProduction → Bool
are_named ps = list_all (λ p. list_all is_named p.right) ps

aadl_named : list_all are_named aadl.nonterminals ≡ true
aadl_named = refl

named_at : (pss : List (List PlainProduction)) (i : ℕ) → list_all are_named pss ≡ true → are_named (slice_index_or pss i []) ≡ true
named_at [] i h = refl
named_at (ps ∷ pss) zero h = (and_parts (are_named ps) (list_all are_named pss) h).0
named_at (ps ∷ pss) (suc i) h = named_at pss i (and_parts (are_named ps) (list_all are_named pss) h).1

production_named : (n : ℕ) (p : PlainProduction) → IsProductionOf aadl n p → list_all is_named p.right ≡ true
production_named n p is = all_at (λ q. list_all is_named q.right) (slice_index_or aadl.nonterminals n []) is.0 p (named_at aadl.nonterminals n aadl_named) is.1

-- ---- its texts

through : (a b c : Bool) → (not a || b) ≡ true → (not b || c) ≡ true → (not a || c) ≡ true
through true true c f g = g
through true false c f g = absurd cc
through false b c f g = refl

pub fitting : (bytes : List ℕ) (steps : List Step) (symbols : List Symbol) (tokens : List Token) → Derives aadl steps symbols (terminals_of bytes tokens) → list_all is_named symbols ≡ true → list_all (is_plain_token bytes) tokens ≡ true
    → list_all (is_fit bytes) (marked (terminals_of bytes tokens) tokens steps) ≡ true
fitting bytes [] [] [] d named plain = refl
fitting bytes (Shift mark ∷ steps) (Terminal t k ∷ symbols) (token ∷ tokens) d named plain =
    let first = and_parts (not (is_name_mark k) || t == name) (list_all is_named symbols) named in
    let one = and_parts (is_plain_token bytes token) (list_all (is_plain_token bytes) tokens) plain in
    let so = subst (λ (z : ℕ). (not (is_name_mark z) || t == name) ≡ true) (sym d.1) first.0 in
    let there = subst (λ (z : ℕ). (not (is_name_mark mark) || z == name) ≡ true) (sym d.0) so in
    let terminal = terminal_of token.kind (own bytes token) in
    let fit = through (is_name_mark mark) (terminal == name) (is_plain_name (own bytes token)) there one.0 in
    and_from (is_fit bytes (record { mark = mark; terminal = terminal; token = token })) (list_all (is_fit bytes) (marked (terminals_of bytes tokens) tokens steps)) fit (fitting bytes steps symbols tokens d.2 first.1 one.1)
fitting bytes (Expand label ∷ steps) (Nonterminal n ∷ symbols) tokens d named plain =
    let inner = list_all-append is_named d.0.right symbols ∙ and_from (list_all is_named d.0.right) (list_all is_named symbols) (production_named n d.0 d.1) named in
    fitting bytes steps (d.0.right ++ symbols) tokens d.3 inner plain
fitting bytes _ _ _ d named plain = absurd d

pub text_fits : (bytes : List ℕ) (steps : List Step) (tokens : List Token) → Derives aadl steps (Nonterminal aadl.start ∷ []) (terminals_of bytes tokens) → list_all (is_plain_token bytes) tokens ≡ true → list_all (is_fit bytes) (marked (terminals_of bytes tokens) tokens steps) ≡ true
text_fits bytes steps tokens d plain = fitting bytes steps (Nonterminal aadl.start ∷ []) tokens d refl plain
