-- Expressions, word by word, as the grammar derives them.
use Rattle.std.proofs.Common.{◌≡◌, ℕ, Bool, true, false, ◌&&◌, List, [], ◌∷◌, ◌++◌, Option, Some, None, refl, subst, ◌∙◌, codes}
use Rattle.std.specs.List.{list_all}
use Rattle.std.proofs.lemmas.Bool.{and_parts, and_from}
use Rattle.std.proofs.lemmas.List.{append-nil}
use Rattle.std.proofs.lemmas.List.Folds.{list_all-append}
use Rattle.ag_grammar.specs.declared.grammar.Symbol.{Symbol}
use Rattle.ag_grammar.specs.declared.grammar.Symbol.TheVariants.{Terminal, Nonterminal}
use Rattle.ag_lex.specs.declared.token.TokenKind.TheVariants.{Name, Number as NumberKind}
use Rattle.ag_terms.specs.declared.names.Ident.{Ident}
use Rattle.ag_terms.specs.declared.names.Path.{Path}
use Rattle.ag_terms.specs.declared.terms.Binary.{Binary}
use Rattle.ag_terms.specs.declared.terms.Binary.TheVariants.{Arrow, Implies, Iff, Or, And, Less, AtMost, More, AtLeast, Same, Differs, Plus, Minus, Times, Div, Mod}
use Rattle.ag_terms.specs.declared.terms.Term.{Term, Number, Truth, Named, Unary', Binary', Choice', Call', Row_of-Term, end_of-Term, more_of-Term}
use Rattle.ag_terms.specs.declared.terms.Unary.TheVariants as unary
use Rattle.ag_annex.specs.Marks as marks
use Rattle.ag_annex.specs.Nonterminals.{expression, operand, rest, choice, prefix, arithmetic, comparison, logical, primary, path, more_parts, some_body, some_arguments, arguments, more_arguments}
use Rattle.ag_annex.specs.Terminals as terminal
use Rattle.ag_unparse.specs.Canonical.{number_bytes, truth_word, more_part_words, part_words, package_parts, body_words, path_words, binary_word, close_word, term_words, argument_words, sign_at}
use Rattle.ag_unparse.specs.Layout.{Spelled}
use Rattle.ag_unparse.specs.Printable.{is_plain_name, is_plain_ident, is_plain_option, is_plain_path, is_printable_term, are_printable_terms}
use Rattle.ag_unparse.proofs.SpellsWords.{Spells, nothing, beside, expand, by_word, by_name, by_sign}
use Rattle.ag_unparse.proofs.SpellsTerminals.{is_true, is_false, is_pre, is_if, is_then, is_else, is_and, is_or, is_not, is_div, is_mod, is_colons, is_comma, is_dot, is_open_paren, is_close_paren, is_arrow, is_implies, is_iff, is_less, is_at_most, is_more, is_at_least, is_equals, is_differs, is_plus, is_minus, is_times}

-- ---- names

more_parts_spell : (parts : List (List ℕ)) → list_all is_plain_name parts ≡ true → Spells (Nonterminal more_parts ∷ []) (more_part_words parts)
more_parts_spell [] h = expand more_parts 1 refl nothing
more_parts_spell (part ∷ parts) h =
    let both = and_parts (is_plain_name part) (list_all is_plain_name parts) h in
    expand more_parts 0 refl (by_sign terminal.colons 0 (codes "::") is_colons (by_name marks.part_mark part both.0 (more_parts_spell parts both.1)))

body_spells : (o : Option Ident) → is_plain_option o ≡ true → Spells (Nonterminal some_body ∷ []) (body_words o)
body_spells None h = expand some_body 1 refl nothing
body_spells (Some i) h = expand some_body 0 refl (by_sign terminal.dot 0 (codes ".") is_dot (by_name marks.path_body_mark i.text h nothing))

parts_spell : (parts : List (List ℕ)) (last : List ℕ) (ws : List Spelled) → list_all is_plain_name (parts ++ last ∷ []) ≡ true → Spells (Nonterminal some_body ∷ []) ws → Spells (Nonterminal path ∷ []) (part_words (parts ++ last ∷ []) ++ ws)
parts_spell [] last ws h body =
    let both = and_parts (is_plain_name last) true h in
    expand path 0 refl (by_name marks.path_mark last both.0 (beside (more_parts_spell [] refl) body))
parts_spell (part ∷ parts) last ws h body =
    let both = and_parts (is_plain_name part) (list_all is_plain_name (parts ++ last ∷ [])) h in
    expand path 0 refl (by_name marks.path_mark part both.0 (beside (more_parts_spell (parts ++ last ∷ []) both.1) body))

path_spells : (p : Path) → is_plain_path p ≡ true → Spells (Nonterminal path ∷ []) (path_words p)
path_spells p h =
    let qs = package_parts p.«package» in
    let both = and_parts (list_all is_plain_name qs) (is_plain_ident p.name && is_plain_option p.body) h in
    let named = and_parts (is_plain_ident p.name) (is_plain_option p.body) both.1 in
    let all : list_all is_plain_name (qs ++ p.name.text ∷ []) ≡ true =
    list_all-append is_plain_name qs (p.name.text ∷ []) ∙ and_from (list_all is_plain_name qs) (is_plain_name p.name.text && true) both.0 (and_from (is_plain_name p.name.text) true named.0 refl) in
    parts_spell qs p.name.text (body_words p.body) all (body_spells p.body named.1)

-- ---- operands before others

-- an operand that no operator follows
operand_before : {others : List Symbol} {ws vs : List Spelled} → Spells (Nonterminal primary ∷ []) ws → Spells others vs → Spells (Nonterminal operand ∷ others) (ws ++ vs)
operand_before p r = expand operand 2 refl (beside p (expand rest 3 refl r))

pub expression_before : {others : List Symbol} {ws vs : List Spelled} → Spells (Nonterminal primary ∷ []) ws → Spells others vs → Spells (Nonterminal expression ∷ others) (ws ++ vs)
expression_before p r = expand expression 0 refl (operand_before p r)

closed : Spells (Terminal terminal.close_paren marks.close_mark ∷ []) (close_word ∷ [])
closed = by_sign terminal.close_paren marks.close_mark (codes ")") is_close_paren nothing

-- an expression in parentheses
grouped : {ws : List Spelled} → Spells (Nonterminal operand ∷ Terminal terminal.close_paren marks.close_mark ∷ []) ws → Spells (Nonterminal primary ∷ []) (sign_at marks.group_mark (codes "(") ∷ ws)
grouped inner = expand primary 3 refl (by_sign terminal.open_paren marks.group_mark (codes "(") is_open_paren (expand expression 0 refl inner))

-- an operator between two operands, before others
operator_before : (op : Binary) {others : List Symbol} {ws : List Spelled} → Spells (Nonterminal operand ∷ others) ws → Spells (Nonterminal rest ∷ others) (binary_word op ∷ ws)
operator_before Arrow r = expand rest 2 refl (expand logical 4 refl (by_sign terminal.arrow marks.arrow_mark (codes "->") is_arrow r))
operator_before Implies r = expand rest 2 refl (expand logical 3 refl (by_sign terminal.implies marks.implies_mark (codes "=>") is_implies r))
operator_before Iff r = expand rest 2 refl (expand logical 2 refl (by_sign terminal.iff marks.iff_mark (codes "<=>") is_iff r))
operator_before Or r = expand rest 2 refl (expand logical 1 refl (by_word terminal.or_word marks.or_mark Name (codes "or") is_or r))
operator_before And r = expand rest 2 refl (expand logical 0 refl (by_word terminal.and_word marks.and_mark Name (codes "and") is_and r))
operator_before Less r = expand rest 1 refl (expand comparison 0 refl (by_sign terminal.less marks.less_mark (codes "<") is_less r))
operator_before AtMost r = expand rest 1 refl (expand comparison 1 refl (by_sign terminal.at_most marks.at_most_mark (codes "<=") is_at_most r))
operator_before More r = expand rest 1 refl (expand comparison 2 refl (by_sign terminal.more marks.more_mark (codes ">") is_more r))
operator_before AtLeast r = expand rest 1 refl (expand comparison 3 refl (by_sign terminal.at_least marks.at_least_mark (codes ">=") is_at_least r))
operator_before Same r = expand rest 1 refl (expand comparison 4 refl (by_sign terminal.equals marks.same_mark (codes "=") is_equals r))
operator_before Differs r = expand rest 1 refl (expand comparison 5 refl (by_sign terminal.differs marks.differs_mark (codes "<>") is_differs r))
operator_before Plus r = expand rest 0 refl (expand arithmetic 0 refl (by_sign terminal.plus marks.plus_mark (codes "+") is_plus r))
operator_before Minus r = expand rest 0 refl (expand arithmetic 1 refl (by_sign terminal.minus marks.minus_mark (codes "-") is_minus r))
operator_before Times r = expand rest 0 refl (expand arithmetic 2 refl (by_sign terminal.times marks.times_mark (codes "*") is_times r))
operator_before Div r = expand rest 0 refl (expand arithmetic 3 refl (by_word terminal.div_word marks.div_mark Name (codes "div") is_div r))
operator_before Mod r = expand rest 0 refl (expand arithmetic 4 refl (by_word terminal.mod_word marks.mod_mark Name (codes "mod") is_mod r))

-- ---- expressions

truth_spells : (value : Bool) → Spells (Nonterminal primary ∷ []) (truth_word value ∷ [])
truth_spells true = expand primary 1 refl (by_word terminal.true_word marks.true_mark Name (codes "true") is_true nothing)
truth_spells false = expand primary 2 refl (by_word terminal.false_word marks.false_mark Name (codes "false") is_false nothing)

negative_spells : {ws : List Spelled} → Spells (Nonterminal primary ∷ []) ws → Spells (Nonterminal primary ∷ []) (sign_at marks.group_mark (codes "(") ∷ sign_at marks.negative_mark (codes "-") ∷ (ws ++ close_word ∷ []))
negative_spells p = grouped (expand operand 1 refl (expand prefix 0 refl (by_sign terminal.minus marks.negative_mark (codes "-") is_minus (operand_before p closed))))

not_spells : {ws : List Spelled} → Spells (Nonterminal primary ∷ []) ws → Spells (Nonterminal primary ∷ []) (sign_at marks.group_mark (codes "(") ∷ record { mark = marks.not_mark; kind = Name; own = codes "not" } ∷ (ws ++ close_word ∷ []))
not_spells p = grouped (expand operand 1 refl (expand prefix 1 refl (by_word terminal.not_word marks.not_mark Name (codes "not") is_not (operand_before p closed))))

pre_spells : {ws : List Spelled} → Spells (Nonterminal primary ∷ []) ws
    → Spells (Nonterminal primary ∷ []) (record { mark = marks.pre_mark; kind = Name; own = codes "pre" } ∷ sign_at marks.operand_mark (codes "(") ∷ (ws ++ close_word ∷ []))
pre_spells p = expand primary 4 refl (by_word terminal.pre_word marks.pre_mark Name (codes "pre") is_pre (by_sign terminal.open_paren marks.operand_mark (codes "(") is_open_paren (expression_before p closed)))

binary_spells : (op : Binary) {ws vs : List Spelled} → Spells (Nonterminal primary ∷ []) ws → Spells (Nonterminal primary ∷ []) vs
    → Spells (Nonterminal primary ∷ []) (sign_at marks.group_mark (codes "(") ∷ (ws ++ binary_word op ∷ (vs ++ close_word ∷ [])))
binary_spells op p q = grouped (expand operand 2 refl (beside p (operator_before op (operand_before q closed))))

choice_spells : {ws vs us : List Spelled} → Spells (Nonterminal primary ∷ []) ws → Spells (Nonterminal primary ∷ []) vs → Spells (Nonterminal primary ∷ []) us
    → Spells (Nonterminal primary ∷ []) (sign_at marks.group_mark (codes "(") ∷ record { mark = marks.if_mark; kind = Name; own = codes "if" } ∷ (ws ++ record { mark = marks.then_mark; kind = Name; own = codes "then" }
    ∷ (vs ++ record { mark = marks.else_mark; kind = Name; own = codes "else" } ∷ (us ++ close_word ∷ []))))
choice_spells p q r =
    grouped (expand operand 0 refl (expand choice 0 refl (by_word terminal.if_word marks.if_mark Name (codes "if") is_if
    (expression_before p (by_word terminal.then_word marks.then_mark Name (codes "then") is_then
    (expression_before q (by_word terminal.else_word marks.else_mark Name (codes "else") is_else (expression_before r closed))))))))

call_spells : {ws vs : List Spelled} → Spells (Nonterminal path ∷ []) ws → Spells (Nonterminal arguments ∷ []) vs → Spells (Nonterminal primary ∷ []) (ws ++ sign_at marks.call_mark (codes "(") ∷ (vs ++ close_word ∷ []))
call_spells p q = expand primary 6 refl (beside p (expand some_arguments 0 refl (by_sign terminal.open_paren marks.call_mark (codes "(") is_open_paren (beside q closed))))

named_spells : (p : Path) → is_plain_path p ≡ true → Spells (Nonterminal primary ∷ []) (path_words p)
named_spells p h = subst (λ (z : List Spelled). Spells (Nonterminal primary ∷ []) z) (append-nil (path_words p)) (expand primary 6 refl (beside (path_spells p h) (expand some_arguments 1 refl nothing)))

mutual
  pub term_spells : (t : Term) → is_printable_term t ≡ true → Spells (Nonterminal primary ∷ []) (term_words t)
  term_spells (Number value place) h = expand primary 0 refl (by_word terminal.number marks.number_mark NumberKind (number_bytes value) refl nothing)
  term_spells (Truth value place) h = truth_spells value
  term_spells (Named p) h = named_spells p h
  term_spells (Unary' unary.Minus place _ (more_of-Term t end_of-Term)) h = negative_spells (term_spells t h)
  term_spells (Unary' unary.Not place _ (more_of-Term t end_of-Term)) h = not_spells (term_spells t h)
  term_spells (Unary' unary.Pre place _ (more_of-Term t end_of-Term)) h = pre_spells (term_spells t h)
  term_spells (Binary' op place _ (more_of-Term left end_of-Term) _ (more_of-Term right end_of-Term)) h =
      let parts = and_parts (is_printable_term left) (is_printable_term right) h in
      binary_spells op (term_spells left parts.0) (term_spells right parts.1)
  term_spells (Choice' place _ (more_of-Term test end_of-Term) _ (more_of-Term chosen end_of-Term) _ (more_of-Term other end_of-Term)) h =
      let parts = and_parts (is_printable_term test) (is_printable_term chosen && is_printable_term other) h in
      let more = and_parts (is_printable_term chosen) (is_printable_term other) parts.1 in
      choice_spells (term_spells test parts.0) (term_spells chosen more.0) (term_spells other more.1)
  term_spells (Call' p _ args) h =
      let parts = and_parts (is_plain_path p) (are_printable_terms args) h in
      call_spells (path_spells p parts.0) (all_spell args parts.1)

  all_spell : {m : _} (row : Row_of-Term m) → are_printable_terms row ≡ true → Spells (Nonterminal arguments ∷ []) (argument_words [] row)
  all_spell end_of-Term h = expand arguments 1 refl nothing
  all_spell (more_of-Term t rest) h =
      let parts = and_parts (is_printable_term t) (are_printable_terms rest) h in
      expand arguments 0 refl (expression_before (term_spells t parts.0) (more_spell rest parts.1))

  more_spell : {m : _} (row : Row_of-Term m) → are_printable_terms row ≡ true → Spells (Nonterminal more_arguments ∷ []) (argument_words (sign_at marks.argument_mark (codes ",") ∷ []) row)
  more_spell end_of-Term h = expand more_arguments 1 refl nothing
  more_spell (more_of-Term t rest) h =
      let parts = and_parts (is_printable_term t) (are_printable_terms rest) h in
      expand more_arguments 0 refl (by_sign terminal.comma marks.argument_mark (codes ",") is_comma (expression_before (term_spells t parts.0) (more_spell rest parts.1)))
