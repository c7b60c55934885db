-- The terminals of the words and symbols that the canonical text of clauses consists of.
use Rattle.std.proofs.Common.{◌≡◌, refl, codes}
use Rattle.ag_lex.specs.declared.token.TokenKind.TheVariants.{Name, Symbol}
use Rattle.ag_terms.specs.Names.{same}
use Rattle.ag_annex.specs.Terminals.{assume_word, guarantee_word, lemma_word, eq_word, assign_word, const_word, node_word, returns_word, var_word, let_word, tel_word, int_word, bool_word, true_word, false_word, pre_word, if_word, then_word, else_word, and_word, or_word, not_word, div_word, mod_word, colons, comma, semicolon, colon, dot, open_paren, close_paren, arrow, implies, iff, less, at_most, more, at_least, equals, differs, plus, minus, times}
use Rattle.ag_annex.specs.Words.{reserved_words, known_symbols, terminal_of}

pub is_assume : terminal_of Name (codes "assume") ≡ assume_word
unfolding same reserved_words
is_assume = refl

pub is_guarantee : terminal_of Name (codes "guarantee") ≡ guarantee_word
unfolding same reserved_words
is_guarantee = refl

pub is_lemma : terminal_of Name (codes "lemma") ≡ lemma_word
unfolding same reserved_words
is_lemma = refl

pub is_eq : terminal_of Name (codes "eq") ≡ eq_word
unfolding same reserved_words
is_eq = refl

pub is_assign : terminal_of Name (codes "assign") ≡ assign_word
unfolding same reserved_words
is_assign = refl

pub is_const : terminal_of Name (codes "const") ≡ const_word
unfolding same reserved_words
is_const = refl

pub is_node : terminal_of Name (codes "node") ≡ node_word
unfolding same reserved_words
is_node = refl

pub is_returns : terminal_of Name (codes "returns") ≡ returns_word
unfolding same reserved_words
is_returns = refl

pub is_var : terminal_of Name (codes "var") ≡ var_word
unfolding same reserved_words
is_var = refl

pub is_let : terminal_of Name (codes "let") ≡ let_word
unfolding same reserved_words
is_let = refl

pub is_tel : terminal_of Name (codes "tel") ≡ tel_word
unfolding same reserved_words
is_tel = refl

pub is_int : terminal_of Name (codes "int") ≡ int_word
unfolding same reserved_words
is_int = refl

pub is_bool : terminal_of Name (codes "bool") ≡ bool_word
unfolding same reserved_words
is_bool = refl

pub is_true : terminal_of Name (codes "true") ≡ true_word
unfolding same reserved_words
is_true = refl

pub is_false : terminal_of Name (codes "false") ≡ false_word
unfolding same reserved_words
is_false = refl

pub is_pre : terminal_of Name (codes "pre") ≡ pre_word
unfolding same reserved_words
is_pre = refl

pub is_if : terminal_of Name (codes "if") ≡ if_word
unfolding same reserved_words
is_if = refl

pub is_then : terminal_of Name (codes "then") ≡ then_word
unfolding same reserved_words
is_then = refl

pub is_else : terminal_of Name (codes "else") ≡ else_word
unfolding same reserved_words
is_else = refl

pub is_and : terminal_of Name (codes "and") ≡ and_word
unfolding same reserved_words
is_and = refl

pub is_or : terminal_of Name (codes "or") ≡ or_word
unfolding same reserved_words
is_or = refl

pub is_not : terminal_of Name (codes "not") ≡ not_word
unfolding same reserved_words
is_not = refl

pub is_div : terminal_of Name (codes "div") ≡ div_word
unfolding same reserved_words
is_div = refl

pub is_mod : terminal_of Name (codes "mod") ≡ mod_word
unfolding same reserved_words
is_mod = refl

pub is_colons : terminal_of Symbol (codes "::") ≡ colons
unfolding same known_symbols
is_colons = refl

pub is_comma : terminal_of Symbol (codes ",") ≡ comma
unfolding same known_symbols
is_comma = refl

pub is_semicolon : terminal_of Symbol (codes ";") ≡ semicolon
unfolding same known_symbols
is_semicolon = refl

pub is_colon : terminal_of Symbol (codes ":") ≡ colon
unfolding same known_symbols
is_colon = refl

pub is_dot : terminal_of Symbol (codes ".") ≡ dot
unfolding same known_symbols
is_dot = refl

pub is_open_paren : terminal_of Symbol (codes "(") ≡ open_paren
unfolding same known_symbols
is_open_paren = refl

pub is_close_paren : terminal_of Symbol (codes ")") ≡ close_paren
unfolding same known_symbols
is_close_paren = refl

pub is_arrow : terminal_of Symbol (codes "->") ≡ arrow
unfolding same known_symbols
is_arrow = refl

pub is_implies : terminal_of Symbol (codes "=>") ≡ implies
unfolding same known_symbols
is_implies = refl

pub is_iff : terminal_of Symbol (codes "<=>") ≡ iff
unfolding same known_symbols
is_iff = refl

pub is_less : terminal_of Symbol (codes "<") ≡ less
unfolding same known_symbols
is_less = refl

pub is_at_most : terminal_of Symbol (codes "<=") ≡ at_most
unfolding same known_symbols
is_at_most = refl

pub is_more : terminal_of Symbol (codes ">") ≡ more
unfolding same known_symbols
is_more = refl

pub is_at_least : terminal_of Symbol (codes ">=") ≡ at_least
unfolding same known_symbols
is_at_least = refl

pub is_equals : terminal_of Symbol (codes "=") ≡ equals
unfolding same known_symbols
is_equals = refl

pub is_differs : terminal_of Symbol (codes "<>") ≡ differs
unfolding same known_symbols
is_differs = refl

pub is_plus : terminal_of Symbol (codes "+") ≡ plus
unfolding same known_symbols
is_plus = refl

pub is_minus : terminal_of Symbol (codes "-") ≡ minus
unfolding same known_symbols
is_minus = refl

pub is_times : terminal_of Symbol (codes "*") ≡ times
unfolding same known_symbols
is_times = refl
