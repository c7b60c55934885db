-- The terminals of the words and symbols that canonical text consists of.
use Rattle.std.proofs.Common.{◌≡◌, refl, codes}
use Rattle.ag_lex.specs.declared.token.TokenKind.TheVariants.{Name, Symbol}
use Rattle.ag_aadl.specs.Terminals.{name, package_word, public_word, with_word, end_word, system_word, process_word, thread_word, device_word, abstract_word, data_word, implementation_word, features_word, subcomponents_word, connections_word, annex_word, in_word, out_word, event_word, port_word, colons, semicolon, colon, dot, arrow}
use Rattle.ag_aadl.specs.Words.{reserved_words, known_symbols, terminal_of}
use Rattle.ag_terms.specs.Names.{same}

pub is_package : terminal_of Name (codes "package") ≡ package_word
unfolding same reserved_words
is_package = refl

pub is_public : terminal_of Name (codes "public") ≡ public_word
unfolding same reserved_words
is_public = refl

pub is_with : terminal_of Name (codes "with") ≡ with_word
unfolding same reserved_words
is_with = refl

pub is_end : terminal_of Name (codes "end") ≡ end_word
unfolding same reserved_words
is_end = refl

pub is_system : terminal_of Name (codes "system") ≡ system_word
unfolding same reserved_words
is_system = refl

pub is_process : terminal_of Name (codes "process") ≡ process_word
unfolding same reserved_words
is_process = refl

pub is_thread : terminal_of Name (codes "thread") ≡ thread_word
unfolding same reserved_words
is_thread = refl

pub is_device : terminal_of Name (codes "device") ≡ device_word
unfolding same reserved_words
is_device = refl

pub is_abstract : terminal_of Name (codes "abstract") ≡ abstract_word
unfolding same reserved_words
is_abstract = refl

pub is_data : terminal_of Name (codes "data") ≡ data_word
unfolding same reserved_words
is_data = refl

pub is_implementation : terminal_of Name (codes "implementation") ≡ implementation_word
unfolding same reserved_words
is_implementation = refl

pub is_features : terminal_of Name (codes "features") ≡ features_word
unfolding same reserved_words
is_features = refl

pub is_subcomponents : terminal_of Name (codes "subcomponents") ≡ subcomponents_word
unfolding same reserved_words
is_subcomponents = refl

pub is_connections : terminal_of Name (codes "connections") ≡ connections_word
unfolding same reserved_words
is_connections = refl

pub is_annex : terminal_of Name (codes "annex") ≡ annex_word
unfolding same reserved_words
is_annex = refl

pub is_agree : terminal_of Name (codes "agree") ≡ name
unfolding same reserved_words
is_agree = refl

pub is_in : terminal_of Name (codes "in") ≡ in_word
unfolding same reserved_words
is_in = refl

pub is_out : terminal_of Name (codes "out") ≡ out_word
unfolding same reserved_words
is_out = refl

pub is_event : terminal_of Name (codes "event") ≡ event_word
unfolding same reserved_words
is_event = refl

pub is_port : terminal_of Name (codes "port") ≡ port_word
unfolding same reserved_words
is_port = refl

pub is_colons : terminal_of Symbol (codes "::") ≡ colons
unfolding same known_symbols
is_colons = refl

pub is_semicolon : terminal_of Symbol (codes ";") ≡ semicolon
unfolding same known_symbols
is_semicolon = refl

pub is_colon : terminal_of Symbol (codes ":") ≡ colon
unfolding same known_symbols
is_colon = refl

pub is_dot : terminal_of Symbol (codes ".") ≡ dot
unfolding same known_symbols
is_dot = refl

pub is_arrow : terminal_of Symbol (codes "->") ≡ arrow
unfolding same known_symbols
is_arrow = refl
