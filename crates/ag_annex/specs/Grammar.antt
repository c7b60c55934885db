-- The grammar of clauses as a plain value.
use Rattle.ag_grammar.specs.Grammar.{PlainGrammar}
use Rattle.ag_aadl.specs.Grammar.{with_ahead}
use Rattle.ag_annex.specs.Nonterminals.{clauses}
use Rattle.ag_annex.specs.Page.{lines}
use Rattle.ag_annex.specs.Certificate.{certificate}

abbrev pub annex : PlainGrammar
annex = record { nonterminals = with_ahead certificate 0 lines; start = clauses }
