use Rattle.std.proofs.Common.{◌≤◌, [], length, sym}
use Rattle.std.proofs.lemmas.List.{get_or_past}
use Rattle.ag_annex.specs.Grammar.{annex}
use Rattle.ag_annex.proofs.page.ClausesGrammar.productions.Goals as goal

pub returns-then-nonterminal-ge-NONTERMINALS : goal.returns-then-nonterminal-ge-NONTERMINALS
returns-then-nonterminal-ge-NONTERMINALS c =
    let past : length annex.nonterminals ≤ c.args.nonterminal = c.if-nonterminal-ge-NONTERMINALS.true in
    sym (get_or_past annex.nonterminals c.args.nonterminal [] past)
