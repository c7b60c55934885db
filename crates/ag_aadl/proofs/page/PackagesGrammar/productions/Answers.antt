use Rattle.std.proofs.Common.{◌≤◌, [], length, sym}
use Rattle.std.proofs.lemmas.List.{get_or_past}
use Rattle.ag_aadl.specs.Grammar.{aadl}
use Rattle.ag_aadl.proofs.page.PackagesGrammar.productions.Goals as goal

pub returns-then-nonterminal-ge-NONTERMINALS : goal.returns-then-nonterminal-ge-NONTERMINALS
returns-then-nonterminal-ge-NONTERMINALS c =
    let past : length aadl.nonterminals ≤ c.args.nonterminal = c.if-nonterminal-ge-NONTERMINALS.true in
    sym (get_or_past aadl.nonterminals c.args.nonterminal [] past)
