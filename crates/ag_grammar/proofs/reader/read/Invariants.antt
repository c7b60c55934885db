use Rattle.std.proofs.Common.{◌-◌, ◌^◌, reverse, vec_len}
use Rattle.ag_grammar.specs.Texts.{AreForced}
use Rattle.ag_grammar.specs.Reading.{IsReached}
use Rattle.ag_grammar.proofs.reader.read.Given as goal

abbrev pub invariant-loop-symbol : goal.invariant-loop-symbol
invariant-loop-symbol g l = record {
  reached : IsReached (g.G.Grammar.plain l.grammar) l.terminals l.progress.at l.progress.steps.items (reverse l.progress.stack.items);
  forced : AreForced (g.G.Grammar.plain l.grammar) l.terminals l.progress.steps.items;
}

-- each turn adds a step
abbrev pub decreases-loop-symbol : goal.decreases-loop-symbol
decreases-loop-symbol g l = 2 ^ 64 - vec_len l.progress.steps
