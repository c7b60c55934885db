use Rattle.std.proofs.Common.{ap, ◌∙◌}
use Rattle.ag_small.specs.Reading.{below}
use Rattle.ag_small.proofs.Levels.{none_below, some_below}
use Rattle.ag_small.proofs.formulas.deeper.Goals as goal

pub returns-then-levels-eq0-clause-value : goal.returns-then-levels-eq0-clause-value
returns-then-levels-eq0-clause-value c = ap below c.if-levels-eq0.true ∙ none_below

pub returns-clause-value : goal.returns-clause-value
returns-clause-value c = some_below c.args.levels c.if-levels-eq0.false
