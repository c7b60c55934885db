use Rattle.ag_stream.proofs.Truths.{are_truths, one_truths}
use Rattle.ag_stream.proofs.laws.truths_are_fixed.Goals as goal

pub returns-clause-each : goal.returns-clause-each
returns-clause-each c = are_truths c.args.draft.now c.requires

pub returns-clause-only : goal.returns-clause-only
returns-clause-only c = one_truths c.args.draft.now c.requires
