use Rattle.std.proofs.Common.{◌∙◌}
use Rattle.std.specs.Prelude.{Some, None}
use Rattle.ag_types.proofs.NextNames.{next_is_first}
use Rattle.ag_types.proofs.twice.next_twice.Goals as goal

pub returns-in-Some : goal.returns-in-Some
returns-in-Some c = c.twice_if.ensures ∙ next_is_first c.args.name.now c.args.seen.now (Some c.in-Some.next.now) c.in-Some.ensures

pub returns-in-None : goal.returns-in-None
returns-in-None c = next_is_first c.args.name.now c.args.seen.now None c.in-None.ensures
