use Rattle.std.proofs.Common.{◌∙◌}
use Rattle.ag_symbols.proofs.Placing.{value_missed, value_found}
use Rattle.ag_symbols.proofs.table.Vars.of_name.Goals as goal

pub returns-in-None : goal.returns-in-None
returns-in-None c = value_missed c.args.name.now c.args.self.now (rw (← c.self.view_is) (c.in-None.ensures ∙ rw c.as_slice.ensures.value (c.self.inside.placed c.args.name.now)))

pub returns-in-Some : goal.returns-in-Some
returns-in-Some c = value_found c.args.name.now c.args.self.now c.in-Some.at _ (rw (← c.self.view_is) (c.in-Some.ensures ∙ rw c.as_slice.ensures.value (c.self.inside.placed c.args.name.now))) c.get.ensures
