use Rattle.std.proofs.Common.{refl, ◌∙◌}
use Rattle.ag_types.proofs.earliest.Earliest.is_declared_before.Goals as goal

pub returns-in-None : goal.returns-in-None
returns-in-None c = c.in-None.ensures c.args.name.now.place ∙ rw c.as_bytes.ensures refl

pub returns-in-Some : goal.returns-in-Some
returns-in-Some c = c.is_before.ensures ∙ c.in-Some.ensures c.args.name.now.place ∙ rw c.as_bytes.ensures refl
