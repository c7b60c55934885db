use Rattle.ag_names.proofs.Lookups.{implementation_found}
use Rattle.ag_names.proofs.index.Index.implementation_number.Goals as goal

pub returns : goal.returns
returns c = rw (← c.self.view_is, c.find.ensures, c.implementation_key.ensures) (implementation_found _ c.self.inside.implemented c.self.invariant.1.implemented c.args.of.now c.args.name.now)
