use Rattle.ag_names.proofs.Lookups.{port_found}
use Rattle.ag_names.proofs.index.Index.port_position.Goals as goal

pub returns : goal.returns
returns c = rw (← c.self.view_is, c.find.ensures, c.name.ensures) (port_found _ c.self.inside.ports c.self.invariant.1.ports c.args.number c.args.name.now)
