use Rattle.ag_names.proofs.Lookups.{type_found}
use Rattle.ag_names.proofs.index.Index.type_number.Goals as goal

pub returns : goal.returns
returns c = rw (← c.self.view_is, c.find.ensures, c.key.ensures) (type_found _ c.self.inside.named c.self.invariant.1.named c.args.name.now)
