use Rattle.ag_names.proofs.Lookups.{use_found}
use Rattle.ag_names.proofs.index.Index.may_use.Goals as goal

pub returns : goal.returns
returns c = rw (← c.self.view_is, c.is_some.ensures, c.find.ensures, c.name.ensures) (use_found c.self.inside.packages.now c.self.inside.uses c.self.invariant.1.uses c.args.«package» c.args.name.now)
