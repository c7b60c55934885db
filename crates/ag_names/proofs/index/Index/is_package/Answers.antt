use Rattle.ag_names.proofs.Lookups.{package_found}
use Rattle.ag_names.proofs.index.Index.is_package.Goals as goal

pub returns : goal.returns
returns c = rw (← c.self.view_is, c.is_some.ensures, c.find.ensures, c.name.ensures) (package_found c.self.inside.packages.now c.self.inside.names c.self.invariant.1.names c.args.name.now)
