use Rattle.ag_names.specs.Found.{own_type}
use Rattle.ag_names.proofs.Lookups.{some_type}
use Rattle.ag_names.proofs.ends.Component.has_type.Goals as goal

pub returns : goal.returns
returns c =
    let i = c.self.inside.implementation.now in
    rw (← c.self.view_is, c.is_some.ensures, c.self.invariant.0) (some_type c.self.inside.index.now (own_type i.owner i.body))
