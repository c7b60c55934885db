use Rattle.ag_aadl.specs.Grammar.{aadl}
use Rattle.ag_aadl.proofs.Refusals.{one, none}
use Rattle.ag_aadl.proofs.one_refusal.Goals as goal

pub returns-clause-one : goal.returns-clause-one
returns-clause-one c = one (c.one_place.ensures.one aadl)

pub returns-clause-none : goal.returns-clause-none
returns-clause-none c = none (c.one_place.ensures.none aadl)
