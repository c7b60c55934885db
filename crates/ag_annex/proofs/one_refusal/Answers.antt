use Rattle.ag_annex.specs.Grammar.{annex}
use Rattle.ag_annex.proofs.Refusals.{one, none}
use Rattle.ag_annex.proofs.one_refusal.Goals as goal

pub returns-clause-one : goal.returns-clause-one
returns-clause-one c = one (c.one_place.ensures.one annex)

pub returns-clause-none : goal.returns-clause-none
returns-clause-none c = none (c.one_place.ensures.none annex)
