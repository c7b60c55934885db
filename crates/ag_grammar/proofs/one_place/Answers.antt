use Rattle.ag_grammar.proofs.Reaching.{one_place, no_place}
use Rattle.ag_grammar.proofs.one_place.Goals as goal

pub returns-clause-one : goal.returns-clause-one
returns-clause-one c = one_place

pub returns-clause-none : goal.returns-clause-none
returns-clause-none c = no_place
