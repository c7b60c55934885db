use Rattle.ag_print.proofs.OneAnswer.{states_once, refused_once, not_refused}
use Rattle.ag_print.proofs.laws.one_answer.Goals as goal

pub returns-clause-stated : goal.returns-clause-stated
returns-clause-stated c = states_once c.one_reading.ensures c.one_reading-2.ensures

pub returns-clause-refused : goal.returns-clause-refused
returns-clause-refused c = refused_once c.one_reading.ensures c.one_refusal.ensures c.one_refusal-2.ensures.one c.one_refusal-2.ensures.none

pub returns-clause-not_both : goal.returns-clause-not_both
returns-clause-not_both c = not_refused c.one_reading.ensures c.one_refusal-2.ensures.none
