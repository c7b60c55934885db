use Rattle.ag_aadl.proofs.Once.{sections-apart, first-twice, twice-refused}
use Rattle.ag_aadl.proofs.laws.sections_once.Goals as goal

pub returns-clause-apart : goal.returns-clause-apart
returns-clause-apart c = sections-apart

pub returns-clause-refused : goal.returns-clause-refused
returns-clause-refused c = first-twice

pub returns-clause-broken : goal.returns-clause-broken
returns-clause-broken c = twice-refused
