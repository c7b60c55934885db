use Rattle.ag_aadl.proofs.Delays.{not-delayed, first-delayed, delayed-refused}
use Rattle.ag_aadl.proofs.laws.never_delayed.Goals as goal

pub returns-clause-none : goal.returns-clause-none
returns-clause-none c = not-delayed

pub returns-clause-refused : goal.returns-clause-refused
returns-clause-refused c = first-delayed

pub returns-clause-broken : goal.returns-clause-broken
returns-clause-broken c = delayed-refused
