use Rattle.ag_small.proofs.Verdicts.{named_have_numbered, numbered_have_named, premises_agree, breaking_agrees}
use Rattle.ag_small.proofs.carried.runs_stand.Goals as goal

pub returns-clause-named : goal.returns-clause-named
returns-clause-named c = named_have_numbered

pub returns-clause-numbered : goal.returns-clause-numbered
returns-clause-numbered c = numbered_have_named

pub returns-clause-premises : goal.returns-clause-premises
returns-clause-premises c = premises_agree

pub returns-clause-breaking : goal.returns-clause-breaking
returns-clause-breaking c = breaking_agrees
