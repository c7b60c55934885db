use Rattle.ag_names.specs.Order.{IsFirst}
use Rattle.ag_names.proofs.First.{Below}
use Rattle.ag_names.proofs.Twices.{IsBehindThere}
use Rattle.ag_names.proofs.twice.first_behind.Given as goal

abbrev pub invariant-loop-at : goal.invariant-loop-at
invariant-loop-at l = IsFirst (Below (IsBehindThere l.names) l.at) l.found
