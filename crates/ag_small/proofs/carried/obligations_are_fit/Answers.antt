use Rattle.ag_small.proofs.Fit.{obligations_are_fit_lem}
use Rattle.ag_small.proofs.carried.obligations_are_fit.Goals as goal

pub returns : goal.returns
returns c = obligations_are_fit_lem
