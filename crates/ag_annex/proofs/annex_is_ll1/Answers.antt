use Rattle.std.proofs.Common.{refl}
use Rattle.ag_annex.specs.Certificate.{certificate}
use Rattle.ag_annex.proofs.annex_is_ll1.Goals as goal

pub returns : goal.returns
returns c = (certificate, refl)
