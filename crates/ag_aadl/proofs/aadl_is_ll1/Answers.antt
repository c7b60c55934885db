use Rattle.std.proofs.Common.{refl}
use Rattle.ag_aadl.specs.Certificate.{certificate}
use Rattle.ag_aadl.proofs.aadl_is_ll1.Goals as goal

pub returns : goal.returns
returns c = (certificate, refl)
