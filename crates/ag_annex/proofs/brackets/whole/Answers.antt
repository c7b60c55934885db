use Rattle.std.proofs.Common.{refl}
use Rattle.ag_annex.proofs.brackets.whole.Goals as goal

pub returns : goal.returns
returns c = refl
