use Rattle.ag_unparse.proofs.TextsClose.{never_closes}
use Rattle.ag_unparse.proofs.texts.text_never_closes.Goals as goal

pub returns : goal.returns
returns c = never_closes
