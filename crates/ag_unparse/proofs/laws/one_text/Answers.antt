use Rattle.ag_unparse.proofs.SameText.{same_text}
use Rattle.ag_unparse.proofs.laws.one_text.Goals as goal

pub returns : goal.returns
returns c = same_text
