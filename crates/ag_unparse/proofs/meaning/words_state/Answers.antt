use Rattle.ag_unparse.proofs.MeaningWhole.{states}
use Rattle.ag_unparse.proofs.meaning.words_state.Goals as goal

pub returns : goal.returns
returns c = states
