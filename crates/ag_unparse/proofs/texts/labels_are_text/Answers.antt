use Rattle.ag_unparse.proofs.TextsLabels.{labels_are_text}
use Rattle.ag_unparse.proofs.texts.labels_are_text.Goals as goal

pub returns : goal.returns
returns c = labels_are_text
