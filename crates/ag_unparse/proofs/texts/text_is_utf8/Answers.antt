use Rattle.ag_unparse.proofs.TextsUtf8.{text_utf8}
use Rattle.ag_unparse.proofs.texts.text_is_utf8.Goals as goal

pub returns : goal.returns
returns c = text_utf8
