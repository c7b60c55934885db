use Rattle.ag_lex.proofs.FileText.{file_is_text}
use Rattle.ag_lex.proofs.files_are_text.Goals as goal

pub returns : goal.returns
returns c = file_is_text
