-- The packages of a file are printable, its annexes stand among its tokens, and what they state may be printed.
use Rattle.ag_print.proofs.AnnexItems.{annexes_are_among}
use Rattle.ag_print.proofs.PrintablePackages.{files_are_printable}
use Rattle.ag_print.proofs.PrintableStated.{stated_may_be_printed}
use Rattle.ag_print.proofs.laws.files_are_printable.Goals as goal

pub returns-clause-packages : goal.returns-clause-packages
returns-clause-packages c = files_are_printable

pub returns-clause-annexes : goal.returns-clause-annexes
returns-clause-annexes c = annexes_are_among

pub returns-clause-stated : goal.returns-clause-stated
returns-clause-stated c = stated_may_be_printed c.annexes_may_be_printed.ensures c.labels_are_text.ensures c.files_are_text.ensures
