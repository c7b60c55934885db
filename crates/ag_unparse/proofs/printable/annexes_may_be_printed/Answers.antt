use Rattle.ag_unparse.proofs.PrintableClauses.{may_be_printed}
use Rattle.ag_unparse.proofs.printable.annexes_may_be_printed.Goals as goal

pub returns : goal.returns
returns c = may_be_printed
