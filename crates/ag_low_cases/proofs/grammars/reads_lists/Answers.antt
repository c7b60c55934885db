use Rattle.std.proofs.Common.{refl}
use Rattle.ag_grammar.specs.Example.{lists_certificate}
use Rattle.ag_low_cases.proofs.grammars.reads_lists.Goals as goal

pub read-requires : goal.read-requires
read-requires g c = (lists_certificate, refl)
