use Rattle.std.proofs.Common.{arith}
use Rattle.ag_small.proofs.Numbering.{parts_in-formulas}
use Rattle.ag_small.proofs.numbered.draft.Goals as goal

pub numbers-requires : goal.numbers-requires
numbers-requires c = rw c.as_slice.ensures (omega (arith, c.requires.few, parts_in-formulas c.args.model.now))
