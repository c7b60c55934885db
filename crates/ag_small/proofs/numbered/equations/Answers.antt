use Rattle.std.proofs.Common.{arith, refl}
use Rattle.ag_small.proofs.Numbering.{some_parts, parts_in-formulas}
use Rattle.ag_small.specs.Nodes.{expression_of}
use Rattle.ag_small.proofs.numbered.equations.Goals as goal

pub claim_parts-first-requires : goal.claim_parts-first-requires
claim_parts-first-requires c = rw c.as_slice.ensures (omega (arith, c.requires.few, parts_in-formulas c.args.model.now))

pub loop-assign-init : goal.loop-assign-init
loop-assign-init c =
    let first = rw c.as_slice.ensures at c.claim_parts-first.ensures in (
      rw (c.new-equations.ensures, first) refl,
      omega (arith, first, parts_in-formulas c.args.model.now),
    )

pub overflow_sub-part : goal.overflow_sub-part
overflow_sub-part c = omega (arith, c.part_count-count.ensures, some_parts (expression_of c.node.result.now))
