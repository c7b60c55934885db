use Rattle.std.proofs.Common.{arith}
use Rattle.ag_small.proofs.Numbering.{some_parts}
use Rattle.ag_small.specs.Nodes.{expression_of}
use Rattle.ag_small.proofs.numbered.numbers.Goals as goal

pub overflow_sub-first : goal.overflow_sub-first
overflow_sub-first c = omega (arith, c.part_count-count.ensures, some_parts (expression_of c.node.result.now))
