use Rattle.ag_stream.specs.Dependence.{HasNoCycle}
use Rattle.ag_small.proofs.Numbering.{few_parts}
use Rattle.ag_small.proofs.Formed.{formed, plain, acyclic}
use Rattle.ag_small.proofs.numbered.problem.Goals as goal

pub draft-requires-clause-few : goal.draft-requires-clause-few
draft-requires-clause-few c = few_parts c.args.model.now c.requires.kept

pub make-requires-clause-formed : goal.make-requires-clause-formed
make-requires-clause-formed c = rw c.in_ok-draft.ensures (formed c.args.model.now c.args.claim c.args.sought c.requires.kept c.requires.claim c.requires.sought)

pub make-requires-clause-plain : goal.make-requires-clause-plain
make-requires-clause-plain c = rw c.in_ok-draft.ensures (plain c.args.model.now c.args.claim c.args.sought c.requires.kept)

pub unreachable-requires : goal.unreachable-requires
unreachable-requires c =
    let first = c.make.ensures.cycle c.in-Err-Cycle.field-0-0 cc in
    let none : HasNoCycle c.in_ok-draft.draft = rw c.in_ok-draft.ensures (acyclic c.args.model.now c.args.claim c.args.sought c.requires.kept) in
    none c.in-Err-Cycle.field-0-0 first.itself
