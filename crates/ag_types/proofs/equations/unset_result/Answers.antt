use Rattle.std.proofs.Common.{◌∙◌}
use Rattle.ag_types.specs.ClauseFaults.{unset, equation_names}
use Rattle.ag_types.proofs.Each.{two_lists}
use Rattle.ag_types.proofs.equations.unset_result.Goals as goal

pub returns : goal.returns
returns c =
    c.either.ensures ∙ rw (c.unset_among-of_outputs.ensures, c.unset_among-of_locals.ensures, c.in_ok-set.ensures, c.as_slice.ensures, c.as_slice-2.ensures, c.as_slice-3.ensures)
    (two_lists (unset (equation_names c.args.node.now)) c.args.node.now.outputs c.args.node.now.locals)
