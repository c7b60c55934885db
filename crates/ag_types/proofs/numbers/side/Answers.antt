use Rattle.std.proofs.Common.{◌∙◌}
use Rattle.ag_types.proofs.Numbering.{side_is}
use Rattle.ag_types.proofs.numbers.side.Goals as goal

pub returns : goal.returns
returns c = c.either.ensures ∙ rw (c.own_equation.ensures, c.in_ok-side.ensures) (side_is c.args.sight.now c.args.values.now c.args.term.now)
