use Rattle.std.proofs.Common.{◌∙◌}
use Rattle.ag_types.proofs.Claiming.{broken_equal}
use Rattle.ag_types.proofs.claims.equal.Goals as goal

pub returns : goal.returns
returns c =
    c.either.ensures ∙ rw (c.unknown_target-of_name.ensures, c.value.ensures, c.of_name-target.ensures, c.as_bytes.ensures)
    (broken_equal c.args.sight.now c.args.targets.now c.args.equation.now)
