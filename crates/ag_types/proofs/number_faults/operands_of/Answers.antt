use Rattle.std.proofs.Common.{sym, ◌∙◌}
use Rattle.ag_types.specs.Numbered.{own_equation}
use Rattle.ag_types.proofs.Breaking.{first_broken-append}
use Rattle.ag_types.proofs.number_faults.operands_of.Goals as goal

pub returns-in-Arrow : goal.returns-in-Arrow
returns-in-Arrow c =
    c.either.ensures ∙ rw (c.own_equation.ensures, c.own_equation-in-Arrow.ensures, c.in-Arrow.is)
    (sym (first_broken-append (own_equation c.args.left.now) (own_equation c.args.right.now)))
