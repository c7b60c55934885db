use Rattle.std.proofs.Common.{List, subst}
use Rattle.ag_names.specs.Order.{IsFirst}
use Rattle.ag_names.specs.Twice.{Declared, IsTwice}
use Rattle.ag_names.proofs.Twices.{first_moved}
use Rattle.ag_names.proofs.twice.first_twice.Goals as goal

pub returns : goal.returns
returns c =
    first_moved c.args.names.items c.sort.new.names.items c.first_behind.result c.in_ok-sort.ensures.permutation
    (subst (λ (z : List Declared). IsFirst (IsTwice z) c.first_behind.result) c.as_slice.ensures.value c.first_behind.ensures)
