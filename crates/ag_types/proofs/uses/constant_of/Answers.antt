use Rattle.std.proofs.Common.{ap}
use Rattle.ag_symbols.specs.Seen.{Names}
use Rattle.ag_types.specs.Uses.{Constant}
use Rattle.ag_types.proofs.uses.constant_of.Goals as goal

pub returns : goal.returns
returns c =
    let of_names : Names → Constant = λ n. record { var = c.args.var.now; names = n; term = c.args.term.now } in
    ap of_names c.sight-sight.ensures
