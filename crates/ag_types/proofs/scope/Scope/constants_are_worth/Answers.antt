use Rattle.ag_types.proofs.ConstantsWorth.{are_worth}
use Rattle.ag_types.proofs.scope.Scope.constants_are_worth.Goals as goal

pub returns : goal.returns
returns c = (c.values-values.result.now, are_worth c.args.self.now c.values-values.result.now c.values-values.ensures.values c.values-values.ensures.typed)
