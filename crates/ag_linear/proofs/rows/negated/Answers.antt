-- What the type keeps, it keeps of the row times -1.
use Rattle.ag_linear.proofs.Held.{held_negated}
use Rattle.ag_linear.proofs.rows.negated.Goals as goal

pub invariant_of-result : goal.invariant_of-result
invariant_of-result c = held_negated c.row.inside.constant _ c.row.inside.factors.items _ c.row.inside.hidden.items _ c.row.invariant c.scale_factors.ensures c.scale_hidden.ensures
