-- The scope whose constants and nodes are looked at.
use Rattle.ag_types.proofs.scope.evaluate.Given as goal

abbrev pub ghost-uses : goal.ghost-uses
ghost-uses g a = g.seen

abbrev pub ghost-values : goal.ghost-values
ghost-values g a = g.seen

abbrev pub ghost-first_circle : goal.ghost-first_circle
ghost-first_circle g a = g.seen
