-- The scope of these clauses.
use Rattle.ag_symbols.specs.Seen.{seen_of}
use Rattle.ag_types.proofs.scope.check.Given as goal

abbrev pub ghost-evaluate : goal.ghost-evaluate
ghost-evaluate a = seen_of a.library.now a.frame.now a.body.now a.ports.now
