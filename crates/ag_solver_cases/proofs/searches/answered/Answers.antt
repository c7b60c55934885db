use Rattle.ag_solver_cases.proofs.searches.answered.Goals as goal

pub solve-requires-clause-plain : goal.solve-requires-clause-plain
solve-requires-clause-plain g c = c.in-Ok.ensures.0 c.if-not-plain.false
