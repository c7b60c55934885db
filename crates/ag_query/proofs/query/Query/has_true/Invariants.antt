use Rattle.std.proofs.Common.{◌≡◌, drop}
use Rattle.ag_query.specs.Meaning.{one_holds}
use Rattle.ag_query.specs.Answers.{assignment_of}
use Rattle.ag_query.proofs.query.Query.has_true.Given as goal

abbrev pub invariant-loop-lit : goal.invariant-loop-lit
invariant-loop-lit l = one_holds l.self.atoms (assignment_of l.v) (drop l.lit-index l.lits) ≡ one_holds l.self.atoms (assignment_of l.v) l.lits
