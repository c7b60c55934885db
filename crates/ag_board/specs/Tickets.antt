-- What is seen of a ticket.
use Rattle.std.specs.Prelude.{ℕ}
use Rattle.ag_stream.specs.declared.problem.ProblemDraft.{ProblemDraft}

-- the claim's number and seat, and the revision and problem that it was handed out for
pub record Handed : Type 0 where
  pub claim : ℕ
  pub seat : ℕ
  pub revision : ℕ
  pub problem : ProblemDraft
