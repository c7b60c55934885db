-- What the commands of a check keep of the store, and how many entries they make.
use Rattle.std.specs.Prelude.{◌≡◌, ◌+◌, [], ℕ, false, List, length, map}
use Rattle.ag_stream.specs.declared.problem.ProblemDraft.{ProblemDraft}
use Rattle.ag_verdict.specs.declared.key.Key.{Key}
use Rattle.ag_base.specs.declared.limits.Limits.{Limits}
use Rattle.ag_verdict.specs.declared.verdict.Verdict.{Verdict}
use Rattle.ag_verdict.specs.Within.{IsWithin}
use Rattle.ag_board.specs.declared.entry.Posted.{Posted}
use Rattle.ag_board.specs.declared.entry.GivenBack.{GivenBack}
use Rattle.ag_board.specs.Entries.{post, posted, give_back, given_back}
use Rattle.ag_board.specs.Machine.{State, lines, undecided}
use Rattle.ag_board.specs.Store.{BoardState, Enters}
use Rattle.ag_board.specs.Tickets.{Handed}

-- the keys of the last revision and their problems
abbrev pub listed : State → List (Key × ProblemDraft)
listed s = map (λ l. (l.key, l.problem)) (lines s)

-- no ticket is out, it isn't stopped, and the one place is promised that a stop would take
pub record IsAtRest (b : BoardState) : Type 0 where
  pub tickets : b.state.tickets ≡ []
  pub not_stopped : b.state.is_stopped ≡ false
  pub spare : b.spare ≡ 1

-- so, and not closed
pub record IsIdle (b : BoardState) : Type 0 where
  pub at_rest : IsAtRest b
  pub still_open : b.state.is_closed ≡ false

-- the entries that there are, with the two that each undecided key still asks for
abbrev pub weight : BoardState → ℕ
weight b = length b.history + (undecided b.state + undecided b.state)

-- a store has the same revisions as another, but for their verdicts
pub record KeepsKeys (old new : State) : Type 0 where
  pub keys : listed new ≡ listed old
  pub revisions : length new.revisions ≡ length old.revisions

-- a verdict within the limits was posted for the ticket
pub record Posts (l : Limits) (t : Handed) (old new : BoardState) : Type 0 where
  pub verdict : Verdict
  pub how : Posted
  pub within : IsWithin l t.problem verdict
  pub enters : Enters old new t.seat (post t.claim verdict) (posted how)

-- the ticket was given back
pub record Returns (t : Handed) (old new : BoardState) : Type 0 where
  pub how : GivenBack
  pub enters : Enters old new t.seat (give_back t.claim) (given_back how)
