-- The replies of the machine that answers stand for.
use Rattle.std.specs.Prelude.{◌≡◌, ℕ}
use Rattle.ag_stream.specs.declared.problem.ProblemDraft.{ProblemDraft}
use Rattle.ag_board.specs.declared.entry.Look.{Look}
use Rattle.ag_board.specs.declared.entry.Look.TheVariants as looks
use Rattle.ag_board.specs.declared.ticket.Claimed.{Claimed}
use Rattle.ag_board.specs.declared.ticket.Claimed.TheVariants as claims
use Rattle.ag_board.specs.Entries.{PlainReply, work, busy, settled, over}
use Rattle.ag_board.specs.Machine.{State}
use Rattle.ag_board.specs.Store.{IsOut}

-- the reply that an answer to a claim stands for
abbrev pub claimed_reply : Claimed → PlainReply
claimed_reply (claims.Work t) = work t.claim t.revision t.problem
claimed_reply (claims.Busy n) = busy n
claimed_reply claims.Settled = settled
claimed_reply claims.Over = over

-- how many of a claim's two places are gone: work keeps one for its ticket
abbrev pub places_used : Claimed → ℕ
places_used (claims.Work t) = 1
places_used (claims.Busy n) = 2
places_used claims.Settled = 2
places_used claims.Over = 2

-- a ticket that is handed out is this store's, for that seat
abbrev pub IsHanded : State → ℕ → Claimed → Type 0
IsHanded s seat (claims.Work t) = IsOut s t × (t.seat ≡ seat)
IsHanded s seat (claims.Busy n) = Unit {0}
IsHanded s seat claims.Settled = Unit {0}
IsHanded s seat claims.Over = Unit {0}

-- some work, whichever it is
pub record IsWork (reply : PlainReply) : Type 0 where
  pub claim : ℕ
  pub revision : ℕ
  pub problem : ProblemDraft
  pub is : reply ≡ work claim revision problem

-- the look says that a claim would get this reply
abbrev pub Tells : Look → PlainReply → Type 0
Tells looks.Work reply = IsWork reply
Tells (looks.Busy n) reply = reply ≡ busy n
Tells looks.Settled reply = reply ≡ settled
Tells looks.Over reply = reply ≡ over
