-- What the store is seen as: its state, the history that led there, and the places promised; and its limits.
use Rattle.std.specs.Prelude.{◌≡◌, ◌+◌, ◌≤◌, ◌++◌, ◌∷◌, [], ℕ, Bool, not, ◌&&◌, if◌then◌else◌, List, length, map, sum_by, Option, Some, None, IsSomeAnd, nat_lt, nat_le}
use Rattle.std.specs.List.{list_any, flat_map}
use Rattle.ag_stream.specs.declared.problem.ProblemDraft.{ProblemDraft}
use Rattle.ag_verdict.specs.declared.key.Key.{Key}
use Rattle.ag_board.specs.declared.entry.PublishFault.{PublishFault}
use Rattle.ag_board.specs.declared.entry.PublishFault.TheVariants as faults
use Rattle.ag_board.specs.Tickets.{Handed}
use Rattle.ag_board.specs.Entries.{PlainCall, PlainReply, PlainEntry}
use Rattle.ag_board.specs.Machine.{State, Ticket, start, same_problem, is_over, May, reply_of, after, ticket_of, IsLegal, state_after}

-- the state, the entries that led there, and how many places are promised for more
pub record BoardState : Type 0 where
  pub state : State
  pub history : List PlainEntry
  pub spare : ℕ

-- a new store: nothing has come, and one place is promised, the one for a stop
abbrev pub empty : BoardState
empty = record { state = start; history = []; spare = 1 }

-- the most places of a history, held and promised
abbrev pub most_places : ℕ
most_places = 4294967295

-- the most revisions
abbrev pub most_revisions : ℕ
most_revisions = 10000

-- the most pairs of a revision and a key
abbrev pub most_pairs : ℕ
most_pairs = 1000000

-- the most parts of different problems
abbrev pub most_parts : ℕ
most_parts = 16777216

-- so many further places would pass the limit
abbrev pub IsFull : BoardState → ℕ → Type 0
IsFull k more = most_places + 1 ≤ length k.history + k.spare + more

-- the promised places that are spoken for: one for each ticket that is out, and before a stop one for it
abbrev pub places_kept : State → ℕ
places_kept s = length s.tickets + (if s.is_stopped then 0 else 1)

-- two more places are promised, for a claim or a close
abbrev pub HasTwo : BoardState → Type 0
HasTwo k = places_kept k.state + 2 ≤ k.spare

-- the problems of all keys of all revisions
abbrev pub problems_of : State → List ProblemDraft
problems_of s = map (λ l. l.problem) (flat_map (λ r. r) s.revisions)

-- how many parts these problems have together, equal ones counted once
abbrev pub parts_of : List ProblemDraft → ℕ
parts_of [] = 0
parts_of (p ∷ ps) = (if list_any (same_problem p) ps then 0 else length p.parts) + parts_of ps

-- the pairs of a revision and a key
abbrev pub pairs_of : State → ℕ
pairs_of s = sum_by length s.revisions

-- with a further list the store keeps its limits on pairs and on parts
abbrev pub does_fit : State → List (Key × ProblemDraft) → Bool
does_fit s list =
    nat_le (pairs_of s + length list) most_pairs
    && nat_le (parts_of (problems_of s ++ map (λ k. k.1) list)) most_parts

-- why a list is refused, if it is: the first of these that stands
abbrev pub refusal_of : BoardState → List (Key × ProblemDraft) → Option PublishFault
refusal_of k list =
    if is_over k.state then Some faults.Closed
    else if nat_le most_revisions (length k.state.revisions) then Some faults.TooManyRevisions
    else if not (does_fit k.state list) then Some faults.StoreFull
    else if nat_lt most_places (length k.history + k.spare + 1) then Some faults.HistoryFull
    else None

-- the state is what the history leads to, the history is legal, the places promised are there, and no limit is passed
pub record IsKept (k : BoardState) : Type 0 where
  pub replay : k.state ≡ state_after start k.history
  pub legal : IsLegal k.history
  pub places : length k.history + k.spare ≤ most_places
  pub promised : places_kept k.state ≤ k.spare
  pub revisions : length k.state.revisions ≤ most_revisions
  pub pairs : pairs_of k.state ≤ most_pairs
  pub parts : parts_of (problems_of k.state) ≤ most_parts

-- the entry of a call from a seat with its reply
abbrev pub entry : ℕ → PlainCall → PlainReply → PlainEntry
entry seat call reply = record { seat = seat; call = call; reply = reply }

-- the call could come from that seat and made one entry, with the machine's reply, and the machine's new state
pub record Enters (old new : BoardState) (seat : ℕ) (call : PlainCall) (reply : PlainReply) : Type 0 where
  pub may : May old.state seat call
  pub says : reply ≡ reply_of old.state call
  pub state : new.state ≡ after old.state seat call
  pub history : new.history ≡ old.history ++ entry seat call reply ∷ []

-- the ticket has this seat, revision and problem
pub record IsSame (t : Handed) (u : Ticket) : Type 0 where
  pub seat : u.seat ≡ t.seat
  pub revision : u.revision ≡ t.revision
  pub problem : u.problem ≡ t.problem

-- the store has such a ticket out under its number; a ticket of another store that is equal to it counts too
abbrev pub IsOut : State → Handed → Type 0
IsOut s t = IsSomeAnd (ticket_of s t.claim) (IsSame t)
