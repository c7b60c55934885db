-- What is seen of a history as it stands in memory.
use Rattle.std.specs.Prelude.{◌+◌, ◌-◌, ◌≤◌, ◌++◌, ◌∷◌, [], ℕ, List, length, Option, Some, None, IsSome, slice_get, unwrap_or, option_and_then}
use Rattle.std.specs.Option.{option_map, option_map_or}
use Rattle.ag_stream.specs.declared.problem.ProblemDraft.{ProblemDraft}
use Rattle.ag_verdict.specs.declared.key.Key.{Key}
use Rattle.ag_verdict.specs.declared.verdict.Verdict.{Verdict}
use Rattle.ag_board.specs.declared.note.Noted.{Noted}
use Rattle.ag_board.specs.declared.note.Noted.TheVariants as noted
use Rattle.ag_board.specs.declared.note.Note.{Note}
use Rattle.ag_board.specs.Entries.{PlainCall, publish, claim, post, give_back, report, close, stop, PlainReply, work, PlainEntry, Past, plain_call, plain_reply}
use Rattle.ag_board.specs.Store.{most_places}

abbrev pub with_spare : Past → ℕ → Past
with_spare p n = record { entries = p.entries; spare = n }

-- one entry more, on a promised place
abbrev pub with_entry : Past → PlainEntry → Past
with_entry p e = record { entries = p.entries ++ e ∷ []; spare = p.spare - 1 }

-- the list that a call publishes
abbrev pub list_of : PlainCall → List (Key × ProblemDraft)
list_of (publish list) = list
list_of claim = []
list_of (post number v) = []
list_of (give_back number) = []
list_of report = []
list_of close = []
list_of stop = []

-- the verdict that a call posts
abbrev pub verdict_posted : PlainCall → Option Verdict
verdict_posted (post number v) = Some v
verdict_posted (publish list) = None
verdict_posted claim = None
verdict_posted (give_back number) = None
verdict_posted report = None
verdict_posted close = None
verdict_posted stop = None

-- the list that the entry at a position published
abbrev pub listed_in : List PlainEntry → ℕ → List (Key × ProblemDraft)
listed_in entries n = option_map_or (λ e. list_of e.call) (slice_get entries n) []

-- the verdict that the entry at a position posted
abbrev pub posted_in : List PlainEntry → ℕ → Option Verdict
posted_in entries n = option_and_then (λ e. verdict_posted e.call) (slice_get entries n)

-- the problem at a place of the list that the entry at a position published
abbrev pub problem_in : List PlainEntry → ℕ → ℕ → Option ProblemDraft
problem_in entries n place = option_map (λ k. k.1) (slice_get (listed_in entries n) place)

-- a problem of nothing
abbrev pub nothing : ProblemDraft
nothing =
    record {
      ints = 0;
      flags = 0;
      parts = [];
      equations = [];
      so_far = [];
      earlier = [];
      claim = None;
      length = 0;
    }

-- the call of an entry as it is kept
abbrev pub noted_call : Noted → PlainCall
noted_call (noted.Work number revision list place) = claim
noted_call (noted.Whole call reply) = plain_call call

-- the entry's reply, where these are the entries before it
abbrev pub noted_reply : List PlainEntry → Noted → PlainReply
noted_reply before (noted.Work number revision list place) =
    work number revision (unwrap_or (problem_in before list place) nothing)
noted_reply before (noted.Whole call reply) = plain_reply reply

abbrev pub plain_note : List PlainEntry → Note → PlainEntry
plain_note before n = record { seat = n.seat; call = noted_call n.noted; reply = noted_reply before n.noted }

-- the entries behind these
abbrev pub plain_from : List PlainEntry → List Note → List PlainEntry
plain_from before [] = before
plain_from before (n ∷ ns) = plain_from (before ++ plain_note before n ∷ []) ns

abbrev pub plain_notes : List Note → List PlainEntry
plain_notes ns = plain_from [] ns

-- work that is kept by its place names a problem that was published before
abbrev pub IsPlaced : List PlainEntry → Noted → Type 0
IsPlaced before (noted.Work number revision list place) = IsSome (problem_in before list place)
IsPlaced before (noted.Whole call reply) = Unit {0}

abbrev pub ArePlaced : List PlainEntry → List Note → Type 0
ArePlaced before [] = Unit {0}
ArePlaced before (n ∷ ns) = IsPlaced before n.noted × ArePlaced (before ++ plain_note before n ∷ []) ns

-- what is kept of so many promised places in memory of so many
pub record IsNoted (ns : List Note) (spare capacity : ℕ) : Type 0 where
  pub placed : ArePlaced [] ns
  pub room : length ns + spare ≤ capacity
  pub few : length ns + spare ≤ most_places
