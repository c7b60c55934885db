-- Calls, replies and entries as plain values, without what tells where they lie in memory.
use Rattle.std.specs.Prelude.{ℕ, List, map, Option}
use Rattle.std.specs.Option.{option_map}
use Rattle.std.specs.declared.sync.Arc.{Arc}
use Rattle.std.specs.declared.alloc.Global.{Global}
use Rattle.ag_stream.specs.declared.problem.Problem.{Problem}
use Rattle.ag_stream.specs.declared.problem.ProblemDraft.{ProblemDraft}
use Rattle.ag_verdict.specs.declared.key.Key.{Key}
use Rattle.ag_verdict.specs.declared.verdict.Verdict.{Verdict}
use Rattle.ag_board.specs.declared.entry.Published.{Published}
use Rattle.ag_board.specs.declared.entry.Posted.{Posted}
use Rattle.ag_board.specs.declared.entry.GivenBack.{GivenBack}
use Rattle.ag_board.specs.declared.entry.Tally.{Tally}
use Rattle.ag_board.specs.declared.entry.Call.{Call}
use Rattle.ag_board.specs.declared.entry.Call.TheVariants as calls
use Rattle.ag_board.specs.declared.entry.Reply.{Reply}
use Rattle.ag_board.specs.declared.entry.Reply.TheVariants as replies
use Rattle.ag_board.specs.declared.entry.Entry.{Entry}

-- a call; a claim is named by its number
pub data PlainCall : Type 0 where
  publish : List (Key × ProblemDraft) → PlainCall
  claim : PlainCall
  post : ℕ → Verdict → PlainCall
  give_back : ℕ → PlainCall
  report : PlainCall
  close : PlainCall
  stop : PlainCall

-- what the store answers
pub data PlainReply : Type 0 where
  published : Published → PlainReply
  work : ℕ → ℕ → ProblemDraft → PlainReply
  busy : ℕ → PlainReply
  settled : PlainReply
  over : PlainReply
  posted : Posted → PlainReply
  given_back : GivenBack → PlainReply
  reported : ℕ → List (Key × Option Verdict) → PlainReply
  closed : Tally → PlainReply
  still_open : ℕ → PlainReply
  stopped : PlainReply

-- a call from a seat, and its reply
pub record PlainEntry : Type 0 where
  pub seat : ℕ
  pub call : PlainCall
  pub reply : PlainReply

-- what is seen of a history: its entries, and how many places are promised for more
pub record Past : Type 0 where
  pub entries : List PlainEntry
  pub spare : ℕ

-- a list of shared problems, by their values
abbrev pub plain_list : List (Key × Arc Problem Global) → List (Key × ProblemDraft)
plain_list list = map {B = Key × ProblemDraft} (λ k. (k.0, k.1.value)) list

-- shared verdicts, by their values
abbrev pub plain_verdicts : List (Arc Verdict Global) → List Verdict
plain_verdicts verdicts = map (λ v. v.value) verdicts

-- keys with shared verdicts or none, by their values
abbrev pub plain_lines : List (Key × Option (Arc Verdict Global)) → List (Key × Option Verdict)
plain_lines lines = map {B = Key × Option Verdict} (λ l. (l.0, option_map (λ v. v.value) l.1)) lines

-- the call, by the values of its problems and verdicts
abbrev pub plain_call : Call → PlainCall
plain_call (calls.Publish list) = publish (plain_list list)
plain_call calls.Claim = claim
plain_call (calls.Post number verdict) = post number verdict.value
plain_call (calls.GiveBack number) = give_back number
plain_call calls.Report = report
plain_call calls.Close = close
plain_call calls.Stop = stop

-- the reply, by the values of its problems and verdicts
abbrev pub plain_reply : Reply → PlainReply
plain_reply (replies.Published p) = published p
plain_reply (replies.Work number revision problem) = work number revision problem.value
plain_reply (replies.Busy n) = busy n
plain_reply replies.Settled = settled
plain_reply replies.Over = over
plain_reply (replies.Posted p) = posted p
plain_reply (replies.GivenBack g) = given_back g
plain_reply (replies.Report r) = reported r.revision (plain_lines r.lines)
plain_reply (replies.Closed t) = closed t
plain_reply (replies.StillOpen n) = still_open n
plain_reply replies.Stopped = stopped

-- the entry, by the values of its problems and verdicts
abbrev pub plain_entry : Entry → PlainEntry
plain_entry e = record { seat = e.seat; call = plain_call e.call; reply = plain_reply e.reply }
