-- The verdict store as a machine: its state, which calls may come, and what each answers and leaves.
use Rattle.std.specs.Prelude.{◌≡◌, ◌≢◌, ◌+◌, ◌==◌, ◌&&◌, ◌||◌, ℕ, Bool, true, false, not, if◌then◌else◌, List, [], ◌∷◌, ◌++◌, length, map, filter, find, count_by, unwrap_or, Option, Some, None, is_some, is_none, IsSomeAnd, AllPairs}
use Rattle.std.specs.List.{list_any, flat_map}
use Rattle.ag_stream.specs.declared.problem.ProblemDraft.{ProblemDraft}
use Rattle.ag_stream.specs.contracts.problem.ProblemDraftPartialEq.TheImpl as drafts
use Rattle.ag_stream.specs.Runs.{last}
use Rattle.ag_verdict.specs.declared.key.Key.{Key}
use Rattle.ag_verdict.specs.declared.verdict.Verdict.{Verdict}
use Rattle.ag_verdict.specs.declared.verdict.Verdict.TheVariants as verdicts
use Rattle.ag_verdict.specs.Verdicts.{IsTrueOf}
use Rattle.ag_board.specs.declared.entry.Published.{Published}
use Rattle.ag_board.specs.declared.entry.Posted.TheVariants as posts
use Rattle.ag_board.specs.declared.entry.GivenBack.TheVariants as given
use Rattle.ag_board.specs.declared.entry.Tally.{Tally}
use Rattle.ag_board.specs.Entries.{PlainCall, publish, claim, post, give_back, report, close, stop, PlainReply, published, work, busy, settled, over, posted, given_back, reported, closed, still_open, stopped, PlainEntry}

-- a key of a revision, its problem, and its verdict where it has one
pub record Line : Type 0 where
  pub key : Key
  pub problem : ProblemDraft
  pub verdict : Option Verdict

-- a claim that was handed out and hasn't come back
pub record Ticket : Type 0 where
  pub claim : ℕ
  pub seat : ℕ
  pub revision : ℕ
  pub problem : ProblemDraft
  pub is_live : Bool

-- the revisions in order, the claims that are out, how many claims there were, and whether it was closed or stopped
pub record State : Type 0 where
  pub revisions : List (List Line)
  pub tickets : List Ticket
  pub claims : ℕ
  pub is_closed : Bool
  pub is_stopped : Bool

-- the state of a new store
abbrev pub start : State
start = record { revisions = []; tickets = []; claims = 0; is_closed = false; is_stopped = false }

-- whether two problems are equal, by what they hold
abbrev pub same_problem : ProblemDraft → ProblemDraft → Bool
same_problem p q = drafts.eq-value.it p q

-- closed or stopped
abbrev pub is_over : State → Bool
is_over s = s.is_closed || s.is_stopped

-- the lines of the last revision; before the first there are none
abbrev pub lines : State → List Line
lines s = unwrap_or (last s.revisions) []

-- the verdict that a line with an equal problem has
abbrev pub verdict_in : List Line → ProblemDraft → Option Verdict
verdict_in [] p = None
verdict_in (l ∷ ls) p = if same_problem l.problem p && is_some l.verdict then l.verdict else verdict_in ls p

-- the verdict of a problem, whatever revision has it
abbrev pub verdict_of : State → ProblemDraft → Option Verdict
verdict_of s p = verdict_in (flat_map (λ r. r) s.revisions) p

-- publish

-- the line of a key that is published, with the verdict that its problem has already
abbrev pub new_line : State → Key × ProblemDraft → Line
new_line s k = record { key = k.0; problem = k.1; verdict = verdict_of s k.1 }

-- a live claim whose problem isn't in the list
abbrev pub is_cancelled : List (Key × ProblemDraft) → Ticket → Bool
is_cancelled list t = t.is_live && not (list_any (λ k. same_problem k.1 t.problem) list)

-- the ticket, no longer live where the list cancels it
abbrev pub cancel : List (Key × ProblemDraft) → Ticket → Ticket
cancel list t = if is_cancelled list t then record t { is_live = false } else t

-- the list is the last revision, and what it lacks is cancelled
abbrev pub after_publish : State → List (Key × ProblemDraft) → State
after_publish s list =
    record s {
      revisions = s.revisions ++ map (new_line s) list ∷ [];
      tickets = map (cancel list) s.tickets;
    }

-- the revision's number and size, how many of its keys have a verdict at once, and the claims cancelled
abbrev pub publish_reply : State → List (Key × ProblemDraft) → Published
publish_reply s list =
    record {
      revision = length s.revisions + 1;
      count = length list;
      carried = count_by (λ k. is_some (verdict_of s k.1)) list;
      cancelled = map (λ t. record { claim = t.claim; seat = t.seat }) (filter (is_cancelled list) s.tickets);
    }

-- claim

abbrev pub is_undecided : Line → Bool
is_undecided l = is_none l.verdict

-- undecided, and nobody has a live claim on its problem
abbrev pub is_free : State → Line → Bool
is_free s l = is_undecided l && not (list_any (λ t. t.is_live && same_problem t.problem l.problem) s.tickets)

-- how many keys of the last revision have no verdict
abbrev pub undecided : State → ℕ
undecided s = count_by is_undecided (lines s)

-- the ticket of the next claim, for that line
abbrev pub claim_ticket : State → ℕ → Line → Ticket
claim_ticket s seat l =
    record {
      claim = s.claims + 1;
      seat = seat;
      revision = length s.revisions;
      problem = l.problem;
      is_live = true;
    }

-- the answer to a claim, by the line that it found
abbrev pub claim_found : State → Option Line → PlainReply
claim_found s (Some l) = work (s.claims + 1) (length s.revisions) l.problem
claim_found s None = if undecided s == 0 then settled else busy (undecided s)

-- the first free line is handed out
abbrev pub claim_reply : State → PlainReply
claim_reply s = if is_over s then over else claim_found s (find (is_free s) (lines s))

-- where a line was found, its ticket is out too
abbrev pub after_found : State → ℕ → Option Line → State
after_found s seat (Some l) = record s { tickets = s.tickets ++ claim_ticket s seat l ∷ []; claims = s.claims + 1 }
after_found s seat None = s

-- what a claim leaves; nothing changes where the store is closed or stopped
abbrev pub after_claim : State → ℕ → State
after_claim s seat = if is_over s then s else after_found s seat (find (is_free s) (lines s))

-- post and give_back

-- the ticket that is out under a claim number
abbrev pub ticket_of : State → ℕ → Option Ticket
ticket_of s number = find (λ t. t.claim == number) s.tickets

-- the tickets but that one
abbrev pub without : ℕ → List Ticket → List Ticket
without number tickets = filter (λ t. not (t.claim == number)) tickets

-- the verdict, where the line's problem is that one
abbrev pub decided_line : ProblemDraft → Verdict → Line → Line
decided_line p v l = if same_problem l.problem p then record l { verdict = Some v } else l

-- every line of that problem gets the verdict
abbrev pub decided : ProblemDraft → Verdict → List (List Line) → List (List Line)
decided p v revisions = map (map (decided_line p v)) revisions

-- the ticket is in, and its problem has the verdict, if it had none
abbrev pub after_post : State → ℕ → Verdict → Option Ticket → State
after_post s number v None = s
after_post s number v (Some t) =
    record s {
      revisions = if is_some (verdict_of s t.problem) then s.revisions else decided t.problem v s.revisions;
      tickets = without number s.tickets;
    }

-- where no such ticket is out no post and no give_back may come, so what is answered there is never met
abbrev pub post_reply : State → Option Ticket → PlainReply
post_reply s None = posted posts.Already
post_reply s (Some t) = posted (if is_some (verdict_of s t.problem) then posts.Already else posts.Kept)

-- whether the last revision still has the problem
abbrev pub give_back_reply : State → Option Ticket → PlainReply
give_back_reply s None = given_back given.Alive
give_back_reply s (Some t) =
    given_back (if list_any (λ l. same_problem l.problem t.problem) (lines s) then given.Alive
    else given.Dead (length s.revisions))

-- close

-- the verdict is a proof
abbrev pub is_proved : Verdict → Bool
is_proved (verdicts.Proved k) = true
is_proved _ = false

-- the verdict is a run in which the claim fails
abbrev pub is_refuted : Verdict → Bool
is_refuted (verdicts.Refuted run) = true
is_refuted _ = false

-- the verdict is a run of the premises
abbrev pub is_consistent : Verdict → Bool
is_consistent (verdicts.Consistent run) = true
is_consistent _ = false

-- the verdict is that there is no run of the premises
abbrev pub is_inconsistent : Verdict → Bool
is_inconsistent verdicts.Inconsistent = true
is_inconsistent _ = false

-- the verdict is that a limit was spent
abbrev pub is_unknown : Verdict → Bool
is_unknown (verdicts.Unknown depth why) = true
is_unknown _ = false

-- there is a verdict, and it passes a test
abbrev pub passes : (Verdict → Bool) → Option Verdict → Bool
passes test None = false
passes test (Some v) = test v

-- how many lines have a verdict that passes a test
abbrev pub count_of : (Verdict → Bool) → List Line → ℕ
count_of test ls = count_by (λ l. passes test l.verdict) ls

-- how many lines of the last revision have a verdict of each kind
abbrev pub tally : State → Tally
tally s =
    record {
      revision = length s.revisions;
      proved = count_of is_proved (lines s);
      refuted = count_of is_refuted (lines s);
      consistent = count_of is_consistent (lines s);
      inconsistent = count_of is_inconsistent (lines s);
      unknown = count_of is_unknown (lines s);
    }

-- the whole machine

-- the call may come from that seat. A list has no key twice
abbrev pub May : State → ℕ → PlainCall → Type 0
May s seat (publish list) = (is_over s ≡ false) × AllPairs (λ a b. a.0 ≢ b.0) list
May s seat claim = Unit {0}
May s seat (post number v) = IsSomeAnd (ticket_of s number) (λ t. (t.seat ≡ seat) × IsTrueOf t.problem v)
May s seat (give_back number) = IsSomeAnd (ticket_of s number) (λ t. t.seat ≡ seat)
May s seat report = Unit {0}
May s seat close = is_over s ≡ false
May s seat stop = is_over s ≡ false

-- what the call is answered
abbrev pub reply_of : State → PlainCall → PlainReply
reply_of s (publish list) = published (publish_reply s list)
reply_of s claim = claim_reply s
reply_of s (post number v) = post_reply s (ticket_of s number)
reply_of s (give_back number) = give_back_reply s (ticket_of s number)
reply_of s report = reported (length s.revisions) (map {B = Key × Option Verdict} (λ l. (l.key, l.verdict)) (lines s))
reply_of s close = if undecided s == 0 then closed (tally s) else still_open (undecided s)
reply_of s stop = stopped

-- what the call from that seat leaves
abbrev pub after : State → ℕ → PlainCall → State
after s seat (publish list) = after_publish s list
after s seat claim = after_claim s seat
after s seat (post number v) = after_post s number v (ticket_of s number)
after s seat (give_back number) = record s { tickets = without number s.tickets }
after s seat report = s
after s seat close = if undecided s == 0 then record s { is_closed = true } else s
after s seat stop = record s { is_stopped = true }

-- from this state each call may come where it stands, and is answered as the machine answers there
abbrev pub IsLegalFrom : State → List PlainEntry → Type 0
IsLegalFrom s [] = Unit {0}
IsLegalFrom s (e ∷ es) = May s e.seat e.call × (e.reply ≡ reply_of s e.call) × IsLegalFrom (after s e.seat e.call) es

-- the state that entries leave
abbrev pub state_after : State → List PlainEntry → State
state_after s [] = s
state_after s (e ∷ es) = state_after (after s e.seat e.call) es

-- a history from the empty store
abbrev pub IsLegal : List PlainEntry → Type 0
IsLegal history = IsLegalFrom start history
