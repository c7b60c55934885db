-- What it is to serve commands, from what a session has left to what it leaves then.
use Rattle.std.specs.Prelude.{◌≡◌, ◌<◌, ◌≤◌, ◌⊎◌, ◌++◌, ◌∷◌, [], ℕ, List, Option, Result, Ok, Err, length, take}
use Rattle.ag_base.specs.declared.status.Status.{Status}
use Rattle.ag_base.specs.declared.status.Status.TheVariants as statuses
use Rattle.ag_base.specs.Outside.{Rose}
use Rattle.ag_stream.specs.declared.problem.ProblemDraft.{ProblemDraft}
use Rattle.ag_board.specs.declared.entry.Tally.{Tally}
use Rattle.ag_board.specs.declared.entry.GivenBack.{GivenBack}
use Rattle.ag_board.specs.Entries.{PlainEntry, claim, work, give_back, given_back}
use Rattle.ag_board.specs.Store.{entry}
use Rattle.ag_top.specs.declared.command.Command.{Command}
use Rattle.ag_top.specs.declared.cut.Cut.{Cut}
use Rattle.ag_top.specs.declared.cut.Cut.TheVariants as cuts
use Rattle.ag_top.specs.Commands.{Setting, Progress, progress_after, Said, Answers, IsBegun, Grows, IsDecision, IsSettling, text_of, status_by}

-- the history has grown by a decision
pub record DecidesOne (g : Setting) (old new : List PlainEntry) : Type 0 where
  pub claimed : PlainEntry
  pub put : PlainEntry
  pub decision : IsDecision g claimed put
  pub whole : new ≡ old ++ claimed ∷ put ∷ []

-- it has grown by decisions
abbrev pub AreDecisions : Setting → List PlainEntry → Type 0
AreDecisions g [] = Unit {0}
AreDecisions g (a ∷ []) = ⊥
AreDecisions g (a ∷ b ∷ es) = IsDecision g a b × AreDecisions g es

-- so from one history to another
pub record Decides (g : Setting) (old new : List PlainEntry) : Type 0 where
  pub entries : List PlainEntry
  pub decisions : AreDecisions g entries
  pub whole : new ≡ old ++ entries

-- it has grown by the entries that settle
pub record Settles (g : Setting) (old new : List PlainEntry) : Type 0 where
  pub entries : List PlainEntry
  pub settling : IsSettling g entries
  pub whole : new ≡ old ++ entries

-- a claim that handed out a problem, and came back without a verdict
pub record IsReturned (g : Setting) (a b : PlainEntry) : Type 0 where
  pub number : ℕ
  pub revision : ℕ
  pub problem : ProblemDraft
  pub how : GivenBack
  pub claimed : a ≡ entry g.seat claim (work number revision problem)
  pub returned : b ≡ entry g.seat (give_back number) (given_back how)

-- no entry, or such a claim
abbrev pub IsGivenUp : Setting → List PlainEntry → Type 0
IsGivenUp g [] = Unit {0}
IsGivenUp g (a ∷ []) = ⊥
IsGivenUp g (a ∷ b ∷ []) = IsReturned g a b
IsGivenUp g (a ∷ b ∷ e ∷ es) = ⊥

-- the history has grown by at most such a claim
pub record GivesUp (g : Setting) (old new : List PlainEntry) : Type 0 where
  pub entries : List PlainEntry
  pub given_up : IsGivenUp g entries
  pub whole : new ≡ old ++ entries

-- it has grown by decisions, and then by at most such a claim
pub record SettlesPartly (g : Setting) (old new : List PlainEntry) : Type 0 where
  pub middle : List PlainEntry
  pub decides : Decides g old middle
  pub gives_up : GivesUp g middle new

-- what a session has left so far: the history of its store, and what was written, where that is told
pub record Output : Type 0 where
  pub history : List PlainEntry
  pub written : Option (List ℕ)

-- a command was answered, and what is said of it was written
pub record Stage (g : Setting) (s : Progress) (c : Command) (old new : Output) : Type 0 where
  pub entries : List PlainEntry
  pub said : Said
  pub history : new.history ≡ old.history ++ entries
  pub answers : Answers g s c entries said
  pub written : Grows old.written new.written (text_of g.limits said)

-- a command was begun, and nothing was written
pub record Begins (g : Setting) (s : Progress) (c : Command) (old new : Output) : Type 0 where
  pub entries : List PlainEntry
  pub begun : IsBegun g s c entries
  pub history : new.history ≡ old.history ++ entries
  pub same : new.written ≡ old.written

-- the first bytes of a text were written, but not all
pub record Partly (text : List ℕ) (before now : Option (List ℕ)) : Type 0 where
  pub taken : ℕ
  pub short : taken < length text
  pub written : Grows before now (take taken text)

-- a text was handed over, or its first bytes
abbrev pub Writes : {A : Type 0} → List ℕ → Result A Cut → Option (List ℕ) → Option (List ℕ) → Type 0
Writes text (Ok a) before now = Grows before now text
Writes text (Err cuts.Write) before now = Partly text before now
Writes text (Err cuts.Memory) before now = ⊥

-- a command was answered, and the first bytes of what is said of it were written
pub record Broken (g : Setting) (s : Progress) (c : Command) (old new : Output) : Type 0 where
  pub entries : List PlainEntry
  pub said : Said
  pub history : new.history ≡ old.history ++ entries
  pub answers : Answers g s c entries said
  pub partly : Partly (text_of g.limits said) old.written new.written

-- a command was cut short: for want of memory when it was begun, by the sink when it was answered
abbrev pub IsCut : Cut → Setting → Progress → Command → Output → Output → Type 0
IsCut cuts.Memory g s c old new = Begins g s c old new
IsCut cuts.Write g s c old new = Broken g s c old new

-- how a command ended
abbrev pub Served : {A : Type 0} → Setting → Progress → Command → Result A Cut → Output → Output → Type 0
Served g s c (Ok a) old new = Stage g s c old new
Served g s c (Err cut) old new = IsCut cut g s c old new

-- the commands were answered in order
abbrev pub RunsAll : Setting → Progress → List Command → Output → Output → Type 0
RunsAll g s [] old new = new ≡ old
RunsAll g s (c ∷ cs) old new = (middle : Output) × Stage g s c old middle × RunsAll g (progress_after s c) cs middle new

-- the first of the commands were answered in order, and the next one was cut short
abbrev pub CutIn : Cut → Setting → Progress → List Command → Output → Output → Type 0
CutIn cut g s [] old new = ⊥
CutIn cut g s (c ∷ cs) old new =
    IsCut cut g s c old new ⊎ ((middle : Output) × Stage g s c old middle × CutIn cut g (progress_after s c) cs middle new)

-- how the commands ended
abbrev pub ServedAll : {A : Type 0} → Setting → Progress → List Command → Result A Cut → Output → Output → Type 0
ServedAll g s cs (Ok a) old new = RunsAll g s cs old new
ServedAll g s cs (Err cut) old new = CutIn cut g s cs old new

-- nothing has come yet
abbrev pub silent : Option (List ℕ) → Output
silent written = record { history = []; written = written }

-- the sink's count of faults: it rose where the sink ended the call, and is as it was elsewhere
abbrev pub CountsFault : {A : Type 0} → Result A Cut → ℕ → ℕ → Type 0
CountsFault (Err cuts.Write) before now = (before ≤ now) × Rose before now
CountsFault (Err cuts.Memory) before now = now ≡ before
CountsFault (Ok a) before now = now ≡ before

-- the status of an end: by its verdicts, or by what cut it short
abbrev pub status_at : Result Tally Cut → Status
status_at (Ok t) = status_by t
status_at (Err cuts.Write) = statuses.WriteFault
status_at (Err cuts.Memory) = statuses.OutOfMemory

-- an end by the verdicts
abbrev pub EndsByVerdicts : Status → Type 0
EndsByVerdicts statuses.AllGood = Unit {0}
EndsByVerdicts statuses.Refuted = Unit {0}
EndsByVerdicts statuses.Unknown = Unit {0}
EndsByVerdicts _ = ⊥

-- by the verdicts, by the sink or by memory
abbrev pub IsEndOfCheck : Status → Type 0
IsEndOfCheck statuses.Usage = ⊥
IsEndOfCheck statuses.ModelRefused = ⊥
IsEndOfCheck statuses.ReadFault = ⊥
IsEndOfCheck statuses.SessionRefused = ⊥
IsEndOfCheck _ = Unit {0}

-- an end of a check, or a refusal
abbrev pub IsEndOfText : Status → Type 0
IsEndOfText statuses.Usage = ⊥
IsEndOfText statuses.ReadFault = ⊥
IsEndOfText statuses.SessionRefused = ⊥
IsEndOfText _ = Unit {0}

-- an end of a text, or a read fault
abbrev pub IsEndOfFile : Status → Type 0
IsEndOfFile statuses.Usage = ⊥
IsEndOfFile statuses.SessionRefused = ⊥
IsEndOfFile _ = Unit {0}

-- the end of a file that isn't read: that was written, or the source, the folder, the sink or memory cut it short
abbrev pub IsEndUnread : Status → Type 0
IsEndUnread statuses.ModelRefused = Unit {0}
IsEndUnread statuses.ReadFault = Unit {0}
IsEndUnread statuses.WriteFault = Unit {0}
IsEndUnread statuses.OutOfMemory = Unit {0}
IsEndUnread _ = ⊥

-- the end of a print: its text or its refusal was written, or the sink or memory cut it short
abbrev pub IsEndOfPrint : Status → Type 0
IsEndOfPrint statuses.AllGood = Unit {0}
IsEndOfPrint statuses.ModelRefused = Unit {0}
IsEndOfPrint statuses.WriteFault = Unit {0}
IsEndOfPrint statuses.OutOfMemory = Unit {0}
IsEndOfPrint _ = ⊥

-- the end of a print of a file: as that of a text, or a read fault
abbrev pub IsEndOfPrintedFile : Status → Type 0
IsEndOfPrintedFile statuses.ReadFault = Unit {0}
IsEndOfPrintedFile s = IsEndOfPrint s
