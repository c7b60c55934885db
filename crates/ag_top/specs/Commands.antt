-- The commands of a session, the entries that each makes, and what is said of it.
use Rattle.std.specs.Prelude.{◌≡◌, ◌+◌, ◌==◌, ◌++◌, ◌∷◌, [], ℕ, suc, if◌then◌else◌, List, length, map, All, Any, Option, Some, None, IfSome}
use Rattle.ag_base.specs.declared.limits.Limits.{Limits}
use Rattle.ag_base.specs.Limits.{IsLimits}
use Rattle.ag_base.specs.declared.status.Status.{Status}
use Rattle.ag_base.specs.declared.status.Status.TheVariants as statuses
use Rattle.ag_stream.specs.declared.problem.ProblemDraft.{ProblemDraft}
use Rattle.ag_verdict.specs.declared.key.Key.{Key}
use Rattle.ag_verdict.specs.declared.key.Obligation.{Obligation}
use Rattle.ag_verdict.specs.declared.verdict.Verdict.{Verdict}
use Rattle.ag_verdict.specs.Verdicts.{IsTrueOf}
use Rattle.ag_verdict.specs.Within.{IsWithin}
use Rattle.ag_small.specs.declared.package.Package.{Package}
use Rattle.ag_small.specs.Numbered.{obligations_of}
use Rattle.ag_report.specs.Texts as texts
use Rattle.ag_board.specs.declared.entry.Published.{Published}
use Rattle.ag_board.specs.declared.entry.Posted.{Posted}
use Rattle.ag_board.specs.declared.entry.Tally.{Tally}
use Rattle.ag_board.specs.declared.entry.GivenBack.{GivenBack}
use Rattle.ag_board.specs.Entries.{PlainEntry, publish, claim, post, give_back, report, close, published, work, settled, posted, given_back, reported, closed}
use Rattle.ag_board.specs.Store.{entry}
use Rattle.ag_top.specs.declared.command.Command.{Command}
use Rattle.ag_top.specs.declared.command.Command.TheVariants.{Publish, Settle, Report, Close}

-- what stays as it is throughout a session: whose entries its commands make, and the limits
pub record Setting : Type 0 where
  pub seat : ℕ
  pub limits : Limits

-- the seat of whoever gives the commands of a check
abbrev pub editor : ℕ
editor = 0

-- the commands are the editor's, and keep to these limits
abbrev pub editing : Limits → Setting
editing l = record { seat = editor; limits = l }

-- the limits that hold where none is set
abbrev pub IsUsual : Limits → Type 0
IsUsual l = IsLimits l 10 20000 5000 1 2

-- how far a session has come: the package that the next publish takes, the last one that was accepted, and the last revision
pub record Progress : Type 0 where
  pub staged : Package
  pub accepted : Option Package
  pub revision : ℕ

-- a package is read, and no command has come yet
abbrev pub starting : Package → Progress
starting p = record { staged = p; accepted = None; revision = 0 }

-- how far it has come behind a command that is answered
abbrev pub progress_after : Progress → Command → Progress
progress_after s Publish = record { staged = s.staged; accepted = Some s.staged; revision = suc s.revision }
progress_after s Settle = s
progress_after s Report = s
progress_after s Close = s

-- and behind several
abbrev pub progress_all : Progress → List Command → Progress
progress_all s [] = s
progress_all s (c ∷ cs) = progress_all (progress_after s c) cs

-- a check: its files' revision is published, settled, reported and closed
abbrev pub check : List Command
check = Publish ∷ Settle ∷ Report ∷ Close ∷ []

-- what is said of a command
pub data Said : Type 0 where
  Accepted : Published → Said
  AllSettled : ℕ → Said
  Told : Package → ℕ → List (Key × Option Verdict) → Said
  Shut : Tally → Said

-- what is written of a close
abbrev pub closed_text : Tally → List ℕ
closed_text t = texts.closed t.revision t.proved t.refuted t.consistent t.inconsistent t.unknown

-- what is written of a command
abbrev pub text_of : Limits → Said → List ℕ
text_of l (Accepted r) = texts.published r.revision r.count r.carried (length r.cancelled)
text_of l (AllSettled n) = texts.settled n
text_of l (Told p n lines) = texts.report_of p n l.consistency lines
text_of l (Shut t) = closed_text t

-- the keys of a package's obligations and their problems
abbrev pub pairs_of : List Obligation → List (Key × ProblemDraft)
pairs_of os = map {B = Key × ProblemDraft} (λ o. (o.key, o.problem)) os

-- those of the obligations that a package has within these limits
abbrev pub listed_of : Limits → Package → List (Key × ProblemDraft)
listed_of l p = pairs_of (obligations_of p l.consistency)

-- a claim that handed out a problem, and the post of its verdict, which keeps to the limits
pub record IsDecision (g : Setting) (a b : PlainEntry) : Type 0 where
  pub number : ℕ
  pub revision : ℕ
  pub problem : ProblemDraft
  pub verdict : Verdict
  pub how : Posted
  pub claimed : a ≡ entry g.seat claim (work number revision problem)
  pub put : b ≡ entry g.seat (post number verdict) (posted how)
  pub within : IsWithin g.limits problem verdict

-- decisions, and then a claim that finds each key decided
abbrev pub IsSettling : Setting → List PlainEntry → Type 0
IsSettling g [] = ⊥
IsSettling g (a ∷ []) = a ≡ entry g.seat claim settled
IsSettling g (a ∷ b ∷ es) = IsDecision g a b × IsSettling g es

-- a close comes once all is settled
pub record IsClosing (g : Setting) (es : List PlainEntry) (t : Tally) : Type 0 where
  pub first : List PlainEntry
  pub settling : IsSettling g first
  pub whole : es ≡ first ++ entry g.seat close (closed t) ∷ []

-- a verdict that is told of a key is true of the key's problem
abbrev pub IsToldOf : List (Key × ProblemDraft) → Key × Option Verdict → Type 0
IsToldOf list line = IfSome line.1 (λ v. Any (λ k. (k.0 ≡ line.0) × IsTrueOf k.1 v) list)

-- a report of the last package that was accepted: its entry, and what is said of it
pub record IsReport (g : Setting) (s : Progress) (es : List PlainEntry) (said : Said) : Type 0 where
  pub model : Package
  pub revision : ℕ
  pub lines : List (Key × Option Verdict)
  pub accepted : s.accepted ≡ Some model
  pub whole : es ≡ entry g.seat report (reported revision lines) ∷ []
  pub is : said ≡ Told model revision lines
  pub told : All (IsToldOf (listed_of g.limits model)) lines

-- these entries answer the command, and that is said of it
abbrev pub Answers : Setting → Progress → Command → List PlainEntry → Said → Type 0
Answers g s Publish es said =
    (r : Published) × (es ≡ entry g.seat (publish (listed_of g.limits s.staged)) (published r) ∷ []) × (said ≡ Accepted r)
Answers g s Settle es said = IsSettling g es × (said ≡ AllSettled s.revision)
Answers g s Report es said = IsReport g s es said
Answers g s Close es said = (t : Tally) × IsClosing g es t × (said ≡ Shut t)

-- at most one entry, of a claim that is given back
abbrev pub IsGivenBackOrNone : Setting → List PlainEntry → Type 0
IsGivenBackOrNone g [] = Unit {0}
IsGivenBackOrNone g (e ∷ []) = (number : ℕ) × (how : GivenBack) × (e ≡ entry g.seat (give_back number) (given_back how))
IsGivenBackOrNone g (a ∷ b ∷ es) = ⊥

-- The first entries of some that would answer the command, all of them or fewer, and then at most a claim that is given
-- back. So decisions keep to the limits, what is published is the package's own list, what is told is true, and none is a stop.
pub record IsBegun (g : Setting) (s : Progress) (c : Command) (es : List PlainEntry) : Type 0 where
  pub front : List PlainEntry
  pub rest : List PlainEntry
  pub said : Said
  pub answers : Answers g s c (front ++ rest) said
  pub back : List PlainEntry
  pub at_most : IsGivenBackOrNone g back
  pub whole : es ≡ front ++ back

-- the entries are those of the commands, each once and in order, and that is said of them
abbrev pub Serves : Setting → Progress → List Command → List PlainEntry → List Said → Type 0
Serves g s [] es said = (es ≡ []) × (said ≡ [])
Serves g s (c ∷ cs) es said =
    (own : List PlainEntry) × (rest : List PlainEntry) × (one : Said) × (more : List Said)
    × (es ≡ own ++ rest) × (said ≡ one ∷ more) × Answers g s c own one × Serves g (progress_after s c) cs rest more

-- how a check ends, by its verdicts: Refuted where one is refuted or inconsistent, else Unknown where one is
abbrev pub status_by : Tally → Status
status_by t =
    if t.refuted + t.inconsistent == 0 then (if t.unknown == 0 then statuses.AllGood else statuses.Unknown) else statuses.Refuted

-- what was written has grown by these bytes, where it is told
abbrev pub Grows : Option (List ℕ) → Option (List ℕ) → List ℕ → Type 0
Grows old new bytes = IfSome old (λ before. new ≡ Some (before ++ bytes))
