-- A package under check with its board: when a command may come, and how each ended.
use Rattle.std.specs.Prelude.{◌≡◌, ◌<◌, ℕ, zero, suc, false, List, length, Option, Some, None}
use Rattle.ag_board.specs.declared.entry.Tally.{Tally}
use Rattle.ag_board.specs.Machine.{undecided, tally}
use Rattle.ag_board.specs.Store.{empty}
use Rattle.ag_top.specs.declared.command.Command.{Command}
use Rattle.ag_top.specs.declared.command.Command.TheVariants.{Publish, Settle, Report, Close}
use Rattle.ag_small.specs.declared.package.Package.{Package}
use Rattle.ag_top.specs.declared.session.Session.{Session}
use Rattle.ag_top.specs.Commands.{Setting, Progress, editing, listed_of}
use Rattle.ag_top.specs.Keeping.{listed}
use Rattle.ag_top.specs.Stages.{Output}

-- the commands are the editor's, and keep to the limits of the session
abbrev pub setting_of : Session → Setting
setting_of s = editing s.limits

-- the package is accepted once there is a revision
abbrev pub accepted_at : ℕ → Package → Option Package
accepted_at zero p = None
accepted_at (suc n) p = Some p

-- how far a session has come
abbrev pub progress_of : Session → Progress
progress_of s = record {
  staged = s.model;
  accepted = accepted_at (length s.board.state.revisions) s.model;
  revision = length s.board.state.revisions;
}

-- what the session has left, where this was written
abbrev pub output : Session → Option (List ℕ) → Output
output s written = record { history = s.board.history; written = written }

-- the board has a revision, the last one has the keys and problems of the package, and it isn't closed
pub record IsOpen (s : Session) : Type 0 where
  pub still_open : s.board.state.is_closed ≡ false
  pub some : 0 < length s.board.state.revisions
  pub keys : listed s.board.state ≡ listed_of s.limits s.model

-- the command may come: in a check the publish comes first, and the others behind it
abbrev pub IsDue : Command → Session → Type 0
IsDue Publish s = s.board ≡ empty
IsDue Settle s = IsOpen s
IsDue Report s = IsOpen s
IsDue Close s = IsOpen s

-- the package and the limits are the same
pub record IsSameModel (old new : Session) : Type 0 where
  pub model : new.model ≡ old.model
  pub limits : new.limits ≡ old.limits

-- all keys of the package have their verdicts, and these are counted
pub record IsShut (s : Session) (t : Tally) : Type 0 where
  pub keys : listed s.board.state ≡ listed_of s.limits s.model
  pub decided : undecided s.board.state ≡ 0
  pub counted : t ≡ tally s.board.state

-- what a command left behind it: after a close the tally of it, after the others an open board
abbrev pub IsAfter : Command → Session → Option Tally → Type 0
IsAfter Close s (Some t) = IsShut s t
IsAfter Close s None = ⊥
IsAfter Publish s None = IsOpen s
IsAfter Settle s None = IsOpen s
IsAfter Report s None = IsOpen s
IsAfter _ s (Some t) = ⊥
