-- How histories and their states go on by one entry.
use Rattle.std.proofs.Common.{◌≡◌, ◌++◌, ◌∷◌, [], ℕ, List, refl}
use Rattle.ag_board.specs.Entries.{PlainCall, PlainReply, PlainEntry}
use Rattle.ag_board.specs.Machine.{State, start, May, reply_of, after, IsLegalFrom, state_after}
use Rattle.ag_board.specs.Store.{BoardState, Enters, entry}

pub state_after-snoc : (s : State) (es : List PlainEntry) (e : PlainEntry) → state_after s (es ++ e ∷ []) ≡ after (state_after s es) e.seat e.call
state_after-snoc s [] e = refl
state_after-snoc s (x ∷ es) e = state_after-snoc (after s x.seat x.call) es e

pub legal-snoc : (s : State) (es : List PlainEntry) (e : PlainEntry) → IsLegalFrom s es → May (state_after s es) e.seat e.call
    → e.reply ≡ reply_of (state_after s es) e.call → IsLegalFrom s (es ++ e ∷ [])
legal-snoc s [] e l m r = (m, r, tt)
legal-snoc s (x ∷ es) e l m r = (l.0, l.1, legal-snoc (after s x.seat x.call) es e l.2 m r)

-- a store is what its history leads to
abbrev pub kept_of : List PlainEntry → ℕ → BoardState
kept_of es spare = record { state = state_after start es; history = es; spare = spare }

-- an entry that may come, with the machine's reply, is an event
pub enters-snoc : (es : List PlainEntry) (a b seat : ℕ) (call : PlainCall) (reply : PlainReply) → May (state_after start es) seat call
    → reply ≡ reply_of (state_after start es) call → Enters (kept_of es a) (kept_of (es ++ entry seat call reply ∷ []) b) seat call reply
enters-snoc es a b seat call reply m r =
    record {
      may = m;
      says = r;
      state = state_after-snoc start es (entry seat call reply);
      history = refl;
    }
