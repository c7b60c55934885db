-- What holds of verdicts and of tickets in every state that a legal history leads to.
use Rattle.std.specs.Prelude.{◌≡◌, ◌<◌, ◌≤◌, List, All, AllPairs, IfSome}
use Rattle.std.specs.List.{flat_map}
use Rattle.ag_verdict.specs.Verdicts.{IsTrueOf}
use Rattle.ag_board.specs.Tickets.{Handed}
use Rattle.ag_board.specs.Entries.{PlainCall, publish, claim, post, give_back, report, close, stop}
use Rattle.ag_board.specs.Machine.{State, Line}

-- the lines of all revisions
abbrev pub all_lines : State → List Line
all_lines s = flat_map (λ r. r) s.revisions

-- each verdict is true of the problem beside it
abbrev pub AreTrue : State → Type 0
AreTrue s = All (λ l. IfSome l.verdict (IsTrueOf l.problem)) (all_lines s)

-- the two have the same verdict, or none, where their problems are equal
abbrev pub DoAgree : Line → Line → Type 0
DoAgree a b = a.problem ≡ b.problem → a.verdict ≡ b.verdict

-- wherever two lines have equal problems, they have the same verdict, or none
abbrev pub EqualsAgree : State → Type 0
EqualsAgree s = All (λ a. All (DoAgree a) (all_lines s)) (all_lines s)

-- the tickets' claim numbers rise strictly, from 1 to at most the number of claims handed out
pub record DoRise (s : State) : Type 0 where
  pub rising : AllPairs (λ t u. t.claim < u.claim) s.tickets
  pub within : All (λ t. (1 ≤ t.claim) × (t.claim ≤ s.claims)) s.tickets

-- the call is the post or the give_back of the ticket's claim
abbrev pub Ends : Handed → PlainCall → Type 0
Ends t (publish list) = ⊥
Ends t claim = ⊥
Ends t (post number v) = number ≡ t.claim
Ends t (give_back number) = number ≡ t.claim
Ends t report = ⊥
Ends t close = ⊥
Ends t stop = ⊥
