-- One command of a check after another.
use Rattle.std.proofs.Common.{◌≡◌, ◌≤◌, ◌+◌, ◌∙◌, ◌++◌, ◌∷◌, [], ℕ, zero, suc, List, take, drop, Some, None, refl, sym, ap, subst, arith, get_or}
use Rattle.ag_base.specs.declared.limits.Limits.{Limits}
use Rattle.ag_board.specs.declared.entry.Tally.{Tally}
use Rattle.ag_board.specs.Store.{empty}
use Rattle.ag_top.specs.declared.command.Command.{Command}
use Rattle.ag_top.specs.declared.command.Command.TheVariants.{Publish, Settle, Report, Close}
use Rattle.ag_top.specs.declared.cut.Cut.{Cut}
use Rattle.ag_top.specs.declared.session.Session.{Session}
use Rattle.ag_top.specs.Commands.{Progress, check, editing, starting, progress_after, progress_all}
use Rattle.ag_top.specs.Stages.{Output, Stage, RunsAll, IsCut, CutIn}
use Rattle.ag_top.specs.Sessions.{IsAfter, IsDue, IsOpen, IsShut, progress_of, setting_of}
use Rattle.ag_top.proofs.Checking.{runs_more, cut_more}

-- so many commands were answered: the board is empty before the first, and open behind it
abbrev pub IsAt : ℕ → Session → Type 0
IsAt zero s = s.board ≡ empty
IsAt (suc n) s = IsOpen s

-- the command at a position is the one that is due
pub due_at : (i : ℕ) (c d : Command) (s : Session) → i ≤ 3 → c ≡ get_or check i d → IsAt i s → IsDue c s
due_at zero c d s few e h = subst (λ (x : Command). IsDue x s) (sym e) h
due_at (suc zero) c d s few e h = subst (λ (x : Command). IsDue x s) (sym e) h
due_at (suc (suc zero)) c d s few e h = subst (λ (x : Command). IsDue x s) (sym e) h
due_at (suc (suc (suc zero))) c d s few e h = subst (λ (x : Command). IsDue x s) (sym e) h
due_at (suc (suc (suc (suc n)))) c d s few e h = absurd (omega (arith, few))

-- the commands up to a position, the one there, and the later ones
later_at : (i : ℕ) (c d : Command) → i ≤ 3 → c ≡ get_or check i d → check ≡ take i check ++ c ∷ drop (suc i) check
later_at zero c d few e = ap (λ (x : Command). x ∷ Settle ∷ Report ∷ Close ∷ []) (sym e)
later_at (suc zero) c d few e = ap (λ (x : Command). Publish ∷ x ∷ Report ∷ Close ∷ []) (sym e)
later_at (suc (suc zero)) c d few e = ap (λ (x : Command). Publish ∷ Settle ∷ x ∷ Close ∷ []) (sym e)
later_at (suc (suc (suc zero))) c d few e = ap (λ (x : Command). Publish ∷ Settle ∷ Report ∷ x ∷ []) (sym e)
later_at (suc (suc (suc (suc n)))) c d few e = absurd (omega (arith, few))

next_at : (i : ℕ) (c d : Command) → i ≤ 3 → c ≡ get_or check i d → take i check ++ c ∷ [] ≡ take (suc i) check
next_at zero c d few e = ap (λ (x : Command). x ∷ []) e
next_at (suc zero) c d few e = ap (λ (x : Command). Publish ∷ x ∷ []) e
next_at (suc (suc zero)) c d few e = ap (λ (x : Command). Publish ∷ Settle ∷ x ∷ []) e
next_at (suc (suc (suc zero))) c d few e = ap (λ (x : Command). Publish ∷ Settle ∷ Report ∷ x ∷ []) e
next_at (suc (suc (suc (suc n)))) c d few e = absurd (omega (arith, few))

-- a command that left no tally isn't the close
pub open_after : (c : Command) (s : Session) → IsAfter c s None → IsOpen s
open_after Publish s h = h
open_after Settle s h = h
open_after Report s h = h
open_after Close s h = absurd h

pub not_last : (i : ℕ) (c d : Command) (s : Session) → i ≤ 3 → c ≡ get_or check i d → IsAfter c s None → suc i ≤ 3
not_last zero c d s few e h = omega arith
not_last (suc zero) c d s few e h = omega arith
not_last (suc (suc zero)) c d s few e h = omega arith
not_last (suc (suc (suc zero))) c d s few e h = absurd (subst (λ (x : Command). IsAfter x s None) e h)
not_last (suc (suc (suc (suc n)))) c d s few e h = absurd (omega (arith, few))

-- one that left a tally is the last
is_close : (c : Command) (s : Session) (t : Tally) → IsAfter c s (Some t) → c ≡ Close
is_close Publish s t h = absurd h
is_close Settle s t h = absurd h
is_close Report s t h = absurd h
is_close Close s t h = refl

pub shut_after : (c : Command) (s : Session) (t : Tally) → IsAfter c s (Some t) → IsShut s t
shut_after Publish s t h = absurd h
shut_after Settle s t h = absurd h
shut_after Report s t h = absurd h
shut_after Close s t h = h

all_at : (i : ℕ) (c d : Command) → i ≤ 3 → c ≡ get_or check i d → c ≡ Close → take (suc i) check ≡ check
all_at zero c d few e k = let x = sym e ∙ k in cc
all_at (suc zero) c d few e k = let x = sym e ∙ k in cc
all_at (suc (suc zero)) c d few e k = let x = sym e ∙ k in cc
all_at (suc (suc (suc zero))) c d few e k = refl
all_at (suc (suc (suc (suc n)))) c d few e k = absurd (omega (arith, few))

-- the setting and the progress are those of the first session
stage_as : (s t : Session) {p : Progress} {c : Command} {a b : Output} → t.limits ≡ s.limits → progress_of t ≡ p → Stage (setting_of t) (progress_of t) c a b → Stage (setting_of s) p c a b
stage_as s t {p} {c} {a} {b} l e h = subst (λ (q : Progress). Stage (setting_of s) q c a b) e (subst (λ (x : Limits). Stage (editing x) (progress_of t) c a b) l h)

cut_as : (s t : Session) (p : Progress) (c : Command) (a b : Output) (cut : Cut) → t.limits ≡ s.limits → progress_of t ≡ p → IsCut cut (setting_of t) (progress_of t) c a b → IsCut cut (setting_of s) p c a b
cut_as s t p c a b cut l e h = subst (λ (q : Progress). IsCut cut (setting_of s) q c a b) e (subst (λ (x : Limits). IsCut cut (editing x) (progress_of t) c a b) l h)

-- a turn goes on
pub turn_on : (i : ℕ) (c d : Command) (s t : Session) (old middle new : Output) → i ≤ 3 → c ≡ get_or check i d → t.limits ≡ s.limits → progress_of t ≡ progress_all (starting s.model) (take i check)
    → RunsAll (setting_of s) (starting s.model) (take i check) old middle → Stage (setting_of t) (progress_of t) c middle new → RunsAll (setting_of s) (starting s.model) (take (suc i) check) old new
turn_on i c d s t old middle new few e l p r h =
    subst (λ (cs : List Command). RunsAll (setting_of s) (starting s.model) cs old new) (next_at i c d few e) (runs_more (setting_of s) (starting s.model) (take i check) c old middle new r (stage_as s t l p h))

progress_more : (s : Progress) (cs : List Command) (c : Command) → progress_all s (cs ++ c ∷ []) ≡ progress_after (progress_all s cs) c
progress_more s [] c = refl
progress_more s (d ∷ cs) c = progress_more (progress_after s d) cs c

pub progress_on : (i : ℕ) (c d : Command) (s : Progress) (t u : Session) → i ≤ 3 → c ≡ get_or check i d → progress_of t ≡ progress_all s (take i check) → progress_of u ≡ progress_after (progress_of t) c
    → progress_of u ≡ progress_all s (take (suc i) check)
progress_on i c d s t u few e p h =
    h ∙ (ap (λ (q : Progress). progress_after q c) p ∙ (sym (progress_more s (take i check) c) ∙ ap (progress_all s) (next_at i c d few e)))

-- a turn ends the check
pub turn_ends : (i : ℕ) (c d : Command) (s t u : Session) (tally : Tally) (old middle new : Output) → i ≤ 3 → c ≡ get_or check i d → t.limits ≡ s.limits → progress_of t ≡ progress_all (starting s.model) (take i check)
    → RunsAll (setting_of s) (starting s.model) (take i check) old middle → Stage (setting_of t) (progress_of t) c middle new → IsAfter c u (Some tally) → RunsAll (setting_of s) (starting s.model) check old new
turn_ends i c d s t u tally old middle new few e l p r h a =
    subst (λ (cs : List Command). RunsAll (setting_of s) (starting s.model) cs old new) (all_at i c d few e (is_close c u tally a)) (turn_on i c d s t old middle new few e l p r h)

-- a turn is cut short
pub turn_cut : (cut : Cut) (i : ℕ) (c d : Command) (s t : Session) (old middle new : Output) → i ≤ 3 → c ≡ get_or check i d → t.limits ≡ s.limits → progress_of t ≡ progress_all (starting s.model) (take i check)
    → RunsAll (setting_of s) (starting s.model) (take i check) old middle → IsCut cut (setting_of t) (progress_of t) c middle new → CutIn cut (setting_of s) (starting s.model) check old new
turn_cut cut i c d s t old middle new few e l p r h =
    subst (λ (cs : List Command). CutIn cut (setting_of s) (starting s.model) cs old new) (sym (later_at i c d few e))
    (cut_more cut (setting_of s) (starting s.model) (take i check) (drop (suc i) check) c old middle new r (cut_as s t (progress_all (starting s.model) (take i check)) c middle new cut l p h))
