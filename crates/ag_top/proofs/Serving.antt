-- Entries that follow one another.
use Rattle.std.proofs.Common.{◌≡◌, ◌∙◌, ◌++◌, ◌∷◌, [], ℕ, Bool, true, false, List, Option, Some, None, refl, sym, ap, append_assoc, append-nil}
use Rattle.std.specs.Prelude.{MatchBool}
use Rattle.ag_base.specs.declared.limits.Limits.{Limits}
use Rattle.ag_board.specs.Entries.{PlainEntry, claim, work, settled, post, posted, give_back, given_back}
use Rattle.ag_board.specs.Store.{BoardState, Enters, entry}
use Rattle.ag_board.specs.Tickets.{Handed}
use Rattle.ag_top.specs.Commands.{Setting, editor, editing, IsDecision, IsSettling, Grows}
use Rattle.ag_top.specs.Keeping.{Posts, Returns}
use Rattle.ag_top.specs.Stages.{DecidesOne, AreDecisions, Decides, Settles, GivesUp}

more_decisions : (g : Setting) (es : List PlainEntry) (a b : PlainEntry) → AreDecisions g es → IsDecision g a b → AreDecisions g (es ++ a ∷ b ∷ [])
more_decisions g [] a b d e = (e, tt)
more_decisions g (x ∷ []) a b d e = absurd d
more_decisions g (x ∷ y ∷ es) a b d e = (d.0, more_decisions g es a b d.1 e)

pub decide_more : (g : Setting) {old middle new : List PlainEntry} → Decides g old middle → DecidesOne g middle new → Decides g old new
decide_more g {old} {middle} {new} d o = record {
  entries = d.entries ++ o.claimed ∷ o.put ∷ [];
  decisions = more_decisions g d.entries o.claimed o.put d.decisions o.decision;
  whole = o.whole ∙ (ap (λ (h : List PlainEntry). h ++ o.claimed ∷ o.put ∷ []) d.whole ∙ append_assoc old d.entries (o.claimed ∷ o.put ∷ []));
}

pub decides_none : (g : Setting) (old : List PlainEntry) → Decides g old old
decides_none g old = record { entries = []; decisions = tt; whole = sym (append-nil old) }

-- decisions, and then what settles
pub decisions_then : (g : Setting) (es rest : List PlainEntry) → AreDecisions g es → IsSettling g rest → IsSettling g (es ++ rest)
decisions_then g [] rest d s = s
decisions_then g (x ∷ []) rest d s = absurd d
decisions_then g (x ∷ y ∷ es) rest d s = (d.0, decisions_then g es rest d.1 s)

pub decisions_settle : (g : Setting) (es : List PlainEntry) → AreDecisions g es → IsSettling g (es ++ entry g.seat claim settled ∷ [])
decisions_settle g es d = decisions_then g es (entry g.seat claim settled ∷ []) d refl

pub decide_all : (g : Setting) {old middle new : List PlainEntry} → Decides g old middle → new ≡ middle ++ entry g.seat claim settled ∷ [] → Settles g old new
decide_all g {old} {middle} {new} d e = record {
  entries = d.entries ++ entry g.seat claim settled ∷ [];
  settling = decisions_settle g d.entries d.decisions;
  whole = e ∙ (ap (λ (h : List PlainEntry). h ++ entry g.seat claim settled ∷ []) d.whole ∙ append_assoc old d.entries (entry g.seat claim settled ∷ []));
}

-- a claim that handed out a ticket, and the post of its verdict
pub decides_one : (l : Limits) (old a b new : BoardState) (t : Handed) → a.history ≡ old.history → t.seat ≡ editor → Enters a b editor claim (work t.claim t.revision t.problem) → Posts l t b new
    → DecidesOne (editing l) old.history new.history
decides_one l old a b new t same seat first p = record {
  claimed = entry editor claim (work t.claim t.revision t.problem);
  put = entry editor (post t.claim p.verdict) (posted p.how);
  decision = record { number = t.claim; revision = t.revision; problem = t.problem; verdict = p.verdict; how = p.how; claimed = refl; put = refl; within = p.within };
  whole =
      p.enters.history ∙ (ap (λ n. b.history ++ entry n (post t.claim p.verdict) (posted p.how) ∷ []) seat
      ∙ (ap (λ (h : List PlainEntry). h ++ entry editor (post t.claim p.verdict) (posted p.how) ∷ []) (first.history ∙ ap (λ (h : List PlainEntry). h ++ entry editor claim (work t.claim t.revision t.problem) ∷ []) same)
      ∙ append_assoc old.history (entry editor claim (work t.claim t.revision t.problem) ∷ []) (entry editor (post t.claim p.verdict) (posted p.how) ∷ [])));
}

-- no claim was made
pub gives_up_none : (l : Limits) (old new : BoardState) → new ≡ old → GivesUp (editing l) old.history new.history
gives_up_none l old new e = record { entries = []; given_up = tt; whole = ap (λ (k : BoardState). k.history) e ∙ sym (append-nil old.history) }

-- a claim handed out a ticket, which was given back
pub gives_up_one : (l : Limits) (old a b new : BoardState) (t : Handed) → a.history ≡ old.history → t.seat ≡ editor → Enters a b editor claim (work t.claim t.revision t.problem) → Returns t b new
    → GivesUp (editing l) old.history new.history
gives_up_one l old a b new t same seat first p = record {
  entries = entry editor claim (work t.claim t.revision t.problem) ∷ entry editor (give_back t.claim) (given_back p.how) ∷ [];
  given_up = record { number = t.claim; revision = t.revision; problem = t.problem; how = p.how; claimed = refl; returned = refl };
  whole =
      p.enters.history ∙ (ap (λ n. b.history ++ entry n (give_back t.claim) (given_back p.how) ∷ []) seat
      ∙ (ap (λ (h : List PlainEntry). h ++ entry editor (give_back t.claim) (given_back p.how) ∷ []) (first.history ∙ ap (λ (h : List PlainEntry). h ++ entry editor claim (work t.claim t.revision t.problem) ∷ []) same)
      ∙ append_assoc old.history (entry editor claim (work t.claim t.revision t.problem) ∷ []) (entry editor (give_back t.claim) (given_back p.how) ∷ [])));
}

pub when_true : (g : Setting) (h h' : List PlainEntry) (b : Bool) → b ≡ true → MatchBool b (DecidesOne g h h') (h' ≡ h ++ entry editor claim settled ∷ []) → DecidesOne g h h'
when_true g h h' true e m = m
when_true g h h' false e m = cc

pub when_false : (g : Setting) (h h' : List PlainEntry) (b : Bool) → b ≡ false → MatchBool b (DecidesOne g h h') (h' ≡ h ++ entry editor claim settled ∷ []) → h' ≡ h ++ entry editor claim settled ∷ []
when_false g h h' true e m = cc
when_false g h h' false e m = m

-- what was written grows piece by piece
pub grow_more : (a b c : Option (List ℕ)) (t u : List ℕ) → Grows a b t → Grows b c u → Grows a c (t ++ u)
grow_more None b c t u g h = tt
grow_more (Some x) b c t u g h = grown_by b c x t u g h
  where
    grown_by : (b c : Option (List ℕ)) (x t u : List ℕ) → b ≡ Some (x ++ t) → Grows b c u → c ≡ Some (x ++ (t ++ u))
    grown_by None c x t u g h = cc
    grown_by (Some y) c x t u g h = let e : y ≡ x ++ t = cc in h ∙ (ap (λ (z : List ℕ). Some (z ++ u)) e ∙ ap Some (append_assoc x t u))

pub grow_none : (a : Option (List ℕ)) → Grows a a []
grow_none None = tt
grow_none (Some x) = ap Some (sym (append-nil x))
