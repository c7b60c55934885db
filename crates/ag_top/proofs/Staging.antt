-- The commands of a check: each was answered, or cut short.
use Rattle.std.proofs.Common.{◌≡◌, ◌∙◌, ◌++◌, ◌∷◌, [], ℕ, List, Option, Some, None, Result, Ok, Err, refl, sym, ap, subst, append_assoc, append-nil}
use Rattle.std.specs.Prelude.{All}
use Rattle.std.proofs.lemmas.List.Elements.{All-nil}
use Rattle.ag_base.specs.declared.limits.Limits.{Limits}
use Rattle.ag_small.specs.declared.package.Package.{Package}
use Rattle.ag_report.specs.Texts as texts
use Rattle.ag_verdict.specs.declared.key.Key.{Key}
use Rattle.ag_verdict.specs.declared.verdict.Verdict.{Verdict}
use Rattle.ag_verdict.specs.declared.verdict.Verdict.TheVariants.{Inconsistent}
use Rattle.ag_board.specs.declared.entry.Posted.TheVariants as ways
use Rattle.ag_board.specs.declared.entry.Published.{Published}
use Rattle.ag_board.specs.declared.entry.Tally.{Tally}
use Rattle.ag_board.specs.Entries.{PlainEntry, publish, claim, post, report, close, published, posted, settled, reported, closed}
use Rattle.ag_board.specs.Store.{BoardState, Enters, entry}
use Rattle.ag_top.specs.declared.command.Command.{Command}
use Rattle.ag_top.specs.declared.command.Command.TheVariants.{Publish, Settle, Report, Close}
use Rattle.ag_top.specs.declared.cut.Cut.{Cut}
use Rattle.ag_top.specs.declared.cut.Cut.TheVariants as cuts
use Rattle.ag_top.specs.Commands.{Setting, Progress, Said, Accepted, AllSettled, Told, Shut, Answers, IsBegun, IsDecision, IsSettling, IsToldOf, IsGivenBackOrNone, Grows, listed_of, text_of, closed_text, editor, editing}
use Rattle.ag_top.specs.Stages.{AreDecisions, Settles, SettlesPartly, IsGivenUp, Output, Stage, Begins, Partly, Writes, Served}
use Rattle.ag_top.proofs.Serving.{decisions_settle, decisions_then}

-- what is left where a store has this history and this was written
abbrev pub leaves : BoardState → Option (List ℕ) → Output
leaves b written = record { history = b.history; written = written }

-- ---- answered

stage_publish : (l : Limits) (s : Progress) (old new : BoardState) (r : Published) → Enters old new editor (publish (listed_of l s.staged)) (published r) → Stage (editing l) s Publish (leaves old None) (leaves new None)
stage_publish l s old new r h = record {
  entries = entry editor (publish (listed_of l s.staged)) (published r) ∷ [];
  said = Accepted r;
  history = h.history;
  answers = (r, refl, refl);
  written = tt;
}

stage_settle : (l : Limits) (s : Progress) (old new : BoardState) → Settles (editing l) old.history new.history → Stage (editing l) s Settle (leaves old None) (leaves new None)
stage_settle l s old new h = record {
  entries = h.entries;
  said = AllSettled s.revision;
  history = h.whole;
  answers = (h.settling, refl);
  written = tt;
}

stage_report : (l : Limits) (s : Progress) (p : Package) (old new : BoardState) (r : ℕ) (lines : List (Key × Option Verdict)) → s.accepted ≡ Some p → Enters old new editor report (reported r lines) → All (IsToldOf (listed_of l p)) lines
    → Stage (editing l) s Report (leaves old None) (leaves new None)
stage_report l s p old new r lines a h t = record {
  entries = entry editor report (reported r lines) ∷ [];
  said = Told p r lines;
  history = h.history;
  answers = record { model = p; revision = r; lines = lines; accepted = a; whole = refl; is = refl; told = t };
  written = tt;
}

stage_close : (l : Limits) (s : Progress) (old middle between new : BoardState) (t : Tally) → Settles (editing l) old.history middle.history → between.history ≡ middle.history → Enters between new editor close (closed t)
    → Stage (editing l) s Close (leaves old None) (leaves new None)
stage_close l s old middle between new t h e c = record {
  entries = h.entries ++ entry editor close (closed t) ∷ [];
  said = Shut t;
  history = c.history ∙ (ap (λ (es : List PlainEntry). es ++ entry editor close (closed t) ∷ []) (e ∙ h.whole) ∙ append_assoc old.history h.entries (entry editor close (closed t) ∷ []));
  answers = (t, record { first = h.entries; settling = h.settling; whole = refl }, refl);
  written = tt;
}

-- an answer whose text was handed over, or its first bytes
served_by : {A : Type 0} (g : Setting) (s : Progress) (c : Command) (r : Result A Cut) (old new : BoardState) (before now : Option (List ℕ)) (text : List ℕ) (h : Stage g s c (leaves old None) (leaves new None)) → text ≡ text_of g.limits h.said
    → Writes text r before now → Served g s c r (leaves old before) (leaves new now)
served_by g s c (Ok a) old new before now text h e w = record {
  entries = h.entries;
  said = h.said;
  history = h.history;
  answers = h.answers;
  written = subst (λ (t : List ℕ). Grows before now t) e w;
}
served_by g s c (Err cuts.Write) old new before now text h e w = record {
  entries = h.entries;
  said = h.said;
  history = h.history;
  answers = h.answers;
  partly = subst (λ (t : List ℕ). Partly t before now) e w;
}
served_by g s c (Err cuts.Memory) old new before now text h e w = absurd w

pub served_publish : {A : Type 0} (l : Limits) (s : Progress) (r : Result A Cut) (old new : BoardState) (before now : Option (List ℕ)) (text : List ℕ) (p : Published) → Enters old new editor (publish (listed_of l s.staged)) (published p)
    → text ≡ text_of l (Accepted p) → Writes text r before now → Served (editing l) s Publish r (leaves old before) (leaves new now)
unfolding stage_publish
served_publish l s r old new before now text p h e w = served_by (editing l) s Publish r old new before now text (stage_publish l s old new p h) e w

pub served_settle : {A : Type 0} (l : Limits) (s : Progress) (r : Result A Cut) (old new : BoardState) (before now : Option (List ℕ)) (text : List ℕ) → Settles (editing l) old.history new.history
    → text ≡ texts.settled s.revision → Writes text r before now → Served (editing l) s Settle r (leaves old before) (leaves new now)
unfolding stage_settle
served_settle l s r old new before now text h e w = served_by (editing l) s Settle r old new before now text (stage_settle l s old new h) e w

pub served_report : {A : Type 0} (l : Limits) (s : Progress) (p : Package) (r : Result A Cut) (old new : BoardState) (before now : Option (List ℕ)) (text : List ℕ) (m : ℕ) (lines : List (Key × Option Verdict)) → s.accepted ≡ Some p
    → Enters old new editor report (reported m lines) → All (IsToldOf (listed_of l p)) lines → text ≡ texts.report_of p m l.consistency lines → Writes text r before now → Served (editing l) s Report r (leaves old before) (leaves new now)
unfolding stage_report
served_report l s p r old new before now text m lines a h t e w = served_by (editing l) s Report r old new before now text (stage_report l s p old new m lines a h t) e w

pub served_close : {A : Type 0} (l : Limits) (s : Progress) (r : Result A Cut) (old middle between new : BoardState) (before now : Option (List ℕ)) (text : List ℕ) (t : Tally) → Settles (editing l) old.history middle.history
    → between.history ≡ middle.history → Enters between new editor close (closed t) → text ≡ closed_text t → Writes text r before now → Served (editing l) s Close r (leaves old before) (leaves new now)
unfolding stage_close
served_close l s r old middle between new before now text t h b c e w = served_by (editing l) s Close r old new before now text (stage_close l s old middle between new t h b c) e w

-- ---- begun

begun_all : (g : Setting) (s : Progress) (c : Command) (es : List PlainEntry) (said : Said) → Answers g s c es said → IsBegun g s c es
begun_all g s c es said a = record {
  front = es;
  rest = [];
  said = said;
  answers = subst (λ (xs : List PlainEntry). Answers g s c xs said) (sym (append-nil es)) a;
  back = [];
  at_most = tt;
  whole = sym (append-nil es);
}

begun_by : (g : Setting) (s : Progress) (c : Command) (es rest : List PlainEntry) (said : Said) → Answers g s c (es ++ rest) said → IsBegun g s c es
begun_by g s c es rest said a = record { front = es; rest = rest; said = said; answers = a; back = []; at_most = tt; whole = sym (append-nil es) }

-- an answer whose text wasn't made
begins_stage : (g : Setting) (s : Progress) (c : Command) (old new : BoardState) (before now : Option (List ℕ)) → Stage g s c (leaves old None) (leaves new None) → now ≡ before → Begins g s c (leaves old before) (leaves new now)
begins_stage g s c old new before now h e = record { entries = h.entries; begun = begun_all g s c h.entries h.said h.answers; history = h.history; same = e }

pub begins_publish : (l : Limits) (s : Progress) (old new : BoardState) (before now : Option (List ℕ)) (r : Published) → Enters old new editor (publish (listed_of l s.staged)) (published r) → now ≡ before → Begins (editing l) s Publish (leaves old before) (leaves new now)
begins_publish l s old new before now r h e = begins_stage (editing l) s Publish old new before now (stage_publish l s old new r h) e

pub begins_settle : (l : Limits) (s : Progress) (old new : BoardState) (before now : Option (List ℕ)) → Settles (editing l) old.history new.history → now ≡ before → Begins (editing l) s Settle (leaves old before) (leaves new now)
begins_settle l s old new before now h e = begins_stage (editing l) s Settle old new before now (stage_settle l s old new h) e

pub begins_report : (l : Limits) (s : Progress) (p : Package) (old new : BoardState) (before now : Option (List ℕ)) (m : ℕ) (lines : List (Key × Option Verdict)) → s.accepted ≡ Some p → Enters old new editor report (reported m lines)
    → All (IsToldOf (listed_of l p)) lines → now ≡ before → Begins (editing l) s Report (leaves old before) (leaves new now)
begins_report l s p old new before now m lines a h t e = begins_stage (editing l) s Report old new before now (stage_report l s p old new m lines a h t) e

pub begins_close : (l : Limits) (s : Progress) (old middle between new : BoardState) (before now : Option (List ℕ)) (t : Tally) → Settles (editing l) old.history middle.history → between.history ≡ middle.history
    → Enters between new editor close (closed t) → now ≡ before → Begins (editing l) s Close (leaves old before) (leaves new now)
begins_close l s old middle between new before now t h b c e = begins_stage (editing l) s Close old new before now (stage_close l s old middle between new t h b c) e

-- nothing was entered of a publish
pub begins_no_publish : (l : Limits) (s : Progress) (old new : BoardState) (before now : Option (List ℕ)) → new ≡ old → now ≡ before → Begins (editing l) s Publish (leaves old before) (leaves new now)
begins_no_publish l s old new before now k e =
    let some : Published = record { revision = 0; count = 0; carried = 0; cancelled = [] } in
    record {
      entries = [];
      begun = begun_by (editing l) s Publish [] (entry editor (publish (listed_of l s.staged)) (published some) ∷ []) (Accepted some) (some, refl, refl);
      history = ap (λ (x : BoardState). x.history) k ∙ sym (append-nil old.history);
      same = e;
    }

-- a report that was not made
pub begins_no_report : (l : Limits) (s : Progress) (p : Package) (old new : BoardState) (before now : Option (List ℕ)) → s.accepted ≡ Some p → new ≡ old → now ≡ before → Begins (editing l) s Report (leaves old before) (leaves new now)
begins_no_report l s p old new before now a k e = record {
  entries = [];
  begun = begun_by (editing l) s Report [] (entry editor report (reported 0 []) ∷ []) (Told p 0 [])
      (record { model = p; revision = 0; lines = []; accepted = a; whole = refl; is = refl; told = All-nil (IsToldOf (listed_of l p)) });
  history = ap (λ (x : BoardState). x.history) k ∙ sym (append-nil old.history);
  same = e;
}

-- decisions and at most a claim that came back: the decisions and the claim are the first entries of some that settle
record Part (g : Setting) (old new : List PlainEntry) : Type 0 where
  front : List PlainEntry
  rest : List PlainEntry
  settling : IsSettling g (front ++ rest)
  back : List PlainEntry
  at_most : IsGivenBackOrNone g back
  whole : new ≡ old ++ (front ++ back)

part_by : (g : Setting) (old middle new : List PlainEntry) (ds es : List PlainEntry) → AreDecisions g ds → IsGivenUp g es → middle ≡ old ++ ds → new ≡ middle ++ es → Part g old new
part_by g old middle new ds [] d a m n = record {
  front = ds;
  rest = entry g.seat claim settled ∷ [];
  settling = decisions_settle g ds d;
  back = [];
  at_most = tt;
  whole = n ∙ (append-nil middle ∙ (m ∙ ap (λ (xs : List PlainEntry). old ++ xs) (sym (append-nil ds))));
}
part_by g old middle new ds (x ∷ []) d a m n = absurd a
part_by g old middle new ds (x ∷ y ∷ []) d a m n =
    let put : PlainEntry = entry g.seat (post a.number Inconsistent) (posted ways.Kept) in
    let decided : IsDecision g x put = record { number = a.number; revision = a.revision; problem = a.problem; verdict = Inconsistent; how = ways.Kept; claimed = a.claimed; put = refl; within = tt } in
    let rest : List PlainEntry = put ∷ entry g.seat claim settled ∷ [] in
    record {
      front = ds ++ x ∷ [];
      rest = rest;
      settling = subst (IsSettling g) (sym (append_assoc ds (x ∷ []) rest)) (decisions_then g ds (x ∷ rest) d (decided, refl));
      back = y ∷ [];
      at_most = (a.number, a.how, a.returned);
      whole = n ∙ (ap (λ (h : List PlainEntry). h ++ x ∷ y ∷ []) m ∙ (append_assoc old ds (x ∷ y ∷ []) ∙ ap (λ (xs : List PlainEntry). old ++ xs) (sym (append_assoc ds (x ∷ []) (y ∷ [])))));
    }
part_by g old middle new ds (x ∷ y ∷ z ∷ es) d a m n = absurd a

part_of : (g : Setting) (old new : List PlainEntry) → SettlesPartly g old new → Part g old new
part_of g old new s = part_by g old s.middle new s.decides.entries s.gives_up.entries s.decides.decisions s.gives_up.given_up s.decides.whole s.gives_up.whole

pub begins_settling : (l : Limits) (s : Progress) (old new : BoardState) (before now : Option (List ℕ)) → SettlesPartly (editing l) old.history new.history → now ≡ before → Begins (editing l) s Settle (leaves old before) (leaves new now)
begins_settling l s old new before now h e =
    let part = part_of (editing l) old.history new.history h in
    record {
      entries = part.front ++ part.back;
      begun = record { front = part.front; rest = part.rest; said = AllSettled s.revision; answers = (part.settling, refl); back = part.back; at_most = part.at_most; whole = refl };
      history = part.whole;
      same = e;
    }

-- some tally
nothing : Tally
nothing = record { revision = 0; proved = 0; refuted = 0; consistent = 0; inconsistent = 0; unknown = 0 }

shuts : (g : Setting) (s : Progress) (front rest back : List PlainEntry) → IsSettling g (front ++ rest) → IsGivenBackOrNone g back → IsBegun g s Close (front ++ back)
shuts g s front rest back h b =
    let last : List PlainEntry = entry g.seat close (closed nothing) ∷ [] in
    record {
      front = front;
      rest = rest ++ last;
      said = Shut nothing;
      answers = (nothing, record { first = front ++ rest; settling = h; whole = sym (append_assoc front rest last) }, refl);
      back = back;
      at_most = b;
      whole = refl;
    }

pub begins_closing : (l : Limits) (s : Progress) (old new : BoardState) (before now : Option (List ℕ)) → SettlesPartly (editing l) old.history new.history → now ≡ before → Begins (editing l) s Close (leaves old before) (leaves new now)
begins_closing l s old new before now h e =
    let part = part_of (editing l) old.history new.history h in
    record { entries = part.front ++ part.back; begun = shuts (editing l) s part.front part.rest part.back part.settling part.at_most; history = part.whole; same = e }

-- all was settled, and the store wasn't closed
pub begins_no_close : (l : Limits) (s : Progress) (old middle new : BoardState) (before now : Option (List ℕ)) → Settles (editing l) old.history middle.history → new ≡ middle → now ≡ before → Begins (editing l) s Close (leaves old before) (leaves new now)
begins_no_close l s old middle new before now h k e = record {
  entries = h.entries ++ [];
  begun = shuts (editing l) s h.entries [] [] (subst (IsSettling (editing l)) (sym (append-nil h.entries)) h.settling) tt;
  history = ap (λ (x : BoardState). x.history) k ∙ (h.whole ∙ ap (λ (xs : List PlainEntry). old.history ++ xs) (sym (append-nil h.entries)));
  same = e;
}
