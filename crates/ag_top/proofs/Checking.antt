-- From the stages of a check to what it promises.
use Rattle.std.proofs.Common.{◌≡◌, ◌<◌, ◌==◌, ◌+◌, Bool, true, false, if◌then◌else◌, ◌∙◌, ◌++◌, ◌∷◌, [], ℕ, List, take, length, Option, Result, Ok, Err, IfOk, refl, sym, ap, subst, append_assoc, append-nil, inl, inr}
use Rattle.std.specs.Prelude.{IfSome}
use Rattle.std.specs.List.{AllByRecursion}
use Rattle.std.proofs.lemmas.List.Elements.{All-from_recursion, All-weaker}
use Rattle.ag_base.specs.declared.limits.Limits.{Limits}
use Rattle.ag_base.specs.declared.status.Status.{Status}
use Rattle.ag_base.specs.declared.status.Status.TheVariants as statuses
use Rattle.ag_small.specs.declared.package.Package.{Package}
use Rattle.ag_small.specs.Rules.{IsWellFormed}
use Rattle.ag_small.specs.Named.{IsTrueOfNamed}
use Rattle.ag_small.specs.Carried.{VerdictsCarryOver}
use Rattle.ag_board.specs.declared.entry.Tally.{Tally}
use Rattle.ag_board.specs.Entries.{PlainEntry}
use Rattle.ag_board.specs.Machine.{State, undecided, tally}
use Rattle.ag_board.specs.Store.{BoardState, IsKept, empty}
use Rattle.ag_top.specs.declared.command.Command.{Command}
use Rattle.ag_top.specs.declared.command.Command.TheVariants.{Publish, Settle, Report, Close}
use Rattle.ag_top.specs.declared.cut.Cut.{Cut}
use Rattle.ag_top.specs.declared.cut.Cut.TheVariants as cuts
use Rattle.ag_top.specs.Commands.{Setting, Progress, progress_after, progress_all, starting, editing, check, Said, Answers, Serves, IsBegun, IsToldOf, Grows, text_of, listed_of, status_by}
use Rattle.ag_top.specs.Keeping.{listed}
use Rattle.ag_top.specs.Stages.{Output, Stage, RunsAll, IsCut, CutIn, ServedAll, silent, status_at, EndsByVerdicts}
use Rattle.ag_top.specs.declared.session.Session.{Session}
use Rattle.ag_top.specs.Sessions.{IsShut}
use Rattle.ag_top.specs.Outcome.{text_all, IsTruly, IsCheckAnswer, IsCheckBroken, IsCheckCut}
use Rattle.ag_top.proofs.Serving.{grow_more, grow_none}
use Rattle.ag_top.proofs.Telling.{told_named}

-- the entries of commands that were served, and what is said of them
record AllServed (g : Setting) (s : Progress) (cs : List Command) (old new : Output) : Type 0 where
  entries : List PlainEntry
  said : List Said
  history : new.history ≡ old.history ++ entries
  commands : Serves g s cs entries said
  written : Grows old.written new.written (text_all g.limits said)

all_served : (g : Setting) (s : Progress) (cs : List Command) (old new : Output) → RunsAll g s cs old new → AllServed g s cs old new
all_served g s [] old new r = record {
  entries = [];
  said = [];
  history = ap (λ (k : Output). k.history) r ∙ sym (append-nil old.history);
  commands = (refl, refl);
  written = subst (λ (o : Option (List ℕ)). Grows old.written o []) (sym (ap (λ (k : Output). k.written) r)) (grow_none old.written);
}
all_served g s (c ∷ cs) old new r =
    let h = r.1 in
    let more = all_served g (progress_after s c) cs r.0 new r.2 in
    record {
      entries = h.entries ++ more.entries;
      said = h.said ∷ more.said;
      history = more.history ∙ (ap (λ (es : List PlainEntry). es ++ more.entries) h.history ∙ append_assoc old.history h.entries more.entries);
      commands = (h.entries, more.entries, h.said, more.said, refl, refl, h.answers, more.commands);
      written = grow_more old.written r.0.written new.written (text_of g.limits h.said) (text_all g.limits more.said) h.written more.written;
    }

-- those of the first commands, where the next one was begun
record ServedSome (g : Setting) (s : Progress) (cs : List Command) (old new : Output) : Type 0 where
  done : List Command
  next : Command
  later : List Command
  all : cs ≡ done ++ next ∷ later
  entries : List PlainEntry
  begun : List PlainEntry
  said : List Said
  history : new.history ≡ old.history ++ (entries ++ begun)
  commands : Serves g s done entries said
  opening : IsBegun g (progress_all s done) next begun
  written : Grows old.written new.written (text_all g.limits said)

some_served : (g : Setting) (s : Progress) (cs : List Command) (old new : Output) → CutIn cuts.Memory g s cs old new → ServedSome g s cs old new
some_served g s [] old new r = absurd r
some_served g s (c ∷ cs) old new (inl b) = record {
  done = [];
  next = c;
  later = cs;
  all = refl;
  entries = [];
  begun = b.entries;
  said = [];
  history = b.history;
  commands = (refl, refl);
  opening = b.begun;
  written = subst (λ (o : Option (List ℕ)). Grows old.written o []) (sym b.same) (grow_none old.written);
}
some_served g s (c ∷ cs) old new (inr r) =
    let h = r.1 in
    let more = some_served g (progress_after s c) cs r.0 new r.2 in
    record {
      done = c ∷ more.done;
      next = more.next;
      later = more.later;
      all = ap (λ (ds : List Command). c ∷ ds) more.all;
      entries = h.entries ++ more.entries;
      begun = more.begun;
      said = h.said ∷ more.said;
      history = more.history ∙ (ap (λ (es : List PlainEntry). es ++ (more.entries ++ more.begun)) h.history
          ∙ (append_assoc old.history h.entries (more.entries ++ more.begun) ∙ ap (λ (es : List PlainEntry). old.history ++ es) (sym (append_assoc h.entries more.entries more.begun))));
      commands = (h.entries, more.entries, h.said, more.said, refl, refl, h.answers, more.commands);
      opening = more.opening;
      written = grow_more old.written r.0.written new.written (text_of g.limits h.said) (text_all g.limits more.said) h.written more.written;
    }

-- those of the first commands, where what is said of the last of them was written in part
record ServedPartly (g : Setting) (s : Progress) (cs : List Command) (old new : Output) : Type 0 where
  done : List Command
  ahead : List Command
  all : cs ≡ done ++ ahead
  entries : List PlainEntry
  said : List Said
  last : Said
  history : new.history ≡ old.history ++ entries
  commands : Serves g s done entries (said ++ last ∷ [])
  taken : ℕ
  short : taken < length (text_of g.limits last)
  written : Grows old.written new.written (text_all g.limits said ++ take taken (text_of g.limits last))

partly_served : (g : Setting) (s : Progress) (cs : List Command) (old new : Output) → CutIn cuts.Write g s cs old new → ServedPartly g s cs old new
partly_served g s [] old new r = absurd r
partly_served g s (c ∷ cs) old new (inl b) = record {
  done = c ∷ [];
  ahead = cs;
  all = refl;
  entries = b.entries;
  said = [];
  last = b.said;
  history = b.history;
  commands = (b.entries, [], b.said, [], sym (append-nil b.entries), refl, b.answers, (refl, refl));
  taken = b.partly.taken;
  short = b.partly.short;
  written = b.partly.written;
}
partly_served g s (c ∷ cs) old new (inr r) =
    let h = r.1 in
    let more = partly_served g (progress_after s c) cs r.0 new r.2 in
    let part = take more.taken (text_of g.limits more.last) in
    record {
      done = c ∷ more.done;
      ahead = more.ahead;
      all = ap (λ (ds : List Command). c ∷ ds) more.all;
      entries = h.entries ++ more.entries;
      said = h.said ∷ more.said;
      last = more.last;
      history = more.history ∙ (ap (λ (es : List PlainEntry). es ++ more.entries) h.history ∙ append_assoc old.history h.entries more.entries);
      commands = (h.entries, more.entries, h.said, more.said ++ more.last ∷ [], refl, refl, h.answers, more.commands);
      taken = more.taken;
      short = more.short;
      written = subst (λ (t : List ℕ). Grows old.written new.written t) (sym (append_assoc (text_of g.limits h.said) (text_all g.limits more.said) part))
          (grow_more old.written r.0.written new.written (text_of g.limits h.said) (text_all g.limits more.said ++ part) h.written more.written);
    }

-- each package that a session accepts keeps the rules
abbrev AreFormed : Progress → Type 0
AreFormed s = IsWellFormed s.staged × IfSome s.accepted IsWellFormed

formed_after : (s : Progress) (c : Command) → AreFormed s → AreFormed (progress_after s c)
formed_after s Publish w = (w.0, w.0)
formed_after s Settle w = w
formed_after s Report w = w
formed_after s Close w = w

-- what is said is true
says_truly : VerdictsCarryOver → (g : Setting) (s : Progress) → AreFormed s → (c : Command) (es : List PlainEntry) (said : Said) → Answers g s c es said → IsTruly g.limits said
says_truly carry g s w Publish es said a = subst (IsTruly g.limits) (sym a.2) tt
says_truly carry g s w Settle es said a = subst (IsTruly g.limits) (sym a.1) tt
says_truly carry g s w Report es said a =
    let formed : IsWellFormed a.model = subst (λ (o : Option Package). IfSome o IsWellFormed) a.accepted w.1 in
    subst (IsTruly g.limits) (sym a.is)
    (a.told, All-weaker (IsToldOf (listed_of g.limits a.model)) (λ line. IfSome line.1 (λ v. IsTrueOfNamed a.model g.limits.consistency line.0 v)) (told_named carry g.limits a.model formed) a.lines a.told)
says_truly carry g s w Close es said a = subst (IsTruly g.limits) (sym a.2) tt

all_truly : VerdictsCarryOver → (g : Setting) (s : Progress) → AreFormed s → (cs : List Command) (es : List PlainEntry) (said : List Said) → Serves g s cs es said → AllByRecursion (IsTruly g.limits) said
all_truly carry g s w [] es said h = subst (AllByRecursion (IsTruly g.limits)) (sym h.1) tt
all_truly carry g s w (c ∷ cs) es said h =
    subst (AllByRecursion (IsTruly g.limits)) (sym h.5) (says_truly carry g s w c h.0 h.2 h.6, all_truly carry g (progress_after s c) (formed_after s c w) cs h.1 h.3 h.7)

-- the output of a board, from nothing
abbrev pub left_by : BoardState → Option (List ℕ) → Output
left_by b written = record { history = b.history; written = written }

-- the whole check
pub check_answers : VerdictsCarryOver → (l : Limits) (p : Package) → IsWellFormed p → (end : BoardState) (before now : Option (List ℕ)) (status : Status) → RunsAll (editing l) (starting p) check (silent before) (left_by end now)
    → IsKept end → listed end.state ≡ listed_of l p → undecided end.state ≡ 0 → status ≡ status_by (tally end.state) → IsCheckAnswer l p end.history status before now
check_answers carry l p w end before now status r k keys decided by =
    let whole = all_served (editing l) (starting p) check (silent before) (left_by end now) r in
    let replay = k.replay in
    let commands : Serves (editing l) (starting p) check end.history whole.said = subst (λ (es : List PlainEntry). Serves (editing l) (starting p) check es whole.said) (sym whole.history) whole.commands in
    record {
      said = whole.said;
      checked = record {
        legal = k.legal;
        commands = commands;
        truly = All-from_recursion (IsTruly l) whole.said (all_truly carry (editing l) (starting p) (w, tt) check end.history whole.said commands);
        keys = subst (λ (s : State). listed s ≡ listed_of l p) replay keys;
        decided = subst (λ (s : State). undecided s ≡ 0) replay decided;
        by_verdicts = by ∙ ap (λ (s : State). status_by (tally s)) replay;
      };
      written = whole.written;
    }

-- a check that was cut short
pub check_cut : VerdictsCarryOver → (l : Limits) (p : Package) → IsWellFormed p → (end : BoardState) (before now : Option (List ℕ)) → CutIn cuts.Memory (editing l) (starting p) check (silent before) (left_by end now) → IsKept end → IsCheckCut l p end.history before now
check_cut carry l p w end before now r k =
    let some = some_served (editing l) (starting p) check (silent before) (left_by end now) r in
    record {
      said = some.said;
      cut = record {
        legal = k.legal;
        done = some.done;
        next = some.next;
        later = some.later;
        all = some.all;
        served = some.entries;
        begun = some.begun;
        whole = some.history;
        commands = some.commands;
        truly = All-from_recursion (IsTruly l) some.said (all_truly carry (editing l) (starting p) (w, tt) some.done some.entries some.said some.commands);
        opening = some.opening;
      };
      written = some.written;
    }

-- a check of which the first bytes were written
pub check_broken : VerdictsCarryOver → (l : Limits) (p : Package) → IsWellFormed p → (end : BoardState) (before now : Option (List ℕ)) → CutIn cuts.Write (editing l) (starting p) check (silent before) (left_by end now) → IsKept end → IsCheckBroken l p end.history before now
check_broken carry l p w end before now r k =
    let some = partly_served (editing l) (starting p) check (silent before) (left_by end now) r in
    let said : List Said = some.said ++ some.last ∷ [] in
    let commands : Serves (editing l) (starting p) some.done end.history said = subst (λ (es : List PlainEntry). Serves (editing l) (starting p) some.done es said) (sym some.history) some.commands in
    record {
      legal = k.legal;
      done = some.done;
      ahead = some.ahead;
      all = some.all;
      said = some.said;
      last = some.last;
      commands = commands;
      truly = All-from_recursion (IsTruly l) said (all_truly carry (editing l) (starting p) (w, tt) some.done end.history said commands);
      taken = some.taken;
      short = some.short;
      written = some.written;
    }

-- ---- the first commands, and then one more

pub runs_more : (g : Setting) (s : Progress) (cs : List Command) (c : Command) (old middle new : Output) → RunsAll g s cs old middle → Stage g (progress_all s cs) c middle new → RunsAll g s (cs ++ c ∷ []) old new
runs_more g s [] c old middle new r h = (new, subst (λ (o : Output). Stage g s c o new) r h, refl)
runs_more g s (d ∷ cs) c old middle new r h = (r.0, r.1, runs_more g (progress_after s d) cs c r.0 middle new r.2 h)

pub cut_more : (cut : Cut) (g : Setting) (s : Progress) (cs later : List Command) (c : Command) (old middle new : Output) → RunsAll g s cs old middle → IsCut cut g (progress_all s cs) c middle new → CutIn cut g s (cs ++ c ∷ later) old new
cut_more cut g s [] later c old middle new r h = inl (subst (λ (o : Output). IsCut cut g s c o new) r h)
cut_more cut g s (d ∷ cs) later c old middle new r h = inr (r.0, r.1, cut_more cut g (progress_after s d) cs later c r.0 middle new r.2 h)

pub record ByVerdicts (A : Type 0) (s : Session) (status : Status) : Type 0 where
  pub all : A
  pub tally : Tally
  pub shut : IsShut s tally
  pub by : status ≡ status_by tally

-- a status that goes by the verdicts is that of a check that was served
pub by_verdicts : (g : Setting) (p : Progress) (cs : List Command) (old new : Output) (s : Session) (r : Result Tally Cut) (status : Status) → status ≡ status_at r → EndsByVerdicts status
    → ServedAll g p cs r old new → IfOk r (IsShut s) → ByVerdicts (RunsAll g p cs old new) s status
by_verdicts g p cs old new s (Ok t) status e v a b = record { all = a; tally = t; shut = b; by = e }
by_verdicts g p cs old new s (Err cuts.Write) status e v a b = absurd (subst EndsByVerdicts e v)
by_verdicts g p cs old new s (Err cuts.Memory) status e v a b = absurd (subst EndsByVerdicts e v)

not_memory : (b c : Bool) → (if b then (if c then statuses.AllGood else statuses.Unknown) else statuses.Refuted) ≡ statuses.OutOfMemory → ⊥
not_memory true true e = cc
not_memory true false e = cc
not_memory false c e = cc

-- the status of want of memory is that of a check that wanted it
pub memory_cut : (g : Setting) (s : Progress) (cs : List Command) (old new : Output) (r : Result Tally Cut) (status : Status) → status ≡ status_at r → status ≡ statuses.OutOfMemory
    → ServedAll g s cs r old new → CutIn cuts.Memory g s cs old new
memory_cut g s cs old new (Ok t) status e m h = absurd (not_memory (t.refuted + t.inconsistent == 0) (t.unknown == 0) (sym e ∙ m))
memory_cut g s cs old new (Err cuts.Write) status e m h = let x = sym e ∙ m in cc
memory_cut g s cs old new (Err cuts.Memory) status e m h = h

not_write : (b c : Bool) → (if b then (if c then statuses.AllGood else statuses.Unknown) else statuses.Refuted) ≡ statuses.WriteFault → ⊥
not_write true true e = cc
not_write true false e = cc
not_write false c e = cc

-- the status of a write fault is that of a check that met one
pub write_cut : (g : Setting) (s : Progress) (cs : List Command) (old new : Output) (r : Result Tally Cut) (status : Status) → status ≡ status_at r → status ≡ statuses.WriteFault
    → ServedAll g s cs r old new → CutIn cuts.Write g s cs old new
write_cut g s cs old new (Ok t) status e m h = absurd (not_write (t.refuted + t.inconsistent == 0) (t.unknown == 0) (sym e ∙ m))
write_cut g s cs old new (Err cuts.Write) status e m h = h
write_cut g s cs old new (Err cuts.Memory) status e m h = let x = sym e ∙ m in cc

-- what a session's board left, from a board that was empty
pub served_from : {A : Type 0} (g : Setting) (p : Progress) (cs : List Command) (r : Result A Cut) (b : BoardState) (before : Option (List ℕ)) (new : Output) → b ≡ empty → ServedAll g p cs r (left_by b before) new → ServedAll g p cs r (silent before) new
served_from g p cs r b before new e h = subst (λ (k : BoardState). ServedAll g p cs r (left_by k before) new) e h
