-- What a list needs before it is entered.
use Rattle.std.specs.Prelude.{◌≡◌, ◌++◌, ◌∷◌, ◌==◌, ◌&&◌, ℕ, Bool, false, not, if◌then◌else◌, List, [], length, map, count_by, sum_by, All, Option, Some, None, slice_get}
use Rattle.std.specs.List.{list_any}
use Rattle.std.specs.Option.{option_map}
use Rattle.std.specs.declared.sync.Arc.{Arc}
use Rattle.std.specs.declared.alloc.Global.{Global}
use Rattle.ag_stream.specs.declared.problem.Problem.{Problem}
use Rattle.ag_stream.specs.declared.problem.ProblemDraft.{ProblemDraft}
use Rattle.ag_verdict.specs.declared.key.Key.{Key}
use Rattle.ag_board.specs.declared.entry.Cancelled.{Cancelled}
use Rattle.ag_board.specs.declared.entry.Published.{Published}
use Rattle.ag_board.specs.declared.slot.Out.{Out}
use Rattle.ag_board.specs.declared.plan.Plan.{Plan}
use Rattle.ag_board.specs.Entries.{plain_list}
use Rattle.ag_board.specs.Machine.{State, Ticket, is_cancelled, publish_reply}
use Rattle.ag_board.specs.Store.{problems_of}
use Rattle.ag_board.specs.Inside.{Row, problems_in, problem_at, with_handle, with_problems, different, is_decided_row}

-- the problems of a list
abbrev pub problems_listed : List (Key × ProblemDraft) → List ProblemDraft
problems_listed list = map (λ k. k.1) list

-- a problem that no revision has yet: no verdict, and its handle is here
pub record IsNew (r : Row) : Type 0 where
  pub verdict : r.1.verdict ≡ None
  pub handle : option_map (λ h. h.value) r.1.handle ≡ Some r.0.value

-- problems are numbered behind those of a table, where they aren't in it; the new ones are these rows
pub record AreNumbered (table ps : List ProblemDraft) (fresh : List Row) (ns : List ℕ) : Type 0 where
  pub problems : table ++ problems_in fresh ≡ with_problems table ps
  pub numbers : map (slice_get (table ++ problems_in fresh)) ns ≡ map Some ps
  pub each : All IsNew fresh

-- a claim that is out is live, and its problem has none of these numbers
abbrev pub is_retired : List ℕ → Out → Bool
is_retired numbers o = o.is_live && not (list_any (λ n. n == o.problem) numbers)

-- the problem of a claim that a list retires
abbrev pub retired_problem : List Row → List ℕ → Out → Option ProblemDraft
retired_problem rows numbers o = if is_retired numbers o then Some (problem_at rows o.problem) else None

-- the problem of a ticket that a list cancels
abbrev pub cancelled_problem : List (Key × ProblemDraft) → Ticket → Option ProblemDraft
cancelled_problem list t = if is_cancelled list t then Some t.problem else None

abbrev pub Handle : Type 0
Handle = Arc Problem Global

-- the problems of handles or none
abbrev pub handled : List (Option Handle) → List (Option ProblemDraft)
handled hs = map (option_map (λ h. h.value)) hs

-- the claims that have a handle beside them are told, in order
abbrev pub told_cancelled : List Out → List (Option Handle) → List Cancelled
told_cancelled [] hs = []
told_cancelled (o ∷ os) [] = []
told_cancelled (o ∷ os) (None ∷ hs) = told_cancelled os hs
told_cancelled (o ∷ os) (Some h ∷ hs) = record { claim = o.claim; seat = o.seat } ∷ told_cancelled os hs

-- and aren't live any longer
abbrev pub outs_retired : List Out → List (Option Handle) → List Out
outs_retired [] hs = []
outs_retired (o ∷ os) [] = o ∷ os
outs_retired (o ∷ os) (None ∷ hs) = o ∷ outs_retired os hs
outs_retired (o ∷ os) (Some h ∷ hs) = record o { is_live = false } ∷ outs_retired os hs

-- and the rows of their problems get these handles
abbrev pub rows_retired : List Row → List Out → List (Option Handle) → List Row
rows_retired rows [] hs = rows
rows_retired rows (o ∷ os) [] = rows
rows_retired rows (o ∷ os) (None ∷ hs) = rows_retired rows os hs
rows_retired rows (o ∷ os) (Some h ∷ hs) = rows_retired (with_handle rows o.problem (Some h)) os hs

-- how many parts the problems of rows have together
abbrev pub parts_in : List Row → ℕ
parts_in rows = sum_by (λ r. length r.0.value.parts) rows

-- what is seen of an answer, its list of cancelled claims aside
pub record IsAnswer (r n c : ℕ) (p : Published) : Type 0 where
  pub revision : p.revision ≡ r
  pub count : p.count ≡ n
  pub carried : p.carried ≡ c

-- a plan for a list, as the table and the claims that are out stand
pub record IsPlanOf (rows : List Row) (outs : List Out) (list : List (Key × ProblemDraft)) (revision : ℕ) (p : Plan)
    : Type 0 where
  pub numbered : AreNumbered (problems_in rows) (problems_listed list) p.fresh.entries p.numbers.items
  pub shared : plain_list p.shared ≡ list
  pub handles : handled p.handles.items ≡ map (retired_problem rows p.numbers.items) outs
  pub parts : p.parts ≡ parts_in p.fresh.entries
  pub answer : IsAnswer revision (length list) (count_by (is_decided_row rows) p.numbers.items) p.answer
  pub cancelled : p.answer.cancelled ≡ told_cancelled outs p.handles.items
  pub entered : p.entered ≡ p.answer

-- a plan for a list, as the state stands
pub record IsPlan (s : State) (list : List (Key × ProblemDraft)) (p : Plan) : Type 0 where
  pub numbered : AreNumbered (different (problems_of s)) (problems_listed list) p.fresh.entries p.numbers.items
  pub shared : plain_list p.shared ≡ list
  pub handles : handled p.handles.items ≡ map (cancelled_problem list) s.tickets
  pub parts : p.parts ≡ parts_in p.fresh.entries
  pub answer : p.answer ≡ publish_reply s list
  pub entered : p.entered ≡ publish_reply s list
