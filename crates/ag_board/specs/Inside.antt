-- What the store keeps in memory, and how it stands for the machine's state.
use Rattle.std.specs.Prelude.{◌≡◌, ◌+◌, ◌<◌, ◌≤◌, ◌==◌, ◌&&◌, ◌++◌, ◌∷◌, ℕ, Bool, false, if◌then◌else◌, List, [], length, map, fold, take, position, count_by, All, Option, Some, is_none, is_some, IfSome, IsSome, slice_get, option_and_then}
use Rattle.std.specs.List.{list_any}
use Rattle.std.specs.Option.{option_map_or}
use Rattle.indexmap.specs.IndexMap.{set_value_at}
use Rattle.std.specs.declared.sync.Arc.{Arc}
use Rattle.std.specs.declared.alloc.Global.{Global}
use Rattle.ag_stream.specs.declared.problem.Problem.{Problem}
use Rattle.ag_stream.specs.declared.problem.ProblemDraft.{ProblemDraft}
use Rattle.ag_verdict.specs.declared.key.Key.{Key}
use Rattle.ag_verdict.specs.declared.verdict.Verdict.{Verdict}
use Rattle.ag_board.specs.declared.slot.Slot.{Slot}
use Rattle.ag_board.specs.declared.slot.Out.{Out}
use Rattle.ag_board.specs.declared.entry.Tally.{Tally}
use Rattle.ag_board.specs.Entries.{PlainEntry, Past}
use Rattle.ag_board.specs.Machine.{State, Ticket, start, same_problem, lines, is_free, verdict_of, is_proved, is_refuted, is_consistent, is_inconsistent, is_unknown, passes, IsLegal, state_after}
use Rattle.ag_board.specs.Notes.{nothing, listed_in, posted_in}
use Rattle.ag_board.specs.Store.{most_places, most_revisions, most_pairs, most_parts, places_kept, problems_of, parts_of, pairs_of}

-- the place of the first free key of the last revision
abbrev pub find_place : State → Option ℕ
find_place s = position (is_free s) (lines s)

-- the problems, with one more at the end where none is equal to it
abbrev pub with_problem : List ProblemDraft → ProblemDraft → List ProblemDraft
with_problem ps p = if list_any (same_problem p) ps then ps else ps ++ p ∷ []

-- the problems, with those of a list that they lack, in the order in which they first come
abbrev pub with_problems : List ProblemDraft → List ProblemDraft → List ProblemDraft
with_problems ps qs = fold with_problem ps qs

-- problems in the order in which they first come, equal ones once
abbrev pub different : List ProblemDraft → List ProblemDraft
different ps = with_problems [] ps

-- a problem of the table, and what is kept of it
abbrev pub Row : Type 0
Row = Arc Problem Global × Slot

-- the problems of rows
abbrev pub problems_in : List Row → List ProblemDraft
problems_in rows = map (λ r. r.0.value) rows

-- the problem with a number
abbrev pub problem_at : List Row → ℕ → ProblemDraft
problem_at rows n = option_map_or (λ r. r.0.value) (slice_get rows n) nothing

-- the verdict of a row, by the entry that posted it
abbrev pub row_verdict : List PlainEntry → Row → Option Verdict
row_verdict entries r = option_and_then (posted_in entries) r.1.verdict

-- the verdict of the problem with a number
abbrev pub verdict_at : List PlainEntry → List Row → ℕ → Option Verdict
verdict_at entries rows n = option_and_then (row_verdict entries) (slice_get rows n)

-- no verdict is posted
abbrev pub is_open_row : Row → Bool
is_open_row r = is_none r.1.verdict

-- no verdict is posted, and the handle is here
abbrev pub is_free_row : Row → Bool
is_free_row r = is_none r.1.verdict && is_some r.1.handle

-- the row with a number passes a test
abbrev pub row_passes : (Row → Bool) → List Row → ℕ → Bool
row_passes test rows n = option_map_or test (slice_get rows n) false

-- the problem with a number has a verdict
abbrev pub is_decided_row : List Row → ℕ → Bool
is_decided_row rows n = row_passes (λ r. is_some r.1.verdict) rows n

-- the handle of the problem with a number
abbrev pub handle_at : List Row → ℕ → Option (Arc Problem Global)
handle_at rows n = option_and_then (λ r. r.1.handle) (slice_get rows n)

-- the rows, with what is kept of one of them changed
abbrev pub with_slot : List Row → ℕ → (Slot → Slot) → List Row
with_slot rows n f = option_map_or (λ r. set_value_at rows n (f r.1)) (slice_get rows n) rows

abbrev pub with_handle : List Row → ℕ → Option (Arc Problem Global) → List Row
with_handle rows n handle = with_slot rows n (λ s. record s { handle = handle })

abbrev pub with_verdict : List Row → ℕ → ℕ → List Row
with_verdict rows n entry = with_slot rows n (λ s. record s { verdict = Some entry })

abbrev pub ticket_at : List Row → Out → Ticket
ticket_at rows o =
    record {
      claim = o.claim;
      seat = o.seat;
      revision = o.revision;
      problem = problem_at rows o.problem;
      is_live = o.is_live;
    }

-- a live claim is out on the problem with that number
abbrev pub is_claimed : List Out → ℕ → Bool
is_claimed outs n = list_any (λ o. o.is_live && (o.problem == n)) outs

-- the handle of a row is its problem, and an entry that came has posted the state's verdict of it
pub record IsRow (s : State) (entries : List PlainEntry) (r : Row) : Type 0 where
  pub handle : option_map_or (λ h. h.value) r.1.handle r.0.value ≡ r.0.value
  pub posted : IfSome r.1.verdict (λ n. IsSome (posted_in entries n))
  pub verdict : row_verdict entries r ≡ verdict_of s r.0.value

-- the table has each different problem of the state once, in the order in which they came
pub record IsTable (s : State) (entries : List PlainEntry) (rows : List Row) : Type 0 where
  pub problems : problems_in rows ≡ different (problems_of s)
  pub each : All (IsRow s entries) rows
  pub few_rows : length rows ≤ most_pairs

-- the claims that are out, and the problems of those that are live lack their handles
pub record AreOut (s : State) (rows : List Row) (outs : List Out) : Type 0 where
  pub tickets : s.tickets ≡ map (ticket_at rows) outs
  pub numbered : All (λ o. o.problem < length rows) outs
  pub live : (n : ℕ) (r : Row) → slice_get rows n ≡ Some r → is_claimed outs n ≡ is_none r.1.handle

-- no problem with one of these numbers is free
abbrev pub AreTaken : List Row → List ℕ → Type 0
AreTaken rows numbers = All (λ n. row_passes is_free_row rows n ≡ false) numbers

-- the last revision, by the numbers of its problems and by the entry that published it; a claim needn't look before
-- `next`
pub record IsLast (s : State) (entries : List PlainEntry) (rows : List Row) (numbers : List ℕ) (last next : ℕ)
    : Type 0 where
  pub problems : map (problem_at rows) numbers ≡ map (λ l. l.problem) (lines s)
  pub numbered : All (λ n. n < length rows) numbers
  pub few : length numbers ≤ 1024
  pub listed : listed_in entries last ≡ map {B = Key × ProblemDraft} (λ l. (l.key, l.problem)) (lines s)
  pub verdicts : All (λ l. l.verdict ≡ verdict_of s l.problem) (lines s)
  pub within : next ≤ length numbers
  pub taken : AreTaken rows (take next numbers)

-- the sizes of the state
pub record IsSized (s : State) (revisions pairs parts : ℕ) : Type 0 where
  pub all_revisions : length s.revisions ≡ revisions
  pub few_revisions : revisions ≤ most_revisions
  pub all_pairs : pairs_of s ≡ pairs
  pub few_pairs : pairs ≤ most_pairs
  pub all_parts : parts_of (problems_of s) ≡ parts
  pub few_parts : parts ≤ most_parts

-- whether it is over, and the number of claims
pub record IsMarked (s : State) (claims : ℕ) (is_closed is_stopped : Bool) : Type 0 where
  pub all_claims : s.claims ≡ claims
  pub closed : s.is_closed ≡ is_closed
  pub stopped : s.is_stopped ≡ is_stopped

-- the history is legal, no more is promised than there is room for, and each claim has an entry
pub record IsPast (p : Past) (room claims : ℕ) : Type 0 where
  pub legal : IsLegal p.entries
  pub places : length p.entries + p.spare ≤ most_places
  pub promised : places_kept (state_after start p.entries) ≤ p.spare
  pub enough : p.spare ≤ room + 1
  pub few_claims : claims ≤ length p.entries

-- verdicts counted by kind

-- how many of these verdicts pass a test
abbrev pub count_in : (Verdict → Bool) → List (Option Verdict) → ℕ
count_in test vs = count_by (passes test) vs

abbrev pub tally_in : ℕ → List (Option Verdict) → Tally
tally_in revision vs =
    record {
      revision = revision;
      proved = count_in is_proved vs;
      refuted = count_in is_refuted vs;
      consistent = count_in is_consistent vs;
      inconsistent = count_in is_inconsistent vs;
      unknown = count_in is_unknown vs;
    }

abbrev pub one_more : Bool → ℕ → ℕ
one_more b n = if b then n + 1 else n

-- the tally with one verdict more
abbrev pub with_one : Tally → Verdict → Tally
with_one t v =
    record {
      revision = t.revision;
      proved = one_more (is_proved v) t.proved;
      refuted = one_more (is_refuted v) t.refuted;
      consistent = one_more (is_consistent v) t.consistent;
      inconsistent = one_more (is_inconsistent v) t.inconsistent;
      unknown = one_more (is_unknown v) t.unknown;
    }

-- one verdict more doesn't pass 32 bits
pub record HasRoom (t : Tally) : Type 0 where
  pub proved : t.proved < 4294967295
  pub refuted : t.refuted < 4294967295
  pub consistent : t.consistent < 4294967295
  pub inconsistent : t.inconsistent < 4294967295
  pub unknown : t.unknown < 4294967295
