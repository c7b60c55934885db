-- What a search keeps from round to round.
use Rattle.std.specs.Prelude.{◌≡◌, ◌⊎◌, ◌<◌, ◌≤◌, ◌+◌, ◌-◌, ◌*◌, ◌++◌, ℕ, Bool, List, length, take, All, Any, Contains, IsNone, IsTrue, Option, Some, None}
use Rattle.ag_query.specs.declared.clauses.Lit.{Lit}
use Rattle.ag_query.specs.declared.clauses.LClause.{LClause}
use Rattle.ag_query.specs.Meaning.{Follows, contrary}
use Rattle.ag_kernel.specs.declared.line.Line.{Line}
use Rattle.ag_kernel.specs.State.{HasNoValuation}
use Rattle.ag_kernel.specs.Rules.{line_at}
use Rattle.ag_kernel.specs.Theories.{SatisfiesRows}
use Rattle.ag_tree.specs.declared.rounds.Progress.{Progress}
use Rattle.ag_tree.specs.declared.rounds.Fact.{Fact}
use Rattle.ag_tree.specs.declared.rounds.Round.{Round}
use Rattle.ag_tree.specs.declared.rounds.Round.TheVariants as round
use Rattle.ag_tree.specs.declared.rounds.Reached.{Reached}
use Rattle.ag_tree.specs.declared.rounds.Reached.TheVariants as reached
use Rattle.ag_tree.specs.Facts.{HasNoneBothWays, Lacks, AreFacts, IsAtRest, IsAtRestAlong, literal_count}
use Rattle.ag_tree.specs.Trail.{Seen, literals, denial, AreSound, RestsBefore, IsAgainst, IsSettled}
use Rattle.ag_tree.specs.Listing.{listed, slot}
use Rattle.ag_tree.specs.Answers.{IsMet, IsSpent, IsLeafOf}

-- a line without a row, over so many atoms, with no atom both ways
pub record IsClauseLine (lines : List Line) (atoms n : ℕ) : Type 0 where
  pub there : n < length lines
  pub no_row : IsNone (line_at lines n).row
  pub below : All (λ l. l.atom < atoms) (line_at lines n).lits
  pub plain : HasNoneBothWays (line_at lines n).lits

-- the clause is a line that is listed under the contrary of each of its literals
pub record IsListed (lines : List Line) (lists : List (List ℕ)) (clause : List Lit) : Type 0 where
  pub number : ℕ
  pub there : number < length lines
  pub is_line : (line_at lines number).lits ≡ clause
  pub under : All (λ l. Contains (listed lists (contrary l)) number) clause

-- one of the clauses is a part of the clause, and is listed
pub record IsCovered (lines : List Line) (lists : List (List ℕ)) (all : List LClause) (clause : List Lit) : Type 0 where
  pub part : LClause
  pub known : Contains all part
  pub within : All (Contains clause) part.lits
  pub listed : IsListed lines lists part.lits

-- the line of this number has each of the literals
abbrev pub HasPart : List Line → List Lit → ℕ → Type 0
HasPart lines lits n = All (Contains (line_at lines n).lits) lits

-- the line of this number has a list for the contrary of each of its literals, where there are so many lists
pub record HasSlots (lines : List Line) (slots n : ℕ) : Type 0 where
  pub there : n < length lines
  pub below : All (λ l. slot (contrary l) < slots) (line_at lines n).lits

-- the clause is one of the lines of these numbers
pub record IsAmong (lines : List Line) (numbers : List ℕ) (clause : List Lit) : Type 0 where
  pub number : ℕ
  pub has : Contains numbers number
  pub is_line : (line_at lines number).lits ≡ clause

-- what a pass over the lines of these numbers answers
abbrev pub PassesAs : List Line → List ℕ → Seen → Seen → Option ℕ → Type 0
PassesAs lines numbers before now None = All (λ n. IsSettled (length before.steps) now.steps (line_at lines n).lits) numbers
PassesAs lines numbers before now (Some n) = IsAgainst lines now.steps n

-- what going through the steps from a place on answers
abbrev pub PropagatesAs : List Line → List (List ℕ) → ℕ → Seen → Seen → Option ℕ → Type 0
PropagatesAs lines lists from before now None = (c : List Lit) → IsListed lines lists c → IsSettled from before.steps c → IsAtRest (literals now.steps) c
PropagatesAs lines lists from before now (Some n) = IsAgainst lines now.steps n

-- the clauses of the query and the facts that are kept
abbrev pub known : Progress → List LClause
known s = s.kernel.query.clauses ++ s.facts

pub record IsGoing (s : Progress) : Type 0 where
  pub begins : take (length s.kernel.query.atoms) s.kernel.atoms ≡ s.kernel.query.atoms
  pub atoms : s.trail.atoms ≡ length s.kernel.query.atoms
  pub sound : AreSound s.kernel.lines s.trail.steps
  pub rests : RestsBefore (known s) s.trail.steps
  pub kept : AreFacts s.kernel.query s.kernel.query.clauses s.facts
  pub counted : s.literals ≡ literal_count s.facts
  pub few : s.literals ≤ 600000
  pub slots : length s.occurrences ≡ 2 * s.trail.atoms
  pub lists : (l : Lit) (n : ℕ) → Contains (listed s.occurrences l) n → IsClauseLine s.kernel.lines s.trail.atoms n
  pub covered : All (λ c. IsCovered s.kernel.lines s.occurrences (known s) c.lits) (known s)
  pub listed : All (IsClauseLine s.kernel.lines s.trail.atoms) s.listed.items
  pub unseen : All (IsClauseLine s.kernel.lines s.trail.atoms) s.unseen.items

-- each clause is at rest, still to be looked at, or one of the lines that no pass has seen
pub record IsReady (s : Progress) : Type 0 where
  pub head : s.head ≤ length s.trail.steps
  pub settled : All (λ c. IsSettled s.head s.trail.steps c.lits ⊎ IsAmong s.kernel.lines s.unseen.items c.lits) (known s)

-- the same query and facts, and no fewer steps
pub record Keeps (before now : Progress) : Type 0 where
  pub query : now.kernel.query ≡ before.kernel.query
  pub facts : now.facts ≡ before.facts
  pub literals : now.literals ≡ before.literals
  pub atoms : now.trail.atoms ≡ before.trail.atoms
  pub more : length before.trail.steps ≤ length now.trail.steps

abbrev pub AreAtRest : Progress → Type 0
AreAtRest s = IsAtRestAlong (literals s.trail.steps) (known s)

-- the list has a literal of each clause
abbrev pub AreMet : List Lit → List LClause → Type 0
AreMet lits clauses = All (λ c. Any (Contains lits) c.lits) clauses

-- the trail is at rest, or a line is against it
abbrev pub SettlesAs : Progress → Option ℕ → Type 0
SettlesAs s None = AreAtRest s
SettlesAs s (Some n) = IsAgainst s.kernel.lines s.trail.steps n

-- a line that is the contraries of the choices, and follows
pub record IsConcluded (s : Progress) (fact : Fact) : Type 0 where
  pub lits : fact.lits.items ≡ denial s.trail.steps
  pub below : All (λ l. l.atom < s.trail.atoms) fact.lits.items
  pub there : fact.number < length s.kernel.lines
  pub line : line_at s.kernel.lines fact.number ≡ record { lits = fact.lits.items; row = None }
  pub follows : Follows s.kernel.query s.kernel.query.atoms fact.lits.items None

-- what stands against the trail, or what the theory finds of a trail at rest
abbrev pub ReachesAs : Bool → Progress → Reached → Type 0
ReachesAs leaves s (reached.Conflict n) = IsAgainst s.kernel.lines s.trail.steps n
ReachesAs leaves s (reached.Open atom) = AreAtRest s × (atom < s.trail.atoms) × Lacks (literals s.trail.steps) atom
ReachesAs leaves s (reached.Model numbers) = AreAtRest s × SatisfiesRows s.kernel (literals s.trail.steps) numbers
ReachesAs leaves s reached.Leaf = IsTrue leaves × AreAtRest s

-- what is left of the work and of the atoms: it falls with each round that goes on
abbrev pub left : ℕ → Progress → ℕ
left work s = (work - length s.facts) * (s.trail.atoms + 1) + (s.trail.atoms - length s.trail.steps)

-- the search goes on, over the same query
pub record GoesOn (work : ℕ) (before now : Progress) : Type 0 where
  pub query : now.kernel.query ≡ before.kernel.query
  pub going : IsGoing now
  pub ready : IsReady now
  pub few : length now.facts ≤ work
  pub falls : left work now < left work before

-- how a round ends, where the theory may or may not give up
abbrev pub EndsAs : Bool → ℕ → Progress → Progress → Round → Type 0
EndsAs leaves work before now round.Going = GoesOn work before now
EndsAs leaves work before now (round.Sat v) = IsMet before.kernel.query v
EndsAs leaves work before now round.Unsat = HasNoValuation before.kernel.query
EndsAs leaves work before now round.Spent = IsSpent before.kernel.query work now.facts
EndsAs leaves work before now (round.Leaf lits) = IsTrue leaves × IsLeafOf before.kernel.query lits
