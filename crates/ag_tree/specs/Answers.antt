-- What each answer of a search says of its query.
use Rattle.std.specs.Prelude.{◌≡◌, ◌⊎◌, ◌<◌, ◌+◌, ◌++◌, ℕ, Bool, List, length, All, Any, Contains, IsTrue, IsSome, ⊤}
use Rattle.ag_query.specs.declared.clauses.Lit.{Lit}
use Rattle.ag_query.specs.declared.clauses.LClause.{LClause}
use Rattle.ag_query.specs.declared.query.Query.{Query}
use Rattle.ag_query.specs.declared.query.Valuation.{Valuation}
use Rattle.ag_query.specs.Meaning.{Meets}
use Rattle.ag_query.specs.Answers.{assignment_of}
use Rattle.ag_kernel.specs.State.{HasNoValuation}
use Rattle.ag_kernel.specs.Rules.{row_at}
use Rattle.ag_tree.specs.declared.solved.Solved.{Solved}
use Rattle.ag_tree.specs.declared.solved.Solved.TheVariants.{Sat, Unsat, Work, Leaf}
use Rattle.ag_tree.specs.Facts.{HasNoneBothWays, IsFact, AreFacts, literal_count, open_atoms}

-- a whole number for each variable and a truth for each atom, which meet the query
pub record IsMet (query : Query) (v : Valuation) : Type 0 where
  pub whole : length v.whole ≡ query.vars
  pub flags : length v.flags ≡ length query.atoms
  pub meets : Meets query (assignment_of v)

-- a further fact is called for, and so many are kept or it would pass 600,000 literals
pub record IsSpent (query : Query) (work : ℕ) (facts : List LClause) : Type 0 where
  pub kept : AreFacts query query.clauses facts
  pub further : List Lit
  pub called_for : IsFact query (query.clauses ++ facts) further
  pub spent : (length facts ≡ work) ⊎ (600000 < literal_count facts + length further)

-- literals of the query's atoms, none both ways, with a truth for each atom that has a row and a literal of each clause
pub record IsLeafOf (query : Query) (lits : List Lit) : Type 0 where
  pub there : All (λ l. l.atom < length query.atoms) lits
  pub plain : HasNoneBothWays lits
  pub bound : (a : ℕ) → a < length query.atoms → IsSome (row_at query.atoms a) → Any (λ l. l.atom ≡ a) lits
  pub clauses : All (λ c. Any (Contains lits) c.lits) query.clauses

-- what the answer says, where so much work is allowed and the theory may or may not end without an answer
abbrev pub IsSolved : Bool → ℕ → Query → Solved → Type 0
IsSolved leaves work query (Sat v) = IsMet query v
IsSolved leaves work query Unsat = HasNoValuation query
IsSolved leaves work query (Work facts) = IsSpent query work facts
IsSolved leaves work query (Leaf lits) = IsTrue leaves × IsLeafOf query lits

-- so many facts are kept, or their literals and the open atoms together pass 600,000
abbrev pub IsAtLimit : ℕ → Query → Solved → Type 0
IsAtLimit work query (Sat v) = ⊤
IsAtLimit work query Unsat = ⊤
IsAtLimit work query (Work facts) = (length facts ≡ work) ⊎ (600000 < literal_count facts + length (open_atoms query))
IsAtLimit work query (Leaf lits) = ⊤

-- the answer doesn't say that the work is spent
abbrev pub IsWithinWork : Solved → Type 0
IsWithinWork (Sat v) = ⊤
IsWithinWork Unsat = ⊤
IsWithinWork (Work facts) = ⊥
IsWithinWork (Leaf lits) = ⊤
