-- Which atoms are open, which lists of literals are at rest, and which facts are new.
use Rattle.std.specs.Prelude.{◌≡◌, ◌≢◌, ◌⊎◌, ◌<◌, ◌==◌, ◌&&◌, ◌++◌, ◌∷◌, ℕ, Bool, false, not, List, [], length, filter, All, AllPairs, Any, Contains, None, sum_by, ⊤}
use Rattle.std.specs.List.{list_all, list_any, range_with_len}
use Rattle.ag_query.specs.declared.clauses.Lit.{Lit}
use Rattle.ag_query.specs.declared.clauses.LClause.{LClause}
use Rattle.ag_query.specs.declared.query.Query.{Query}
use Rattle.ag_query.specs.Meaning.{Follows, contrary}
use Rattle.ag_kernel.specs.Sets.{same}

-- the clause is one literal, however often, and that literal is of this atom
abbrev pub is_alone : ℕ → List Lit → Bool
is_alone a [] = false
is_alone a (l ∷ ls) = (l.atom == a) && list_all (same l) ls

-- the atom stands in no clause of one literal
abbrev pub is_open : Query → ℕ → Bool
is_open query a = not (list_any (λ c. is_alone a c.lits) query.clauses)

-- the open atoms of the query, from the lowest on
abbrev pub open_atoms : Query → List ℕ
open_atoms query = filter (is_open query) (range_with_len 0 (length query.atoms))

-- no atom stands in the list both ways
abbrev pub HasNoneBothWays : List Lit → Type 0
HasNoneBothWays lits = (l : Lit) → Contains lits l → Contains lits (contrary l) → ⊥

-- the atom stands in the list neither way
abbrev pub Lacks : List Lit → ℕ → Type 0
Lacks lits a = All (λ l. l.atom ≢ a) lits

-- the clause has literals of two atoms that stand in the list neither way
pub record HasTwoLeft (lits clause : List Lit) : Type 0 where
  pub one : Lit
  pub other : Lit
  pub has_one : Contains clause one
  pub has_other : Contains clause other
  pub apart : one.atom ≢ other.atom
  pub lacks_one : Lacks lits one.atom
  pub lacks_other : Lacks lits other.atom

-- the list has a literal of the clause, or two atoms of the clause are left
abbrev pub IsAtRest : List Lit → List Lit → Type 0
IsAtRest lits clause = Any (Contains lits) clause ⊎ HasTwoLeft lits clause

abbrev pub IsAtRestAlong : List Lit → List LClause → Type 0
IsAtRestAlong lits clauses = All (λ c. IsAtRest lits c.lits) clauses

-- some list at rest along the clauses has the contraries of all literals but one, and not that one
pub record IsNew (clauses : List LClause) (fact : List Lit) : Type 0 where
  pub along : List Lit
  pub plain : HasNoneBothWays along
  pub rests : IsAtRestAlong along clauses
  pub last : Lit
  pub has_last : Contains fact last
  pub others : All (λ l. (l ≡ last) ⊎ Contains along (contrary l)) fact
  pub lacks_last : Contains along last → ⊥

-- a clause that follows and is new after the earlier ones, over open atoms, each of them once
pub record IsFact (query : Query) (earlier : List LClause) (fact : List Lit) : Type 0 where
  pub follows : Follows query query.atoms fact None
  pub nonempty : 0 < length fact
  pub «open» : All (λ l. Contains (open_atoms query) l.atom) fact
  pub once : AllPairs (λ l m. l.atom ≢ m.atom) fact
  pub new : IsNew earlier fact

-- each is a fact after the earlier clauses and the facts before it
abbrev pub AreFacts : Query → List LClause → List LClause → Type 0
AreFacts query earlier [] = ⊤
AreFacts query earlier (f ∷ fs) = IsFact query earlier f.lits × AreFacts query (earlier ++ f ∷ []) fs

-- how many literals the facts have together
abbrev pub literal_count : List LClause → ℕ
literal_count facts = sum_by (λ f. length f.lits) facts
