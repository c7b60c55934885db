-- What literals, clauses and queries say, and what follows from a query.
use Rattle.std.specs.Prelude.{ℕ, ℤ, Bool, false, not, ◌||◌, List, Option, Some, None, All, IsTrue, slice_index_or}
use Rattle.std.specs.List.{list_any}
use Rattle.std.specs.Bool.{beq}
use Rattle.ag_query.specs.declared.rows.LRow.{LRow}
use Rattle.ag_query.specs.declared.rows.Atom.{Atom}
use Rattle.ag_query.specs.declared.rows.Atom.TheVariants.{Free, Bound}
use Rattle.ag_query.specs.declared.clauses.Lit.{Lit}
use Rattle.ag_query.specs.declared.query.Query.{Query}
use Rattle.ag_query.specs.Rows.{row_holds}

-- a whole number for each variable, without a bound, and a truth for each free atom
pub record Assignment : Type 0 where
  pub whole : ℕ → ℤ
  pub flags : ℕ → Bool

-- a free atom has the truth that is given it; another is true where its row holds
abbrev pub atom_truth : Assignment → ℕ → Atom → Bool
atom_truth v n Free = v.flags n
atom_truth v n (Bound row) = row_holds v.whole row

-- the truth of an atom by its number
abbrev pub truth_at : List Atom → Assignment → ℕ → Bool
truth_at atoms v n = atom_truth v n (slice_index_or atoms n Free)

abbrev pub lit_holds : List Atom → Assignment → Lit → Bool
lit_holds atoms v l = beq (truth_at atoms v l.atom) l.holds

-- one of the literals is true
abbrev pub one_holds : List Atom → Assignment → List Lit → Bool
one_holds atoms v lits = list_any (lit_holds atoms v) lits

-- each clause has a true literal
abbrev pub Meets : Query → Assignment → Type 0
Meets query v = All (λ c. IsTrue (one_holds query.atoms v c.lits)) query.clauses

-- there is a row, and it holds
abbrev pub some_row_holds : Assignment → Option LRow → Bool
some_row_holds v None = false
some_row_holds v (Some row) = row_holds v.whole row

-- in every valuation that meets the query, one of the literals or the row is true
abbrev pub Follows : Query → List Atom → List Lit → Option LRow → Type 0
Follows query atoms lits row =
    (v : Assignment) → Meets query v → IsTrue (one_holds atoms v lits || some_row_holds v row)

abbrev pub contrary : Lit → Lit
contrary l = record { atom = l.atom; holds = not l.holds }
