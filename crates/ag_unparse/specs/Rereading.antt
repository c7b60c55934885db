-- What the canonical text of clauses is read as.
use Rattle.std.specs.Prelude.{◌≤◌, ℕ, List, [], ◌∷◌, ◌++◌, length, IsTrue}
use Rattle.std.specs.List.{list_all}
use Rattle.ag_lex.specs.declared.token.Language.TheVariants.{Agree}
use Rattle.ag_lex.specs.declared.token.Token.{Token}
use Rattle.ag_lex.specs.Answers.{AreKept}
use Rattle.ag_aadl.specs.declared.marked.Marked.{Marked}
use Rattle.ag_terms.specs.declared.clauses.Clause.{Clause}
use Rattle.ag_terms.specs.declared.clauses.Site.{Site}
use Rattle.ag_annex.specs.Annexes.{IsAnnex}
use Rattle.ag_annex.specs.Clauses.{clauses_of}
use Rattle.ag_annex.specs.Rules.{Obeys}
use Rattle.ag_unparse.specs.Canonical.{inside_text}
use Rattle.ag_unparse.specs.Printable.{are_printable_clauses, may_stand}
use Rattle.ag_unparse.specs.Same.{SameClauses}
use Rattle.ag_unparse.specs.Spelling.{StandAs, clauses_words}

-- the clauses may stand in an annex of such a site, and have a canonical text
pub record MayBePrinted (site : Site) (clauses : List Clause) : Type 0 where
  pub printable : IsTrue (are_printable_clauses clauses)
  pub placed : IsTrue (list_all (may_stand site) clauses)

-- the bytes of a file in which the clauses' text stands between the marks of an annex
abbrev pub around : List ℕ → List Clause → List ℕ → List ℕ
around before clauses after = before ++ (inside_text clauses ++ after)

-- the text between the marks, behind these bytes of the file, breaks no rule of tokens, and its tokens are the words
pub record AreRead (file : ℕ) (before after : List ℕ) (clauses : List Clause) (tokens : List Token) : Type 0 where
  pub kept : AreKept Agree file before (inside_text clauses) tokens
  pub words : StandAs (around before clauses after) tokens (clauses_words clauses)

-- each of the tokens ends within the text
abbrev pub AreWithin : List ℕ → List Token → Type 0
AreWithin bytes [] = Unit {0}
AreWithin bytes (t ∷ ts) = (t.end ≤ length bytes) × AreWithin bytes ts

-- the marked tokens break no rule at the site, and state the clauses but for places
abbrev pub State : List ℕ → Site → List Marked → List Clause → Type 0
State bytes site ms clauses = Obeys site ms × SameClauses (clauses_of bytes ms) clauses

-- the text between the marks is read as clauses, which are the same
pub record AreReread (site : Site) (file : ℕ) (before after : List ℕ) (clauses : List Clause) (tokens : List Token) (found : List Clause) : Type 0 where
  pub kept : AreKept Agree file before (inside_text clauses) tokens
  pub read : IsAnnex (around before clauses after) tokens site found
  pub same : SameClauses found clauses
