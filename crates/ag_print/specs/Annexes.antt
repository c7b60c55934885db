-- What the annexes of packages state, and the refusal of the first that breaks a rule.
use Rattle.std.specs.Prelude.{◌≡◌, ◌⊎◌, ℕ, List, [], ◌∷◌, ◌++◌, map}
use Rattle.std.specs.List.{All, AllZip, flat_map}
use Rattle.ag_base.specs.declared.place.Refusal.{Refusal}
use Rattle.ag_lex.specs.declared.token.Language.TheVariants.{Agree}
use Rattle.ag_lex.specs.declared.token.Token.{Token}
use Rattle.ag_lex.specs.Answers.{AreKept, bytes_before, bytes_inside}
use Rattle.ag_lex.specs.Rules.{IsFirstBroken}
use Rattle.ag_aadl.specs.declared.packages.Item.{Item}
use Rattle.ag_aadl.specs.declared.packages.Item.TheVariants as item
use Rattle.ag_aadl.specs.declared.packages.Package.{Package}
use Rattle.ag_terms.specs.declared.clauses.Clause.{Clause}
use Rattle.ag_terms.specs.declared.clauses.Site.{Site}
use Rattle.ag_terms.specs.declared.clauses.Site.TheVariants as site
use Rattle.ag_annex.specs.Annexes.{IsAnnex, IsFirstWrong}

-- what annexes state: for each package a list for each of its declarations of the clauses
abbrev pub Stated : Type 0
Stated = List (List (List Clause))

-- the `agree` annexes of a declaration
abbrev pub item_annexes : Item → List Token
item_annexes (item.Frame f) = f.annexes
item_annexes (item.Body b) = b.annexes
item_annexes (item.Library t) = t ∷ []

-- where a declaration's annexes stand
abbrev pub item_site : Item → Site
item_site (item.Frame f) = site.Frame
item_site (item.Body b) = site.Body
item_site (item.Library t) = site.Library

-- ---- clauses

-- the annex's tokens break no rule, and it states these clauses
pub record IsStated (bytes : List ℕ) (annex : Token) (s : Site) (clauses : List Clause) : Type 0 where
  pub tokens : List Token
  pub kept : AreKept Agree annex.place.file (bytes_before bytes annex) (bytes_inside bytes annex) tokens
  pub read : IsAnnex bytes tokens s clauses

-- the annexes state these clauses one behind the other
abbrev pub AreAllStated : List ℕ → Site → List Token → List Clause → Type 0
AreAllStated bytes s [] clauses = clauses ≡ []
AreAllStated bytes s (annex ∷ annexes) clauses =
    (own : List Clause) × (more : List Clause) × (clauses ≡ own ++ more) × IsStated bytes annex s own × AreAllStated bytes s annexes more

-- the annexes of a declaration state these clauses
abbrev pub ItemStates : List ℕ → Item → List Clause → Type 0
ItemStates bytes i clauses = AreAllStated bytes (item_site i) (item_annexes i) clauses

-- those of a package state these, for each declaration
abbrev pub PackageStates : List ℕ → Package → List (List Clause) → Type 0
PackageStates bytes p stated = AllZip (ItemStates bytes) p.items stated

-- those of all packages state these
abbrev pub PackagesState : List ℕ → List Package → Stated → Type 0
PackagesState bytes packages stated = AllZip (PackageStates bytes) packages stated

-- ---- refusals

-- the annexes of a declaration, and where each stands
abbrev pub annexes_of_item : Item → List (Token × Site)
annexes_of_item i = map (λ t. (t, item_site i)) (item_annexes i)

-- those of a package
abbrev pub annexes_of_package : Package → List (Token × Site)
annexes_of_package p = flat_map annexes_of_item p.items

-- those of all packages, in the order of the text
abbrev pub annexes_of_packages : List Package → List (Token × Site)
annexes_of_packages packages = flat_map annexes_of_package packages

-- an annex breaks no rule of tokens
abbrev pub HasTokens : List ℕ → Token × Site → Type 0
HasTokens bytes a = (tokens : List Token) × AreKept Agree a.0.place.file (bytes_before bytes a.0) (bytes_inside bytes a.0) tokens

-- and none of its grammar
abbrev pub StatesClauses : List ℕ → Token × Site → Type 0
StatesClauses bytes a = (clauses : List Clause) × IsStated bytes a.0 a.1 clauses

-- one of the annexes breaks a rule of tokens, and the refusal is its first; those before it break none
pub record IsTokenRefused (bytes : List ℕ) (annexes : List (Token × Site)) (r : Refusal) : Type 0 where
  pub before : List (Token × Site)
  pub annex : Token × Site
  pub behind : List (Token × Site)
  pub order : annexes ≡ before ++ annex ∷ behind
  pub fine : All (HasTokens bytes) before
  pub broken : IsFirstBroken Agree annex.0.place.file (bytes_before bytes annex.0) (bytes_inside bytes annex.0) r

-- None breaks a rule of tokens, and one of them breaks the grammar of annexes or a rule on it, of which the refusal is the
-- first; those before it break none.
pub record IsClauseRefused (bytes : List ℕ) (annexes : List (Token × Site)) (r : Refusal) : Type 0 where
  pub fine : All (HasTokens bytes) annexes
  pub before : List (Token × Site)
  pub annex : Token × Site
  pub behind : List (Token × Site)
  pub order : annexes ≡ before ++ annex ∷ behind
  pub stated : All (StatesClauses bytes) before
  pub tokens : List Token
  pub kept : AreKept Agree annex.0.place.file (bytes_before bytes annex.0) (bytes_inside bytes annex.0) tokens
  pub wrong : IsFirstWrong bytes tokens annex.1 r

-- the first broken rule of the annexes: first of the tokens of all, then of their grammar
abbrev pub IsAnnexRefused : List ℕ → List Package → Refusal → Type 0
IsAnnexRefused bytes packages r = IsTokenRefused bytes (annexes_of_packages packages) r ⊎ IsClauseRefused bytes (annexes_of_packages packages) r
