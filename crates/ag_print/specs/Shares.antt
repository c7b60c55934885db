-- What is read of annexes, a list of clauses for each in the order of the text, and the share of each declaration in it.
use Rattle.std.specs.Prelude.{ℕ, List, [], ◌∷◌, length, take, drop}
use Rattle.std.specs.List.{flat_map}
use Rattle.ag_lex.specs.declared.token.Language.TheVariants.{Agree}
use Rattle.ag_lex.specs.declared.token.Token.{Token}
use Rattle.ag_lex.specs.Answers.{AreKept, IsAnnexOf, bytes_before, bytes_inside}
use Rattle.ag_aadl.specs.declared.packages.Item.{Item}
use Rattle.ag_aadl.specs.declared.packages.Package.{Package}
use Rattle.ag_terms.specs.declared.clauses.Clause.{Clause}
use Rattle.ag_terms.specs.declared.clauses.Site.{Site}
use Rattle.ag_print.specs.declared.annexes.Annex.{Annex}
use Rattle.ag_print.specs.Annexes.{Stated, IsStated, item_annexes}

-- the token is an annex of a file with these bytes
abbrev pub IsOneOf : List ℕ → Token × Site → Type 0
IsOneOf bytes a = IsAnnexOf bytes a.0

-- an annex without its tokens
abbrev pub placed : Annex → Token × Site
placed a = (a.text, a.site)

-- it is an annex of a file with these bytes, and has these tokens
pub record IsRead (bytes : List ℕ) (a : Annex) : Type 0 where
  pub among : IsAnnexOf bytes a.text
  pub kept : AreKept Agree a.text.place.file (bytes_before bytes a.text) (bytes_inside bytes a.text) a.tokens

-- it states these clauses
abbrev pub StatesThese : List ℕ → Token × Site → List Clause → Type 0
StatesThese bytes a clauses = IsStated bytes a.0 a.1 clauses

-- lists one behind the other
abbrev pub joined : List (List Clause) → List Clause
joined lists = flat_map (λ list. list) lists

-- what the annexes of the first declaration state, of what those of all do
abbrev pub item_share : Item → List (List Clause) → List Clause
item_share i clauses = joined (take (length (item_annexes i)) clauses)

-- what those behind it do
abbrev pub behind_item : Item → List (List Clause) → List (List Clause)
behind_item i clauses = drop (length (item_annexes i)) clauses

-- what the annexes of each declaration state
abbrev pub items_share : List Item → List (List Clause) → List (List Clause)
items_share [] clauses = []
items_share (i ∷ items) clauses = item_share i clauses ∷ items_share items (behind_item i clauses)

-- what those behind some declarations do
abbrev pub behind_items : List Item → List (List Clause) → List (List Clause)
behind_items [] clauses = clauses
behind_items (i ∷ items) clauses = behind_items items (behind_item i clauses)

-- what the annexes of each package state
abbrev pub shares : List Package → List (List Clause) → Stated
shares [] clauses = []
shares (p ∷ packages) clauses = items_share p.items clauses ∷ shares packages (behind_items p.items clauses)
