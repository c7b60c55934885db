-- The grammar: which terminals a package is written as, and which bytes terminals are spelled as.
use Rattle.std.specs.Prelude.{◌≡◌, ℕ, Bool, true, not, nat_le, List, [], ◌∷◌, ◌++◌, map, ◌&&◌, IsTrue, codes, if◌then◌else◌}
use Rattle.std.specs.Char.{is_ascii_alphabetic}
use Rattle.std.specs.List.{list_all, flat_map}
use Rattle.ag_small.specs.declared.package.Package.{Package}
use Rattle.ag_small.specs.declared.package.Port.{Port}
use Rattle.ag_small.specs.declared.package.Claim.{Claim}
use Rattle.ag_small.specs.declared.package.ClaimKind.{ClaimKind}
use Rattle.ag_small.specs.declared.package.ClaimKind.TheVariants.{Assume, Guarantee}
use Rattle.ag_small.specs.declared.package.Assign.{Assign}
use Rattle.ag_small.specs.declared.package.Formula.{Formula}
use Rattle.ag_small.specs.Expressions.{Truth, Named, Group, Not, And, Or, Implies}
use Rattle.ag_small.specs.Characters.{is_space, is_word_byte, is_label_byte, begins, folded, is_name}

-- Fixed: a reserved word, a name met again or a sign, in any case. Name: a name as it stands. Label: the text between quotes.
pub data Terminal : Type 0 where
  Fixed : List ℕ → Terminal
  Name : List ℕ → Terminal
  Label : List ℕ → Terminal

-- own is how a terminal may be written
abbrev pub IsSpelling : Terminal → List ℕ → Type 0
IsSpelling (Fixed text) own = folded own ≡ folded text
IsSpelling (Name name) own = (own ≡ name) × IsTrue (is_name name)
IsSpelling (Label text) own = (own ≡ 34 ∷ (text ++ 34 ∷ [])) × IsTrue (list_all is_label_byte text)

-- behind white space a terminal stands at the front, and rest follows it; no letter, digit or `_` follows a word
pub record Stands (t : Terminal) (bytes rest : List ℕ) : Type 0 where
  pub gap : List ℕ
  pub own : List ℕ
  pub white : IsTrue (list_all is_space gap)
  pub parts : bytes ≡ gap ++ (own ++ rest)
  pub spelled : IsSpelling t own
  pub ended : IsTrue (not (begins is_ascii_alphabetic own && begins is_word_byte rest))

-- the terminals stand one behind the other, and rest follows them
abbrev pub Spells : List Terminal → List ℕ → List ℕ → Type 0
Spells [] bytes rest = bytes ≡ rest
Spells (t ∷ ts) bytes rest = (between : List ℕ) × Stands t bytes between × Spells ts between rest

abbrev pub fixed : List (List ℕ) → List Terminal
fixed texts = map Fixed texts

-- name ":" ( "in" | "out" ) "data" "port" "Base_Types" "::" "Boolean" ";"
abbrev pub direction_text : Bool → List ℕ
direction_text outward = if outward then codes "out" else codes "in"

abbrev pub port_text : Port → List Terminal
port_text p =
    Name p.name ∷ Fixed (codes ":") ∷ Fixed (direction_text p.outward)
    ∷ fixed (codes "data" ∷ codes "port" ∷ codes "Base_Types" ∷ codes "::" ∷ codes "Boolean" ∷ codes ";" ∷ [])

-- "true" | "false" | name | "(" formula ")" | "not" formula | formula "and" formula | formula "or" formula | formula "=>" formula
abbrev pub truth_text : Bool → List ℕ
truth_text holds = if holds then codes "true" else codes "false"

abbrev pub formula_text : Formula → List Terminal
formula_text (Truth holds) = Fixed (truth_text holds) ∷ []
formula_text (Named name) = Name name ∷ []
formula_text (Group f) = Fixed (codes "(") ∷ (formula_text f ++ Fixed (codes ")") ∷ [])
formula_text (Not f) = Fixed (codes "not") ∷ formula_text f
formula_text (And f g) = formula_text f ++ (Fixed (codes "and") ∷ formula_text g)
formula_text (Or f g) = formula_text f ++ (Fixed (codes "or") ∷ formula_text g)
formula_text (Implies f g) = formula_text f ++ (Fixed (codes "=>") ∷ formula_text g)

-- how tightly a formula's outermost operator binds
abbrev pub tightness : Formula → ℕ
tightness (Implies f g) = 0
tightness (Or f g) = 1
tightness (And f g) = 2
tightness (Not f) = 3
tightness (Group f) = 3
tightness (Named name) = 3
tightness (Truth holds) = 3

-- each operand without parentheses binds tightly enough: `and` and `or` group from the left, `=>` from the right
abbrev pub is_grouped : Formula → Bool
is_grouped (Implies f g) = nat_le 1 (tightness f) && is_grouped f && is_grouped g
is_grouped (Or f g) = nat_le 1 (tightness f) && nat_le 2 (tightness g) && is_grouped f && is_grouped g
is_grouped (And f g) = nat_le 2 (tightness f) && nat_le 3 (tightness g) && is_grouped f && is_grouped g
is_grouped (Not f) = nat_le 3 (tightness f) && is_grouped f
is_grouped (Group f) = is_grouped f
is_grouped (Named name) = true
is_grouped (Truth holds) = true

-- ( "assume" | "guarantee" ) Text ":" formula ";"
abbrev pub kind_text : ClaimKind → List ℕ
kind_text Assume = codes "assume"
kind_text Guarantee = codes "guarantee"

abbrev pub claim_text : Claim → List Terminal
claim_text c = Fixed (kind_text c.kind) ∷ Label c.label ∷ Fixed (codes ":") ∷ (formula_text c.formula ++ Fixed (codes ";") ∷ [])

-- "assign" name "=" formula ";"
abbrev pub assign_text : Assign → List Terminal
assign_text a = Fixed (codes "assign") ∷ Name a.name ∷ Fixed (codes "=") ∷ (formula_text a.value ++ Fixed (codes ";") ∷ [])

-- "package" name "public" "with" "Base_Types" ";" "system" name "features"
abbrev pub head_text : List ℕ → List ℕ → List Terminal
head_text name frame =
    Fixed (codes "package") ∷ Name name
    ∷ (fixed (codes "public" ∷ codes "with" ∷ codes "Base_Types" ∷ codes ";" ∷ codes "system" ∷ [])
    ++ Name frame ∷ Fixed (codes "features") ∷ [])

-- "annex" "agree" "{**"
abbrev pub annex_words_at_head : List (List ℕ)
annex_words_at_head = codes "annex" ∷ codes "agree" ∷ codes "{**" ∷ []

-- "**}" ";" "end" frame ";" "system" "implementation" frame "." name "annex" "agree" "{**"
abbrev pub middle_text : List ℕ → List ℕ → List Terminal
middle_text frame body =
    fixed (codes "**}" ∷ codes ";" ∷ codes "end" ∷ frame ∷ codes ";" ∷ codes "system" ∷ codes "implementation" ∷ frame ∷ codes "." ∷ [])
    ++ Name body ∷ fixed annex_words_at_head

-- "**}" ";" "end" frame "." body ";" "end" name ";"
abbrev pub end_texts : List ℕ → List ℕ → List ℕ → List (List ℕ)
end_texts name frame body =
    codes "**}" ∷ codes ";" ∷ codes "end" ∷ frame ∷ codes "." ∷ body ∷ codes ";" ∷ codes "end" ∷ name ∷ codes ";" ∷ []

-- the head, the ports, an annex with the claims, the middle with a second annex, the assigns, the end
abbrev pub package_text : Package → List Terminal
package_text p =
    head_text p.name p.frame ++ (flat_map port_text p.ports ++ (fixed annex_words_at_head ++ (flat_map claim_text p.claims
    ++ (middle_text p.frame p.body ++ (flat_map assign_text p.assigns ++ fixed (end_texts p.name p.frame p.body))))))
