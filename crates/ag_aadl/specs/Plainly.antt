-- The rules on packages once more, by what stands where among the marked tokens.
use Rattle.std.specs.Prelude.{◌≡◌, ◌⊎◌, ℕ, Bool, true, false, not, ◌==◌, ◌&&◌, ◌||◌, ◌++◌, List, [], ◌∷◌, codes, if◌then◌else◌}
use Rattle.std.specs.List.{list_any}
use Rattle.ag_base.specs.declared.place.Refusal.{Refusal}
use Rattle.ag_base.specs.declared.place.Rule.TheVariants.{EndName, Twice, Unsupported}
use Rattle.ag_lex.specs.declared.token.Token.{Token}
use Rattle.ag_aadl.specs.declared.marked.Marked.{Marked}
use Rattle.ag_aadl.specs.Marked.{own, first_of}
use Rattle.ag_aadl.specs.Marks.{unmarked, package_mark, part_mark, join_mark, item_mark, owner_mark, declared_mark, spot_mark, spot_port_mark, end_mark, end_owner_mark, end_name_mark, close_mark, properties_mark}
use Rattle.ag_aadl.specs.Rules.{refused_at, same_names, is_section, Obeys}
use Rattle.ag_aadl.specs.Terminals.{name, colons, gives}
use Rattle.ag_aadl.specs.Unsupported.{delayed}
use Rattle.ag_terms.specs.Names.{same}

-- a package or a declaration begins at the mark, or a declaration ends
abbrev pub is_border : ℕ → Bool
is_border mark = mark == package_mark || (mark == item_mark || mark == end_name_mark)

-- somewhere among the tokens a package or a declaration begins, or a declaration ends
abbrev pub has_border : List Marked → Bool
has_border ms = list_any (λ m. is_border m.mark) ms

-- The section that begins at the token has begun before it in the same declaration.
pub record HasBegun (front : List Marked) (second : Marked) : Type 0 where
  pub before : List Marked
  pub first : Marked
  pub between : List Marked
  pub parts : front ≡ before ++ first ∷ between
  pub section : is_section first.mark ≡ true
  pub same : first.mark ≡ second.mark
  pub joined : has_border between ≡ false

-- The tokens break no rule up to one at which a section begins that has begun before; that token is refused.
pub record IsFirstTwice (bytes : List ℕ) (ms : List Marked) (r : Refusal) : Type 0 where
  pub front : List Marked
  pub second : Marked
  pub behind : List Marked
  pub parts : ms ≡ front ++ second ∷ behind
  pub obeyed : Obeys bytes front
  pub twice : HasBegun front second
  pub told : r ≡ refused_at Twice second.token

-- The name behind `end` is the declared one.

-- the last token whose mark passes a test, with those behind it: all, where none passes
abbrev pub from_last : (ℕ → Bool) → List Marked → List Marked
from_last test [] = []
from_last test (m ∷ ms) = if list_any (λ n. test n.mark) ms then from_last test ms else m ∷ ms

-- the tokens whose marks pass a test
abbrev pub having : (ℕ → Bool) → List Marked → List Token
having test [] = []
having test (m ∷ ms) = if test m.mark then m.token ∷ having test ms else having test ms

-- a mark inside a package's name
abbrev pub is_in_name : ℕ → Bool
is_in_name mark = mark == unmarked || (mark == part_mark || mark == join_mark)

-- the parts of the name that the tokens begin with
abbrev pub name_at : List Marked → List Token
name_at [] = []
name_at (m ∷ ms) = if m.mark == part_mark then m.token ∷ name_at ms else (if is_in_name m.mark then name_at ms else [])

-- the parts of the name right behind a token under the mark, where the tokens begin with one
abbrev pub name_behind : ℕ → List Marked → List Token
name_behind mark [] = []
name_behind mark (m ∷ ms) = if m.mark == mark then name_at ms else []

-- the name of the last package
abbrev pub package_name : List Marked → List Token
package_name ms = name_behind package_mark (from_last (λ k. k == package_mark) ms)

-- the mark of a name that a declaration declares
abbrev pub is_declared : ℕ → Bool
is_declared mark = mark == owner_mark || mark == declared_mark

-- the mark of a name behind `end` of a declaration
abbrev pub is_ending : ℕ → Bool
is_ending mark = mark == end_owner_mark || mark == end_name_mark

-- the name or the two names of the last declaration
abbrev pub declared_name : List Marked → List Token
declared_name ms = having is_declared (from_last (λ k. k == item_mark) ms)

-- the name behind the last `end`: of a package right behind it, or of a declaration
abbrev pub end_name : List Marked → List Token
end_name ms =
    let last = from_last (λ k. k == item_mark || k == end_mark) ms in
    name_behind end_mark last ++ having is_ending last

-- The tokens end with the end of a declaration or of a package, and the name there is another than the declared one.
abbrev pub EndsWrongly : List ℕ → List Marked → Marked → Type 0
EndsWrongly bytes ms last =
    ((last.mark ≡ end_name_mark) × (same_names bytes (declared_name ms) (end_name ms) ≡ false))
    ⊎ ((last.mark ≡ close_mark) × (same_names bytes (package_name ms) (end_name ms) ≡ false))

-- The tokens break no rule up to one at which a name ends that isn't the declared one; its first part is refused.
pub record IsFirstMisnamed (bytes : List ℕ) (ms : List Marked) (r : Refusal) : Type 0 where
  pub front : List Marked
  pub last : Marked
  pub behind : List Marked
  pub parts : ms ≡ front ++ last ∷ behind
  pub obeyed : Obeys bytes front
  pub wrong : EndsWrongly bytes (front ++ last ∷ []) last
  pub told : r ≡ refused_at EndName (first_of (end_name (front ++ last ∷ [])))

-- The timing of a connection isn't `delayed`.

-- the token is a name that spells this word, in any case
abbrev pub is_word : List ℕ → List ℕ → Marked → Bool
is_word bytes word m = m.terminal == name && same (own bytes m.token) word

-- the last token passes a test
abbrev pub ends_in : (Marked → Bool) → List Marked → Bool
ends_in test [] = false
ends_in test (m ∷ []) = test m
ends_in test (m ∷ n ∷ ms) = ends_in test (n ∷ ms)

-- some token stands under a mark
abbrev pub has_marked : List Marked → Bool
has_marked ms = list_any (λ m. not (m.mark == unmarked)) ms

-- some token is a name
abbrev pub has_name : List Marked → Bool
has_name ms = list_any (λ m. m.terminal == name) ms

-- a name of a connection's end
abbrev pub is_spot : ℕ → Bool
is_spot mark = mark == spot_mark || mark == spot_port_mark

-- The tokens end in `::` behind something other than `Communication_Properties`, so that what comes next is of another set.
pub record IsForeign (bytes : List ℕ) (ms : List Marked) : Type 0 where
  pub front : List Marked
  pub join : Marked
  pub parts : ms ≡ front ++ join ∷ []
  pub joins : join.terminal ≡ colons
  pub other : ends_in (is_word bytes (codes "Communication_Properties")) front ≡ false

-- `Timing` `=>` stands among the tokens, of no other set: in a connection no name stands behind it, else nothing at all.
pub record IsTimed (bytes : List ℕ) (connection : Bool) (ms : List Marked) : Type 0 where
  pub inner : List Marked
  pub timing : Marked
  pub arrow : Marked
  pub between : List Marked
  pub parts : ms ≡ inner ++ timing ∷ (arrow ∷ between)
  pub named : is_word bytes (codes "Timing") timing ≡ true
  pub free : IsForeign bytes inner → ⊥
  pub given : arrow.terminal ≡ gives
  pub next : ((connection ≡ true) × (has_name between ≡ false)) ⊎ (between ≡ [])

-- The token is `delayed`, the value of a timing in a connection or in a section of properties.
pub record IsDelayed (bytes : List ℕ) (front : List Marked) (value : Marked) : Type 0 where
  pub before : List Marked
  pub opening : Marked
  pub rest : List Marked
  pub parts : front ≡ before ++ opening ∷ rest
  pub opens : (is_spot opening.mark || opening.mark == properties_mark) ≡ true
  pub plain : has_marked (rest ++ value ∷ []) ≡ false
  pub timed : IsTimed bytes (is_spot opening.mark) rest
  pub delayed : is_word bytes (codes "delayed") value ≡ true

-- The tokens break no rule up to a `delayed` that is such a value; it is refused.
pub record IsFirstDelayed (bytes : List ℕ) (ms : List Marked) (r : Refusal) : Type 0 where
  pub front : List Marked
  pub value : Marked
  pub behind : List Marked
  pub parts : ms ≡ front ++ value ∷ behind
  pub obeyed : Obeys bytes front
  pub late : IsDelayed bytes front value
  pub told : r ≡ refused_at (Unsupported (record { number = delayed })) value.token
