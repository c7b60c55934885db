-- Names of packages and classifiers, word by word.
use Rattle.std.proofs.Common.{◌≡◌, ℕ, Bool, true, false, ◌&&◌, ◌==◌, if◌then◌else◌, List, [], ◌∷◌, ◌++◌, Option, Some, None, refl, ◌∙◌, codes}
use Rattle.std.specs.List.{list_all}
use Rattle.std.proofs.lemmas.Bool.{and_parts, and_from}
use Rattle.std.proofs.lemmas.List.Folds.{list_all-append}
use Rattle.ag_grammar.specs.declared.grammar.Symbol.TheVariants.{Nonterminal}
use Rattle.ag_terms.specs.declared.names.Path.{Path}
use Rattle.ag_terms.specs.declared.names.Ident.{Ident}
use Rattle.ag_aadl.specs.Marks.{unmarked, part_mark, join_mark, class_body_mark}
use Rattle.ag_aadl.specs.Nonterminals.{pname, more_names, some_class, some_body, some_braces}
use Rattle.ag_aadl.specs.Terminals.{colons, dot}
use Rattle.ag_aadl.specs.Names.{put_before, name_parts}
use Rattle.ag_print.specs.Canonical.{more_parts, parts_words, pname_words, body_words, package_parts, class_words}
use Rattle.ag_print.specs.Printable.{is_plain_name, is_printable_ident, is_printable_option, is_printable_package_name, is_printable_owner, is_printable_class}
use Rattle.ag_print.proofs.Spells.{Spells, nothing, beside, by_line, by_name, by_sign}
use Rattle.ag_print.proofs.Words.{is_colons, is_dot}

-- ---- parts

more_parts_spell : (parts : List (List ℕ)) → list_all is_plain_name parts ≡ true → Spells (Nonterminal more_names ∷ []) (more_parts parts)
more_parts_spell [] h = by_line more_names 1 refl nothing
more_parts_spell (part ∷ parts) h =
    let both = and_parts (is_plain_name part) (list_all is_plain_name parts) h in
    by_line more_names 0 refl (by_sign colons join_mark (codes "::") is_colons (by_name part_mark part both.0 (more_parts_spell parts both.1)))

-- a list of some parts
abbrev IsFilled : List (List ℕ) → Type 0
IsFilled [] = ⊥
IsFilled (part ∷ parts) = Unit {0}

parts_spell : (parts : List (List ℕ)) → IsFilled parts → list_all is_plain_name parts ≡ true → Spells (Nonterminal pname ∷ []) (parts_words parts)
parts_spell [] filled h = absurd filled
parts_spell (part ∷ parts) filled h =
    let both = and_parts (is_plain_name part) (list_all is_plain_name parts) h in
    by_line pname 0 refl (by_name part_mark part both.0 (more_parts_spell parts both.1))

filled_before : (b : ℕ) (parts : List (List ℕ)) → IsFilled (put_before b parts)
filled_before b [] = tt
filled_before b (part ∷ parts) = tt

filled_either : (c : Bool) (xs ys : List (List ℕ)) → IsFilled xs → IsFilled ys → IsFilled (if c then xs else ys)
filled_either true xs ys f g = f
filled_either false xs ys f g = g

filled_parts : (text : List ℕ) → IsFilled (name_parts text)
filled_parts [] = tt
filled_parts (b ∷ []) = tt
filled_parts (b ∷ c ∷ bs) = filled_either (b == 58 && c == 58) ([] ∷ name_parts bs) (put_before b (name_parts (c ∷ bs))) tt (filled_before b (name_parts (c ∷ bs)))

filled_behind : (parts : List (List ℕ)) (part : List ℕ) → IsFilled (parts ++ part ∷ [])
filled_behind [] part = tt
filled_behind (p ∷ parts) part = tt

-- a package's name
pub pname_spells : (i : Ident) → is_printable_package_name i ≡ true → Spells (Nonterminal pname ∷ []) (pname_words i)
pname_spells i h = parts_spell (name_parts i.text) (filled_parts i.text) h

-- ---- classifiers

body_spells : (o : Option Ident) → is_printable_option o ≡ true → Spells (Nonterminal some_body ∷ []) (body_words o)
body_spells None h = by_line some_body 1 refl nothing
body_spells (Some i) h = by_line some_body 0 refl (by_sign dot unmarked (codes ".") is_dot (by_name class_body_mark i.text h nothing))

owner_parts : (o : Option Ident) → is_printable_owner o ≡ true → list_all is_plain_name (package_parts o) ≡ true
owner_parts None h = refl
owner_parts (Some i) h = h

-- the parts of a classifier's package, and its name
pub path_parts : (p : Path) → is_printable_class (Some p) ≡ true → list_all is_plain_name (package_parts p.«package» ++ p.name.text ∷ []) ≡ true
path_parts p h =
    let both = and_parts (is_printable_owner p.«package») (is_printable_ident p.name && is_printable_option p.body) h in
    let named = and_parts (is_printable_ident p.name) (is_printable_option p.body) both.1 in
    list_all-append is_plain_name (package_parts p.«package») (p.name.text ∷ [])
    ∙ and_from (list_all is_plain_name (package_parts p.«package»)) (is_plain_name p.name.text && true) (owner_parts p.«package» both.0) (and_from (is_plain_name p.name.text) true named.0 refl)

-- a classifier, or none
pub class_spells : (o : Option Path) → is_printable_class o ≡ true → Spells (Nonterminal some_class ∷ []) (class_words o)
class_spells None h = by_line some_class 1 refl nothing
class_spells (Some p) h =
    let both = and_parts (is_printable_owner p.«package») (is_printable_ident p.name && is_printable_option p.body) h in
    let named = and_parts (is_printable_ident p.name) (is_printable_option p.body) both.1 in
    let parts = package_parts p.«package» ++ p.name.text ∷ [] in
    by_line some_class 0 refl (beside (parts_spell parts (filled_behind (package_parts p.«package») p.name.text) (path_parts p h)) (body_spells p.body named.1))

-- no braces
pub no_braces_spell : Spells (Nonterminal some_braces ∷ []) []
no_braces_spell = by_line some_braces 1 refl nothing
