-- What look-ups by keys find: types, implementations, packages and ports.
use Rattle.std.proofs.Common.{◌≡◌, ℕ, zero, suc, ◌<◌, ◌≤◌, Bool, true, false, nat_eq, ◌&&◌, List, [], ◌∷◌, length, get_or, Option, Some, None, refl, ap, sym, ◌∙◌, arith}
use Rattle.std.specs.Prelude.{position, slice_get, is_some, option_and_then}
use Rattle.std.specs.Option.{option_map}
use Rattle.std.proofs.lemmas.Option.{slice_get_read}
use Rattle.ag_terms.specs.declared.names.Ident.{Ident}
use Rattle.ag_aadl.specs.declared.packages.Body.{Body}
use Rattle.ag_aadl.specs.declared.packages.Category.{Category}
use Rattle.ag_aadl.specs.declared.packages.Category.TheVariants.{System, Process, Thread, Device, Abstract}
use Rattle.ag_aadl.specs.declared.packages.Package.{Package}
use Rattle.ag_terms.specs.Names.{same}
use Rattle.ag_names.specs.Categories.{number_of}
use Rattle.ag_names.specs.Found.{TypeName, implementation_as, implementation_named, is_implementation, is_package, is_type, same_category, type_named}
use Rattle.ag_names.specs.Graph.{number_as}
use Rattle.ag_names.specs.Keys.{Entry, FindsAs, declared_key, first_at, implementation_entries, implementation_key, implemented_key, name_key, package_entries, port_entries, same_key, sub_entries, type_entries, type_key, use_entries}
use Rattle.ag_names.specs.Placed.{Type', Implementation, implementations, types}
use Rattle.ag_names.specs.Tables.{may_package_use, port_position}
use Rattle.ag_names.proofs.Entries.{any_found, any_position, find_at, first_in_row, first_is_position, no_names, same_in_row}

same_number : (a b : Category) → nat_eq (number_of a) (number_of b) ≡ same_category a b
same_number System System = refl
same_number System Process = refl
same_number System Thread = refl
same_number System Device = refl
same_number System Abstract = refl
same_number Process System = refl
same_number Process Process = refl
same_number Process Thread = refl
same_number Process Device = refl
same_number Process Abstract = refl
same_number Thread System = refl
same_number Thread Process = refl
same_number Thread Thread = refl
same_number Thread Device = refl
same_number Thread Abstract = refl
same_number Device System = refl
same_number Device Process = refl
same_number Device Thread = refl
same_number Device Device = refl
same_number Device Abstract = refl
same_number Abstract System = refl
same_number Abstract Process = refl
same_number Abstract Thread = refl
same_number Abstract Device = refl
same_number Abstract Abstract = refl

owner_first : (number name owner : Bool) → (number && name) && owner ≡ owner && (number && name)
owner_first true true true = refl
owner_first true true false = refl
owner_first true false true = refl
owner_first true false false = refl
owner_first false true true = refl
owner_first false true false = refl
owner_first false false true = refl
owner_first false false false = refl

owner_last : (number name owner second : Bool) → (number && name) && (owner && second) ≡ (owner && (number && name)) && second
owner_last true true true second = refl
owner_last true true false second = refl
owner_last true false true second = refl
owner_last true false false second = refl
owner_last false true true second = refl
owner_last false true false second = refl
owner_last false false true second = refl
owner_last false false false second = refl

and_true : (b c : Bool) → c ≡ true → b && c ≡ b
and_true true c e = e
and_true false c e = refl

type_test : (n : TypeName) (t : Type') → same_key (declared_key t) (type_key n) ≡ is_type n t
type_test n t =
    rw (same_number t.frame.category n.category, and_true (same t.owner.name.text n.«package») (same [] []) no_names)
    (owner_first (same_category t.frame.category n.category) (same t.frame.name.text n.name) (same t.owner.name.text n.«package»))

implementation_test : (n : TypeName) (name : List ℕ) (i : Implementation) → same_key (implemented_key i) (implementation_key n name) ≡ is_implementation n name i
implementation_test n name i =
    rw (same_number i.body.category n.category)
    (owner_last (same_category i.body.category n.category) (same i.body.frame.text n.name) (same i.owner.name.text n.«package») (same i.body.name.text name))

pub type_found : (ts : List Type') (table : List Entry) → FindsAs (type_entries ts) table → (n : TypeName) → first_at (type_key n) table ≡ position (is_type n) ts
type_found ts table h n = h (type_key n) ∙ first_is_position declared_key (type_key n) (is_type n) ts (type_test n)

pub implementation_found : (js : List Implementation) (table : List Entry) → FindsAs (implementation_entries js) table → (n : TypeName) (name : List ℕ)
    → first_at (implementation_key n name) table ≡ position (is_implementation n name) js
implementation_found js table h n name =
    h (implementation_key n name) ∙ first_is_position implemented_key (implementation_key n name) (is_implementation n name) js (implementation_test n name)

pub package_found : (all : List Package) (table : List Entry) → FindsAs (package_entries all) table → (name : List ℕ) → is_some (first_at (name_key 0 name) table) ≡ is_package all name
package_found all table h name =
    ap (λ (o : Option ℕ). is_some o)
    (h (name_key 0 name)
    ∙ first_is_position (λ p. name_key 0 p.name.text) (name_key 0 name) (λ p. same p.name.text name) all (λ p. same_in_row 0 p.name.text name))
    ∙ any_position (λ p. same p.name.text name) all

use_at : (p : Option Package) (name : List ℕ) → is_some (option_and_then (λ q. position (λ i. same i.text name) (q.name ∷ q.imports)) p) ≡ may_package_use p name
use_at None name = refl
use_at (Some p) name = any_position (λ i. same i.text name) (p.name ∷ p.imports)

pub use_found : (all : List Package) (table : List Entry) → FindsAs (use_entries all) table → (at : ℕ) (name : List ℕ) → is_some (first_at (name_key at name) table) ≡ may_package_use (slice_get all at) name
use_found all table h at name =
    ap (λ (o : Option ℕ). is_some o) (h (name_key at name) ∙ first_in_row (λ p. p.name ∷ p.imports) (λ i. i.text) name all at)
    ∙ use_at (slice_get all at) name

port_at : (t : Option Type') (name : List ℕ) → option_and_then (λ u. position (λ p. same p.name.text name) u.frame.ports) t ≡ port_position t name
port_at None name = refl
port_at (Some t) name = refl

pub port_found : (ts : List Type') (table : List Entry) → FindsAs (port_entries ts) table → (number : ℕ) (name : List ℕ) → first_at (name_key number name) table ≡ port_position (slice_get ts number) name
port_found ts table h number name =
    h (name_key number name) ∙ first_in_row (λ t. t.frame.ports) (λ p. p.name.text) name ts number ∙ port_at (slice_get ts number) name

-- ---- subcomponents, and an implementation's own type

pub sub_found : (b : Body) (table : List Entry) → FindsAs (sub_entries b) table → (name : List ℕ) → first_at (name_key 0 name) table ≡ position (λ s. same s.name.text name) b.subs
sub_found b table h name =
    h (name_key 0 name) ∙ first_is_position (λ s. name_key 0 s.name.text) (name_key 0 name) (λ s. same s.name.text name) b.subs (λ s. same_in_row 0 s.name.text name)

-- of the first that a test finds, and of its position
pub found_type : (all : List Package) (n : TypeName) → option_and_then (slice_get (types all)) (position (is_type n) (types all)) ≡ type_named all n
found_type all n = find_at (is_type n) (types all)

pub some_type : (all : List Package) (n : TypeName) → is_some (position (is_type n) (types all)) ≡ is_some (type_named all n)
some_type all n = any_position (is_type n) (types all) ∙ sym (any_found (is_type n) (types all))

pub found_implementation : (all : List Package) (n : TypeName) (name : List ℕ)
    → option_and_then (slice_get (implementations all)) (position (is_implementation n name) (implementations all)) ≡ implementation_named all n name
found_implementation all n name = find_at (is_implementation n name) (implementations all)

-- ---- the number of an implementation, and the implementation

pub numbered : (all : List Package) (n : TypeName) (name : Option Ident) → option_and_then (slice_get (implementations all)) (number_as all n name) ≡ implementation_as all n name
numbered all n None = refl
numbered all n (Some name) = found_implementation all n name.text

-- what stands there, by what a list has at a position
pub stands_there : {X T : Type 0} (item : X → T) (xs : List X) (at : ℕ) (x : X) (o : Option ℕ) (found : Option X) → at < length xs → x ≡ get_or xs at x → Some at ≡ o
    → option_and_then (slice_get xs) o ≡ found → Some (item x) ≡ option_map item found
stands_there item xs at x o found h is number e =
    ap (option_map item) (sym (slice_get_read xs (length xs) at x refl h is) ∙ ap (λ (z : Option ℕ). option_and_then (slice_get xs) z) number ∙ e)

pub stands_nowhere : {X T : Type 0} (item : X → T) (xs : List X) (o : Option ℕ) (found : Option X) → None ≡ o → option_and_then (slice_get xs) o ≡ found → None ≡ option_map item found
stands_nowhere item xs o found number e = ap (option_map item) (ap (λ (z : Option ℕ). option_and_then (slice_get xs) z) number ∙ e)

past : {X : Type 0} (xs : List X) (at : ℕ) → length xs ≤ at → slice_get xs at ≡ None
past [] at h = refl
past (x ∷ xs) zero h = absurd (omega arith)
past (x ∷ xs) (suc at) h = past xs at (omega arith)

pub stands_past : {X T : Type 0} (item : X → T) (xs : List X) (at : ℕ) (o : Option ℕ) (found : Option X) → length xs ≤ at → Some at ≡ o
    → option_and_then (slice_get xs) o ≡ found → None ≡ option_map item found
stands_past item xs at o found h number e =
    ap (option_map item) (sym (past xs at h) ∙ ap (λ (z : Option ℕ). option_and_then (slice_get xs) z) number ∙ e)
