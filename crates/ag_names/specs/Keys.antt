-- Keys of tables, in any case of their letters, and the first entry of a key.
use Rattle.std.specs.Prelude.{◌≡◌, ℕ, ◌+◌, ◌==◌, ◌&&◌, Bool, List, [], ◌∷◌, ◌++◌, Option, Some, None, map, position, if◌then◌else◌}
use Rattle.std.specs.Ordering.{is_lt, nat_cmp, ordering_then}
use Rattle.std.specs.declared.cmp.Ordering.{Ordering}
use Rattle.ag_aadl.specs.declared.packages.Body.{Body}
use Rattle.ag_aadl.specs.declared.packages.Package.{Package}
use Rattle.ag_terms.specs.Names.{same}
use Rattle.ag_names.specs.Found.{TypeName, is_type, own_type}
use Rattle.ag_names.specs.Names.{compare_names}
use Rattle.ag_names.specs.Placed.{Type', Implementation, types, implementations}
use Rattle.ag_names.specs.Categories.{number_of}

-- a number and up to three names
pub record Key : Type 0 where
  pub number : ℕ
  pub name : List ℕ
  pub owner : List ℕ
  pub second : List ℕ

abbrev pub same_key : Key → Key → Bool
same_key a b = (a.number == b.number && same a.name b.name) && (same a.owner b.owner && same a.second b.second)

abbrev pub compare_keys : Key → Key → Ordering
compare_keys a b =
    ordering_then (ordering_then (nat_cmp a.number b.number) (compare_names a.name b.name))
    (ordering_then (compare_names a.owner b.owner) (compare_names a.second b.second))

-- a key, and the position of what has it
pub record Entry : Type 0 where
  pub key : Key
  pub at : ℕ

-- one entry's key comes before the other's
abbrev pub is_ahead : Entry → Entry → Bool
is_ahead a b = is_lt (compare_keys a.key b.key)

-- the position that the first entry of a key has
abbrev pub first_at : Key → List Entry → Option ℕ
first_at key [] = None
first_at key (e ∷ es) = if same_key e.key key then Some e.at else first_at key es

-- the key of a name among those of one number
abbrev pub name_key : ℕ → List ℕ → Key
name_key number name = record { number = number; name = name; owner = []; second = [] }

-- the key of a type
abbrev pub type_key : TypeName → Key
type_key n = record { number = number_of n.category; name = n.name; owner = n.«package»; second = [] }

-- the key of an implementation
abbrev pub implementation_key : TypeName → List ℕ → Key
implementation_key n name =
    record { number = number_of n.category; name = n.name; owner = n.«package»; second = name }

-- the key of what is declared
abbrev pub declared_key : Type' → Key
declared_key t =
    type_key (record { «package» = t.owner.name.text; category = t.frame.category; name = t.frame.name.text })

abbrev pub implemented_key : Implementation → Key
implemented_key i = implementation_key (own_type i.owner i.body) i.body.name.text

-- entries with these keys, from a position on
abbrev pub entries_from : ℕ → List Key → List Entry
entries_from at [] = []
entries_from at (key ∷ keys) = record { key = key; at = at } ∷ entries_from (at + 1) keys

-- entries of the names of these, under one number
abbrev pub row_of : {Y : Type 0} → (Y → List ℕ) → ℕ → List Y → List Entry
row_of name number ys = entries_from 0 (map (λ y. name_key number (name y)) ys)

-- entries of the names of what each of these has, under the positions of these, of which the first has that number
abbrev pub rows_from : {X Y : Type 0} → (X → List Y) → (Y → List ℕ) → ℕ → List X → List Entry
rows_from parts name number [] = []
rows_from parts name number (x ∷ xs) = row_of name number (parts x) ++ rows_from parts name (number + 1) xs

-- the first entries of each key are those of the other list
abbrev pub FindsAs : List Entry → List Entry → Type 0
FindsAs entries table = (key : Key) → first_at key table ≡ first_at key entries

-- the entries of all packages, of the packages that each may use, of types, of implementations, and of the ports of
-- each type
abbrev pub package_entries : List Package → List Entry
package_entries all = entries_from 0 (map (λ p. name_key 0 p.name.text) all)

-- the names that a package may use, and the ports of a type, under a number
abbrev pub use_row : ℕ → Package → List Entry
use_row number p = row_of (λ i. i.text) number (p.name ∷ p.imports)

abbrev pub port_row : ℕ → Type' → List Entry
port_row number t = row_of (λ p. p.name.text) number t.frame.ports

abbrev pub use_entries : List Package → List Entry
use_entries all = rows_from (λ p. p.name ∷ p.imports) (λ i. i.text) 0 all

abbrev pub type_entries : List Type' → List Entry
type_entries ts = entries_from 0 (map declared_key ts)

abbrev pub implementation_entries : List Implementation → List Entry
implementation_entries js = entries_from 0 (map implemented_key js)

abbrev pub port_entries : List Type' → List Entry
port_entries ts = rows_from (λ t. t.frame.ports) (λ p. p.name.text) 0 ts

-- the entries of an implementation's subcomponents
abbrev pub sub_entries : Body → List Entry
sub_entries b = entries_from 0 (map (λ s. name_key 0 s.name.text) b.subs)

-- the number of an implementation's own type
abbrev pub own_number : List Package → Implementation → Option ℕ
own_number all i = position (is_type (own_type i.owner i.body)) (types all)

-- this is the number of an implementation's own type, and this a table of its subcomponents
abbrev pub AreOwn : List Package → Implementation → Option ℕ → List Entry → Type 0
AreOwn all i number table = (number ≡ own_number all i) × FindsAs (sub_entries i.body) table

-- These are the types and implementations of all packages, and tables of them.
pub record AreTables (all : List Package) (ts : List Type') (js : List Implementation)
    (n u d i p : List Entry) : Type 0 where
  pub of_types : ts ≡ types all
  pub of_implementations : js ≡ implementations all
  pub names : FindsAs (package_entries all) n
  pub uses : FindsAs (use_entries all) u
  pub named : FindsAs (type_entries (types all)) d
  pub implemented : FindsAs (implementation_entries (implementations all)) i
  pub ports : FindsAs (port_entries (types all)) p
