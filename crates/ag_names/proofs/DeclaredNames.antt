-- The names among declarations, one declaration after another.
use Rattle.std.proofs.Common.{◌≡◌, ℕ, ◌+◌, ◌<◌, List, [], ◌∷◌, ◌++◌, length, get_or, take, refl, ap, sym}
use Rattle.std.proofs.lemmas.List.{take_more}
use Rattle.ag_aadl.specs.declared.packages.Item.{Item}
use Rattle.ag_aadl.specs.declared.packages.Item.TheVariants as item
use Rattle.ag_names.specs.Twice.{Declared, implementation_name, implementation_names, simple, type_names}

type_names-append : (xs : List Item) (x : Item) → type_names (xs ++ x ∷ []) ≡ type_names xs ++ type_names (x ∷ [])
type_names-append [] x = refl
type_names-append (item.Frame f ∷ xs) x = ap (λ (z : List Declared). simple f.name ∷ z) (type_names-append xs x)
type_names-append (item.Body b ∷ xs) x = type_names-append xs x
type_names-append (item.Library t ∷ xs) x = type_names-append xs x

pub type_names_more : (xs : List Item) (i : ℕ) (x : Item) → i < length xs → x ≡ get_or xs i x → type_names (take (i + 1) xs) ≡ type_names (take i xs) ++ type_names (x ∷ [])
type_names_more xs i x l e = rw (take_more xs i x l) (rw (sym e) (type_names-append (take i xs) x))

implementation_names-append : (xs : List Item) (x : Item) → implementation_names (xs ++ x ∷ []) ≡ implementation_names xs ++ implementation_names (x ∷ [])
implementation_names-append [] x = refl
implementation_names-append (item.Frame f ∷ xs) x = implementation_names-append xs x
implementation_names-append (item.Body b ∷ xs) x = ap (λ (z : List Declared). implementation_name b ∷ z) (implementation_names-append xs x)
implementation_names-append (item.Library t ∷ xs) x = implementation_names-append xs x

pub implementation_names_more : (xs : List Item) (i : ℕ) (x : Item) → i < length xs → x ≡ get_or xs i x → implementation_names (take (i + 1) xs) ≡ implementation_names (take i xs) ++ implementation_names (x ∷ [])
implementation_names_more xs i x l e = rw (take_more xs i x l) (rw (sym e) (implementation_names-append (take i xs) x))
