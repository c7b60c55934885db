-- The earliest place of a name, and its next one behind a place.
use Rattle.std.specs.Prelude.{◌≡◌, ℕ, Bool, true, false, List, Option, Some, None, ◌&&◌}
use Rattle.std.specs.List.{Contains, list_any}
use Rattle.std.specs.Ordering.{nat_cmp, is_lt, ordering_then}
use Rattle.std.specs.declared.cmp.Ordering.{Ordering}
use Rattle.ag_base.specs.declared.place.Place.{Place}
use Rattle.ag_terms.specs.declared.names.Ident.{Ident}
use Rattle.ag_terms.specs.Names.{same}
use Rattle.ag_symbols.specs.Indexed.{compare_names}
use Rattle.ag_base.specs.Rules.{is_before}

-- the name stands at an earlier place
abbrev pub stands_before : Option Ident → Place → Bool
stands_before None place = false
stands_before (Some j) place = is_before j.place place

-- places in their order
abbrev pub compare_places : Place → Place → Ordering
compare_places p q = ordering_then (nat_cmp p.file q.file) (ordering_then (nat_cmp p.line q.line) (nat_cmp p.column q.column))

-- names in the order of their texts, and those of one text in the order of their places
abbrev pub compare_idents : Ident → Ident → Ordering
compare_idents i j = ordering_then (compare_names i.text j.text) (compare_places i.place j.place)

abbrev pub is_in_front : {X : Type 0} → (X → Ident) → X → X → Bool
is_in_front item x y = is_lt (compare_idents (item x) (item y))

-- one of that name stands at an earlier place
abbrev pub any_before : {X : Type 0} → (X → List ℕ) → (X → Ident) → List ℕ → Place → List X → Bool
any_before key item name place xs = list_any (λ x. same (key x) name && is_before (item x).place place) xs

-- the second has the name of the first, and a later place
abbrev pub is_behind : Ident → Ident → Bool
is_behind i j = same i.text j.text && is_before i.place j.place

-- of these the earliest that stands behind a name
abbrev pub IsNext : Ident → List Ident → Option Ident → Type 0
IsNext i names None = (j : Ident) → Contains names j → is_behind i j ≡ false
IsNext i names (Some s) = (Contains names s) × (is_behind i s ≡ true) × ((j : Ident) → Contains names j → is_behind i j ≡ true → is_before j.place s.place ≡ false)
