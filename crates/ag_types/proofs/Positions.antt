-- Where a name stands, if it does.
use Rattle.std.proofs.Common.{◌≡◌, ℕ, ◌+◌, ◌<◌, Bool, List, [], ◌∷◌, length, inl, inr, ap, sym, ◌∙◌, arith}
use Rattle.std.specs.Prelude.{Option, Some, None, if◌then◌else◌}
use Rattle.std.proofs.lemmas.Bool.{cases_Bool}
use Rattle.ag_terms.specs.declared.names.Ident.{Ident}
use Rattle.ag_terms.specs.Names.{same}
use Rattle.ag_symbols.specs.Seen.{position, position_from}

pub same_number : (at found : ℕ) → Some at ≡ Some found → at ≡ found
same_number at found e = cc

from_within : {X : Type 0} (name_of : X → Ident) (name : List ℕ) (at : ℕ) (xs : List X) (found : ℕ) → position_from name_of name at xs ≡ Some found → found < at + length xs
from_within name_of name at [] found e = cc
from_within {X} name_of name at (x ∷ xs) found e =
    elim (cases_Bool (same (name_of x).text name)) [
      | inl h ↦ let f = same_number at found (sym (ap (λ (b : Bool). if b then Some at else position_from name_of name (at + 1) xs) h) ∙ e) in omega arith
      | inr h ↦ let f = from_within name_of name (at + 1) xs found (sym (ap (λ (b : Bool). if b then Some at else position_from name_of name (at + 1) xs) h) ∙ e) in omega arith
    ]

pub position_within : {X : Type 0} (name_of : X → Ident) (name : Option (List ℕ)) (xs : List X) (found : ℕ) → position name_of name xs ≡ Some found → found < length xs
position_within name_of None xs found e = cc
position_within name_of (Some name) xs found e = let h = from_within name_of name 0 xs found e in omega arith
