-- Names of packages, whose parts stand apart by `::`.
use Rattle.std.specs.Prelude.{ℕ, ◌==◌, ◌&&◌, List, [], ◌∷◌, if◌then◌else◌}

-- a byte more at the front of the first part
abbrev pub put_before : ℕ → List (List ℕ) → List (List ℕ)
put_before b [] = (b ∷ []) ∷ []
put_before b (part ∷ parts) = (b ∷ part) ∷ parts

-- the parts of a name
abbrev pub name_parts : List ℕ → List (List ℕ)
name_parts [] = [] ∷ []
name_parts (b ∷ []) = (b ∷ []) ∷ []
name_parts (b ∷ c ∷ bs) = if b == 58 && c == 58 then [] ∷ name_parts bs else put_before b (name_parts (c ∷ bs))
