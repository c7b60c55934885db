-- Names in order in any case of their letters, and the first of a name.
use Rattle.std.specs.Prelude.{ℕ, Bool, List, [], ◌∷◌, Option, Some, None, map, if◌then◌else◌}
use Rattle.std.specs.Char.{to_ascii_lowercase}
use Rattle.std.specs.Cmp.Lexicographic.{slice_cmp}
use Rattle.std.specs.Ordering.{nat_cmp, is_lt}
use Rattle.std.specs.declared.cmp.Ordering.{Ordering}
use Rattle.ag_terms.specs.Names.{same}

-- a text in small letters
abbrev pub folded : List ℕ → List ℕ
folded text = map to_ascii_lowercase text

-- texts in the order of their bytes in small letters
abbrev pub compare_names : List ℕ → List ℕ → Ordering
compare_names a b = slice_cmp nat_cmp (folded a) (folded b)

-- whether the name of one comes before that of the other
abbrev pub is_below : {X : Type 0} → (X → List ℕ) → X → X → Bool
is_below key x y = is_lt (compare_names (key x) (key y))

-- what the first of that name has
abbrev pub first_by : {X T : Type 0} → (X → List ℕ) → (X → T) → List ℕ → List X → Option T
first_by key item name [] = None
first_by key item name (x ∷ xs) = if same (key x) name then Some (item x) else first_by key item name xs

-- what was found first, else the other
abbrev pub found_first : {T : Type 0} → Option T → Option T → Option T
found_first None other = other
found_first (Some t) other = Some t
