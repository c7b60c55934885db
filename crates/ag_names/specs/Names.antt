-- Names in order, in any case of their letters.
use Rattle.std.specs.Prelude.{ℕ, List, map}
use Rattle.std.specs.Char.{to_ascii_lowercase}
use Rattle.std.specs.Cmp.Lexicographic.{slice_cmp}
use Rattle.std.specs.Ordering.{nat_cmp}
use Rattle.std.specs.declared.cmp.Ordering.{Ordering}

-- a text in small letters
abbrev pub folded : List ℕ → List ℕ
folded text = map to_ascii_lowercase text

-- texts in the order of their bytes in small letters
abbrev pub compare_names : List ℕ → List ℕ → Ordering
compare_names a b = slice_cmp nat_cmp (folded a) (folded b)
