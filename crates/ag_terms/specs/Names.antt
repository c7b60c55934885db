-- When two names are the same.
use Rattle.std.specs.Prelude.{ℕ, Bool, List, map}
use Rattle.std.specs.Char.{to_ascii_lowercase}
use Rattle.std.specs.Str.{bytes_eq}

-- whether two texts differ in case at most
unfoldable pub same : List ℕ → List ℕ → Bool
same a b = bytes_eq (map to_ascii_lowercase a) (map to_ascii_lowercase b)
