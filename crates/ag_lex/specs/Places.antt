-- Where in a file a byte stands.
use Rattle.std.specs.Prelude.{ℕ, ◌+◌, ◌==◌, List, count_by}
use Rattle.std.specs.List.{suffix_len}
use Rattle.ag_base.specs.declared.place.Place.{Place}
use Rattle.ag_lex.specs.Characters.{is_line_byte}

-- the place behind these bytes of a file: one line more than there are line feeds, one column more than bytes since the last
unfoldable pub place_of : ℕ → List ℕ → Place
place_of file before = record { file = file; line = count_by (λ b. b == 10) before + 1; column = suffix_len is_line_byte before + 1 }
