-- Places in a text, and where a walk over it stops.
use Rattle.std.specs.Prelude.{◌≡◌, ◌≤◌, ◌<◌, ℕ, ◌+◌, ◌==◌, List, length, take, fold, if◌then◌else◌}
use Rattle.ag_base.specs.declared.place.Place.{Place}
use Rattle.ag_small.specs.declared.walk.Stop.{Stop}
use Rattle.ag_small.specs.declared.walk.Stop.TheVariants.{At, OutOfMemory}

-- the place behind one byte more: behind a line feed the next line begins, and columns count bytes
abbrev pub place_after : Place → ℕ → Place
place_after place b =
    if b == 10 then record { file = place.file; line = place.line + 1; column = 1 }
    else record { file = place.file; line = place.line; column = place.column + 1 }

-- the place behind these bytes of a text
abbrev pub place_behind : List ℕ → Place
place_behind before = fold place_after (record { file = 0; line = 1; column = 1 }) before

-- the place of a byte of the text, or of its end
pub record IsPlaceIn (text : List ℕ) (place : Place) : Type 0 where
  pub at : ℕ
  pub within : at ≤ length text
  pub placed : place ≡ place_behind (take at text)

-- a walk stops at a byte of the text or at its end
abbrev pub StopsWithin : ℕ → Stop → Type 0
StopsWithin length (At n) = n ≤ length
StopsWithin length OutOfMemory = Unit {0}

-- a walk goes on behind the one place, and not behind the end
pub record GoesOn (length at next : ℕ) : Type 0 where
  pub onward : at < next
  pub within : next ≤ length
