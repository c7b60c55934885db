-- The first of what is broken, if anything is.
use Rattle.std.specs.Prelude.{List, Contains, Option, Some, None, if◌then◌else◌}
use Rattle.ag_base.specs.declared.place.Refusal.{Refusal}
use Rattle.ag_base.specs.Rules.{comes_before, IsFirstOf}

-- of what is broken the first; none, where nothing is
abbrev pub IsFirst : (Refusal → Type 0) → Option Refusal → Type 0
IsFirst P None = (q : Refusal) → P q → ⊥
IsFirst P (Some r) = IsFirstOf P r

-- of two that may be broken the first
abbrev pub earlier : Option Refusal → Option Refusal → Option Refusal
earlier None s = s
earlier (Some r) None = Some r
earlier (Some r) (Some s) = if comes_before s r then Some s else Some r

-- one of some things breaks it
abbrev pub InSome : {X : Type 0} → List X → (X → Refusal → Type 0) → Refusal → Type 0
InSome {X} xs Breaks r = (x : X) × Contains xs x × Breaks x r
