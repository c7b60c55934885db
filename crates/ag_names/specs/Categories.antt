-- The order of categories.
use Rattle.std.specs.Prelude.{ℕ}
use Rattle.ag_aadl.specs.declared.packages.Category.{Category}
use Rattle.ag_aadl.specs.declared.packages.Category.TheVariants.{System, Process, Thread, Device, Abstract}

-- the position of a category in their order
abbrev pub number_of : Category → ℕ
number_of System = 0
number_of Process = 1
number_of Thread = 2
number_of Device = 3
number_of Abstract = 4
