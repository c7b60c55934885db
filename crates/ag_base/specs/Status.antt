-- The number of each status.
use Rattle.std.specs.Prelude.{ℕ}
use Rattle.ag_base.specs.declared.status.Status.{Status}
use Rattle.ag_base.specs.declared.status.Status.TheVariants.{AllGood, Refuted, Unknown, Usage, ModelRefused, ReadFault, WriteFault, OutOfMemory, SessionRefused}

abbrev pub code_of : Status → ℕ
code_of AllGood = 0
code_of Refuted = 1
code_of Unknown = 2
code_of Usage = 3
code_of ModelRefused = 4
code_of ReadFault = 5
code_of WriteFault = 6
code_of OutOfMemory = 7
code_of SessionRefused = 8
