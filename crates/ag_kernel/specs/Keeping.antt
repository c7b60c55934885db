-- What the fields of the kept lines stand for.
use Rattle.ag_kernel.specs.declared.lines.Lines.TheInside.{Inside}
use Rattle.ag_kernel.specs.State.{State, IsSound}

abbrev pub state_of : Inside → State
state_of k = record { query = k.query; atoms = k.atoms.items; lines = k.lines.items }

abbrev pub IsKept : Inside → Type 0
IsKept k = IsSound (state_of k)
