use Rattle.std.proofs.Common.{◌≡◌, ◌++◌, ◌+◌, drop}
use Rattle.ag_small.specs.Numbered.{guarantees_from}
use Rattle.ag_small.proofs.numbered.guarantees.Given as goal

abbrev pub invariant-loop-i : goal.invariant-loop-i
invariant-loop-i l = l.list ++ guarantees_from l.model (l.i + 1) (drop l.i l.numbers) ≡ guarantees_from l.model 1 l.numbers
