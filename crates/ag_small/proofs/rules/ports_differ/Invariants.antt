use Rattle.std.proofs.Common.{◌≡◌, length}
use Rattle.ag_small.specs.Rules.{ports_differ}
use Rattle.ag_small.proofs.rules.ports_differ.Given as goal

abbrev pub invariant-loop-rest : goal.invariant-loop-rest
invariant-loop-rest l = ports_differ l.rest ≡ ports_differ l.ports

abbrev pub decreases-loop-rest : goal.decreases-loop-rest
decreases-loop-rest l = length l.rest
