use Rattle.std.proofs.Common.{◌≡◌, ◌+◌, drop}
use Rattle.std.specs.List.{position_or_len}
use Rattle.ag_small.specs.Characters.{same}
use Rattle.ag_small.proofs.numbered.stream_of.Given as goal

abbrev pub invariant-loop-i : goal.invariant-loop-i
invariant-loop-i l = l.i + position_or_len (λ q. same l.name q.name) (drop l.i l.ports) ≡ position_or_len (λ q. same l.name q.name) l.ports
