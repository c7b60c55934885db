use Rattle.std.proofs.Common.{◌≡◌, ◌-◌}
use Rattle.std.specs.Prelude.{codes}
use Rattle.ag_small.specs.Reading.{items_at, port_at}
use Rattle.ag_small.proofs.Loop.{with_front}
use Rattle.ag_small.proofs.reading.ports.Given as goal

abbrev pub invariant-loop : goal.invariant-loop
invariant-loop l = with_front l.ports (items_at port_at (codes "annex") (12 - l.counter) l.rest) ≡ items_at port_at (codes "annex") 12 l.bytes
