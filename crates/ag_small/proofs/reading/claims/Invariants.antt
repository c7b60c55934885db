use Rattle.std.proofs.Common.{◌≡◌, ◌-◌}
use Rattle.std.specs.Prelude.{codes}
use Rattle.ag_small.specs.Reading.{items_at, claim_at}
use Rattle.ag_small.proofs.Loop.{with_front}
use Rattle.ag_small.proofs.reading.claims.Given as goal

abbrev pub invariant-loop : goal.invariant-loop
invariant-loop l = with_front l.claims (items_at claim_at (codes "**}") (200 - l.counter) l.rest) ≡ items_at claim_at (codes "**}") 200 l.bytes
