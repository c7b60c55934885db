use Rattle.std.proofs.Common.{◌≡◌, map, drop}
use Rattle.ag_small.specs.Reading.{all_fixed_at}
use Rattle.ag_small.proofs.reading.expect_all.Given as goal

abbrev pub invariant-loop-text : goal.invariant-loop-text
invariant-loop-text l = all_fixed_at (map (λ t. t.now) (drop l.text-index l.texts)) l.rest ≡ all_fixed_at (map (λ t. t.now) l.texts) l.bytes
