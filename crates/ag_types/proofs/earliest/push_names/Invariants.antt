use Rattle.std.proofs.Common.{◌≡◌, ◌++◌, drop}
use Rattle.std.specs.Prelude.{map}
use Rattle.ag_types.proofs.earliest.push_names.Given as goal

abbrev pub invariant-loop-item : goal.invariant-loop-item
invariant-loop-item l = map (λ n. n.now) l.names.items ++ map (λ n. n.now) (drop l.item-index l.others) ≡ map (λ n. n.now) l.fn.names.items ++ map (λ n. n.now) l.others
