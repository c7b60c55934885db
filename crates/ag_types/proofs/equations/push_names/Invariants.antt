use Rattle.std.proofs.Common.{◌≡◌, ◌++◌, drop}
use Rattle.std.specs.Prelude.{map}
use Rattle.ag_types.proofs.equations.push_names.Given as goal

abbrev pub invariant-loop-at : goal.invariant-loop-at
invariant-loop-at l = map (λ e. e.name.now) l.slots.items ++ map (λ e. e.name.text) (drop l.at l.equations) ≡ map (λ e. e.name.now) l.fn.slots.items ++ map (λ e. e.name.text) l.equations
