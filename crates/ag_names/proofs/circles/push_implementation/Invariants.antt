use Rattle.std.proofs.Common.{◌≡◌, ◌++◌, ◌∷◌, [], take}
use Rattle.std.specs.List.{filter_map}
use Rattle.ag_names.specs.Graph.{number_by}
use Rattle.ag_names.proofs.circles.push_implementation.Given as goal

abbrev pub invariant-loop-sub : goal.invariant-loop-sub
invariant-loop-sub l = l.graph ≡ l.fn.graph ++ filter_map (λ s. number_by l.index l.entry.owner s.category s.of) (take l.sub-index l.entry.body.subs) ∷ []
