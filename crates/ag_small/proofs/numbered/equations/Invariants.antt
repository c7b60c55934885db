use Rattle.std.proofs.Common.{◌≡◌, ◌++◌, ◌+◌, drop, map}
use Rattle.ag_small.specs.Numbered.{equations_from, claim_parts, parts_in, formulas}
use Rattle.ag_small.proofs.numbered.equations.Given as goal

abbrev pub invariant-loop-assign : goal.invariant-loop-assign
invariant-loop-assign l =
    (l.equations ++ equations_from l.model.ports l.first (drop l.assign-index l.model.assigns) ≡ equations_from l.model.ports (claim_parts l.model.claims) l.model.assigns)
    × (l.first + parts_in (map (λ a. a.value) (drop l.assign-index l.model.assigns)) ≡ parts_in (formulas l.model))
