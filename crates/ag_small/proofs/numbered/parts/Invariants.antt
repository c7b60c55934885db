use Rattle.std.proofs.Common.{◌≡◌, ◌++◌, ◌+◌, map, drop, length}
use Rattle.ag_small.specs.Numbered.{formulas, parts_in, all_parts, claim_parts}
use Rattle.ag_small.proofs.numbered.parts.Given as goal

abbrev pub invariant-loop-claim : goal.invariant-loop-claim
invariant-loop-claim l =
    (l.parts ++ all_parts l.model.ports (length l.parts) (map (λ c. c.formula) (drop l.claim-index l.model.claims)) ≡ all_parts l.model.ports 0 (map (λ c. c.formula) l.model.claims))
    × (length l.parts + claim_parts (drop l.claim-index l.model.claims) ≡ claim_parts l.model.claims)

abbrev pub invariant-loop-assign : goal.invariant-loop-assign
invariant-loop-assign l =
    (l.parts ++ all_parts l.model.ports (length l.parts) (map (λ a. a.value) (drop l.assign-index l.model.assigns)) ≡ all_parts l.model.ports 0 (formulas l.model))
    × (length l.parts + parts_in (map (λ a. a.value) (drop l.assign-index l.model.assigns)) ≡ parts_in (formulas l.model))
