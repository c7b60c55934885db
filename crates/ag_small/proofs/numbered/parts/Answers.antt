use Rattle.std.proofs.Common.{arith, ap, ◌∙◌}
use Rattle.ag_small.specs.declared.package.Claim.{Claim}
use Rattle.ag_small.specs.Numbered.{part_count}
use Rattle.ag_small.proofs.Numbering.{claim_fits, parts_in-formulas}
use Rattle.ag_small.proofs.Formed.{claims_done}
use Rattle.ag_small.proofs.numbered.parts.Goals as goal

pub push_parts-requires-clause-few : goal.push_parts-requires-clause-few
push_parts-requires-clause-few c =
    let cs = c.args.model.now.claims in
    let lt = rw c.as_slice-claim-items.ensures at c.loop-claim-test.true in
    let is = rw c.as_slice-claim-items.ensures at c.claim-item.is in
    let fits = claim_fits cs c.loop-claim.claim-index c.claim-item.result lt in
    let same = ap part_count (c.node.ensures ∙ ap (λ (x : Claim). x.formula) is) in
    omega (arith, c.requires.few, parts_in-formulas c.args.model.now, c.loop-claim.invariant.1, fits, same)

pub loop-assign-init : goal.loop-assign-init
loop-assign-init c =
    let done = rw c.as_slice-claim-items.ensures at c.loop-claim-test.false in
    claims_done c.args.model.now c.loop-claim.parts c.loop-claim.claim-index done c.loop-claim.invariant.0
