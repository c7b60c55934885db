use Rattle.std.proofs.Common.{arith, ◌∙◌, ◌<◌}
use Rattle.std.proofs.lemmas.List.Elements.{All-from_recursion}
use Rattle.ag_small.specs.declared.package.ClaimKind.TheVariants.{Guarantee}
use Rattle.ag_small.specs.Numbered.{numbers_from, claim_parts}
use Rattle.ag_small.proofs.Laws.{few_clauses}
use Rattle.ag_small.proofs.Numbering.{few_parts, parts_in-formulas}
use Rattle.ag_small.proofs.Formed.{numbers_below, length-numbers_from}
use Rattle.ag_small.proofs.numbered.obligations.Goals as goal

pub numbers-requires : goal.numbers-requires
numbers-requires c = rw c.as_slice.ensures (omega (arith, few_parts c.args.model.now c.requires.kept, parts_in-formulas c.args.model.now))

pub guarantees-requires-clause-below : goal.guarantees-requires-clause-below
guarantees-requires-clause-below c =
    let cs = c.args.model.now.claims in
    let value = rw c.as_slice.ensures at c.in_ok-numbers.ensures.value in
    rw (c.as_slice-2.ensures ∙ value)
    (All-from_recursion (λ n. n < claim_parts cs) (numbers_from Guarantee 0 cs) (numbers_below Guarantee 0 cs (claim_parts cs) (omega arith)))

pub guarantees-requires-clause-few : goal.guarantees-requires-clause-few
guarantees-requires-clause-few c =
    let cs = c.args.model.now.claims in
    let value = rw c.as_slice.ensures at c.in_ok-numbers.ensures.value in
    rw (c.as_slice-2.ensures ∙ value) (omega (arith, length-numbers_from Guarantee 0 cs, few_clauses c.args.model.now c.requires.kept))
