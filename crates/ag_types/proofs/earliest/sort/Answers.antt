use Rattle.std.proofs.Common.{rules}
use Rattle.std.proofs.lemmas.List.Sorted.{answers_always}
use Rattle.ag_types.specs.Earliest.{is_in_front}
use Rattle.ag_types.proofs.EarliestNames.{front_order}
use Rattle.ag_types.proofs.earliest.sort.Goals as goal

pub returns-clause-sorted : goal.returns-clause-sorted
returns-clause-sorted c = c.in_ok-sort_by.ensures.sorted (is_in_front (λ n. n.now)) (front_order (λ n. n.now)) (answers_always _ _ _ (λ f a r q k. search rules))
