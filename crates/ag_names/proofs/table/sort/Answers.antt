use Rattle.std.proofs.Common.{rules}
use Rattle.std.proofs.lemmas.List.Sorted.{answers_always, length_permutation}
use Rattle.ag_names.specs.Keys.{is_ahead}
use Rattle.ag_names.proofs.KeyOrder.{entries_order, first_at-stable}
use Rattle.ag_names.proofs.table.sort.Goals as goal

pub returns-clause-sorted : goal.returns-clause-sorted
returns-clause-sorted c = c.in_ok-sort_by.ensures.sorted is_ahead entries_order (answers_always _ _ _ (λ f a r q k. search rules))

pub returns-clause-found : goal.returns-clause-found
returns-clause-found c =
    first_at-stable _ _ (length_permutation _ _ c.sort_by.ensures.permutation)
    (c.sort_by.ensures.stable is_ahead entries_order (answers_always _ _ _ (λ f a r q k. search rules)))
