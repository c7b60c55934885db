use Rattle.std.proofs.Common.{rules}
use Rattle.std.proofs.lemmas.List.Sorted.{answers_always}
use Rattle.ag_names.specs.Declaring.{is_in_front}
use Rattle.ag_names.proofs.DeclaredOrder.{front_order}
use Rattle.ag_names.proofs.twice.sort.Goals as goal

pub returns-clause-sorted : goal.returns-clause-sorted
returns-clause-sorted c = c.in_ok-sort_by.ensures.sorted is_in_front front_order (answers_always _ _ _ (λ f a r q k. search rules))
