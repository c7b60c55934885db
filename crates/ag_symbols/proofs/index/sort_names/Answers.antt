use Rattle.std.proofs.Common.{rules, refl}
use Rattle.std.proofs.lemmas.List.Sorted.{answers_always, length_permutation}
use Rattle.ag_symbols.specs.Indexed.{is_below}
use Rattle.ag_symbols.proofs.Orders.{names_order, first_by_stable}
use Rattle.ag_symbols.proofs.index.sort_names.Goals as goal

pub returns-clause-sorted : goal.returns-clause-sorted
returns-clause-sorted c = c.in_ok-sort_by.ensures.sorted (is_below (λ e. e.name.now)) (names_order (λ e. e.name.now)) (answers_always _ _ _ (λ f a r q k. search rules))

pub returns-clause-named : goal.returns-clause-named
returns-clause-named c =
    first_by_stable (λ e. e.name.now) (λ e. e.at) (λ e name. record e { name = record e.name { now = name } }) (λ e name. refl) _ _
    (length_permutation _ _ c.sort_by.ensures.permutation)
    (c.sort_by.ensures.stable (is_below (λ e. e.name.now)) (names_order (λ e. e.name.now)) (answers_always _ _ _ (λ f a r q k. search rules)))
