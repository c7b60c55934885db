-- The first broken rule, or else the row that was found.
use Rattle.std.proofs.Common.{◌≡◌, ◌∙◌}
use Rattle.ag_types.specs.Places.{first_broken}
use Rattle.ag_types.specs.Sums.{sum_faults}
use Rattle.ag_types.proofs.NumberedRows.{broken_by, found_row, no_row}
use Rattle.ag_types.proofs.SumsHaveRows.{sound_sum}
use Rattle.ag_types.proofs.sum_rows.sum_row.Goals as goal

pub unreachable-requires : goal.unreachable-requires
unreachable-requires c =
    let names = c.args.sight.now in
    let values = c.args.values.now in
    let term = c.args.term.now in
    let typed = c.typing-typing.ensures in
    let broken : first_broken (sum_faults names values term) ≡ c.either-broken.result =
    broken_by names values term _ _ _ _ _ _ _ c.in_ok-numbered.ensures typed.ty typed.first typed.broken c.mismatch-of_type.ensures
    c.either.ensures c.either-broken.ensures in
    no_row names values term _ c.in_ok-numbered.ensures c.in-None-None.is-1
    (sound_sum names values term c.requires.typed c.requires.kept c.requires.sum (broken ∙ c.in-None-None.is-0))

pub returns-in-Some-default-clause-refused : goal.returns-in-Some-default-clause-refused
returns-in-Some-default-clause-refused c =
    let names = c.args.sight.now in
    let values = c.args.values.now in
    let term = c.args.term.now in
    let typed = c.typing-typing.ensures in
    let broken : first_broken (sum_faults names values term) ≡ c.either-broken.result =
    broken_by names values term _ _ _ _ _ _ _ c.in_ok-numbered.ensures typed.ty typed.first typed.broken c.mismatch-of_type.ensures
    c.either.ensures c.either-broken.ensures in
    broken ∙ c.in-Some-default.is-0

pub returns-in-None-Some-clause-ok : goal.returns-in-None-Some-clause-ok
returns-in-None-Some-clause-ok c =
    let names = c.args.sight.now in
    let values = c.args.values.now in
    let term = c.args.term.now in
    let typed = c.typing-typing.ensures in
    let broken : first_broken (sum_faults names values term) ≡ c.either-broken.result =
    broken_by names values term _ _ _ _ _ _ _ c.in_ok-numbered.ensures typed.ty typed.first typed.broken c.mismatch-of_type.ensures
    c.either.ensures c.either-broken.ensures in
    found_row names values term _ c.in-None-Some.row c.in_ok-numbered.ensures c.in-None-Some.is-1
    (sound_sum names values term c.requires.typed c.requires.kept c.requires.sum (broken ∙ c.in-None-Some.is-0))
