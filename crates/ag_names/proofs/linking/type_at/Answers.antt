use Rattle.std.proofs.Common.{◌≡◌, ℕ, List, Option, ap, sym, subst, ◌∙◌}
use Rattle.std.specs.Prelude.{IfOk, Some, option_and_then, slice_get}
use Rattle.ag_names.specs.Placed.{Type', types}
use Rattle.ag_names.proofs.Lookups.{found_type, stands_nowhere, stands_past, stands_there}
use Rattle.ag_names.proofs.linking.type_at.Goals as goal

pub returns-in-None : goal.returns-in-None
returns-in-None c =
    stands_nowhere (λ j. j.at) (types c.args.index.now) c.type_number.result _ (sym c.in-None.is)
    (ap (λ (o : Option ℕ). option_and_then (slice_get (types c.args.index.now)) o) c.type_number.ensures ∙ found_type c.args.index.now c.args.name.now)

pub returns-in-None-get : goal.returns-in-None-get
returns-in-None-get c =
    let got = c.in-None-get.ensures.lookup in
    stands_past (λ j. j.at) c.types.result.now c.in-Some.number c.type_number.result _ got.3 (sym c.in-Some.is)
    (ap (λ (z : List Type'). option_and_then (slice_get z) c.type_number.result) c.types.ensures ∙ ap (λ (o : Option ℕ). option_and_then (slice_get (types c.args.index.now)) o) c.type_number.ensures ∙ found_type c.args.index.now c.args.name.now)

pub returns-in-Some-get : goal.returns-in-Some-get
returns-in-Some-get c =
    let got = c.in-Some-get.ensures.lookup in
    subst (λ z. IfOk c.stand.result (λ s. s ≡ z))
    (ap (λ (j : Type'). Some j.at) c.entry.view_is
    ∙ stands_there (λ j. j.at) c.types.result.now c.in-Some.number c.in-Some-get.entry.now c.type_number.result _ got.3.0 got.1 (sym c.in-Some.is)
    (ap (λ (z : List Type'). option_and_then (slice_get z) c.type_number.result) c.types.ensures ∙ ap (λ (o : Option ℕ). option_and_then (slice_get (types c.args.index.now)) o) c.type_number.ensures ∙ found_type c.args.index.now c.args.name.now))
    c.stand.ensures
