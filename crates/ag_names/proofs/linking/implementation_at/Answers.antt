use Rattle.std.proofs.Common.{◌≡◌, ℕ, List, Option, ap, sym, subst, ◌∙◌}
use Rattle.std.specs.Prelude.{IfOk, Some, option_and_then, slice_get}
use Rattle.ag_names.specs.Placed.{Implementation, implementations}
use Rattle.ag_names.proofs.Lookups.{numbered, stands_nowhere, stands_past, stands_there}
use Rattle.ag_names.proofs.linking.implementation_at.Goals as goal

pub returns-in-None : goal.returns-in-None
returns-in-None c =
    stands_nowhere (λ j. j.at) (implementations c.args.index.now) c.implementation_number.result _ (sym c.in-None.is)
    (ap (λ (o : Option ℕ). option_and_then (slice_get (implementations c.args.index.now)) o) c.implementation_number.ensures ∙ numbered c.args.index.now c.args.name.now c.args.path.now.body)

pub returns-in-None-get : goal.returns-in-None-get
returns-in-None-get c =
    let got = c.in-None-get.ensures.lookup in
    stands_past (λ j. j.at) c.implementations.result.now c.in-Some.number c.implementation_number.result _ got.3 (sym c.in-Some.is)
    (ap (λ (z : List Implementation). option_and_then (slice_get z) c.implementation_number.result) c.implementations.ensures ∙ ap (λ (o : Option ℕ). option_and_then (slice_get (implementations c.args.index.now)) o) c.implementation_number.ensures ∙ numbered c.args.index.now c.args.name.now c.args.path.now.body)

pub returns-in-Some-get : goal.returns-in-Some-get
returns-in-Some-get c =
    let got = c.in-Some-get.ensures.lookup in
    subst (λ z. IfOk c.stand.result (λ s. s ≡ z))
    (ap (λ (j : Implementation). Some j.at) c.entry.view_is
    ∙ stands_there (λ j. j.at) c.implementations.result.now c.in-Some.number c.in-Some-get.entry.now c.implementation_number.result _ got.3.0 got.1 (sym c.in-Some.is)
    (ap (λ (z : List Implementation). option_and_then (slice_get z) c.implementation_number.result) c.implementations.ensures ∙ ap (λ (o : Option ℕ). option_and_then (slice_get (implementations c.args.index.now)) o) c.implementation_number.ensures ∙ numbered c.args.index.now c.args.name.now c.args.path.now.body))
    c.stand.ensures
