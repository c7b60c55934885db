use Rattle.std.proofs.Common.{◌≡◌, false, Option, None, Some, ap, refl, sym, ◌∙◌}
use Rattle.std.specs.Prelude.{is_some}
use Rattle.std.proofs.lemmas.Bool.{false≢true}
use Rattle.ag_base.specs.declared.place.Refusal.{Refusal}
use Rattle.ag_base.specs.declared.place.Rule.TheVariants.{NoClassifier}
use Rattle.ag_names.specs.Passes.{TypeIsMissing}
use Rattle.ag_names.specs.Placed.{Implementation}
use Rattle.ag_names.specs.Tables.{Component}
use Rattle.ag_names.proofs.First.{first_only}
use Rattle.ag_names.proofs.implementations.typeless.Goals as goal

none_from : {A : Type 0} (o : Option A) → is_some o ≡ false → o ≡ None
none_from None e = refl
none_from (Some x) e = absurd (false≢true (sym e))

pub returns-then-has_type : goal.returns-then-has_type
returns-then-has_type c = λ q m. absurd (false≢true (sym (ap is_some m.missing) ∙ sym c.has_type.ensures ∙ c.if-has_type.true))

pub returns : goal.returns
returns c =
    let k = c.args.component.now in
    let missing = none_from _ (sym c.has_type.ensures ∙ c.if-has_type.false) in
    let told = c.refusal_at.ensures ∙ ap (λ (i : Implementation). refused i) (c.entry.view_is ∙ ap (λ (z : Component). z.implementation) c.component.view_is) in
    first_only (TypeIsMissing k) c.refusal_at.result (record { missing = missing; refusal = told }) (λ q m. m.refusal ∙ sym told)
  where
    refused : Implementation → Refusal
    refused i = record { place = i.body.frame.place; rule = NoClassifier }
