use Rattle.std.proofs.Common.{◌≡◌, ap, subst, sym, ◌∙◌}
use Rattle.std.specs.Prelude.{is_some}
use Rattle.ag_base.specs.declared.place.Place.{Place}
use Rattle.ag_base.specs.declared.place.Rule.TheVariants.{NoClassifier}
use Rattle.ag_names.specs.Found.{is_type, is_implementation, implementation_named, type_named}
use Rattle.ag_names.specs.Placed.{types, implementations}
use Rattle.std.proofs.Common.{List, ℕ}
use Rattle.ag_names.proofs.Uses.{IsThere, missing_there, none_there, position_finds, with_body, with_type, without_type}
use Rattle.ag_names.proofs.subs.classifier_refusal.Goals as goal
use Rattle.ag_names.proofs.subs.classifier_refusal.Goals.{then-is_some+in-None, then-is_some+in-Some, else-is_some}

pub returns-then-is_there : goal.returns-then-is_there
returns-then-is_there c =
    let all = c.args.index.now in
    let n = c.args.name.now in
    let path = c.args.path.now in
    let found : is_some (type_named all n) ≡ c.is_some.result = sym (c.is_some.ensures ∙ ap is_some c.type_number.ensures ∙ position_finds (is_type n) (types all)) in
    none_there all n path (subst (IsThere all n path) c.if-is_there.true
    (elim c.if-is_some.branch [
      | then-is_some+in-None w ↦ subst (IsThere all n path) (sym w.is_there-is) (with_type all n path (found ∙ w.if-is_some.true) w.in-None.is)
      | then-is_some+in-Some w ↦
          let named : is_some (implementation_named all n w.in-Some.body.text) ≡ w.is_some-in-Some.result =
          sym (w.is_some-in-Some.ensures ∙ ap is_some w.implementation_number.ensures ∙ position_finds (is_implementation n w.as_bytes.result.now) (implementations all)
          ∙ ap (λ (t : List ℕ). is_some (implementation_named all n t)) w.as_bytes.ensures) in
          subst (IsThere all n path) (sym w.is_there-is) (with_body all n path w.in-Some.body w.is_some-in-Some.result (found ∙ w.if-is_some.true) w.in-Some.is named)
      | else-is_some w ↦ subst (IsThere all n path) (sym (w.is_there-is ∙ w.if-is_some.false)) (without_type all n path (found ∙ w.if-is_some.false))
    ]))

pub returns : goal.returns
returns c =
    let all = c.args.index.now in
    let n = c.args.name.now in
    let path = c.args.path.now in
    let found : is_some (type_named all n) ≡ c.is_some.result = sym (c.is_some.ensures ∙ ap is_some c.type_number.ensures ∙ position_finds (is_type n) (types all)) in
    missing_there all n path (subst (IsThere all n path) c.if-is_there.false
    (elim c.if-is_some.branch [
      | then-is_some+in-None w ↦ subst (IsThere all n path) (sym w.is_there-is) (with_type all n path (found ∙ w.if-is_some.true) w.in-None.is)
      | then-is_some+in-Some w ↦
          let named : is_some (implementation_named all n w.in-Some.body.text) ≡ w.is_some-in-Some.result =
          sym (w.is_some-in-Some.ensures ∙ ap is_some w.implementation_number.ensures ∙ position_finds (is_implementation n w.as_bytes.result.now) (implementations all)
          ∙ ap (λ (t : List ℕ). is_some (implementation_named all n t)) w.as_bytes.ensures) in
          subst (IsThere all n path) (sym w.is_there-is) (with_body all n path w.in-Some.body w.is_some-in-Some.result (found ∙ w.if-is_some.true) w.in-Some.is named)
      | else-is_some w ↦ subst (IsThere all n path) (sym (w.is_there-is ∙ w.if-is_some.false)) (without_type all n path (found ∙ w.if-is_some.false))
    ])) c.refusal_at.result
    (c.refusal_at.ensures ∙ ap (λ (z : Place). record { place = z; rule = NoClassifier }) c.use_place.ensures)
