use Rattle.std.proofs.Common.{ℕ, refl, ap, not, ◌∙◌}
use Rattle.std.specs.Prelude.{Option, is_none}
use Rattle.ag_types.proofs.Each.{named_any}
use Rattle.ag_types.proofs.equations.names_set.Goals as goal

pub invariant_of-result-clause-named : goal.invariant_of-result-clause-named
invariant_of-result-clause-named c = λ name.
    ap (λ (o : Option ℕ). not (is_none o)) (c.in_ok-sort_names.ensures.named name)
    ∙ named_any (λ e. e.name.now) (λ e. e.at) c.push_names.new.slots.items c.args.equations.now
    (c.in_ok-push_names.ensures ∙ rw c.new-slots.ensures.items refl) name
