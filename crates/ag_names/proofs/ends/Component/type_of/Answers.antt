use Rattle.std.proofs.Common.{◌≡◌, ℕ, Option, ap, sym, subst, ◌∙◌}
use Rattle.std.specs.Prelude.{option_and_then, position, slice_get}
use Rattle.ag_names.specs.Found.{TypeName, is_type, named_type, type_by, type_of}
use Rattle.ag_names.specs.Placed.{Implementation, types}
use Rattle.ag_names.specs.Tables.{Component}
use Rattle.ag_names.proofs.Lookups.{found_type}
use Rattle.ag_names.proofs.ends.Component.type_of.Goals as goal

pub returns-in-Some : goal.returns-in-Some
returns-in-Some c =
    let all = c.self.inside.index.now in
    let owner = c.self.inside.implementation.now.owner in
    let category = c.args.sub.now.category in
    subst (λ (s : Component). option_and_then (slice_get (types s.all)) c.type_number.result ≡ type_of s.all s.implementation.owner c.args.sub.now) c.self.view_is
    (ap (λ (o : Option ℕ). option_and_then (slice_get (types all)) o)
    (c.type_number.ensures
    ∙ ap (λ (n : TypeName). position (is_type n) (types all)) (c.named-name.ensures ∙ ap (λ (i : Implementation). named_type i.owner category c.in-Some.path) c.entry.view_is))
    ∙ found_type all (named_type owner category c.in-Some.path)
    ∙ ap (type_by all owner category) (sym c.in-Some.is))
