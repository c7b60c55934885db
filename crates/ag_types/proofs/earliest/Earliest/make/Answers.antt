use Rattle.std.proofs.Common.{List, map, refl, subst, ◌∙◌}
use Rattle.std.specs.List.Sorted.{IsPermutation}
use Rattle.std.proofs.lemmas.List.Sorted.{IsPermutation-map}
use Rattle.ag_terms.specs.declared.names.Ident.{Ident}
use Rattle.ag_types.proofs.earliest.Earliest.make.Goals as goal

pub returns : goal.returns
returns c =
    subst (λ (z : List Ident). IsPermutation z (map (λ n. n.now) c.sort.new.names.items)) (c.in_ok-push_names.ensures ∙ rw c.new-ordered.ensures.items refl)
    (IsPermutation-map (λ n. n.now) c.push_names.new.names.items c.sort.new.names.items c.sort.ensures.permutation)
