-- Declared names stand in a strict order, in which those that are the same at one place tie.
use Rattle.std.specs.Cmp.{IsStrictWeakOrder, IsTotalOrder}
use Rattle.std.proofs.lemmas.Cmp.{nat_cmp_total, nat_list_cmp_total, on_total, then_total}
use Rattle.std.proofs.lemmas.List.Sorted.{ranks_by}
use Rattle.ag_base.specs.declared.place.Place.{Place}
use Rattle.ag_names.specs.Declaring.{compare_declared, compare_places, is_in_front}
use Rattle.ag_names.specs.Names.{folded}
use Rattle.ag_names.specs.Twice.{Declared}

places_total : IsTotalOrder compare_places
places_total = then_total (on_total (λ (p : Place). p.file) nat_cmp_total) (then_total (on_total (λ (p : Place). p.line) nat_cmp_total) (on_total (λ (p : Place). p.column) nat_cmp_total))

pub declared_total : IsTotalOrder compare_declared
declared_total =
    then_total
    (then_total (on_total (λ (d : Declared). folded d.type_name) nat_list_cmp_total) (on_total (λ (d : Declared). folded d.name) nat_list_cmp_total))
    (on_total (λ (d : Declared). d.place) places_total)

pub front_order : IsStrictWeakOrder is_in_front
front_order = ranks_by declared_total (λ (d : Declared). d)
