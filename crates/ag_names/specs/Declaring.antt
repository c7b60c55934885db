-- Declared names in order, so that those that are the same stand together.
use Rattle.std.specs.Prelude.{◌&&◌, Bool}
use Rattle.std.specs.Ordering.{is_lt, nat_cmp, ordering_then}
use Rattle.std.specs.declared.cmp.Ordering.{Ordering}
use Rattle.ag_base.specs.declared.place.Place.{Place}
use Rattle.ag_base.specs.Rules.{is_before}
use Rattle.ag_names.specs.Names.{compare_names}
use Rattle.ag_names.specs.Twice.{Declared, same_name}

-- files in their order, in each the lines, and in a line the columns
abbrev pub compare_places : Place → Place → Ordering
compare_places p q =
    ordering_then (nat_cmp p.file q.file) (ordering_then (nat_cmp p.line q.line) (nat_cmp p.column q.column))

-- by both parts of the name, and those that are the same by their places
abbrev pub compare_declared : Declared → Declared → Ordering
compare_declared a b =
    ordering_then (ordering_then (compare_names a.type_name b.type_name) (compare_names a.name b.name))
    (compare_places a.place b.place)

abbrev pub is_in_front : Declared → Declared → Bool
is_in_front a b = is_lt (compare_declared a b)

-- it is the same name as another one, at a later place
abbrev pub is_behind : Declared → Declared → Bool
is_behind last declared = same_name last declared && is_before last.place declared.place
