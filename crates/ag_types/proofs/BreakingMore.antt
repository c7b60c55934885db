-- The first broken rule of what items break one by one.
use Rattle.std.proofs.Common.{◌≡◌, ℕ, ◌+◌, ◌<◌, List, length, drop, get_or, map, ap, sym, ◌∙◌}
use Rattle.std.specs.Prelude.{Option}
use Rattle.std.specs.List.{flat_map}
use Rattle.ag_base.specs.declared.place.Refusal.{Refusal}
use Rattle.ag_symbols.proofs.Placing.{split_at}
use Rattle.ag_types.specs.Firsts.{either}
use Rattle.ag_types.specs.Places.{first_broken}
use Rattle.ag_types.proofs.Breaking.{either-assoc, first_broken-append}

-- one more item, seen as what it stands for
pub broken_more : {X Y : Type 0} (item : X → Y) (faults : Y → List Refusal) (xs : List X) (i : ℕ) (x : X) (so_far all : Option Refusal) → i < length xs → x ≡ get_or xs i x →
    either so_far (first_broken (flat_map faults (map item (drop i xs)))) ≡ all →
    either (either so_far (first_broken (faults (item x)))) (first_broken (flat_map faults (map item (drop (i + 1) xs)))) ≡ all
broken_more item faults xs i x so_far all h at e =
    either-assoc so_far (first_broken (faults (item x))) (first_broken (flat_map faults (map item (drop (i + 1) xs))))
    ∙ ap (either so_far) (sym (first_broken-append (faults (item x)) (flat_map faults (map item (drop (i + 1) xs)))))
    ∙ ap (λ (z : List _). either so_far (first_broken (flat_map faults (map item z)))) (split_at xs i x h at)
    ∙ e
