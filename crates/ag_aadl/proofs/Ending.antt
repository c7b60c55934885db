-- The last of the marked tokens.
use Rattle.std.proofs.Common.{◌≡◌, ◌-◌, ◌==◌, suc, List, [], ◌∷◌, Some, length, slice_get, sym, ap, ◌∙◌, arith}
use Rattle.ag_aadl.specs.declared.marked.Marked.{Marked}
use Rattle.ag_aadl.specs.Files.{ends_in_part}
use Rattle.ag_aadl.specs.Marks.{part_mark}

pub ends-in-last : (ms : List Marked) (last : Marked) → slice_get ms (length ms - 1) ≡ Some last → (last.mark == part_mark) ≡ ends_in_part ms
ends-in-last [] last e = absurd cc
ends-in-last (m ∷ []) last e = let same : m ≡ last = cc in ap (λ (q : Marked). q.mark == part_mark) (sym same)
ends-in-last (m ∷ n ∷ ms) last e =
    let at : length (m ∷ n ∷ ms) - 1 ≡ suc (length (n ∷ ms) - 1) = omega arith in
    ends-in-last (n ∷ ms) last (sym (ap (slice_get (m ∷ n ∷ ms)) at) ∙ e)
