-- The segments from one token on, by those from the next.
use Rattle.std.proofs.Common.{◌≡◌, ◌<◌, ◌≤◌, ◌-◌, Bool, true, false, ℕ, suc, List, [], ◌∷◌, get_or, length, take, drop, slice_range, sym, ap, ◌∙◌, arith, if◌then◌else◌}
use Rattle.std.proofs.Math.Seq.{drop-cons}
use Rattle.ag_aadl.specs.declared.marked.Marked.{Marked}
use Rattle.ag_aadl.specs.Marked.{is_among, up_to, segments}

from : (ms : List Marked) (i end : ℕ) (d : Marked) → i < length ms → suc i ≤ end → slice_range ms i end ≡ get_or ms i d ∷ take (end - suc i) (drop (suc i) ms)
from ms i end d h k =
    let n : end - i ≡ suc (end - suc i) = omega (arith, k) in
    ap (λ q. take (end - i) q) (drop-cons ms i d h) ∙ ap (λ q. take q (get_or ms i d ∷ drop (suc i) ms)) n

-- a segment begins here
pub segment-begins : (marks : List ℕ) (ms : List Marked) (i end : ℕ) (d : Marked) → i < length ms → suc i ≤ end → is_among marks (get_or ms i d).mark ≡ true → take (end - suc i) (drop (suc i) ms) ≡ up_to marks (drop (suc i) ms) →
    segments marks (drop i ms) ≡ slice_range ms i end ∷ segments marks (drop (suc i) ms)
segment-begins marks ms i end d h k is next =
    let m = get_or ms i d in
    let rest = drop (suc i) ms in
    ap (segments marks) (drop-cons ms i d h)
    ∙ ap (λ (b : Bool). if b then (m ∷ up_to marks rest) ∷ segments marks rest else segments marks rest) is
    ∙ ap (λ q. q ∷ segments marks rest) (sym (from ms i end d h k ∙ ap (λ q. m ∷ q) next))

pub nothing-before : (marks : List ℕ) (ms : List Marked) (i : ℕ) (d : Marked) → i < length ms → is_among marks (get_or ms i d).mark ≡ true → up_to marks (drop i ms) ≡ []
nothing-before marks ms i d h is =
    let m = get_or ms i d in
    let rest = drop (suc i) ms in
    ap (up_to marks) (drop-cons ms i d h) ∙ ap (λ (b : Bool). if b then [] else m ∷ up_to marks rest) is

-- none begins here
pub segments-stay : (marks : List ℕ) (ms : List Marked) (i : ℕ) (d : Marked) → i < length ms → is_among marks (get_or ms i d).mark ≡ false → segments marks (drop i ms) ≡ segments marks (drop (suc i) ms)
segments-stay marks ms i d h is =
    let m = get_or ms i d in
    let rest = drop (suc i) ms in
    ap (segments marks) (drop-cons ms i d h) ∙ ap (λ (b : Bool). if b then (m ∷ up_to marks rest) ∷ segments marks rest else segments marks rest) is

pub one-before : (marks : List ℕ) (ms : List Marked) (i end : ℕ) (d : Marked) → i < length ms → suc i ≤ end → is_among marks (get_or ms i d).mark ≡ false → take (end - suc i) (drop (suc i) ms) ≡ up_to marks (drop (suc i) ms) →
    take (end - i) (drop i ms) ≡ up_to marks (drop i ms)
one-before marks ms i end d h k is next =
    let m = get_or ms i d in
    let rest = drop (suc i) ms in
    from ms i end d h k ∙ ap (λ q. m ∷ q) next ∙ sym (ap (up_to marks) (drop-cons ms i d h) ∙ ap (λ (b : Bool). if b then [] else m ∷ up_to marks rest) is)

pub none-taken : (ms : List Marked) (i : ℕ) → take (i - i) (drop i ms) ≡ []
none-taken ms i = let n : i - i ≡ 0 = omega arith in ap (λ k. take k (drop i ms)) n
