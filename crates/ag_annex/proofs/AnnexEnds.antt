-- Where an annex ends.
use Rattle.std.proofs.Common.{◌≡◌, ◌<◌, ◌+◌, ◌-◌, ℕ, suc, Bool, false, List, [], ◌∷◌, ◌++◌, Some, length, take, drop, min, codes, get_or, nat_eq, slice_get, sym, ap, ◌∙◌, arith, if◌then◌else◌}
use Rattle.std.proofs.Math.Seq.{drop-cons, take-add}
use Rattle.std.proofs.lemmas.List.{take_min, drop_min, take_rest}
use Rattle.std.specs.List.{starts_with}
use Rattle.ag_lex.specs.declared.token.Token.{Token}
use Rattle.ag_annex.specs.Annexes.{close_at, last_of}

pub is-last : (ts : List Token) (last : Token) → slice_get ts (length ts - 1) ≡ Some last → last ≡ last_of ts
is-last [] last e = absurd cc
is-last (t ∷ []) last e = let same : t ≡ last = cc in sym same
is-last (t ∷ u ∷ ts) last e =
    let at : length (t ∷ u ∷ ts) - 1 ≡ suc (length (u ∷ ts) - 1) = omega arith in
    is-last (u ∷ ts) last (sym (ap (slice_get (t ∷ u ∷ ts)) at) ∙ e)

goes-on : (b : ℕ) (bs : List ℕ) → starts_with nat_eq (b ∷ bs) (codes "**}") ≡ false → close_at (b ∷ bs) ≡ suc (close_at bs)
goes-on b bs e = ap (λ (q : Bool). if q then 0 else suc (close_at bs)) e

-- where it doesn't stand it stands behind
pub further : (bs : List ℕ) (n : ℕ) → n < length bs → starts_with nat_eq (drop n bs) (codes "**}") ≡ false → n + close_at (drop n bs) ≡ n + 1 + close_at (drop (n + 1) bs)
further bs n h e =
    let up : n + 1 ≡ suc n = omega arith in
    let here : drop n bs ≡ get_or bs n 0 ∷ drop (n + 1) bs = drop-cons bs n 0 h ∙ ap (λ k. get_or bs n 0 ∷ drop k bs) (sym up) in
    let step = goes-on (get_or bs n 0) (drop (n + 1) bs) (sym (ap (λ q. starts_with nat_eq q (codes "**}")) here) ∙ e) in
    omega (arith, step, ap close_at here)

-- the bytes up to the close, by a token's end that may stand behind the last byte
pub ended : (bytes : List ℕ) (end last close : ℕ) → last ≡ min end (length bytes) → close ≡ close_at (take (length bytes - last) (drop last bytes)) →
    take (last + close) bytes ≡ take end bytes ++ take (close_at (drop end bytes)) (drop end bytes)
ended bytes end last close e f =
    let front : take last bytes ≡ take end bytes = ap (λ n. take n bytes) e ∙ take_min end bytes in
    let rest : drop last bytes ≡ drop end bytes = ap (λ n. drop n bytes) e ∙ drop_min end bytes in
    let count : close ≡ close_at (drop end bytes) = f ∙ ap close_at (take_rest bytes last ∙ rest) in
    take-add last close bytes ∙ ap (λ q. q ++ take close (drop last bytes)) front
    ∙ ap (λ q. take end bytes ++ take close q) rest ∙ ap (λ n. take end bytes ++ take n (drop end bytes)) count
