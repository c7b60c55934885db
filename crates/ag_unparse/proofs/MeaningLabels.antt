-- Labels read back from between their quotes.
use Rattle.std.proofs.Common.{◌≡◌, ◌≤◌, ℕ, zero, suc, ◌+◌, ◌-◌, List, [], ◌∷◌, ◌++◌, take, drop, length, sym, ap, ◌∙◌, codes, arith}
use Rattle.std.specs.Prelude.{slice_range}
use Rattle.std.proofs.lemmas.List.{append_assoc, length-append, length-drop, length-take-le, take-append-drop, take_at}
use Rattle.ag_lex.specs.declared.token.Token.{Token}
use Rattle.ag_aadl.specs.Marked.{own}
use Rattle.ag_annex.specs.Clauses.{label_of}

drop_one : (s : ℕ) (xs : List ℕ) (y : ℕ) (ys : List ℕ) → drop s xs ≡ y ∷ ys → drop (s + 1) xs ≡ ys
drop_one zero [] y ys e = absurd cc
drop_one zero (x ∷ xs) y ys e = cc
drop_one (suc s) [] y ys e = absurd cc
drop_one (suc s) (x ∷ xs) y ys e =
    let next : suc s + 1 ≡ suc (s + 1) = omega arith in
    ap (λ (z : ℕ). drop z (x ∷ xs)) next ∙ drop_one s xs y ys e

-- what stands between the first byte and the last of a span
between : (xs : List ℕ) (s e q r : ℕ) (inner : List ℕ) → slice_range xs s e ≡ q ∷ (inner ++ r ∷ []) → e ≤ length xs → slice_range xs (s + 1) (e - 1) ≡ inner
between xs s e q r inner h fits =
    let long : length (take (e - s) (drop s xs)) ≡ e - s = length-take-le (e - s) (drop s xs) (omega (arith, length-drop s xs)) in
    let count : length (q ∷ (inner ++ r ∷ [])) ≡ length inner + 2 = omega (arith, length-append inner (r ∷ [])) in
    let both : e - s ≡ length inner + 2 = sym long ∙ ap length h ∙ count in
    let rest = drop (e - s) (drop s xs) in
    let whole : drop s xs ≡ q ∷ ((inner ++ r ∷ []) ++ rest) = sym (take-append-drop (e - s) (drop s xs)) ∙ ap (λ (z : List ℕ). z ++ rest) h in
    let fewer : (e - 1) - (s + 1) ≡ length inner = omega arith in
    ap (λ (z : List ℕ). take ((e - 1) - (s + 1)) z) (drop_one s xs q ((inner ++ r ∷ []) ++ rest) whole ∙ append_assoc inner (r ∷ []) rest)
    ∙ take_at inner (r ∷ rest) ((e - 1) - (s + 1)) (sym fewer)

pub label_told : (bytes label : List ℕ) (t : Token) → own bytes t ≡ codes "\"" ++ (label ++ codes "\"") → t.end ≤ length bytes → label_of bytes t ≡ label
label_told bytes label t h fits = between bytes t.start t.end 34 34 label h fits
