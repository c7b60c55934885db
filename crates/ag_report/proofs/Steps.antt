-- One item more of a list that is numbered.
use Rattle.std.proofs.Common.{◌≡◌, ℕ, zero, suc, ◌+◌, ◌<◌, List, [], ◌∷◌, ◌++◌, length, get_or, take, map, ap, arith, append_assoc}
use Rattle.std.specs.List.{enumerate_from, range_with_len, flat_map}
use Rattle.std.proofs.lemmas.List.{map-append, append-nil}
use Rattle.std.proofs.lemmas.Grind.{flat_map-append}
use Rattle.std.proofs.lemmas.List.FromFn.{map-range_with_len_more}

pub counted_more : {X : Type 0} (f : ℕ → X) (k : ℕ) → map f (range_with_len 0 (k + 1)) ≡ map f (range_with_len 0 k) ++ f k ∷ []
counted_more f k = map-range_with_len_more f 0 k k (omega arith)

numbered_more : {X : Type 0} (n : ℕ) (xs : List X) (i : ℕ) (d : X) → i < length xs → enumerate_from n (take (i + 1) xs) ≡ enumerate_from n (take i xs) ++ (n + i, get_or xs i d) ∷ []
numbered_more n [] i d lt = absurd (omega arith)
numbered_more n (x ∷ xs) zero d lt =
    let here : n ≡ n + zero = omega arith in
    ap (λ k. (k, x) ∷ []) here
numbered_more n (x ∷ xs) (suc i) d lt =
    let on : suc i + 1 ≡ suc (i + 1) = omega arith in
    let same : (n + 1) + i ≡ n + suc i = omega arith in
    let rest : enumerate_from (n + 1) (take (i + 1) xs) ≡ enumerate_from (n + 1) (take i xs) ++ ((n + 1) + i, get_or xs i d) ∷ [] = numbered_more (n + 1) xs i d (omega arith) in
    rw on (rw rest (ap (λ k. (n, x) ∷ (enumerate_from (n + 1) (take i xs) ++ (k, get_or xs i d) ∷ [])) same))

next : {X : Type 0} (n k : ℕ) (xs : List X) (i : ℕ) (x : X) → i < length xs → k ≡ n + i → x ≡ get_or xs i x → enumerate_from n (take (i + 1) xs) ≡ enumerate_from n (take i xs) ++ (k, x) ∷ []
next n k xs i x lt number item =
    let more : enumerate_from n (take (i + 1) xs) ≡ enumerate_from n (take i xs) ++ (n + i, get_or xs i x) ∷ [] = numbered_more n xs i x lt in
    cc

-- what each item adds to a text, with its number
pub text_more : {X : Type 0} (f : ℕ × X → List ℕ) (n k : ℕ) (xs : List X) (i : ℕ) (x : X) (front before after : List ℕ) → i < length xs → k ≡ n + i → x ≡ get_or xs i x → before ≡ front ++ flat_map f (enumerate_from n (take i xs)) → after ≡ before ++ f (k, x) → after ≡ front ++ flat_map f (enumerate_from n (take (i + 1) xs))
text_more f n k xs i x front before after lt number item held added =
    let all = next n k xs i x lt number item in
    let parts : flat_map f (enumerate_from n (take i xs) ++ (k, x) ∷ []) ≡ flat_map f (enumerate_from n (take i xs)) ++ (f (k, x) ++ []) = flat_map-append f (enumerate_from n (take i xs)) ((k, x) ∷ []) in
    let end : f (k, x) ++ [] ≡ f (k, x) = append-nil (f (k, x)) in
    let joined : (front ++ flat_map f (enumerate_from n (take i xs))) ++ f (k, x) ≡ front ++ (flat_map f (enumerate_from n (take i xs)) ++ f (k, x)) = append_assoc front (flat_map f (enumerate_from n (take i xs))) (f (k, x)) in
    cc

-- what each item adds to a list, with its number
pub map_more : {X Y : Type 0} (f : ℕ × X → Y) (n k : ℕ) (xs : List X) (i : ℕ) (x : X) (front before after : List Y) → i < length xs → k ≡ n + i → x ≡ get_or xs i x → before ≡ front ++ map f (enumerate_from n (take i xs)) → after ≡ before ++ f (k, x) ∷ [] → after ≡ front ++ map f (enumerate_from n (take (i + 1) xs))
map_more f n k xs i x front before after lt number item held added =
    let all = next n k xs i x lt number item in
    let parts : map f (enumerate_from n (take i xs) ++ (k, x) ∷ []) ≡ map f (enumerate_from n (take i xs)) ++ f (k, x) ∷ [] = map-append f (enumerate_from n (take i xs)) ((k, x) ∷ []) in
    let joined : (front ++ map f (enumerate_from n (take i xs))) ++ f (k, x) ∷ [] ≡ front ++ (map f (enumerate_from n (take i xs)) ++ f (k, x) ∷ []) = append_assoc front (map f (enumerate_from n (take i xs))) (f (k, x) ∷ []) in
    cc

-- what two calls put behind a text
pub two_more : (a b t0 t1 t2 : List ℕ) → t1 ≡ t0 ++ a → t2 ≡ t1 ++ b → t2 ≡ t0 ++ (a ++ b)
two_more a b t0 t1 t2 e1 e2 = rw (e2, e1) (append_assoc t0 a b)
