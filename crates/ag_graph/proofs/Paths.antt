-- Ways through a graph, and lists of what holds of each item.
use Rattle.std.proofs.Common.{◌≡◌, ℕ, ◌<◌, ◌+◌, ◌-◌, List, [], ◌∷◌, ◌++◌, length, get_or, take, refl, sym, ap, subst, ◌∙◌, inl, inr, arith}
use Rattle.std.specs.List.{All, Any, AllPairs}
use Rattle.std.proofs.lemmas.List.{get_or_append_left, length-append, length_push, get_or_push, get_or-append_right, take_all, take_at, take_more, append_assoc}
use Rattle.std.proofs.lemmas.List.Elements.{All-cons}
use Rattle.std.proofs.lemmas.Bool.{cases_lt}
use Rattle.ag_graph.specs.Circles.{Reaches, at_once, through}
use Rattle.ag_graph.specs.Search.{Comes}

pub reaches_on : (graph : List (List ℕ)) (v w x : ℕ) → Reaches graph v w → Reaches graph w x → Reaches graph v x
reaches_on graph _ _ x (at_once v w h) r = through v w x h r
reaches_on graph _ _ x (through v u w h rest) r = through v u x h (reaches_on graph u w x rest r)

pub comes_on : (graph : List (List ℕ)) (v w x : ℕ) → Comes graph v w → Reaches graph w x → Reaches graph v x
comes_on graph v w x (inl same) r = subst (λ (u : ℕ). Reaches graph u x) (sym same) r
comes_on graph v w x (inr first) r = reaches_on graph v w x first r

pub reaches_comes : (graph : List (List ℕ)) (v w x : ℕ) → Reaches graph v w → Comes graph w x → Reaches graph v x
reaches_comes graph v w x r (inl same) = subst (λ (u : ℕ). Reaches graph v u) same r
reaches_comes graph v w x r (inr rest) = reaches_on graph v w x r rest

module _ {X : Type 0} where
  pub All-front : (P : X → Type 0) (xs ys : List X) → All P (xs ++ ys) → All P xs
  All-front P xs ys all = λ k d h. subst P (get_or_append_left xs ys d k h) (all k d (omega (arith, length-append xs ys)))

  pub AllPairs-front : (R : X → X → Type 0) (xs ys : List X) → AllPairs R (xs ++ ys) → AllPairs R xs
  AllPairs-front R xs ys all = λ i j d less h.
      subst (λ (x : X). R x (get_or xs j d)) (get_or_append_left xs ys d i (omega arith))
      (subst (λ (y : X). R (get_or (xs ++ ys) i d) y) (get_or_append_left xs ys d j h) (all i j d less (omega (arith, length-append xs ys))))

  -- what stands before the last item
  pub AllPairs-last : (R : X → X → Type 0) (xs : List X) (x : X) → AllPairs R (xs ++ x ∷ []) → All (λ y. R y x) xs
  AllPairs-last R xs x all = λ k d h.
      subst (λ (y : X). R y x) (get_or_append_left xs (x ∷ []) d k h)
      (subst (λ (y : X). R (get_or (xs ++ x ∷ []) k d) y) (get_or_push xs x d (length xs) refl) (all k (length xs) d h (omega (arith, length_push xs x))))

  pub All-last : (P : X → Type 0) (xs : List X) (x : X) → All P (xs ++ x ∷ []) → P x
  All-last P xs x all = subst P (get_or_push xs x x (length xs) refl) (all (length xs) x (omega (arith, length_push xs x)))

  pub Any-front : (P : X → Type 0) (xs ys : List X) → Any P xs → Any P (xs ++ ys)
  Any-front P xs ys any = (any.0, any.1, omega (arith, any.2, length-append xs ys), get_or_append_left xs ys any.1 any.0 any.2 ∙ any.3, any.4)

  -- it is in front, if it holds of none behind
  pub Any-not_back : (P : X → Type 0) (xs ys : List X) → All (λ y. P y → ⊥) ys → Any P (xs ++ ys) → Any P xs
  Any-not_back P xs ys none any =
      let k = any.0 in
      let x = any.1 in
      elim (cases_lt k (length xs)) [
        | inl front ↦ (k, x, front, sym (get_or_append_left xs ys x k front) ∙ any.3, any.4)
        | inr behind ↦
            let at : get_or ys (k - length xs) x ≡ x = sym (get_or-append_right xs ys (length xs) k x refl behind) ∙ any.3 in
            absurd (none (k - length xs) x (omega (arith, any.2, length-append xs ys)) (subst P (sym at) any.4))
      ]

  -- a list that isn't empty ends with its last item
  pub split_last : (xs : List X) (d : X) → 0 < length xs → xs ≡ take (length xs - 1) xs ++ get_or xs (length xs - 1) d ∷ []
  split_last xs d some = sym (take_all (length xs - 1 + 1) xs (omega arith)) ∙ take_more xs (length xs - 1) d (omega arith)

  pub back_of : (xs rest : List X) (x d : X) → 0 < length xs → rest ≡ take (length xs - 1) xs → x ≡ get_or xs (length xs - 1) d → xs ≡ rest ++ x ∷ []
  back_of xs rest x d some is last = split_last xs d some ∙ ap (λ (y : X). take (length xs - 1) xs ++ y ∷ []) (sym last) ∙ ap (λ (ys : List X). ys ++ x ∷ []) (sym is)

  -- what was taken off the end, and one item more
  pub off_more : (P : X → Type 0) (all xs rest off : List X) (x : X) → all ≡ xs ++ off → rest ≡ take (length xs - 1) xs → 0 < length xs → x ≡ get_or xs (length xs - 1) x → P x → All P off
      → (more : List X) × (all ≡ rest ++ more) × All P more
  off_more P all xs rest off x whole is some last holds others = (x ∷ off, whole ∙ ap (λ (ys : List X). ys ++ off) (back_of xs rest x x some is last) ∙ append_assoc rest (x ∷ []) off, All-cons P x off holds others)

  pub front_of : (xs before rest : List X) (x : X) → xs ≡ before ++ x ∷ [] → rest ≡ take (length xs - 1) xs → rest ≡ before
  front_of xs before rest x split is =
      let n : length before ≡ length xs - 1 = omega (arith, ap length split, length_push before x) in
      is ∙ ap (λ (ys : List X). take (length xs - 1) ys) split ∙ take_at before (x ∷ []) (length xs - 1) n
