-- Places of edges that begin at one vertex.
use Rattle.std.proofs.Common.{◌≡◌, inl, inr, ℕ, ◌+◌, ◌<◌, List, [], ◌∷◌, ◌++◌, length, get_or, sym, ap, subst, ◌∙◌, arith, Option, Some, None}
use Rattle.std.specs.Prelude.{slice_set, IfSome}
use Rattle.std.proofs.lemmas.Bool.{cases_eq, cases_lt}
use Rattle.std.proofs.lemmas.List.{get_or_read, get_or_past, get_or_push, get_or_append_left, length_push, set_past, get_or-set_same, get_or-set_other}
use Rattle.ag_diff.specs.Fans.{AreBelow, AreBefore}

pub below_read : (top : ℕ) (places : List (Option ℕ)) (n : ℕ) (o : Option ℕ) → n < length places → o ≡ get_or places n o → ((i : ℕ) → get_or places n None ≡ Some i → i < top) → IfSome o (λ i. i < top)
below_read top places n None lt read h = tt
below_read top places n (Some i) lt read h = h i (sym (get_or_read places n (Some i) lt read None))

pub below_more : (last : List (Option ℕ)) (place vertex : ℕ) → AreBelow place last → AreBelow (place + 1) (slice_set last vertex (Some place))
below_more last place vertex h n i is =
    elim (cases_lt vertex (length last)) [
      | inl there ↦
          elim (cases_eq n vertex) [
            | inl same ↦
                let here : get_or (slice_set last vertex (Some place)) n None ≡ Some place = subst (λ (m : ℕ). get_or (slice_set last vertex (Some place)) m None ≡ Some place) (sym same) (get_or-set_same last vertex (Some place) None there) in
                let it : place ≡ i = cc in
                omega (arith, it)
            | inr other ↦ omega (arith, h n i (sym (get_or-set_other last vertex n (Some place) None other) ∙ is))
          ]
      | inr out ↦ omega (arith, h n i (ap (λ (xs : List (Option ℕ)). get_or xs n None) (sym (set_past last vertex (Some place) out)) ∙ is))
    ]

pub before_more : (last before : List (Option ℕ)) (place vertex : ℕ) (o : Option ℕ) → length before ≡ place → vertex < length last → o ≡ get_or last vertex o → AreBelow place last → AreBefore before → AreBefore (before ++ o ∷ [])
before_more last before place vertex o count there read below h n i is =
    elim (cases_lt n place) [
      | inl lt ↦ h n i (sym (get_or_append_left before (o ∷ []) None n (omega (arith, lt, count))) ∙ is)
      | inr le ↦
          elim (cases_eq n place) [
            | inl same ↦
                let at : get_or (before ++ o ∷ []) n None ≡ o = get_or_push before o None n (count ∙ sym same) in
                let some : get_or last vertex None ≡ Some i = sym (get_or_read last vertex o there read None) ∙ sym at ∙ is in
                omega (arith, below vertex i some, same)
            | inr other ↦
                let out : get_or (before ++ o ∷ []) n None ≡ None = get_or_past (before ++ o ∷ []) n None (omega (arith, le, other, count, length_push before o)) in
                absurd (cc)
          ]
    ]
