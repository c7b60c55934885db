-- No implementation stands twice among all, since each has a place of its own among the declarations.
use Rattle.std.proofs.Common.{◌≡◌, ◌⊎◌, ℕ, zero, suc, ◌+◌, ◌<◌, ◌≤◌, cond, List, [], ◌∷◌, ◌++◌, length, Some, None, refl, inl, inr, ap, sym, ◌∙◌, arith}
use Rattle.std.specs.Prelude.{slice_get}
use Rattle.std.proofs.lemmas.Bool.{cases_Bool}
use Rattle.std.proofs.lemmas.Option.{same_Some, slice_get_within}
use Rattle.ag_aadl.specs.declared.packages.Item.{Item}
use Rattle.ag_aadl.specs.declared.packages.Item.TheVariants as item
use Rattle.ag_aadl.specs.declared.packages.Package.{Package}
use Rattle.ag_names.specs.Placed.{Implementation, implementations, implementations_among, implementations_from, is_set_aside}

nothing : {X : Type 0} (x : X) → None ≡ Some x → ⊥
nothing x e = cc

-- one stands before another: its package does, or, in one package, itself
abbrev pub IsAhead : Implementation → Implementation → Type 0
IsAhead i j = (i.at.0 < j.at.0) ⊎ ((i.at.0 ≡ j.at.0) × (i.at.1 < j.at.1))

module _ (p : ℕ) (owner : Package) where
  above : (items : List Item) (at n : ℕ) (i : Implementation) → slice_get (implementations_among p owner at items) n ≡ Some i → (i.at.0 ≡ p) × (at ≤ i.at.1)
  above [] at n i e = absurd (nothing i e)
  above (item.Frame f ∷ items) at n i e = let h = above items (at + 1) n i e in (h.0, omega (arith, h.1))
  above (item.Library t ∷ items) at n i e = let h = above items (at + 1) n i e in (h.0, omega (arith, h.1))
  above (item.Body b ∷ items) at zero i e = let h = same_Some _ i e in (ap (λ (j : Implementation). j.at.0) (sym h), omega (arith, ap (λ (j : Implementation). j.at.1) h))
  above (item.Body b ∷ items) at (suc n) i e = let h = above items (at + 1) n i e in (h.0, omega (arith, h.1))

  rising : (items : List Item) (at n m : ℕ) (i j : Implementation) → n < m
      → slice_get (implementations_among p owner at items) n ≡ Some i → slice_get (implementations_among p owner at items) m ≡ Some j → i.at.1 < j.at.1
  rising [] at n m i j l e f = absurd (nothing i e)
  rising (item.Frame t ∷ items) at n m i j l e f = rising items (at + 1) n m i j l e f
  rising (item.Library t ∷ items) at n m i j l e f = rising items (at + 1) n m i j l e f
  rising (item.Body b ∷ items) at n zero i j l e f = absurd (omega arith)
  rising (item.Body b ∷ items) at zero (suc m) i j l e f =
      let h = above items (at + 1) m j f in omega (arith, ap (λ (k : Implementation). k.at.1) (same_Some _ i e), h.1)
  rising (item.Body b ∷ items) at (suc n) (suc m) i j l e f = rising items (at + 1) n m i j (omega arith) e f

-- what stands in one list after another
in_parts : {X : Type 0} (xs ys : List X) (n : ℕ) (x : X) → slice_get (xs ++ ys) n ≡ Some x → (slice_get xs n ≡ Some x) ⊎ ((m : ℕ) × (n ≡ length xs + m) × (slice_get ys m ≡ Some x))
in_parts [] ys n x e = inr (n, omega arith, e)
in_parts (y ∷ xs) ys zero x e = inl e
in_parts (y ∷ xs) ys (suc n) x e =
    elim (in_parts xs ys n x e) [
      | inl h ↦ inl h
      | inr h ↦ inr (h.0, omega (arith, h.1), h.2)
    ]

module _ (all : List Package) where
  part : ℕ → Package → List Implementation
  part at p = cond (is_set_aside all p.name.place.file) [] (implementations_among at p 0 p.items)

  of_part : (at n : ℕ) (p : Package) (i : Implementation) → slice_get (part at p) n ≡ Some i → slice_get (implementations_among at p 0 p.items) n ≡ Some i
  unfolding part
  of_part at n p i e =
      elim (cases_Bool (is_set_aside all p.name.place.file)) [
        | inl t ↦ absurd (nothing i (rw t at e))
        | inr t ↦ rw t at e
      ]

  later : (ps : List Package) (at n : ℕ) (i : Implementation) → slice_get (implementations_from all at ps) n ≡ Some i → at ≤ i.at.0
  unfolding part
  later [] at n i e = absurd (nothing i e)
  later (p ∷ ps) at n i e =
      elim (in_parts (part at p) (implementations_from all (at + 1) ps) n i e) [
        | inl h ↦ omega (arith, (above at p p.items 0 n i (of_part at n p i h)).0)
        | inr h ↦ omega (arith, later ps (at + 1) h.0 i h.2)
      ]

  ahead : (ps : List Package) (at n m : ℕ) (i j : Implementation) → n < m
      → slice_get (implementations_from all at ps) n ≡ Some i → slice_get (implementations_from all at ps) m ≡ Some j → IsAhead i j
  unfolding part
  ahead [] at n m i j l e f = absurd (nothing i e)
  ahead (p ∷ ps) at n m i j l e f =
      elim (in_parts (part at p) (implementations_from all (at + 1) ps) n i e) [
        | inl h ↦ elim (in_parts (part at p) (implementations_from all (at + 1) ps) m j f) [
          | inl k ↦
              let a = above at p p.items 0 n i (of_part at n p i h) in
              let b = above at p p.items 0 m j (of_part at m p j k) in
              inr (a.0 ∙ sym b.0, rising at p p.items 0 n m i j l (of_part at n p i h) (of_part at m p j k))
          | inr k ↦ inl (omega (arith, (above at p p.items 0 n i (of_part at n p i h)).0, later ps (at + 1) k.0 j k.2))
        ]
        | inr h ↦ elim (in_parts (part at p) (implementations_from all (at + 1) ps) m j f) [
          | inl k ↦ let within : m < length (part at p) = slice_get_within (part at p) m j k in absurd (omega (arith, h.1, within, l))
          | inr k ↦ ahead ps (at + 1) h.0 k.0 i j (omega (arith, h.1, k.1, l)) h.2 k.2
        ]
      ]

  never_ahead : (i : Implementation) → IsAhead i i → ⊥
  never_ahead i (inl l) = omega (arith, l)
  never_ahead i (inr l) = omega (arith, l.1)

  -- one that stands at two positions stands at one
  pub one_position : (n m : ℕ) (i : Implementation) → slice_get (implementations all) n ≡ Some i → slice_get (implementations all) m ≡ Some i → n ≡ m
  one_position n m i e f =
      elim (trichotomy n m) [
        | inl l ↦ absurd (never_ahead i (ahead all 0 n m i i l e f))
        | inr l ↦ elim l [ inl s ↦ s | inr g ↦ absurd (never_ahead i (ahead all 0 m n i i g f e)) ]
      ]
    where
      trichotomy : (n m : ℕ) → (n < m) ⊎ ((n ≡ m) ⊎ (m < n))
      trichotomy zero zero = inr (inl refl)
      trichotomy zero (suc m) = inl (omega arith)
      trichotomy (suc n) zero = inr (inr (omega arith))
      trichotomy (suc n) (suc m) =
          elim (trichotomy n m) [
            | inl l ↦ inl (omega (arith, l))
            | inr l ↦ elim l [ inl s ↦ inr (inl (ap suc s)) | inr g ↦ inr (inr (omega (arith, g))) ]
          ]
