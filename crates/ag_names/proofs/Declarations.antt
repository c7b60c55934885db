-- Types and implementations, one declaration and one package after another.
use Rattle.std.proofs.Common.{◌≡◌, ℕ, ◌+◌, ◌<◌, cond, List, [], ◌∷◌, ◌++◌, length, take, get_or, ap, sym, ◌∙◌, arith, append-nil, append_assoc}
use Rattle.std.proofs.lemmas.List.{take_more}
use Rattle.ag_aadl.specs.declared.packages.Item.{Item}
use Rattle.ag_aadl.specs.declared.packages.Item.TheVariants as item
use Rattle.ag_aadl.specs.declared.packages.Package.{Package}
use Rattle.ag_names.specs.Placed.{Type', Implementation, implementations_among, implementations_from, is_set_aside, types_among, types_from}
use Rattle.ag_names.proofs.Entries.{length_take}

module _ (p : ℕ) (owner : Package) where
  types_push : (xs : List Item) (x : Item) (at : ℕ) → types_among p owner at (xs ++ x ∷ []) ≡ types_among p owner at xs ++ types_among p owner (at + length xs) (x ∷ [])
  types_push [] x at = ap (λ (n : ℕ). types_among p owner n (x ∷ [])) (omega arith)
  types_push (item.Frame f ∷ xs) x at =
      ap (λ (z : List Type'). record { at = record { 0 = p; 1 = at }; owner = owner; frame = f } ∷ z)
      (types_push xs x (at + 1) ∙ ap (λ (n : ℕ). types_among p owner (at + 1) xs ++ types_among p owner n (x ∷ [])) (omega arith))
  types_push (item.Body b ∷ xs) x at = types_push xs x (at + 1) ∙ ap (λ (n : ℕ). types_among p owner (at + 1) xs ++ types_among p owner n (x ∷ [])) (omega arith)
  types_push (item.Library t ∷ xs) x at = types_push xs x (at + 1) ∙ ap (λ (n : ℕ). types_among p owner (at + 1) xs ++ types_among p owner n (x ∷ [])) (omega arith)

  pub types_more : (xs : List Item) (i : ℕ) (x : Item) → i < length xs → x ≡ get_or xs i x
      → types_among p owner 0 (take (i + 1) xs) ≡ types_among p owner 0 (take i xs) ++ types_among p owner i (x ∷ [])
  types_more xs i x h e =
      ap (types_among p owner 0) (take_more xs i x h ∙ ap (λ (z : Item). take i xs ++ z ∷ []) (sym e))
      ∙ types_push (take i xs) x 0
      ∙ ap (λ (n : ℕ). types_among p owner 0 (take i xs) ++ types_among p owner n (x ∷ [])) (rw (length_take xs i h) (omega arith))

  implementations_push : (xs : List Item) (x : Item) (at : ℕ)
      → implementations_among p owner at (xs ++ x ∷ []) ≡ implementations_among p owner at xs ++ implementations_among p owner (at + length xs) (x ∷ [])
  implementations_push [] x at = ap (λ (n : ℕ). implementations_among p owner n (x ∷ [])) (omega arith)
  implementations_push (item.Frame f ∷ xs) x at =
      implementations_push xs x (at + 1) ∙ ap (λ (n : ℕ). implementations_among p owner (at + 1) xs ++ implementations_among p owner n (x ∷ [])) (omega arith)
  implementations_push (item.Body b ∷ xs) x at =
      ap (λ (z : List Implementation). record { at = record { 0 = p; 1 = at }; owner = owner; body = b } ∷ z)
      (implementations_push xs x (at + 1) ∙ ap (λ (n : ℕ). implementations_among p owner (at + 1) xs ++ implementations_among p owner n (x ∷ [])) (omega arith))
  implementations_push (item.Library t ∷ xs) x at =
      implementations_push xs x (at + 1) ∙ ap (λ (n : ℕ). implementations_among p owner (at + 1) xs ++ implementations_among p owner n (x ∷ [])) (omega arith)

  pub implementations_more : (xs : List Item) (i : ℕ) (x : Item) → i < length xs → x ≡ get_or xs i x
      → implementations_among p owner 0 (take (i + 1) xs) ≡ implementations_among p owner 0 (take i xs) ++ implementations_among p owner i (x ∷ [])
  implementations_more xs i x h e =
      ap (implementations_among p owner 0) (take_more xs i x h ∙ ap (λ (z : Item). take i xs ++ z ∷ []) (sym e))
      ∙ implementations_push (take i xs) x 0
      ∙ ap (λ (n : ℕ). implementations_among p owner 0 (take i xs) ++ implementations_among p owner n (x ∷ [])) (rw (length_take xs i h) (omega arith))

-- ---- packages

module _ (all : List Package) where
  types_next : (ps : List Package) (p : Package) (at : ℕ) → types_from all at (ps ++ p ∷ []) ≡ types_from all at ps ++ cond (is_set_aside all p.name.place.file) [] (types_among (at + length ps) p 0 p.items)
  types_next [] p at = append-nil _ ∙ ap (λ (n : ℕ). cond (is_set_aside all p.name.place.file) [] (types_among n p 0 p.items)) (omega arith)
  types_next (q ∷ ps) p at =
      let front : List Type' = cond (is_set_aside all q.name.place.file) [] (types_among at q 0 q.items) in
      ap (λ (z : List Type'). front ++ z)
      (types_next ps p (at + 1) ∙ ap (λ (n : ℕ). types_from all (at + 1) ps ++ cond (is_set_aside all p.name.place.file) [] (types_among n p 0 p.items)) (omega arith))
      ∙ sym (append_assoc front _ _)

  pub types_from_more : (ps : List Package) (i : ℕ) (p : Package) → i < length ps → p ≡ get_or ps i p
      → types_from all 0 (take (i + 1) ps) ≡ types_from all 0 (take i ps) ++ cond (is_set_aside all p.name.place.file) [] (types_among i p 0 p.items)
  types_from_more ps i p h e =
      ap (types_from all 0) (take_more ps i p h ∙ ap (λ (z : Package). take i ps ++ z ∷ []) (sym e))
      ∙ types_next (take i ps) p 0
      ∙ ap (λ (n : ℕ). types_from all 0 (take i ps) ++ cond (is_set_aside all p.name.place.file) [] (types_among n p 0 p.items)) (rw (length_take ps i h) (omega arith))

  implementations_next : (ps : List Package) (p : Package) (at : ℕ)
      → implementations_from all at (ps ++ p ∷ []) ≡ implementations_from all at ps ++ cond (is_set_aside all p.name.place.file) [] (implementations_among (at + length ps) p 0 p.items)
  implementations_next [] p at = append-nil _ ∙ ap (λ (n : ℕ). cond (is_set_aside all p.name.place.file) [] (implementations_among n p 0 p.items)) (omega arith)
  implementations_next (q ∷ ps) p at =
      let front : List Implementation = cond (is_set_aside all q.name.place.file) [] (implementations_among at q 0 q.items) in
      ap (λ (z : List Implementation). front ++ z)
      (implementations_next ps p (at + 1)
      ∙ ap (λ (n : ℕ). implementations_from all (at + 1) ps ++ cond (is_set_aside all p.name.place.file) [] (implementations_among n p 0 p.items)) (omega arith))
      ∙ sym (append_assoc front _ _)

  pub implementations_from_more : (ps : List Package) (i : ℕ) (p : Package) → i < length ps → p ≡ get_or ps i p
      → implementations_from all 0 (take (i + 1) ps) ≡ implementations_from all 0 (take i ps) ++ cond (is_set_aside all p.name.place.file) [] (implementations_among i p 0 p.items)
  implementations_from_more ps i p h e =
      ap (implementations_from all 0) (take_more ps i p h ∙ ap (λ (z : Package). take i ps ++ z ∷ []) (sym e))
      ∙ implementations_next (take i ps) p 0
      ∙ ap (λ (n : ℕ). implementations_from all 0 (take i ps) ++ cond (is_set_aside all p.name.place.file) [] (implementations_among n p 0 p.items))
      (rw (length_take ps i h) (omega arith))
