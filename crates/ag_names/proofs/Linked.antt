-- The links of subcomponents and connections, one after another.
use Rattle.std.proofs.Common.{◌≡◌, ℕ, ◌+◌, ◌<◌, List, [], ◌∷◌, ◌++◌, length, take, get_or, ap, sym, ◌∙◌, arith, append-nil, append_assoc}
use Rattle.std.specs.List.{flat_map}
use Rattle.std.proofs.lemmas.List.{take_more}
use Rattle.ag_aadl.specs.declared.packages.Package.{Package}
use Rattle.ag_aadl.specs.declared.packages.Sub.{Sub}
use Rattle.ag_aadl.specs.declared.packages.Wire.{Wire}
use Rattle.ag_names.specs.declared.links.SubLink.{SubLink}
use Rattle.ag_names.specs.declared.links.WireLink.{WireLink}
use Rattle.ag_names.specs.Ends.{end_point}
use Rattle.ag_names.specs.Links.{sub_link, sub_links_from, wire_link, wire_links_from}
use Rattle.ag_names.specs.Placed.{Implementation}
use Rattle.ag_names.proofs.Entries.{length_take}

module _ (all : List Package) (i : Implementation) where
  subs_push : (xs : List Sub) (x : Sub) (at : ℕ) → sub_links_from all i at (xs ++ x ∷ []) ≡ sub_links_from all i at xs ++ sub_link all i (at + length xs) x ∷ []
  subs_push [] x at = ap (λ (n : ℕ). sub_link all i n x ∷ []) (omega arith)
  subs_push (y ∷ xs) x at =
      ap (λ (z : List SubLink). sub_link all i at y ∷ z)
      (subs_push xs x (at + 1) ∙ ap (λ (n : ℕ). sub_links_from all i (at + 1) xs ++ sub_link all i n x ∷ []) (omega arith))

  pub sub_links_more : (xs : List Sub) (n : ℕ) (x : Sub) → n < length xs → x ≡ get_or xs n x
      → sub_links_from all i 0 (take (n + 1) xs) ≡ sub_links_from all i 0 (take n xs) ++ sub_link all i n x ∷ []
  sub_links_more xs n x h e =
      ap (sub_links_from all i 0) (take_more xs n x h ∙ ap (λ (z : Sub). take n xs ++ z ∷ []) (sym e))
      ∙ subs_push (take n xs) x 0
      ∙ ap (λ (m : ℕ). sub_links_from all i 0 (take n xs) ++ sub_link all i m x ∷ []) (rw (length_take xs n h) (omega arith))

  wires_push : (xs : List Wire) (x : Wire) (at : ℕ)
      → wire_links_from all i at (xs ++ x ∷ []) ≡ wire_links_from all i at xs ++ wire_link i (at + length xs) (end_point all i x.from) (end_point all i x.to)
  wires_push [] x at = append-nil _ ∙ ap (λ (n : ℕ). wire_link i n (end_point all i x.from) (end_point all i x.to)) (omega arith)
  wires_push (y ∷ xs) x at =
      let front : List WireLink = wire_link i at (end_point all i y.from) (end_point all i y.to) in
      ap (λ (z : List WireLink). front ++ z)
      (wires_push xs x (at + 1) ∙ ap (λ (n : ℕ). wire_links_from all i (at + 1) xs ++ wire_link i n (end_point all i x.from) (end_point all i x.to)) (omega arith))
      ∙ sym (append_assoc front _ _)

  pub wire_links_more : (xs : List Wire) (n : ℕ) (x : Wire) → n < length xs → x ≡ get_or xs n x
      → wire_links_from all i 0 (take (n + 1) xs) ≡ wire_links_from all i 0 (take n xs) ++ wire_link i n (end_point all i x.from) (end_point all i x.to)
  wire_links_more xs n x h e =
      ap (wire_links_from all i 0) (take_more xs n x h ∙ ap (λ (z : Wire). take n xs ++ z ∷ []) (sym e))
      ∙ wires_push (take n xs) x 0
      ∙ ap (λ (m : ℕ). wire_links_from all i 0 (take n xs) ++ wire_link i m (end_point all i x.from) (end_point all i x.to)) (rw (length_take xs n h) (omega arith))

flat_push : {X Y : Type 0} (f : X → List Y) (xs : List X) (x : X) → flat_map f (xs ++ x ∷ []) ≡ flat_map f xs ++ f x
flat_push f [] x = append-nil (f x)
flat_push f (y ∷ xs) x = ap (λ (z : List _). f y ++ z) (flat_push f xs x) ∙ sym (append_assoc (f y) (flat_map f xs) (f x))

pub flat_more : {X Y : Type 0} (f : X → List Y) (xs : List X) (n : ℕ) (x : X) → n < length xs → x ≡ get_or xs n x → flat_map f (take (n + 1) xs) ≡ flat_map f (take n xs) ++ f x
flat_more f xs n x h e = ap (flat_map f) (take_more xs n x h ∙ ap (λ (z : _). take n xs ++ z ∷ []) (sym e)) ∙ flat_push f (take n xs) x
