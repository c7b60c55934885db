-- Each type and each implementation stands with the package at its position.
use Rattle.std.proofs.Common.{◌≡◌, ℕ, ◌+◌, ◌<◌, Bool, true, false, cond, List, [], ◌∷◌, ◌++◌, length, get_or, Some, refl, sym, subst, ◌∙◌, arith, append_assoc}
use Rattle.std.specs.Prelude.{slice_get}
use Rattle.std.specs.List.{All}
use Rattle.std.proofs.lemmas.List.{length_push}
use Rattle.std.proofs.lemmas.List.Elements.{All-append, All-cons, All-get_or, All-nil}
use Rattle.ag_aadl.specs.declared.packages.Item.{Item}
use Rattle.ag_aadl.specs.declared.packages.Item.TheVariants as item
use Rattle.ag_aadl.specs.declared.packages.Package.{Package}
use Rattle.ag_names.specs.Placed.{Type', Implementation, types, types_among, types_from, implementations, implementations_among, implementations_from, is_set_aside}
use Rattle.ag_names.proofs.Seconds.{found}

all_if : {X : Type 0} (P : X → Type 0) (b : Bool) (xs : List X) → All P xs → All P (cond b [] xs)
all_if P true xs h = All-nil P
all_if P false xs h = h

module _ (all : List Package) where
  abbrev HasType : Type' → Type 0
  HasType t = slice_get all t.at.0 ≡ Some t.owner

  abbrev HasImplementation : Implementation → Type 0
  HasImplementation i = slice_get all i.at.0 ≡ Some i.owner

  among_types : (n : ℕ) (p : Package) (at : ℕ) (items : List Item) → slice_get all n ≡ Some p → All HasType (types_among n p at items)
  among_types n p at [] e = All-nil HasType
  among_types n p at (item.Frame f ∷ items) e = All-cons HasType _ (types_among n p (at + 1) items) e (among_types n p (at + 1) items e)
  among_types n p at (item.Body b ∷ items) e = among_types n p (at + 1) items e
  among_types n p at (item.Library t ∷ items) e = among_types n p (at + 1) items e

  from_types : (front : List Package) (at : ℕ) (ps : List Package) → at ≡ length front → all ≡ front ++ ps → All HasType (types_from all at ps)
  from_types front at [] e f = All-nil HasType
  from_types front at (p ∷ ps) e f =
      All-append HasType (cond (is_set_aside all p.name.place.file) [] (types_among at p 0 p.items)) (types_from all (at + 1) ps)
      (all_if HasType (is_set_aside all p.name.place.file) (types_among at p 0 p.items) (among_types at p 0 p.items (rw e (found all front ps p f))))
      (from_types (front ++ p ∷ []) (at + 1) ps (omega (arith, e, length_push front p)) (f ∙ sym (append_assoc front (p ∷ []) ps)))

  pub type_owner : (i : ℕ) (t : Type') → i < length (types all) → t ≡ get_or (types all) i t → slice_get all t.at.0 ≡ Some t.owner
  type_owner i t l e = subst HasType (sym e) (All-get_or HasType (types all) i t l (from_types [] 0 all refl refl))

  among_implementations : (n : ℕ) (p : Package) (at : ℕ) (items : List Item) → slice_get all n ≡ Some p → All HasImplementation (implementations_among n p at items)
  among_implementations n p at [] e = All-nil HasImplementation
  among_implementations n p at (item.Frame f ∷ items) e = among_implementations n p (at + 1) items e
  among_implementations n p at (item.Body b ∷ items) e =
      All-cons HasImplementation _ (implementations_among n p (at + 1) items) e (among_implementations n p (at + 1) items e)
  among_implementations n p at (item.Library t ∷ items) e = among_implementations n p (at + 1) items e

  from_implementations : (front : List Package) (at : ℕ) (ps : List Package) → at ≡ length front → all ≡ front ++ ps → All HasImplementation (implementations_from all at ps)
  from_implementations front at [] e f = All-nil HasImplementation
  from_implementations front at (p ∷ ps) e f =
      All-append HasImplementation (cond (is_set_aside all p.name.place.file) [] (implementations_among at p 0 p.items)) (implementations_from all (at + 1) ps)
      (all_if HasImplementation (is_set_aside all p.name.place.file) (implementations_among at p 0 p.items) (among_implementations at p 0 p.items (rw e (found all front ps p f))))
      (from_implementations (front ++ p ∷ []) (at + 1) ps (omega (arith, e, length_push front p)) (f ∙ sym (append_assoc front (p ∷ []) ps)))

  pub implementation_owner : (n : ℕ) (i : Implementation) → n < length (implementations all) → i ≡ get_or (implementations all) n i → slice_get all i.at.0 ≡ Some i.owner
  implementation_owner n i l e = subst HasImplementation (sym e) (All-get_or HasImplementation (implementations all) n i l (from_implementations [] 0 all refl refl))

-- where a list is known to be that of all types, or of all implementations

pub type_owner_of : (all : List Package) (ts : List Type') (i : ℕ) (t : Type') → ts ≡ types all → i < length ts → t ≡ get_or ts i t → slice_get all t.at.0 ≡ Some t.owner
type_owner_of all ts i t e l f =
    type_owner all i t (subst (λ (z : List Type'). i < length z) e l) (subst (λ (z : List Type'). t ≡ get_or z i t) e f)

pub implementation_owner_of : (all : List Package) (is : List Implementation) (n : ℕ) (i : Implementation) → is ≡ implementations all → n < length is → i ≡ get_or is n i
    → slice_get all i.at.0 ≡ Some i.owner
implementation_owner_of all is n i e l f =
    implementation_owner all n i (subst (λ (z : List Implementation). n < length z) e l) (subst (λ (z : List Implementation). i ≡ get_or z n i) e f)
