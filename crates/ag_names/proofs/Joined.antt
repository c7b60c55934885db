-- What a connection breaks by itself, by what its ends are.
use Rattle.std.proofs.Common.{◌≡◌, ◌⊎◌, Option, List, Some, None, refl, ap, sym, subst, ◌∙◌, inl, inr}
use Rattle.ag_base.specs.declared.place.Refusal.{Refusal}
use Rattle.ag_base.specs.declared.place.Rule.TheVariants.{NoPort}
use Rattle.ag_aadl.specs.declared.packages.End.{End}
use Rattle.ag_aadl.specs.declared.packages.Package.{Package}
use Rattle.ag_aadl.specs.declared.packages.Wire.{Wire}
use Rattle.ag_names.specs.Broken.{ConnectionBreaks, no_port, joined, ConnectedBreaks, HasBothEnds}
use Rattle.ag_names.specs.Ends.{EndPoint, end_point, end_place}
use Rattle.ag_names.specs.Order.{IsFirst, earlier}
use Rattle.ag_names.specs.Placed.{Implementation}
use Rattle.ag_names.proofs.First.{first_joined, first_only, first_same}

abbrev pub missing_at : End → Refusal
missing_at e = record { place = end_place e; rule = NoPort }

some_none : {X : Type 0} {x : X} → Some x ≡ None → ⊥
some_none e = cc

one_value : {X : Type 0} (x y : X) → Some x ≡ Some y → y ≡ x
one_value x y e = cc

module _ (all : List Package) (i : Implementation) (w : Wire) where
  pub first_between : (s t : EndPoint) → end_point all i w.from ≡ Some s → end_point all i w.to ≡ Some t → (a : Option Refusal)
      → IsFirst (ConnectedBreaks w s t) a → IsFirst (ConnectionBreaks all i w) a
  first_between s t es et a h = first_same (ConnectedBreaks w s t) (ConnectionBreaks all i w) a (λ r b. joined (record { source = s; target = t; from = es; to = et }) b) apart h
    where
      missed : (e : End) → (e ≡ w.from) ⊎ (e ≡ w.to) → end_point all i e ≡ None → ⊥
      missed e (inl f) n = some_none (sym es ∙ ap (end_point all i) (sym f) ∙ n)
      missed e (inr f) n = some_none (sym et ∙ ap (end_point all i) (sym f) ∙ n)

      between : (r : Refusal) (j : HasBothEnds all i w) → ConnectedBreaks w j.source j.target r → ConnectedBreaks w s t r
      between r j b =
          subst (λ (z : EndPoint). ConnectedBreaks w z t r) (one_value s j.source (sym es ∙ j.from))
          (subst (λ (z : EndPoint). ConnectedBreaks w j.source z r) (one_value t j.target (sym et ∙ j.to)) b)

      apart : (r : Refusal) → ConnectionBreaks all i w r → ConnectedBreaks w s t r
      apart r (no_port e f n g) = absurd (missed e f n)
      apart r (joined j b) = between r j b

  -- where an end isn't there, the refusals are those of the ends that aren't
  abbrev AtSource : Refusal → Type 0
  AtSource r = (end_point all i w.from ≡ None) × (r ≡ missing_at w.from)

  abbrev AtTarget : Refusal → Type 0
  AtTarget r = (end_point all i w.to ≡ None) × (r ≡ missing_at w.to)

  together : (r : Refusal) → AtSource r ⊎ AtTarget r → ConnectionBreaks all i w r
  together r (inl m) = no_port w.from (inl refl) m.0 m.1
  together r (inr m) = no_port w.to (inr refl) m.0 m.1

  ends_apart : (r : Refusal) (e : End) → (e ≡ w.from) ⊎ (e ≡ w.to) → end_point all i e ≡ None → r ≡ missing_at e → AtSource r ⊎ AtTarget r
  ends_apart r e (inl f) n g = inl (ap (end_point all i) (sym f) ∙ n, g ∙ ap missing_at f)
  ends_apart r e (inr f) n g = inr (ap (end_point all i) (sym f) ∙ n, g ∙ ap missing_at f)

  apart_with : ((j : HasBothEnds all i w) → ⊥) → (r : Refusal) → ConnectionBreaks all i w r → AtSource r ⊎ AtTarget r
  apart_with never r (no_port e f n g) = ends_apart r e f n g
  apart_with never r (joined j b) = absurd (never j)

  first_with : ((j : HasBothEnds all i w) → ⊥) → (a b : Option Refusal) → IsFirst AtSource a → IsFirst AtTarget b → IsFirst (ConnectionBreaks all i w) (earlier a b)
  first_with never a b h k =
      first_same (λ r. AtSource r ⊎ AtTarget r) (ConnectionBreaks all i w) (earlier a b) together (apart_with never) (first_joined AtSource AtTarget a b h k)

  at_source : end_point all i w.from ≡ None → IsFirst AtSource (Some (missing_at w.from))
  at_source e = first_only AtSource (missing_at w.from) (e, refl) (λ q m. m.1)

  at_target : end_point all i w.to ≡ None → IsFirst AtTarget (Some (missing_at w.to))
  at_target e = first_only AtTarget (missing_at w.to) (e, refl) (λ q m. m.1)

  pub first_sourceless : (t : EndPoint) → end_point all i w.from ≡ None → end_point all i w.to ≡ Some t → IsFirst (ConnectionBreaks all i w) (Some (missing_at w.from))
  first_sourceless t e f = first_with (λ j. some_none (sym j.from ∙ e)) (Some (missing_at w.from)) None (at_source e) (λ q m. some_none (sym f ∙ m.0))

  pub first_targetless : (s : EndPoint) → end_point all i w.from ≡ Some s → end_point all i w.to ≡ None → IsFirst (ConnectionBreaks all i w) (Some (missing_at w.to))
  first_targetless s e f = first_with (λ j. some_none (sym j.to ∙ f)) None (Some (missing_at w.to)) (λ q m. some_none (sym e ∙ m.0)) (at_target f)

  pub first_endless : end_point all i w.from ≡ None → end_point all i w.to ≡ None
      → IsFirst (ConnectionBreaks all i w) (earlier (Some (missing_at w.from)) (Some (missing_at w.to)))
  first_endless e f = first_with (λ j. some_none (sym j.from ∙ e)) (Some (missing_at w.from)) (Some (missing_at w.to)) (at_source e) (at_target f)
