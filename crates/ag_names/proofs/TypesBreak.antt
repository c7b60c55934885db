-- What a type breaks is what its ports' names or one of its ports break.
use Rattle.std.proofs.Common.{◌⊎◌, Option, inl, inr}
use Rattle.ag_base.specs.declared.place.Refusal.{Refusal}
use Rattle.ag_names.specs.Broken.{PortBreaks, TypeBreaks, port_twice, in_port}
use Rattle.ag_names.specs.Order.{IsFirst, InSome, earlier}
use Rattle.ag_names.specs.Placed.{Type'}
use Rattle.ag_names.specs.Twice.{IsTwice, port_names}
use Rattle.ag_names.proofs.First.{first_joined, first_same}

together : (t : Type') (r : Refusal) → IsTwice (port_names t.frame) r ⊎ InSome t.frame.ports (PortBreaks t) r → TypeBreaks t r
together t r (inl twice) = port_twice twice
together t r (inr some) = in_port some.0 some.1 some.2

apart : (t : Type') (r : Refusal) → TypeBreaks t r → IsTwice (port_names t.frame) r ⊎ InSome t.frame.ports (PortBreaks t) r
apart t r (port_twice twice) = inl twice
apart t r (in_port port inside breaks) = inr (port, inside, breaks)

pub first_of_type : (t : Type') (a b : Option Refusal) → IsFirst (IsTwice (port_names t.frame)) a → IsFirst (InSome t.frame.ports (PortBreaks t)) b → IsFirst (TypeBreaks t) (earlier a b)
first_of_type t a b h k =
    let P : Refusal → Type 0 = IsTwice (port_names t.frame) in
    let Q : Refusal → Type 0 = InSome t.frame.ports (PortBreaks t) in
    first_same (λ r. P r ⊎ Q r) (TypeBreaks t) (earlier a b) (together t) (apart t) (first_joined P Q a b h k)
