-- Terminals one behind the other.
use Rattle.std.proofs.Common.{◌≡◌, ℕ, true, List, [], ◌∷◌, ◌++◌, Some, refl, sym, ap, subst}
use Rattle.std.specs.List.{list_all}
use Rattle.std.proofs.lemmas.Bool.{and_parts}
use Rattle.ag_small.specs.Grammar.{Terminal, Fixed, Name, Stands, Spells, fixed}
use Rattle.ag_small.specs.Reading.{fixed_at, all_fixed_at}
use Rattle.ag_small.proofs.Tools.{bind_some, some_is}
use Rattle.ag_small.proofs.Terminals.{visible, fixed_stands, fixed_found}

pub spells_joined : (ts us : List Terminal) (b m r : List ℕ) → Spells ts b m → Spells us m r → Spells (ts ++ us) b r
spells_joined [] us b m r p q = subst (λ (x : List ℕ). Spells us x r) (sym p) q
spells_joined (t ∷ ts) us b m r p q = (p.0, p.1, spells_joined ts us p.0 m r p.2 q)

pub spells_split : (ts us : List Terminal) (b r : List ℕ) → Spells (ts ++ us) b r → (m : List ℕ) × Spells ts b m × Spells us m r
spells_split [] us b r p = (b, refl, p)
spells_split (t ∷ ts) us b r p = let k = spells_split ts us p.0 r p.2 in (k.0, (p.0, p.1, k.1), k.2)

pub all_fixed_spell : (ts : List (List ℕ)) (b r : List ℕ) → all_fixed_at ts b ≡ Some r → Spells (fixed ts) b r
all_fixed_spell [] b r e = some_is b r e
all_fixed_spell (t ∷ ts) b r e =
    let a = bind_some (fixed_at t b) (λ x. all_fixed_at ts x) r e in
    (a.0, fixed_stands t b a.0 a.1, all_fixed_spell ts a.0 r a.2)

pub all_fixed_found : (ts : List (List ℕ)) (b r : List ℕ) → list_all visible ts ≡ true → Spells (fixed ts) b r → all_fixed_at ts b ≡ Some r
all_fixed_found [] b r v s = ap (λ (x : List ℕ). Some x) s
all_fixed_found (t ∷ ts) b r v s =
    let p = and_parts (visible t) (list_all visible ts) v in
    rw (fixed_found t b s.0 p.0 s.1) (all_fixed_found ts s.0 r p.1 s.2)

pub one_fixed : (t : List ℕ) (b r : List ℕ) → Spells (Fixed t ∷ []) b r → Stands (Fixed t) b r
one_fixed t b r s = subst (λ (m : List ℕ). Stands (Fixed t) b m) s.2 s.1

pub one_name : (n : List ℕ) (b r : List ℕ) → Spells (Name n ∷ []) b r → Stands (Name n) b r
one_name n b r s = subst (λ (m : List ℕ). Stands (Name n) b m) s.2 s.1
