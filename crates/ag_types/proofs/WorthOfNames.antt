-- The stream that a name finds: its place among the streams, and its type.
use Rattle.std.proofs.Common.{◌≡◌, ℕ, zero, suc, ◌+◌, Bool, true, false, List, [], ◌∷◌, ◌++◌, length, take, filter, refl, subst, arith}
use Rattle.std.specs.Prelude.{Some, slice_get, if◌then◌else◌}
use Rattle.std.proofs.lemmas.Slice.Eq.{bytes_eq-Decides}
use Rattle.ag_terms.specs.Names.{same}
use Rattle.ag_terms.specs.declared.clauses.Var.{Var}
use Rattle.ag_symbols.specs.Indexed.{folded}
use Rattle.ag_symbols.specs.Seen.{position, position_from, value_named, var_name}

-- the stream at a place has this name, and it is the first
pub record IsFirstAt (name : List ℕ) (streams : List Var) (k : ℕ) : Type 0 where
  pub var : Var
  pub found : slice_get streams k ≡ Some var
  pub alike : same var.name.text name ≡ true
  pub first : (others : List Var) → value_named name (streams ++ others) ≡ Some var

pub same_folded : (a b : List ℕ) → same a b ≡ true → folded a ≡ folded b
unfolding same
same_folded a b e = (bytes_eq-Decides (folded a) (folded b)).0 e

first_from : (name : List ℕ) (at : ℕ) (streams : List Var) (k : ℕ) → position_from var_name name at streams ≡ Some k → (i : ℕ) × (k ≡ at + i) × IsFirstAt name streams i
first_from name at [] k e = cc
first_from name at (v ∷ vs) k e = by (first_from name (at + 1) vs k) (same v.name.text name) refl e
  where
    by : (position_from var_name name (at + 1) vs ≡ Some k → (i : ℕ) × (k ≡ at + 1 + i) × IsFirstAt name vs i) → (b : Bool) → same v.name.text name ≡ b →
        (if b then Some at else position_from var_name name (at + 1) vs) ≡ Some k → (i : ℕ) × (k ≡ at + i) × IsFirstAt name (v ∷ vs) i
    by later true s h = let same_place : at ≡ k = cc in (0, omega arith, record { var = v; found = refl; alike = s; first = λ others. rw s refl })
    by later false s h =
        let rest = later h in
        (suc rest.0, omega (arith, rest.1), record { var = rest.2.var; found = rest.2.found; alike = rest.2.alike; first = λ others. rw s (rest.2.first others) })

-- where a name is found, there is its first stream
pub first_at : (name : List ℕ) (streams : List Var) (k : ℕ) → position var_name (Some name) streams ≡ Some k → IsFirstAt name streams k
first_at name streams k e =
    let found = first_from name 0 streams k e in
    let here : found.0 ≡ k = omega (arith, found.1) in
    subst (IsFirstAt name streams) here found.2

-- ---- the streams that are kept by a test

-- an element that is kept stands behind the kept ones of those before it
pub kept_at : {X : Type 0} (test : X → Bool) (xs : List X) (k : ℕ) (x : X) → slice_get xs k ≡ Some x → test x ≡ true →
    slice_get (filter test xs) (length (filter test (take k xs))) ≡ Some x
kept_at test [] k x e h = cc
kept_at test (y ∷ ys) zero x e h = let same : y ≡ x = cc in rw (same, h) refl
kept_at test (y ∷ ys) (suc k) x e h = by (kept_at test ys k x e h) (test y) refl
  where
    by : slice_get (filter test ys) (length (filter test (take k ys))) ≡ Some x → (b : Bool) → test y ≡ b →
        slice_get (filter test (y ∷ ys)) (length (filter test (take (suc k) (y ∷ ys)))) ≡ Some x
    by rest true t = rw t rest
    by rest false t = rw t rest
