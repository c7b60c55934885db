-- Which names are declared at an earlier place, one name after the other.
use Rattle.std.proofs.Common.{◌≡◌, ◌⊎◌, ℕ, ◌+◌, ◌<◌, ◌≤◌, length, drop, get_or, Bool, true, false, List, [], ◌∷◌, ◌++◌, map, refl, inl, inr, ap, sym, subst, ◌∙◌, ◌||◌}
use Rattle.std.specs.Prelude.{Option, Some, None, if◌then◌else◌}
use Rattle.std.specs.List.Sorted.{IsPermutation}
use Rattle.std.proofs.lemmas.List.{drop_all}
use Rattle.std.proofs.lemmas.List.Sorted.{Contains-permutation, IsPermutation-sym}
use Rattle.ag_base.specs.declared.place.Refusal.{Refusal}
use Rattle.ag_base.specs.declared.place.Rule.TheVariants.{Twice}
use Rattle.ag_terms.specs.declared.names.Ident.{Ident}
use Rattle.ag_types.specs.ClauseFaults.{is_declared_before, twice, twice_among}
use Rattle.ag_types.specs.Earliest.{is_behind, IsNext}
use Rattle.ag_types.specs.Firsts.{either}
use Rattle.ag_base.specs.Rules.{is_before}
use Rattle.ag_types.specs.Places.{first_broken}
use Rattle.ag_types.proofs.Breaking.{either-assoc, either-none, first_broken-append}
use Rattle.ag_symbols.proofs.Placing.{split_at}
use Rattle.ag_types.proofs.Leasts.{Member, AreAll, member_left, member_right, member_cases, member_from, member_to, least_is_first, same_members}

-- the rule that a name breaks which is declared twice
abbrev pub refused : Ident → Refusal
refused s = record { place = s.place; rule = Twice }

one_of : (b : Bool) (r q : Refusal) → Member q (if b then r ∷ [] else []) → (b ≡ true) × (r ≡ q)
one_of true r q (inl e) = (refl, e)
one_of true r q (inr m) = absurd m
one_of false r q m = absurd m

twice_from : (own seen : List Ident) (q : Refusal) → Member q (twice_among own seen) → (s : Ident) × (Member s seen) × (is_declared_before own s ≡ true) × (refused s ≡ q)
twice_from own [] q m = absurd m
twice_from own (s ∷ seen) q m =
    elim (member_cases q (twice own s) (twice_among own seen) m) [
      | inl n ↦ let is = one_of (is_declared_before own s) (refused s) q n in (s, inl refl, is.0, is.1)
      | inr n ↦ let h = twice_from own seen q n in (h.0, inr h.1, h.2, h.3)
    ]

there : (b : Bool) (r : Refusal) → b ≡ true → Member r (if b then r ∷ [] else [])
there true r e = inl refl
there false r e = cc

twice_to : (own seen : List Ident) (s : Ident) → Member s seen → is_declared_before own s ≡ true → Member (refused s) (twice_among own seen)
twice_to own [] s m h = absurd m
twice_to own (t ∷ seen) s (inl e) h =
    member_left (refused s) (twice own t) (twice_among own seen) (subst (λ (z : Ident). Member (refused s) (twice own z)) (sym e) (there (is_declared_before own s) (refused s) h))
twice_to own (t ∷ seen) s (inr m) h = member_right (refused s) (twice own t) (twice_among own seen) (twice_to own seen s m h)

all_twice : (own seen : List Ident) → AreAll Twice (twice_among own seen)
all_twice own seen q m = let h = twice_from own seen q m in ap (λ (r : Refusal). r.rule) (sym h.3)

-- ---- seen in another order

pub twice_permuted : (own xs ys : List Ident) → IsPermutation xs ys → first_broken (twice_among own xs) ≡ first_broken (twice_among own ys)
twice_permuted own xs ys permutation =
    same_members Twice (twice_among own xs) (twice_among own ys) (all_twice own xs) (all_twice own ys)
    (λ q m. let h = twice_from own xs q m in
    subst (λ (r : Refusal). Member r (twice_among own ys)) h.3 (twice_to own ys h.0 (member_from h.0 ys (Contains-permutation xs ys h.0 permutation (member_to h.0 xs h.1))) h.2))
    (λ q m. let h = twice_from own ys q m in
    subst (λ (r : Refusal). Member r (twice_among own xs)) h.3 (twice_to own xs h.0 (member_from h.0 xs (Contains-permutation ys xs h.0 (IsPermutation-sym xs ys permutation) (member_to h.0 ys h.1))) h.2))

-- ---- one own name after the other

or_true : (a b : Bool) → (a || b) ≡ true → (a ≡ true) ⊎ (b ≡ true)
or_true true b e = inl refl
or_true false b e = inr e

or_left : (a b : Bool) → a ≡ true → (a || b) ≡ true
or_left true b e = refl
or_left false b e = cc

or_right : (a b : Bool) → b ≡ true → (a || b) ≡ true
or_right true b e = refl
or_right false b e = e

or_false : (a : Bool) → (a || false) ≡ a
or_false true = refl
or_false false = refl

-- what a first own name and the others have declared before
pub twice_first : (i : Ident) (own seen : List Ident) → first_broken (twice_among (i ∷ own) seen) ≡ either (first_broken (twice_among (i ∷ []) seen)) (first_broken (twice_among own seen))
twice_first i own seen =
    same_members Twice (twice_among (i ∷ own) seen) (twice_among (i ∷ []) seen ++ twice_among own seen) (all_twice (i ∷ own) seen)
    (λ q m. elim (member_cases q (twice_among (i ∷ []) seen) (twice_among own seen) m) [ inl n ↦ all_twice (i ∷ []) seen q n | inr n ↦ all_twice own seen q n ])
    (λ q m. let h = twice_from (i ∷ own) seen q m in
    subst (λ (r : Refusal). Member r (twice_among (i ∷ []) seen ++ twice_among own seen)) h.3
    (elim (or_true (is_behind i h.0) (is_declared_before own h.0) h.2) [
      | inl e ↦ member_left (refused h.0) (twice_among (i ∷ []) seen) (twice_among own seen) (twice_to (i ∷ []) seen h.0 h.1 (or_false (is_behind i h.0) ∙ e))
      | inr e ↦ member_right (refused h.0) (twice_among (i ∷ []) seen) (twice_among own seen) (twice_to own seen h.0 h.1 e)
    ]))
    (λ q m. elim (member_cases q (twice_among (i ∷ []) seen) (twice_among own seen) m) [
      | inl n ↦ let h = twice_from (i ∷ []) seen q n in
          subst (λ (r : Refusal). Member r (twice_among (i ∷ own) seen)) h.3
          (twice_to (i ∷ own) seen h.0 h.1 (or_left (is_behind i h.0) (is_declared_before own h.0) (sym (or_false (is_behind i h.0)) ∙ h.2)))
      | inr n ↦ let h = twice_from own seen q n in
          subst (λ (r : Refusal). Member r (twice_among (i ∷ own) seen)) h.3 (twice_to (i ∷ own) seen h.0 h.1 (or_right (is_behind i h.0) (is_declared_before own h.0) h.2))
    ])
    ∙ first_broken-append (twice_among (i ∷ []) seen) (twice_among own seen)

-- no own name, nothing twice
pub twice_of_none : (seen : List Ident) → twice_among [] seen ≡ []
twice_of_none [] = refl
twice_of_none (s ∷ seen) = twice_of_none seen

abbrev pub refusals : Option Ident → List Refusal
refusals None = []
refusals (Some s) = refused s ∷ []

none_of : (i : Ident) (seen : List Ident) (q : Refusal) → IsNext i seen None → Member q (twice_among (i ∷ []) seen) → ⊥
none_of i seen q next m =
    let h = twice_from (i ∷ []) seen q m in
    let e : is_behind i h.0 ≡ true = sym (or_false (is_behind i h.0)) ∙ h.2 in
    let f : is_behind i h.0 ≡ false = next h.0 (member_to h.0 seen h.1) in
    cc

no_members : (xs : List Refusal) → ((q : Refusal) → Member q xs → ⊥) → xs ≡ []
no_members [] h = refl
no_members (q ∷ xs) h = absurd (h q (inl refl))

-- the next of a name is what it has declared before
pub next_is_first : (i : Ident) (seen : List Ident) (o : Option Ident) → IsNext i seen o → first_broken (refusals o) ≡ first_broken (twice_among (i ∷ []) seen)
next_is_first i seen None next = sym (ap first_broken (no_members (twice_among (i ∷ []) seen) (λ q m. none_of i seen q next m)))
next_is_first i seen (Some s) next =
    sym (least_is_first Twice (twice_among (i ∷ []) seen) (all_twice (i ∷ []) seen) (refused s)
    (twice_to (i ∷ []) seen s (member_from s seen next.0) (or_false (is_behind i s) ∙ next.1))
    (λ q m. let h = twice_from (i ∷ []) seen q m in
    subst (λ (r : Refusal). is_before r.place s.place ≡ false) h.3 (next.2 h.0 (member_to h.0 seen h.1) (sym (or_false (is_behind i h.0)) ∙ h.2))))

pub later_more : {Y : Type 0} (named : Y → Ident) (ys : List Y) (seen : List Ident) (i : ℕ) (y : Y) (so_far all : Option Refusal) → i < length ys → y ≡ get_or ys i y →
    either so_far (first_broken (twice_among (map named (drop i ys)) seen)) ≡ all →
    either (either so_far (first_broken (twice_among (named y ∷ []) seen))) (first_broken (twice_among (map named (drop (i + 1) ys)) seen)) ≡ all
later_more named ys seen i y so_far all h at e =
    either-assoc so_far (first_broken (twice_among (named y ∷ []) seen)) (first_broken (twice_among (map named (drop (i + 1) ys)) seen))
    ∙ ap (either so_far) (sym (twice_first (named y) (map named (drop (i + 1) ys)) seen))
    ∙ ap (λ (z : List _). either so_far (first_broken (twice_among (map named z) seen))) (split_at ys i y h at)
    ∙ e

pub later_end : {Y : Type 0} (named : Y → Ident) (ys : List Y) (seen : List Ident) (i : ℕ) (so_far all : Option Refusal) → length ys ≤ i →
    either so_far (first_broken (twice_among (map named (drop i ys)) seen)) ≡ all → so_far ≡ all
later_end named ys seen i so_far all h e =
    sym (either-none so_far) ∙ ap (λ (z : List Refusal). either so_far (first_broken z)) (sym (twice_of_none seen))
    ∙ ap (λ (z : List _). either so_far (first_broken (twice_among (map named z) seen))) (sym (drop_all i ys h)) ∙ e
