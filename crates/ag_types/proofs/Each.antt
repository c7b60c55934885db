-- What several items break, one by one, and the names that equations have.
use Rattle.std.proofs.Common.{◌≡◌, ℕ, ◌+◌, ◌<◌, ◌≤◌, not, List, [], ◌∷◌, ◌++◌, length, drop, get_or, map, refl, inl, inr, ap, sym, ◌∙◌, add-one, drop-cons}
use Rattle.std.specs.Prelude.{Option, is_none}
use Rattle.std.specs.List.{flat_map, list_any}
use Rattle.std.proofs.lemmas.Bool.{cases_Bool}
use Rattle.std.proofs.lemmas.Grind.{flat_map-append}
use Rattle.std.proofs.lemmas.List.{drop_all}
use Rattle.ag_base.specs.declared.place.Refusal.{Refusal}
use Rattle.ag_terms.specs.Names.{same}
use Rattle.ag_terms.specs.declared.clauses.Equal.{Equal}
use Rattle.ag_symbols.specs.Indexed.{first_by}
use Rattle.ag_types.specs.Firsts.{either}
use Rattle.ag_types.specs.Places.{first_broken}
use Rattle.ag_types.proofs.Breaking.{either-none, either-assoc, first_broken-append}

-- one more item
pub items_more : {A : Type 0} (f : A → List Refusal) (xs : List A) (i : ℕ) (x : A) (so_far all : Option Refusal) → i < length xs → x ≡ get_or xs i x →
    either so_far (first_broken (flat_map f (drop i xs))) ≡ all → either (either so_far (first_broken (f x))) (first_broken (flat_map f (drop (i + 1) xs))) ≡ all
items_more {A} f xs i x so_far all h at e =
    either-assoc so_far (first_broken (f x)) (first_broken (flat_map f (drop (i + 1) xs)))
    ∙ ap (either so_far) (sym (first_broken-append (f x) (flat_map f (drop (i + 1) xs))))
    ∙ ap (λ (z : List A). either so_far (first_broken (flat_map f z))) (ap (λ (z : A). z ∷ drop (i + 1) xs) at ∙ rw add-one (sym (drop-cons xs i x h)))
    ∙ e

-- behind the last item
pub items_end : {A : Type 0} (f : A → List Refusal) (xs : List A) (i : ℕ) (so_far all : Option Refusal) → length xs ≤ i →
    either so_far (first_broken (flat_map f (drop i xs))) ≡ all → so_far ≡ all
items_end {A} f xs i so_far all h e =
    sym (either-none so_far) ∙ ap (λ (z : List A). either so_far (first_broken (flat_map f z))) (sym (drop_all i xs h)) ∙ e

-- what follows each other
pub two_lists : {A : Type 0} (f : A → List Refusal) (xs ys : List A) → either (first_broken (flat_map f xs)) (first_broken (flat_map f ys)) ≡ first_broken (flat_map f (xs ++ ys))
two_lists f xs ys = sym (ap first_broken (flat_map-append f xs ys) ∙ first_broken-append (flat_map f xs) (flat_map f ys))

pub three : (a b c : List Refusal) → either (first_broken a) (either (first_broken b) (first_broken c)) ≡ first_broken (a ++ (b ++ c))
three a b c = sym (first_broken-append a (b ++ c) ∙ ap (either (first_broken a)) (first_broken-append b c))

pub four : (a b c d : List Refusal) → either (first_broken a) (either (first_broken b) (either (first_broken c) (first_broken d))) ≡ first_broken (a ++ (b ++ (c ++ d)))
four a b c d = ap (either (first_broken a)) (three b c d) ∙ sym (first_broken-append a (b ++ (c ++ d)))

-- ---- names of equations

-- there is a first of a name where the name is among the keys
found_among : {X : Type 0} (key : X → List ℕ) (item : X → ℕ) (name : List ℕ) (xs : List X) → not (is_none (first_by key item name xs)) ≡ list_any (λ k. same k name) (map key xs)
found_among key item name [] = refl
found_among key item name (x ∷ xs) =
    elim (cases_Bool (same (key x) name)) [
      | inl h ↦ rw h refl
      | inr h ↦ rw h (found_among key item name xs)
    ]

any_named : (es : List Equal) (name : List ℕ) → list_any (λ k. same k name) (map (λ e. e.name.text) es) ≡ list_any (λ i. same i.text name) (map (λ e. e.name) es)
any_named [] name = refl
any_named (e ∷ es) name = rw (any_named es name) refl

-- equations are found by their names
pub named_any : {X : Type 0} (key : X → List ℕ) (item : X → ℕ) (slots : List X) (es : List Equal) → map key slots ≡ map (λ e. e.name.text) es →
    (name : List ℕ) → not (is_none (first_by key item name slots)) ≡ list_any (λ i. same i.text name) (map (λ e. e.name) es)
named_any key item slots es e name =
    found_among key item name slots ∙ ap (λ (keys : List (List ℕ)). list_any (λ k. same k name) keys) e ∙ any_named es name
