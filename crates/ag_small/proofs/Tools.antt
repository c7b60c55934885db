-- Steps of options and tests, and fronts of lists.
use Rattle.std.proofs.Common.{◌≡◌, ℕ, zero, suc, ◌+◌, ◌<◌, Bool, true, false, cond, eqb, List, [], ◌∷◌, ◌++◌, length, get_or, take, drop, Option, Some, None, refl, sym, ap, ◌∙◌, inl, inr, arith}
use Rattle.std.specs.List.{prefix_len, list_all, list_any}
use Rattle.std.proofs.lemmas.Bool.{cases_Bool, or_parts}
use Rattle.std.proofs.lemmas.List.{take_at}
use Rattle.std.proofs.lemmas.List.Folds.{prefix_len-append}
use Rattle.std.proofs.lemmas.List.Sums.{take_while-cons}
use Rattle.ag_small.specs.Characters.{begins}
use Rattle.ag_small.specs.Reading.{◌>>=◌}
use Rattle.ag_small.proofs.Bytes.{eqb-prefix_len}

-- the value of a step that did not fail
pub bind_some : {A B : Type 0} (o : Option A) (f : A → Option B) (y : B) → (o >>= f) ≡ Some y → (x : A) × (o ≡ Some x) × (f x ≡ Some y)
bind_some (Some x) f y e = (x, refl, e)
bind_some None f y e = absurd cc

pub guard_some : {A : Type 0} (b : Bool) (x y : A) → cond b (Some x) None ≡ Some y → (b ≡ true) × (x ≡ y)
guard_some true x y e = (refl, cc)
guard_some false x y e = absurd cc

pub guard_rest : {A : Type 0} (b : Bool) (o : Option A) (y : A) → cond b None o ≡ Some y → (b ≡ false) × (o ≡ Some y)
guard_rest true o y e = absurd cc
guard_rest false o y e = (refl, e)

abbrev done : {A : Type 0} → A → Option A
done x = Some x

pub some_is : {A : Type 0} (x y : A) → done x ≡ done y → x ≡ y
some_is x y e = cc

pub none_from : {A : Type 0} (o : Option A) → ((x : A) → o ≡ Some x → ⊥) → o ≡ None
none_from (Some x) h = absurd (h x refl)
none_from None h = refl

-- a front that passes, and a rest that begins with what fails
pub prefix_len-front : (p : ℕ → Bool) (front rest : List ℕ) → list_all p front ≡ true → begins p rest ≡ false → prefix_len p (front ++ rest) ≡ length front
prefix_len-front p front rest passes fails =
    let none : prefix_len p rest ≡ 0 = prefix_len_none p rest fails in
    let whole : eqb (prefix_len p front) (length front) ≡ true = eqb-prefix_len p front ∙ passes in
    rw (prefix_len-append p front rest, whole, none) (omega arith)
  where
    prefix_len_none : (p : ℕ → Bool) (xs : List ℕ) → begins p xs ≡ false → prefix_len p xs ≡ 0
    prefix_len_none p [] h = refl
    prefix_len_none p (x ∷ xs) h = rw h refl

pub list_all-take : (p : ℕ → Bool) (xs : List ℕ) → list_all p (take (prefix_len p xs) xs) ≡ true
list_all-take p [] = refl
list_all-take p (x ∷ xs) =
    elim (cases_Bool (p x)) [
      | inl passes ↦ rw (take_while-cons p x xs, passes) (rw passes (list_all-take p xs))
      | inr fails ↦ rw (take_while-cons p x xs, fails) refl
    ]

pub begins-drop : (p : ℕ → Bool) (xs : List ℕ) → begins p (drop (prefix_len p xs) xs) ≡ false
begins-drop p [] = refl
begins-drop p (x ∷ xs) =
    elim (cases_Bool (p x)) [
      | inl passes ↦ let e : 1 + prefix_len p xs ≡ suc (prefix_len p xs) = omega arith in rw (passes, e) (begins-drop p xs)
      | inr fails ↦ rw fails fails
    ]

-- two fronts that pass, before rests that begin with what fails
pub same_front : (p : ℕ → Bool) (a x b y : List ℕ) → a ++ x ≡ b ++ y → list_all p a ≡ true → list_all p b ≡ true → begins p x ≡ false → begins p y ≡ false → a ≡ b
same_front p a x b y e pa pb fx fy =
    let la = prefix_len-front p a x pa fx in
    let lb = prefix_len-front p b y pb fy in
    let len : length a ≡ length b = sym la ∙ ap (prefix_len p) e ∙ lb in
    sym (take_at a x (length a) refl) ∙ ap (take (length a)) e ∙ rw len (take_at b y (length b) refl)

pub list_any_false : {A : Type 0} (p : A → Bool) (xs : List A) (i : ℕ) (d : A) → list_any p xs ≡ false → i < length xs → p (get_or xs i d) ≡ false
list_any_false p [] i d h lt = absurd (omega arith)
list_any_false p (x ∷ xs) zero d h lt = (or_parts (p x) (list_any p xs) h).0
list_any_false p (x ∷ xs) (suc i) d h lt = list_any_false p xs i d (or_parts (p x) (list_any p xs) h).1 (omega arith)
