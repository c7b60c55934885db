-- Walks over literals.
use Rattle.std.proofs.Common.{◌≡◌, ℕ, ◌+◌, ◌<◌, length, drop, get_or, Bool, true, false, not, cond, ◌||◌, List, [], ◌∷◌, ◌++◌, Option, Some, None, map, refl, sym, ap, subst, ◌∙◌, All}
use Rattle.std.specs.Prelude.{if◌then◌else◌}
use Rattle.std.specs.List.{list_all, list_any}
use Rattle.std.proofs.lemmas.List.Elements.{All-head, All-filter}
use Rattle.std.proofs.lemmas.List.{drop_more}
use Rattle.ag_query.specs.Meaning.{contrary}
use Rattle.ag_query.specs.declared.clauses.Lit.{Lit}
use Rattle.ag_kernel.specs.declared.units.Left.{Left}
use Rattle.ag_kernel.specs.declared.units.Left.TheVariants.{Nothing, One, More}
use Rattle.ag_kernel.specs.Sets.{same, has, with_literal, joined}
use Rattle.ag_kernel.specs.Units.{left_of, drawn, is_conflict, conflict_along, comes_to_conflict}
use Rattle.ag_kernel.proofs.SetLemmas.{any_with, any_joined, any_agree}
use Rattle.ag_kernel.specs.Steps.{left_as}

-- what is left, where one literal or none has been seen so far
abbrev pub left_after : Option Lit → List Lit → Left
left_after None ls = left_as ls
left_after (Some l) ls = if list_all (same l) ls then One l else More

-- two lists that have the same literals come to a conflict alike
pub conflict_agree : (a b : List Lit) → ((l : Lit) → has a l ≡ has b l) → (lines : List (List Lit)) → conflict_along a lines ≡ conflict_along b lines
conflict_agree a b h [] = refl
conflict_agree a b h (line ∷ lines) =
    let e : left_of a line ≡ left_of b line = left_agree line in
    rw e (ap (λ t. is_conflict (left_of b line) || t) (conflict_agree (drawn (left_of b line) ++ a) (drawn (left_of b line) ++ b) (more (drawn (left_of b line))) lines))
  where
    left_agree : (ls : List Lit) → left_of a ls ≡ left_of b ls
    left_agree [] = refl
    left_agree (l ∷ ls) = rw (h (contrary l), left_agree ls) refl

    more : (ds : List Lit) (l : Lit) → has (ds ++ a) l ≡ has (ds ++ b) l
    more [] l = h l
    more (d ∷ ds) l = ap (λ t. same l d || t) (more ds l)

one_is : (l m : Lit) (b : Bool) → One l ≡ cond b (One m) More → (b ≡ true) × (l ≡ m)
one_is l m true e = (refl, cc)
one_is l m false e = absurd (apart l e)
  where
    apart : (l : Lit) → One l ≡ More → ⊥
    apart l e = cc

one_step : (xs list : List Lit) (lines : List (List Lit)) (l : Lit) → One l ≡ left_as xs → conflict_along (with_literal list l) lines ≡ is_conflict xs || conflict_along (drawn xs ++ list) lines
one_step [] list lines l e = absurd (apart l e)
  where
    apart : (l : Lit) → One l ≡ Nothing → ⊥
    apart l e = cc
one_step (m ∷ ms) list lines l e =
    let p = one_is l m (list_all (same m) ms) e in
    rw p.0 (conflict_agree (with_literal list l) (m ∷ list) (λ x. any_with (same x) list l ∙ ap (λ (y : Lit). same x y || has list x) p.1) lines)

-- a step along a line of which one literal is left
pub step_one : (list line : List Lit) (lines : List (List Lit)) (l : Lit) → One l ≡ left_as (left_of list line) → conflict_along (with_literal list l) lines ≡ conflict_along list (line ∷ lines)
step_one list line lines l e = one_step (left_of list line) list lines l e

more_step : (xs list : List Lit) (lines : List (List Lit)) → More ≡ left_as xs → conflict_along list lines ≡ is_conflict xs || conflict_along (drawn xs ++ list) lines
more_step [] list lines e = absurd (apart e)
  where
    apart : More ≡ Nothing → ⊥
    apart e = cc
more_step (m ∷ ms) list lines e = by (list_all (same m) ms) e
  where
    apart : More ≡ One m → ⊥
    apart e = cc

    by : (b : Bool) → More ≡ cond b (One m) More → conflict_along list lines ≡ conflict_along (cond b (m ∷ []) [] ++ list) lines
    by true e = absurd (apart e)
    by false e = refl

-- a step along a line of which several are left
pub step_more : (list line : List Lit) (lines : List (List Lit)) → More ≡ left_as (left_of list line) → conflict_along list lines ≡ conflict_along list (line ∷ lines)
step_more list line lines e = more_step (left_of list line) list lines e

one_of : (P : Lit → Type 0) (xs : List Lit) (l : Lit) → All P xs → One l ≡ left_as xs → P l
one_of P [] l h e = absurd (apart l e)
  where
    apart : (l : Lit) → One l ≡ Nothing → ⊥
    apart l e = cc
one_of P (m ∷ ms) l h e = subst P (sym (one_is l m (list_all (same m) ms) e).1) (All-head P m ms h)

-- the literal that is left is one of the line
pub left_in : (P : Lit → Type 0) (list line : List Lit) (l : Lit) → All P line → One l ≡ left_as (left_of list line) → P l
left_in P list line l h e = one_of P (left_of list line) l (All-filter (λ m. not (has list (contrary m))) P line h) e

-- the list as the code begins it
pub begun : (clause : List Lit) (lines : List (List Lit)) → list_any (has (joined [] (map contrary clause))) clause || conflict_along (joined [] (map contrary clause)) lines ≡ comes_to_conflict clause lines
begun clause lines =
    let cs : List Lit = map contrary clause in
    let h : (l : Lit) → has (joined [] cs) l ≡ has cs l = λ l. any_joined (same l) [] cs in
    rw (any_agree (has (joined [] cs)) (has cs) h clause, conflict_agree (joined [] cs) cs h lines) refl

-- one line further along the named lines
next_line : (f : ℕ → List Lit) (named : List ℕ) (i : ℕ) → i < length named → (list line : List Lit) (whole : Bool) → line ≡ f (get_or named i 0) → conflict_along list (map f (drop i named)) ≡ whole → conflict_along list (line ∷ map f (drop (i + 1) named)) ≡ whole
next_line f named i lt list line whole is so =
    ap (λ (x : List Lit). conflict_along list (x ∷ map f (drop (i + 1) named))) is
    ∙ sym (ap (λ (xs : List ℕ). conflict_along list (map f xs)) (drop_more named i 0 lt))
    ∙ so

pub walk_one : (f : ℕ → List Lit) (named : List ℕ) (i : ℕ) → i < length named → (list line : List Lit) (whole : Bool) (l : Lit) → line ≡ f (get_or named i 0) → conflict_along list (map f (drop i named)) ≡ whole → One l ≡ left_as (left_of list line) → conflict_along (with_literal list l) (map f (drop (i + 1) named)) ≡ whole
walk_one f named i lt list line whole l is so e = step_one list line (map f (drop (i + 1) named)) l e ∙ next_line f named i lt list line whole is so

pub walk_more : (f : ℕ → List Lit) (named : List ℕ) (i : ℕ) → i < length named → (list line : List Lit) (whole : Bool) → line ≡ f (get_or named i 0) → conflict_along list (map f (drop i named)) ≡ whole → More ≡ left_as (left_of list line) → conflict_along list (map f (drop (i + 1) named)) ≡ whole
walk_more f named i lt list line whole is so e = step_more list line (map f (drop (i + 1) named)) e ∙ next_line f named i lt list line whole is so

pub begun_true : (lits clause : List Lit) (lines : List (List Lit)) → lits ≡ joined [] (map contrary clause) → true ≡ list_any (has lits) clause → true ≡ comes_to_conflict clause lines
begun_true lits clause lines is e =
    let h : list_any (has (joined [] (map contrary clause))) clause ≡ true = ap (λ (x : List Lit). list_any (has x) clause) (sym is) ∙ sym e in
    let g = begun clause lines in
    subst (λ (t : Bool). t || conflict_along (joined [] (map contrary clause)) lines ≡ comes_to_conflict clause lines) h g

pub begun_false : (lits clause : List Lit) (lines : List (List Lit)) → lits ≡ joined [] (map contrary clause) → false ≡ list_any (has lits) clause → conflict_along lits lines ≡ comes_to_conflict clause lines
begun_false lits clause lines is e =
    let h : list_any (has (joined [] (map contrary clause))) clause ≡ false = ap (λ (x : List Lit). list_any (has x) clause) (sym is) ∙ sym e in
    ap (λ (x : List Lit). conflict_along x lines) is ∙ subst (λ (t : Bool). t || conflict_along (joined [] (map contrary clause)) lines ≡ comes_to_conflict clause lines) h (begun clause lines)
