-- The values of a trail, and its steps.
use Rattle.std.proofs.Common.{◌≡◌, ◌≢◌, inl, inr, ℕ, ◌+◌, ◌<◌, Bool, false, not, cond, List, [], ◌∷◌, length, get_or, set, map, reverse, Option, Some, None, refl, sym, ap, ◌∙◌, arith, All, Contains}
use Rattle.std.specs.Option.{MatchOption, is_some, unwrap_or}
use Rattle.std.specs.Bool.{⊤}
use Rattle.std.proofs.lemmas.List.{get_or-set_same, get_or-set_other, get_or_past, get_or-map, reverse-reverse}
use Rattle.std.proofs.lemmas.List.Elements.{All-contains}
use Rattle.std.proofs.lemmas.List.Sums.{sum_by-set}
use Rattle.std.proofs.lemmas.Bool.{cases_eq, cases_lt}
use Rattle.ag_query.specs.declared.clauses.Lit.{Lit}
use Rattle.ag_query.specs.Meaning.{contrary}
use Rattle.ag_tree.specs.declared.trail.Step.{Step}
use Rattle.ag_tree.specs.Facts.{HasNoneBothWays}
use Rattle.ag_tree.specs.Trail.{HasReason, literals, truth_in}
use Rattle.ag_tree.specs.Keeping.{AreFresh, unset}
use Rattle.ag_tree.proofs.Lits.{not_self, some_same, none_some, truth_here, truth_past, lacks_truth, contains_cases, contains_none, contains_all, contains_map, contains_reverse, map_reverse}

abbrev pub AreTied : List (Option Bool) → List Step → Type 0
AreTied values steps = (a : ℕ) → get_or values a None ≡ truth_in (literals steps) a

pub push_tied : (values : List (Option Bool)) (steps : List Step) (s : Step) → AreTied values steps → s.lit.atom < length values → AreTied (set values s.lit.atom (Some s.lit.holds)) (s ∷ steps)
push_tied values steps s tied lt a =
    let new : List (Option Bool) = set values s.lit.atom (Some s.lit.holds) in
    elim (cases_eq a s.lit.atom) [
      | inl same ↦
          ap (λ (n : ℕ). get_or new n None) same
          ∙ get_or-set_same values s.lit.atom (Some s.lit.holds) None lt
          ∙ sym (truth_here s.lit (literals steps) a same)
      | inr ne ↦ get_or-set_other values s.lit.atom a (Some s.lit.holds) None ne ∙ tied a ∙ sym (truth_past s.lit (literals steps) a ne)
    ]

pub pop_tied : (values : List (Option Bool)) (rest : List Step) (s : Step) → AreTied values (s ∷ rest) → AreFresh (s ∷ rest) → s.lit.atom < length values → AreTied (set values s.lit.atom None) rest
pop_tied values rest s tied fresh lt a =
    let new : List (Option Bool) = set values s.lit.atom None in
    elim (cases_eq a s.lit.atom) [
      | inl same ↦
          ap (λ (n : ℕ). get_or new n None) same
          ∙ get_or-set_same values s.lit.atom None None lt
          ∙ sym (lacks_truth (literals rest) s.lit.atom fresh.0)
          ∙ ap (truth_in (literals rest)) (sym same)
      | inr ne ↦ get_or-set_other values s.lit.atom a None None ne ∙ tied a ∙ truth_past s.lit (literals rest) a ne
    ]

-- each literal of the steps is what they say of its atom
pub fresh_truth : (steps : List Step) → AreFresh steps → (l : Lit) → Contains (literals steps) l → truth_in (literals steps) l.atom ≡ Some l.holds
fresh_truth [] fresh l has = absurd (contains_none l has)
fresh_truth (s ∷ rest) fresh l has =
    elim (contains_cases s.lit l (literals rest) has) [
      | inl same ↦ truth_here s.lit (literals rest) l.atom (ap (λ (x : Lit). x.atom) (sym same)) ∙ ap (λ (x : Lit). Some x.holds) same
      | inr there ↦
          truth_past s.lit (literals rest) l.atom (λ (e : l.atom ≡ s.lit.atom). All-contains (λ (x : Lit). x.atom ≢ s.lit.atom) (literals rest) l fresh.0 there e)
          ∙ fresh_truth rest fresh.1 l there
    ]

pub fresh_plain : (steps : List Step) → AreFresh steps → HasNoneBothWays (literals steps)
fresh_plain steps fresh l here there =
    not_self l.holds (some_same l.holds (not l.holds) (sym (fresh_truth steps fresh l here) ∙ fresh_truth steps fresh (contrary l) there))

-- an atom with a truth is within the values
pub known_below : (values : List (Option Bool)) (steps : List Step) (a : ℕ) (b : Bool) → AreTied values steps → truth_in (literals steps) a ≡ Some b → a < length values
known_below values steps a b tied e =
    elim (cases_lt a (length values)) [
      | inl lt ↦ lt
      | inr past ↦ absurd (none_some (get_or values a None) b (get_or_past values a None past) (tied a ∙ e))
    ]

pub literals_below : (values : List (Option Bool)) (steps : List Step) → AreTied values steps → AreFresh steps → (l : Lit) → Contains (literals steps) l → l.atom < length values
literals_below values steps tied fresh l has = known_below values steps l.atom l.holds tied (fresh_truth steps fresh l has)

-- ---- how many atoms have no value

pub unset_push : (values : List (Option Bool)) (i : ℕ) (b : Bool) → i < length values → get_or values i None ≡ None → unset (set values i (Some b)) + 1 ≡ unset values
unset_push values i b lt e =
    let f : Option Bool → ℕ = λ v. cond (not (is_some v)) 1 0 in
    let s : unset (set values i (Some b)) + f (get_or values i None) ≡ unset values + 0 = sum_by-set f values i (Some b) None lt in
    let one : f (get_or values i None) ≡ 1 = ap f e in
    omega (arith, s, one)

pub unset_pop : (values : List (Option Bool)) (i : ℕ) (b : Bool) → i < length values → get_or values i None ≡ Some b → unset (set values i None) ≡ unset values + 1
unset_pop values i b lt e =
    let f : Option Bool → ℕ = λ v. cond (not (is_some v)) 1 0 in
    let s : unset (set values i None) + f (get_or values i None) ≡ unset values + 1 = sum_by-set f values i None None lt in
    let none : f (get_or values i None) ≡ 0 = ap f e in
    omega (arith, s, none)

flag_of : (o : Option Bool) (b : Bool) → o ≡ Some b → unwrap_or o false ≡ b
flag_of None b e = absurd (none_some None b refl e)
flag_of (Some a) b e = some_same a b e

-- the truths by atom are those of the steps
pub flags_said : (values : List (Option Bool)) (steps : List Step) → AreTied values steps → AreFresh steps → (flags : List Bool) → flags ≡ map (λ v. unwrap_or v false) values → All (λ l. get_or flags l.atom false ≡ l.holds) (literals steps)
flags_said values steps tied fresh flags is =
    contains_all (λ (l : Lit). get_or flags l.atom false ≡ l.holds) (literals steps) (λ l has.
    ap (λ (f : List Bool). get_or f l.atom false) is
    ∙ get_or-map (λ v. unwrap_or v false) values l.atom None false (literals_below values steps tied fresh l has)
    ∙ flag_of (get_or values l.atom None) l.holds (tied l.atom ∙ fresh_truth steps fresh l has))

-- the literals of the steps in order
pub in_order : (steps : List Step) → map (λ (s : Step). s.lit) steps ≡ reverse (literals (reverse steps))
in_order steps = sym (ap (reverse {A = Lit}) (map_reverse (λ (s : Step). s.lit) steps) ∙ reverse-reverse (map (λ (s : Step). s.lit) steps))

-- a literal of the steps is within the values
pub step_below : (values : List (Option Bool)) (steps : List Step) → AreTied values (reverse steps) → AreFresh (reverse steps) → (s : Step) → Contains steps s → s.lit.atom < length values
step_below values steps tied fresh s has =
    literals_below values (reverse steps) tied fresh s.lit (contains_map (λ (x : Step). x.lit) (reverse steps) s (contains_reverse s steps has))

pub step_below_back : (values : List (Option Bool)) (steps : List Step) → AreTied values steps → AreFresh steps → (s : Step) → Contains steps s → s.lit.atom < length values
step_below_back values steps tied fresh s has = literals_below values steps tied fresh s.lit (contains_map (λ (x : Step). x.lit) steps s has)

-- the line from which a step was drawn
pub reason_said : (steps : List Step) (s : Step) (reason : Option ℕ) → Contains steps s → s.reason ≡ reason → MatchOption reason ⊤ (HasReason steps)
reason_said steps s None has is = tt
reason_said steps s (Some n) has is = (s, has, is)
