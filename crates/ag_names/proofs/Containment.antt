-- An implementation is inside itself exactly where its number leads back to itself in the graph of numbers.
use Rattle.std.proofs.Common.{◌≡◌, ◌⊎◌, ℕ, Bool, zero, suc, ◌+◌, ◌-◌, ◌<◌, List, [], ◌∷◌, ◌++◌, length, take, get_or, map, Option, Some, None, refl, inl, inr, ap, sym, subst, ◌∙◌, arith, append-nil, length-append, nat_lt}
use Rattle.std.specs.Prelude.{Contains, slice_get, slice_index_or, slice_set, option_and_then, position}
use Rattle.std.specs.List.{All, cons_option, filter_map, position_or_len}
use Rattle.std.proofs.lemmas.Bool.Decides.{nat_tests}
use Rattle.std.proofs.lemmas.List.{length-map, take_more}
use Rattle.std.proofs.lemmas.List.Elements.{All-cons, All-map, filter_map-append}
use Rattle.std.proofs.lemmas.Option.{cond_some, option_and_then_some, same_Some, slice_get-get_or, slice_get_within}
use Rattle.ag_graph.specs.Circles.{AreCircles, IsGraph, Leads, Reaches, at_once, through}
use Rattle.ag_aadl.specs.declared.packages.Package.{Package}
use Rattle.ag_aadl.specs.declared.packages.Sub.{Sub}
use Rattle.ag_terms.specs.declared.names.Ident.{Ident}
use Rattle.ag_terms.specs.declared.names.Path.{Path}
use Rattle.ag_aadl.specs.declared.packages.Category.{Category}
use Rattle.ag_names.specs.Containing as inside
use Rattle.ag_names.specs.Containing.{IsInside}
use Rattle.ag_names.specs.Found.{TypeName, implementation_by, implementation_of, is_implementation, named_type}
use Rattle.ag_names.specs.Graph.{AreRecursive, graph_of, number_as, number_by, targets_of, with_target}
use Rattle.ag_names.specs.Placed.{Implementation, implementations}
use Rattle.ag_names.proofs.Distinct.{one_position}
use Rattle.ag_names.proofs.Lookups.{numbered}

-- ---- edges of the last vertex

set_last : (g : List (List ℕ)) (xs ys : List ℕ) → slice_set (g ++ xs ∷ []) (length g) ys ≡ g ++ ys ∷ []
set_last [] xs ys = refl
set_last (x ∷ g) xs ys = ap (λ (z : List (List ℕ)). x ∷ z) (set_last g xs ys)

get_last : (g : List (List ℕ)) (xs : List ℕ) → get_or (g ++ xs ∷ []) (length g) [] ≡ xs
get_last [] xs = refl
get_last (x ∷ g) xs = get_last g xs

last : (g : List (List ℕ)) (xs : List ℕ) → length (g ++ xs ∷ []) - 1 ≡ length g
last g xs = omega (arith, length-append g (xs ∷ []))

target_last : (g : List (List ℕ)) (xs : List ℕ) (o : Option ℕ) → with_target (g ++ xs ∷ []) o ≡ g ++ (xs ++ cons_option o []) ∷ []
target_last g xs None = ap (λ (z : List ℕ). g ++ z ∷ []) (sym (append-nil xs))
target_last g xs (Some n) =
    rw (last g xs, get_last g xs) (set_last g xs (xs ++ n ∷ []))

pub targets_more : (f : Sub → Option ℕ) (g : List (List ℕ)) (xs : List Sub) (i : ℕ) (x : Sub) → i < length xs → x ≡ get_or xs i x
    → with_target (g ++ filter_map f (take i xs) ∷ []) (f x) ≡ g ++ filter_map f (take (i + 1) xs) ∷ []
targets_more f g xs i x h e =
    target_last g (filter_map f (take i xs)) (f x)
    ∙ ap (λ (z : List ℕ). g ++ z ∷ []) (sym (ap (filter_map f) (take_more xs i x h ∙ ap (λ (z : Sub). take i xs ++ z ∷ []) (sym e)) ∙ filter_map-append f (take i xs) (x ∷ [])))

pub some_vertex : (g : List (List ℕ)) (xs : List ℕ) → 0 < length (g ++ xs ∷ [])
some_vertex g xs = omega (arith, length-append g (xs ∷ []))

-- ---- the targets are numbers of implementations

position_within : {X : Type 0} (test : X → _) (xs : List X) (n : ℕ) → position test xs ≡ Some n → n < length xs
position_within test xs n e =
    let h = cond_some (nat_lt (position_or_len test xs) (length xs)) (position_or_len test xs) n e in
    let l : position_or_len test xs < length xs = grind (arith, nat_tests) in
    subst (λ m. m < length xs) h.1 l

module _ (all : List Package) where
  as_within : (n : TypeName) (name : Option Ident) (k : ℕ) → number_as all n name ≡ Some k → k < length (implementations all)
  as_within n None k e = cc
  as_within n (Some name) k e = position_within (is_implementation n name.text) (implementations all) k e

  by_within : (p : Package) (category : Category) (path : Option Path) (k : ℕ) → number_by all p category path ≡ Some k → k < length (implementations all)
  by_within p category None k e = cc
  by_within p category (Some path) k e = as_within (named_type p category path) path.body k e

  with_option : (bound : ℕ) (o : Option ℕ) (ws : List ℕ) → ((k : ℕ) → o ≡ Some k → k < bound) → All (λ w. w < bound) ws → All (λ w. w < bound) (cons_option o ws)
  with_option bound None ws h rest = rest
  with_option bound (Some k) ws h rest = All-cons (λ w. w < bound) k ws (h k refl) rest

  some_targets : (f : Sub → Option ℕ) (bound : ℕ) → ((s : Sub) (k : ℕ) → f s ≡ Some k → k < bound) → (xs : List Sub) → All (λ w. w < bound) (filter_map f xs)
  some_targets f bound h [] = λ k d l. absurd (omega arith)
  some_targets f bound h (x ∷ xs) = with_option bound (f x) (filter_map f xs) (h x) (some_targets f bound h xs)

  count : length (graph_of all) ≡ length (implementations all)
  count = length-map (implementations all) (targets_of all)

  pub graph_within : IsGraph (graph_of all)
  graph_within =
      All-map (λ (targets : List ℕ). All (λ w. w < length (graph_of all)) targets) (targets_of all) (implementations all)
      (λ k d l. some_targets (λ s. number_by all (get_or (implementations all) k d).owner s.category s.of) (length (graph_of all))
      (λ s n e. subst (λ m. n < m) (sym count) (by_within (get_or (implementations all) k d).owner s.category s.of n e))
      (get_or (implementations all) k d).body.subs)

-- ---- elements

Contains-first : {X : Type 0} (x : X) (xs : List X) → Contains (x ∷ xs) x
Contains-first x xs = (0, omega arith, refl)

Contains-further : {X : Type 0} (x : X) (xs : List X) (y : X) → Contains xs y → Contains (x ∷ xs) y
Contains-further x xs y m = (suc m.0, omega (arith, m.1), m.2)

Contains-parts : {X : Type 0} (x : X) (xs : List X) (y : X) → Contains (x ∷ xs) y → (x ≡ y) ⊎ Contains xs y
Contains-parts x xs y m = by_place m.0 m.1 m.2
  where
    by_place : (k : ℕ) → k < length (x ∷ xs) → get_or (x ∷ xs) k y ≡ y → (x ≡ y) ⊎ Contains xs y
    by_place zero l e = inl e
    by_place (suc k) l e = inr (k, omega (arith, l), e)

-- ---- targets and subcomponents

-- what a list without some elements has
picked : (f : Sub → Option ℕ) (xs : List Sub) (w : ℕ) → Contains (filter_map f xs) w → (s : Sub) × Contains xs s × (f s ≡ Some w)
picked f [] w m = absurd (omega (arith, m.1))
picked f (x ∷ xs) w m = by_first (f x) refl m (picked f xs w)
  where
    further : ((s : Sub) × Contains xs s × (f s ≡ Some w)) → (s : Sub) × Contains (x ∷ xs) s × (f s ≡ Some w)
    further t = (t.0, Contains-further x xs t.0 t.1, t.2)

    by_first : (o : Option ℕ) → f x ≡ o → Contains (cons_option o (filter_map f xs)) w → (Contains (filter_map f xs) w → (s : Sub) × Contains xs s × (f s ≡ Some w)) → (s : Sub) × Contains (x ∷ xs) s × (f s ≡ Some w)
    by_first None e n rest = further (rest n)
    by_first (Some k) e n rest =
        elim (Contains-parts k (filter_map f xs) w n) [
          | inl is ↦ (x, Contains-first x xs, e ∙ ap Some is)
          | inr n ↦ further (rest n)
        ]

pick : (f : Sub → Option ℕ) (xs : List Sub) (s : Sub) (w : ℕ) → Contains xs s → f s ≡ Some w → Contains (filter_map f xs) w
pick f [] s w m e = absurd (omega (arith, m.1))
pick f (x ∷ xs) s w m e =
    elim (Contains-parts x xs s m) [
      | inl is ↦ subst (λ (o : Option ℕ). Contains (cons_option o (filter_map f xs)) w) (sym e ∙ ap f (sym is)) (Contains-first w (filter_map f xs))
      | inr n ↦ behind (f x) (filter_map f xs) w (pick f xs s w n e)
    ]
  where
    behind : (o : Option ℕ) (ws : List ℕ) (w : ℕ) → Contains ws w → Contains (cons_option o ws) w
    behind None ws w n = n
    behind (Some k) ws w n = Contains-further k ws w n

module _ (all : List Package) where
  by_number : (p : Package) (s : Sub) → option_and_then (slice_get (implementations all)) (number_by all p s.category s.of) ≡ implementation_of all p s
  by_number p s = by_path s.of
    where
      by_path : (path : Option Path) → option_and_then (slice_get (implementations all)) (number_by all p s.category path) ≡ implementation_by all p s.category path
      by_path None = refl
      by_path (Some path) = numbered all (named_type p s.category path) path.body

  -- the targets of a vertex are those of its implementation
  targets_at : (v : ℕ) (i : Implementation) → slice_get (implementations all) v ≡ Some i → slice_index_or (graph_of all) v [] ≡ targets_of all i
  targets_at v i e = mapped (implementations all) v e
    where
      mapped : (xs : List Implementation) (v : ℕ) → slice_get xs v ≡ Some i → get_or (map (targets_of all) xs) v [] ≡ targets_of all i
      mapped [] v e = cc
      mapped (x ∷ xs) zero e = ap (targets_of all) (same_Some x i e)
      mapped (x ∷ xs) (suc v) e = mapped xs v e

  lead : (v w : ℕ) (i : Implementation) → slice_get (implementations all) v ≡ Some i → Leads (graph_of all) v w
      → (j : Implementation) × (slice_get (implementations all) w ≡ Some j) × IsInside all j i
  lead v w i e leads =
      let found = picked (λ s. number_by all i.owner s.category s.of) i.body.subs w (subst (λ (ws : List ℕ). Contains ws w) (targets_at v i e) leads) in
      let within : w < length (implementations all) = by_within all i.owner found.0.category found.0.of w found.2 in
      let j : Implementation = get_or (implementations all) w i in
      let there : slice_get (implementations all) w ≡ Some j = slice_get-get_or (implementations all) w i within in (
        j,
        there,
        inside.at_once j i found.0 found.1
            (sym (by_number i.owner found.0) ∙ ap (λ (o : Option ℕ). option_and_then (slice_get (implementations all)) o) found.2 ∙ there),
      )

  from_reaches : (v w : ℕ) → Reaches (graph_of all) v w → (i : Implementation) → slice_get (implementations all) v ≡ Some i
      → (j : Implementation) × (slice_get (implementations all) w ≡ Some j) × IsInside all j i
  from_reaches v w (at_once _ _ leads) i e = lead v w i e leads
  from_reaches v w (through _ x _ leads reaches) i e =
      let first = lead v x i e leads in
      let rest = from_reaches x w reaches first.0 first.1 in
      (rest.0, rest.1, inside.through rest.0 first.0 i rest.2 first.2)

  reaches_on : (v w x : ℕ) → Reaches (graph_of all) v w → Reaches (graph_of all) w x → Reaches (graph_of all) v x
  reaches_on v w x (at_once _ _ leads) more = through v w x leads more
  reaches_on v w x (through _ y _ leads rest) more = through v y x leads (reaches_on y w x rest more)

  from_inside : (j i : Implementation) → IsInside all j i → (v : ℕ) → slice_get (implementations all) v ≡ Some i
      → (w : ℕ) × (slice_get (implementations all) w ≡ Some j) × Reaches (graph_of all) v w
  from_inside j i (inside.at_once _ _ s m is) v e =
      option_and_then_some (slice_get (implementations all)) (number_by all i.owner s.category s.of) j (by_number i.owner s ∙ is)
      (λ w number there.
      (w, there, at_once v w (subst (λ (ws : List ℕ). Contains ws w) (sym (targets_at v i e)) (pick (λ t. number_by all i.owner t.category t.of) i.body.subs s w m number))))
  from_inside k i (inside.through _ j _ deep near) v e =
      let first = from_inside j i near v e in
      let rest = from_inside k j deep first.0 first.1 in
      (rest.0, rest.1, reaches_on v first.0 rest.0 first.2 rest.2)

  pub on_circle : (v : ℕ) (i : Implementation) → slice_get (implementations all) v ≡ Some i → Reaches (graph_of all) v v → IsInside all i i
  on_circle v i e reaches =
      let found = from_reaches v v reaches i e in
      subst (λ (j : Implementation). IsInside all j i) (same_Some found.0 i (sym found.1 ∙ e)) found.2

  pub round : (v : ℕ) (i : Implementation) → slice_get (implementations all) v ≡ Some i → IsInside all i i → Reaches (graph_of all) v v
  round v i e h =
      let found = from_inside i i h v e in
      subst (λ w. Reaches (graph_of all) v w) (one_position all found.0 v i found.1 e) found.2

  -- what is told of the graph's vertices is told of the implementations
  pub told_of_all : (g : List (List ℕ)) (flags : List Bool) (order : List ℕ) → g ≡ graph_of all → AreCircles g flags order → AreRecursive all flags
  told_of_all g flags order e told = record {
    long = told.long ∙ ap (λ (z : List (List ℕ)). length z) e ∙ count all;
    right = λ n i at.
        let within : n < length g = subst (λ m. n < m) (sym (ap (λ (z : List (List ℕ)). length z) e ∙ count all)) (slice_get_within (implementations all) n i at) in
        let both = told.circles n within in
        (λ t. on_circle n i at (subst (λ (z : List (List ℕ)). Reaches z n n) e (both.0 t)), λ m. both.1 (subst (λ (z : List (List ℕ)). Reaches z n n) (sym e) (round n i at m)));
  }
