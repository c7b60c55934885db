-- The first name on a circle.
use Rattle.std.proofs.Common.{◌≡◌, ℕ, zero, suc, ◌+◌, ◌<◌, Bool, true, false, List, [], ◌∷◌, ◌++◌, length, drop, get_or, map, refl, inl, inr, ap, sym, ◌∙◌, arith, append_assoc, length-append}
use Rattle.std.specs.Prelude.{Option, Some, Contains, slice_get, slice_index_or}
use Rattle.std.specs.List.{flat_map}
use Rattle.std.specs.Option.{option_map}
use Rattle.std.proofs.Math.Path.{subst}
use Rattle.std.proofs.lemmas.Bool.{false≢true}
use Rattle.std.proofs.lemmas.Grind.{flat_map-append}
use Rattle.std.proofs.lemmas.List.{length-map, map-append}
use Rattle.std.proofs.lemmas.List.Elements.{Contains-append_left, Contains-append_right, Contains-append_cases}
use Rattle.std.proofs.lemmas.Option.{slice_get-map, slice_get_within}
use Rattle.ag_base.specs.declared.place.Place.{Place}
use Rattle.ag_base.specs.declared.place.Refusal.{Refusal}
use Rattle.ag_base.specs.declared.place.Rule.TheVariants.{NodeRecursion}
use Rattle.ag_terms.specs.declared.names.Ident.{Ident}
use Rattle.ag_terms.specs.declared.clauses.Clause.{Clause}
use Rattle.ag_terms.specs.declared.clauses.Clause.TheVariants as clause
use Rattle.ag_graph.specs.Circles.{AreCircles}
use Rattle.ag_symbols.specs.Seen.{Seen, Names, clauses_seen, nodes_in, library_names, frame_names, names_seen, over_sites}
use Rattle.ag_types.specs.Answers.{IsFirst}
use Rattle.ag_types.specs.Firsts.{either}
use Rattle.ag_types.specs.Places.{first_broken}
use Rattle.ag_types.specs.Uses.{Declared, constants_of, of_constant, of_node, declared_of, used_by, uses_of, circular, circular_from, IsCircular}
use Rattle.ag_types.proofs.Answering.{first_in, first_of_same}
use Rattle.ag_types.proofs.Breaking.{either-assoc, first_broken-append}
use Rattle.ag_types.proofs.Using.{item_first}

-- ---- one by one

pub circular_more : {A : Type 0} (flags : List Bool) (name_of : A → Ident) (xs : List A) (i at next : ℕ) (x : A) (so_far one all : Option Refusal) → i < length xs → x ≡ get_or xs i x → at + 1 ≡ next →
    one ≡ first_broken (circular (slice_index_or flags at false) (name_of x).place) →
    either so_far (first_broken (circular_from flags at (map name_of (drop i xs)))) ≡ all →
    either (either so_far one) (first_broken (circular_from flags next (map name_of (drop (i + 1) xs)))) ≡ all
circular_more {A} flags name_of xs i at next x so_far one all h here after is e =
    either-assoc so_far one (first_broken (circular_from flags next (map name_of (drop (i + 1) xs))))
    ∙ ap (λ (z : Option Refusal). either so_far (either z (first_broken (circular_from flags next (map name_of (drop (i + 1) xs)))))) is
    ∙ ap (λ (z : ℕ). either so_far (either (first_broken (circular (slice_index_or flags at false) (name_of x).place)) (first_broken (circular_from flags z (map name_of (drop (i + 1) xs)))))) (sym after)
    ∙ ap (either so_far) (sym (first_broken-append (circular (slice_index_or flags at false) (name_of x).place) (circular_from flags (at + 1) (map name_of (drop (i + 1) xs)))))
    ∙ ap (λ (z : List A). either so_far (first_broken (circular_from flags at (map name_of z)))) (sym (item_first xs i x h here))
    ∙ e

circular-append : (flags : List Bool) (at n : ℕ) (heads tails : List Ident) → at + length heads ≡ n → circular_from flags at (heads ++ tails) ≡ circular_from flags at heads ++ circular_from flags n tails
circular-append flags at n [] tails e = ap (λ (z : ℕ). circular_from flags z tails) (let f : at ≡ n = omega arith in f)
circular-append flags at n (a ∷ heads) tails e =
    ap (λ (z : List Refusal). circular (slice_index_or flags at false) a.place ++ z) (circular-append flags (at + 1) n heads tails (omega arith))
    ∙ sym (append_assoc (circular (slice_index_or flags at false) a.place) (circular_from flags (at + 1) heads) (circular_from flags n tails))

-- ---- what is answered

abbrev at_name : Ident → Refusal
at_name name = record { place = name.place; rule = NodeRecursion }

abbrev Stands : List Bool → ℕ → List Ident → Refusal → Type 0
Stands flags at names q = (i : ℕ) × (k : ℕ) × (name : Ident) × (k ≡ at + i) × (slice_get names i ≡ Some name) × (slice_index_or flags k false ≡ true) × (q ≡ at_name name)

circular_one : (b : Bool) (place : Place) (q : Refusal) → Contains (circular b place) q → (b ≡ true) × (q ≡ record { place = place; rule = NodeRecursion })
circular_one true place q (zero, h, e) = (refl, sym e)
circular_one true place q (suc k, h, e) = absurd (omega (arith, h))
circular_one false place q h = absurd (omega (arith, h.1))

stands_behind : (flags : List Bool) (at : ℕ) (a : Ident) (names : List Ident) (q : Refusal) → Stands flags (at + 1) names q → Stands flags at (a ∷ names) q
stands_behind flags at a names q h = (suc h.0, h.1, h.2, (let e : h.1 ≡ at + 1 + h.0 = h.3 in omega arith), h.4, h.5, h.6)

there : (flags : List Bool) (at : ℕ) (names : List Ident) (q : Refusal) → Contains (circular_from flags at names) q → Stands flags at names q
there flags at [] q h = absurd (omega (arith, h.1))
there flags at (a ∷ names) q h =
    elim (Contains-append_cases (circular (slice_index_or flags at false) a.place) (circular_from flags (at + 1) names) q h) [
      | inl l ↦ (let o = circular_one (slice_index_or flags at false) a.place q l in (zero, at, a, omega arith, refl, o.0, o.1))
      | inr r ↦ stands_behind flags at a names q (there flags (at + 1) names q r)
    ]

one_circular : (b : Bool) (place : Place) → b ≡ true → Contains (circular b place) (record { place = place; rule = NodeRecursion })
one_circular true place e = (zero, omega arith, refl)
one_circular false place e = absurd (false≢true e)

back : (flags : List Bool) (at : ℕ) (names : List Ident) (i k : ℕ) (name : Ident) → k ≡ at + i → slice_get names i ≡ Some name → slice_index_or flags k false ≡ true → Contains (circular_from flags at names) (at_name name)
back flags at [] i k name e f g = cc
back flags at (a ∷ names) zero k name e f g =
    let same : a ≡ name = cc in
    subst (λ (z : Ident). Contains (circular_from flags at (a ∷ names)) (at_name z)) same
    (Contains-append_left (circular (slice_index_or flags at false) a.place) (circular_from flags (at + 1) names) (at_name a)
    (one_circular (slice_index_or flags at false) a.place (ap (λ (z : ℕ). slice_index_or flags z false) (let s : at ≡ k = omega arith in s) ∙ g)))
back flags at (a ∷ names) (suc i) k name e f g =
    Contains-append_right (circular (slice_index_or flags at false) a.place) (circular_from flags (at + 1) names) (at_name name) (back flags (at + 1) names i k name (omega arith) f g)

-- ---- the names of a scope

abbrev pub declared_name : Declared → Ident
declared_name d = d.name

pub map_of : {A B C : Type 0} (f : B → C) (g : A → B) (xs : List A) → map f (map g xs) ≡ map (λ x. f (g x)) xs
map_of f g [] = refl
map_of {A} {B} {C} f g (x ∷ xs) = ap (λ (z : List C). f (g x) ∷ z) (map_of f g xs)

node_one : (names : Names) (x : Clause) → map declared_name (of_node names x) ≡ map (λ n. n.name) (nodes_in x)
node_one names (clause.Node n) = refl
node_one names _ = refl

node_names : (names : Names) (xs : List Clause) → map declared_name (flat_map (of_node names) xs) ≡ map (λ n. n.name) (flat_map nodes_in xs)
node_names names [] = refl
node_names names (x ∷ xs) =
    map-append declared_name (of_node names x) (flat_map (of_node names) xs)
    ∙ ap (λ (z : List Ident). z ++ map declared_name (flat_map (of_node names) xs)) (node_one names x)
    ∙ ap (λ (z : List Ident). map (λ n. n.name) (nodes_in x) ++ z) (node_names names xs)
    ∙ sym (map-append (λ n. n.name) (nodes_in x) (flat_map nodes_in xs))

scope_nodes : (s : Seen) → map declared_name (over_sites of_node s) ≡ map (λ n. n.name) (flat_map nodes_in (clauses_seen s))
scope_nodes s =
    map-append declared_name (flat_map (of_node (library_names s)) s.library) (flat_map (of_node (frame_names s)) s.frame ++ flat_map (of_node (names_seen s)) s.body)
    ∙ ap (λ (z : List Ident). map declared_name (flat_map (of_node (library_names s)) s.library) ++ z) (map-append declared_name (flat_map (of_node (frame_names s)) s.frame) (flat_map (of_node (names_seen s)) s.body))
    ∙ rw (node_names (library_names s) s.library, node_names (frame_names s) s.frame, node_names (names_seen s) s.body) refl
    ∙ sym (ap (map (λ n. n.name)) (flat_map-append nodes_in s.library (s.frame ++ s.body))
    ∙ map-append (λ n. n.name) (flat_map nodes_in s.library) (flat_map nodes_in (s.frame ++ s.body))
    ∙ ap (λ (z : List Ident). map (λ n. n.name) (flat_map nodes_in s.library) ++ z)
    (ap (map (λ n. n.name)) (flat_map-append nodes_in s.frame s.body) ∙ map-append (λ n. n.name) (flat_map nodes_in s.frame) (flat_map nodes_in s.body)))

pub scope_names : (s : Seen) → map declared_name (declared_of s) ≡ map (λ c. c.var.name) (constants_of s) ++ map (λ n. n.name) (flat_map nodes_in (clauses_seen s))
scope_names s =
    map-append declared_name (map of_constant (constants_of s)) (over_sites of_node s)
    ∙ ap (λ (z : List Ident). z ++ map declared_name (over_sites of_node s)) (map_of declared_name of_constant (constants_of s))
    ∙ ap (λ (z : List Ident). map (λ c. c.var.name) (constants_of s) ++ z) (scope_nodes s)

vertices : (s : Seen) → length (uses_of s) ≡ length (declared_of s)
vertices s = length-map (declared_of s) (used_by (length (constants_of s)))

pub flags_long : (s : Seen) (on_circle : List Bool) (order : List ℕ) → AreCircles (uses_of s) on_circle order → length on_circle ≡ length (constants_of s) + length (flat_map nodes_in (clauses_seen s))
flags_long s on_circle order circles =
    let names = ap length (scope_names s) ∙ length-append (map (λ c. c.var.name) (constants_of s)) (map (λ n. n.name) (flat_map nodes_in (clauses_seen s))) in
    let a = circles.long in
    let b = vertices s in
    let c = length-map (declared_of s) declared_name in
    let d = length-map (constants_of s) (λ c. c.var.name) in
    let e = length-map (flat_map nodes_in (clauses_seen s)) (λ n. n.name) in
    omega arith

-- ---- the first one

found_name : (ds : List Declared) (i : ℕ) (name : Ident) → slice_get (map declared_name ds) i ≡ Some name → (d : Declared) × (slice_get ds i ≡ Some d) × (d.name ≡ name)
found_name [] i name e = cc
found_name (d ∷ ds) zero name e = (d, refl, cc)
found_name (d ∷ ds) (suc i) name e = found_name ds i name e

first_named : (s : Seen) (on_circle : List Bool) (order : List ℕ) → AreCircles (uses_of s) on_circle order →
    IsFirst (IsCircular s) (first_broken (circular_from on_circle 0 (map declared_name (declared_of s))))
first_named s on_circle order circles =
    first_of_same (Contains (circular_from on_circle 0 (map declared_name (declared_of s)))) (IsCircular s) _
    (λ q h.
    let t = there on_circle 0 (map declared_name (declared_of s)) q h in
    let d = found_name (declared_of s) t.0 t.2 t.4 in
    let same : t.1 ≡ t.0 = (let e : t.1 ≡ 0 + t.0 = t.3 in omega arith) in
    let within : t.0 < length (uses_of s) = (let a = slice_get_within (declared_of s) t.0 d.0 d.1 in let b = vertices s in omega arith) in
    (t.0, d.0, d.1, (circles.circles t.0 within).0 (ap (λ (z : ℕ). slice_index_or on_circle z false) (sym same) ∙ t.5), t.6 ∙ ap at_name (sym d.2)))
    (λ q h.
    let within : h.0 < length (uses_of s) = (let a = slice_get_within (declared_of s) h.0 h.1 h.2 in let b = vertices s in omega arith) in
    subst (Contains (circular_from on_circle 0 (map declared_name (declared_of s)))) (sym h.4)
    (back on_circle 0 (map declared_name (declared_of s)) h.0 h.0 h.1.name (omega arith)
    (slice_get-map declared_name (declared_of s) h.0 ∙ ap (option_map declared_name) h.2)
    ((circles.circles h.0 within).1 h.3)))
    (first_in (circular_from on_circle 0 (map declared_name (declared_of s))))

-- of constants and of nodes
pub first_circular : (s : Seen) (on_circle : List Bool) (order : List ℕ) → AreCircles (uses_of s) on_circle order → (heads tails : List Ident) (n : ℕ) (found : Option Refusal) →
    heads ≡ map (λ c. c.var.name) (constants_of s) → tails ≡ map (λ n. n.name) (flat_map nodes_in (clauses_seen s)) → length heads ≡ n →
    found ≡ either (first_broken (circular_from on_circle 0 heads)) (first_broken (circular_from on_circle n tails)) → IsFirst (IsCircular s) found
first_circular s on_circle order circles heads tails n found e f l is =
    let joined : map declared_name (declared_of s) ≡ heads ++ tails = scope_names s ∙ ap (λ (z : List Ident). z ++ map (λ n. n.name) (flat_map nodes_in (clauses_seen s))) (sym e) ∙ ap (λ (z : List Ident). heads ++ z) (sym f) in
    subst (IsFirst (IsCircular s))
    (ap (λ (z : List Ident). first_broken (circular_from on_circle 0 z)) joined
    ∙ ap first_broken (circular-append on_circle 0 n heads tails (omega arith))
    ∙ first_broken-append (circular_from on_circle 0 heads) (circular_from on_circle n tails)
    ∙ sym is)
    (first_named s on_circle order circles)
