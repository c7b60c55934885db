-- The uses of a term by its operands, and the edges of a graph's last vertex.
use denote.Hole.Carrier.{hidden}
use Rattle.std.proofs.Common.{◌≡◌, ℕ, ◌+◌, ◌-◌, ◌<◌, ◌≤◌, List, [], ◌∷◌, ◌++◌, length, drop, get_or, map, refl, ap, sym, ◌∙◌, arith, add-one, append_assoc, drop-cons}
use Rattle.std.specs.Prelude.{slice_index_or}
use Rattle.std.specs.List.{flat_map}
use Rattle.std.proofs.Math.Seq.{set-append_seam}
use Rattle.std.proofs.lemmas.List.{append-nil, length_push, drop_all, map-append}
use Rattle.ag_terms.specs.declared.names.Path.{Path}
use Rattle.ag_terms.specs.declared.terms.Binary.{Binary}
use Rattle.ag_terms.specs.declared.terms.Unary.{Unary}
use Rattle.ag_terms.specs.declared.terms.Term.{Term, Row_of-Term, end_of-Term, more_of-Term, items-the_row-Term, items_hidden-the_row-Term-1}
use Rattle.ag_terms.specs.declared.terms.Term.TheBlock.{hidden-the_row-Term-0, hidden-the_row-Term-1}
use Rattle.ag_terms.specs.declared.terms.Term.TheViews as term
use Rattle.ag_base.specs.declared.place.Place.{Place}
use Rattle.ag_graph.specs.Edges.{with_edge}
use Rattle.ag_symbols.specs.Seen.{Names, sought, position, node_name}
use Rattle.ag_types.specs.Uses.{Constant, of_constant, at_most_one, behind, used_in, used_in_all, used_by, with_edges}

-- ---- edges

pub edges-append : (g : List (List ℕ)) (ts us : List ℕ) → with_edges g (ts ++ us) ≡ with_edges (with_edges g ts) us
edges-append g [] us = refl
edges-append g (t ∷ ts) us = edges-append (with_edge g t) ts us

last_of : (g : List (List ℕ)) (ts : List ℕ) → slice_index_or (g ++ ts ∷ []) (length g) [] ≡ ts
last_of [] ts = refl
last_of (x ∷ g) ts = last_of g ts

before_end : (g : List (List ℕ)) (ts : List ℕ) → length (g ++ ts ∷ []) - 1 ≡ length g
before_end g ts = let e = length_push g ts in omega arith

edge_of_last : (g : List (List ℕ)) (ts : List ℕ) (t : ℕ) → with_edge (g ++ ts ∷ []) t ≡ g ++ (ts ++ t ∷ []) ∷ []
edge_of_last g ts t = rw (before_end g ts, last_of g ts) (set-append_seam g ts [] (ts ++ t ∷ []))

pub edges_of_last : (g : List (List ℕ)) (ts us : List ℕ) → with_edges (g ++ ts ∷ []) us ≡ g ++ (ts ++ us) ∷ []
edges_of_last g ts [] = ap (λ (z : List ℕ). g ++ z ∷ []) (sym (append-nil ts))
edges_of_last g ts (u ∷ us) =
    ap (λ (z : List (List ℕ)). with_edges z us) (edge_of_last g ts u) ∙ edges_of_last g (ts ++ u ∷ []) us ∙ ap (λ (z : List ℕ). g ++ z ∷ []) (append_assoc ts (u ∷ []) us)

-- a new vertex with these edges
pub edges_of_new : (g : List (List ℕ)) (us : List ℕ) → with_edges (g ++ [] ∷ []) us ≡ g ++ us ∷ []
edges_of_new g us = edges_of_last g [] us

-- ---- terms

pub used_unary : (names : Names) (n : ℕ) (op : Unary) (place : Place) (t : Term) → used_in names n (term.Unary op place t) ≡ used_in names n t
unfolding hidden-the_row-Term-0 hidden
used_unary names n op place t = refl

pub used_binary : (names : Names) (n : ℕ) (op : Binary) (place : Place) (t u : Term) → used_in names n (term.Binary op place t u) ≡ used_in names n t ++ used_in names n u
unfolding hidden-the_row-Term-0 hidden
used_binary names n op place t u = refl

pub used_choice : (names : Names) (n : ℕ) (place : Place) (t u v : Term) → used_in names n (term.Choice place t u v) ≡ used_in names n t ++ (used_in names n u ++ used_in names n v)
unfolding hidden-the_row-Term-0 hidden
used_choice names n place t u v = refl

used_items : (names : Names) (n : ℕ) {m : _} (row : Row_of-Term m) → used_in_all names n row ≡ flat_map (used_in names n) (items-the_row-Term m row)
used_items names n end_of-Term = refl
used_items names n (more_of-Term t rest) = ap (λ (z : List ℕ). used_in names n t ++ z) (used_items names n rest)

pub used_call : (names : Names) (n : ℕ) (path : Path) (ts : List Term) →
    used_in names n (term.Call path ts) ≡ at_most_one (behind n (position node_name (sought path path.«package») names.nodes)) ++ flat_map (used_in names n) ts
used_call names n path ts =
    ap (λ (z : List ℕ). at_most_one (behind n (position node_name (sought path path.«package») names.nodes)) ++ z)
    (used_items names n (hidden-the_row-Term-1 ts) ∙ ap (flat_map (used_in names n)) (items_hidden-the_row-Term-1 ts))

-- the edges of two operands, and of three
pub edges_of_binary : (g : List (List ℕ)) (names : Names) (n : ℕ) (op : Binary) (place : Place) (t u : Term) →
    with_edges (with_edges g (used_in names n t)) (used_in names n u) ≡ with_edges g (used_in names n (term.Binary op place t u))
edges_of_binary g names n op place t u = sym (edges-append g (used_in names n t) (used_in names n u)) ∙ ap (with_edges g) (sym (used_binary names n op place t u))

pub edges_of_choice : (g : List (List ℕ)) (names : Names) (n : ℕ) (place : Place) (t u v : Term) →
    with_edges (with_edges (with_edges g (used_in names n t)) (used_in names n u)) (used_in names n v) ≡ with_edges g (used_in names n (term.Choice place t u v))
edges_of_choice g names n place t u v =
    sym (edges-append (with_edges g (used_in names n t)) (used_in names n u) (used_in names n v))
    ∙ sym (edges-append g (used_in names n t) (used_in names n u ++ used_in names n v))
    ∙ ap (with_edges g) (sym (used_choice names n place t u v))

pub edges_of_call : (g : List (List ℕ)) (names : Names) (n : ℕ) (path : Path) (ts : List Term) →
    with_edges (with_edges g (at_most_one (behind n (position node_name (sought path path.«package») names.nodes)))) (flat_map (used_in names n) ts) ≡ with_edges g (used_in names n (term.Call path ts))
edges_of_call g names n path ts =
    sym (edges-append g (at_most_one (behind n (position node_name (sought path path.«package») names.nodes))) (flat_map (used_in names n) ts))
    ∙ ap (with_edges g) (sym (used_call names n path ts))

-- ---- one by one

-- an item and those behind it
pub item_first : {A : Type 0} (xs : List A) (i : ℕ) (x : A) → i < length xs → x ≡ get_or xs i x → drop i xs ≡ x ∷ drop (i + 1) xs
item_first xs i x h at = sym (ap (λ (z : _). z ∷ drop (i + 1) xs) at ∙ rw add-one (sym (drop-cons xs i x h)))

pub edges_more : {A : Type 0} (f : A → List ℕ) (g all : List (List ℕ)) (xs : List A) (i : ℕ) (x : A) → i < length xs → x ≡ get_or xs i x →
    with_edges g (flat_map f (drop i xs)) ≡ all → with_edges (with_edges g (f x)) (flat_map f (drop (i + 1) xs)) ≡ all
edges_more {A} f g all xs i x h at e =
    sym (edges-append g (f x) (flat_map f (drop (i + 1) xs))) ∙ ap (λ (z : List A). with_edges g (flat_map f z)) (sym (item_first xs i x h at)) ∙ e

pub edges_end : {A : Type 0} (f : A → List ℕ) (g all : List (List ℕ)) (xs : List A) (i : ℕ) → length xs ≤ i → with_edges g (flat_map f (drop i xs)) ≡ all → g ≡ all
edges_end {A} f g all xs i h e = ap (λ (z : List A). with_edges g (flat_map f z)) (sym (drop_all i xs h)) ∙ e

-- items with what is used in each
pub flat_map_of : {A B : Type 0} (f : B → List ℕ) (v : A → B) (xs : List A) → flat_map f (map v xs) ≡ flat_map (λ x. f (v x)) xs
flat_map_of f v [] = refl
flat_map_of f v (x ∷ xs) = ap (λ (z : List ℕ). f (v x) ++ z) (flat_map_of f v xs)

-- vertices one by one
pub mapped_more : {A B : Type 0} (f : B → List ℕ) (h : A → List B) (g all : List (List ℕ)) (xs : List A) (i : ℕ) (x : A) → i < length xs → x ≡ get_or xs i x →
    g ++ map f (flat_map h (drop i xs)) ≡ all → (g ++ map f (h x)) ++ map f (flat_map h (drop (i + 1) xs)) ≡ all
mapped_more {A} f h g all xs i x l at e =
    append_assoc g (map f (h x)) (map f (flat_map h (drop (i + 1) xs)))
    ∙ ap (λ (z : List (List ℕ)). g ++ z) (sym (map-append f (h x) (flat_map h (drop (i + 1) xs))))
    ∙ ap (λ (z : List A). g ++ map f (flat_map h z)) (sym (item_first xs i x l at))
    ∙ e

pub constants_more : (n : ℕ) (g all : List (List ℕ)) (cs : List Constant) (i : ℕ) (c : Constant) → i < length cs → c ≡ get_or cs i c →
    g ++ map (used_by n) (map of_constant (drop i cs)) ≡ all →
    with_edges (g ++ [] ∷ []) (used_in c.names n c.term) ++ map (used_by n) (map of_constant (drop (i + 1) cs)) ≡ all
constants_more n g all cs i c l at e =
    ap (λ (z : List (List ℕ)). z ++ map (used_by n) (map of_constant (drop (i + 1) cs))) (edges_of_new g (used_in c.names n c.term))
    ∙ append_assoc g (used_in c.names n c.term ∷ []) (map (used_by n) (map of_constant (drop (i + 1) cs)))
    ∙ ap (λ (z : List ℕ). g ++ z ∷ map (used_by n) (map of_constant (drop (i + 1) cs))) (sym (append-nil (used_in c.names n c.term)))
    ∙ ap (λ (z : List Constant). g ++ map (used_by n) (map of_constant z)) (sym (item_first cs i c l at))
    ∙ e
