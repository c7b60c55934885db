-- Each use is a position of the scope.
use Rattle.std.proofs.Common.{◌≡◌, ℕ, ◌+◌, ◌<◌, ◌≤◌, Bool, List, [], ◌∷◌, ◌++◌, length, get_or, map, refl, inl, inr, ap, sym, ◌∙◌, arith, append_assoc, length-append}
use Rattle.std.specs.Prelude.{Option, Some, None, All, if◌then◌else◌}
use Rattle.std.specs.List.{flat_map}
use Rattle.std.proofs.Math.Path.{subst}
use Rattle.std.proofs.lemmas.Bool.{cases_Bool}
use Rattle.std.proofs.lemmas.Grind.{flat_map-append}
use Rattle.std.proofs.lemmas.List.{length-map, map-append}
use Rattle.std.proofs.lemmas.List.Elements.{All-append, All-map, All-cons, All-nil}
use Rattle.ag_terms.specs.declared.clauses.Clause.{Clause}
use Rattle.ag_terms.specs.declared.clauses.Clause.TheVariants as clause
use Rattle.ag_terms.specs.declared.terms.Term.{Term, Number, Truth, Named, Unary', Binary', Choice', Call', Row_of-Term, end_of-Term, more_of-Term}
use Rattle.ag_graph.specs.Circles.{IsGraph}
use Rattle.ag_symbols.specs.Seen.{Seen, Names, constants_in, nodes_in, clauses_seen, library_names, frame_names, names_seen, over_sites, sought, position, var_name, node_name, is_stream, constant_position}
use Rattle.ag_types.proofs.Positions.{position_within, same_number}
use Rattle.ag_types.specs.Uses.{constant_in, constants_of, of_constant, of_node, declared_of, at_most_one, behind, used_in, used_in_all, used_by, uses_of}

-- no more constants and nodes are seen than these
abbrev AreFew : ℕ → ℕ → Names → Type 0
AreFew c m names = (length names.constants ≤ c) × (length names.nodes ≤ m)

abbrev AreBelow : ℕ → List ℕ → Type 0
AreBelow k ws = All (λ w. w < k) ws

-- ---- uses

one_below : (k : ℕ) (o : Option ℕ) → ((at : ℕ) → o ≡ Some at → at < k) → AreBelow k (at_most_one o)
one_below k None h = All-nil (λ w. w < k)
one_below k (Some at) h = All-cons (λ w. w < k) at [] (h at refl) (All-nil (λ w. w < k))

constant_within : (names : Names) (name : Option (List ℕ)) (at : ℕ) → constant_position names name ≡ Some at → at < length names.constants
constant_within names name at e =
    elim (cases_Bool (is_stream names.streams name)) [
      | inl h ↦ (let f : None ≡ Some at = sym (ap (λ (b : Bool). if b then None else position var_name name names.constants) h) ∙ e in cc)
      | inr h ↦ position_within var_name name names.constants at (sym (ap (λ (b : Bool). if b then None else position var_name name names.constants) h) ∙ e)
    ]

node_within : (c m : ℕ) (o : Option ℕ) → ((at : ℕ) → o ≡ Some at → at < m) → (at : ℕ) → behind c o ≡ Some at → at < c + m
node_within c m None h at e = cc
node_within c m (Some n) h at e = let l = h n refl in let f = same_number (c + n) at e in omega arith

both_below : (k : ℕ) (vs ws : List ℕ) → AreBelow k vs → AreBelow k ws → AreBelow k (vs ++ ws)
both_below k vs ws h i = All-append (λ w. w < k) vs ws h i

mutual
  used_within : (names : Names) (c m : ℕ) → AreFew c m names → (t : Term) → AreBelow (c + m) (used_in names c t)
  used_within names c m few (Number z place) = All-nil (λ w. w < c + m)
  used_within names c m few (Truth b place) = All-nil (λ w. w < c + m)
  used_within names c m few (Named path) =
      one_below (c + m) (constant_position names (sought path path.«package»))
      (λ at e. let h = constant_within names (sought path path.«package») at e in let f = few.0 in omega arith)
  used_within names c m few (Unary' op place _ (more_of-Term t end_of-Term)) = used_within names c m few t
  used_within names c m few (Binary' op place _ (more_of-Term left end_of-Term) _ (more_of-Term right end_of-Term)) =
      both_below (c + m) (used_in names c left) (used_in names c right) (used_within names c m few left) (used_within names c m few right)
  used_within names c m few (Choice' place _ (more_of-Term test end_of-Term) _ (more_of-Term chosen end_of-Term) _ (more_of-Term other end_of-Term)) =
      both_below (c + m) (used_in names c test) (used_in names c chosen ++ used_in names c other) (used_within names c m few test)
      (both_below (c + m) (used_in names c chosen) (used_in names c other) (used_within names c m few chosen) (used_within names c m few other))
  used_within names c m few (Call' path _ args) =
      both_below (c + m) (at_most_one (behind c (position node_name (sought path path.«package») names.nodes))) (used_in_all names c args)
      (one_below (c + m) (behind c (position node_name (sought path path.«package») names.nodes))
      (node_within c m (position node_name (sought path path.«package») names.nodes)
      (λ at e. let h = position_within node_name (sought path path.«package») names.nodes at e in let f = few.1 in omega arith)))
      (all_within names c m few args)

  all_within : {k : _} (names : Names) (c m : ℕ) → AreFew c m names → (args : Row_of-Term k) → AreBelow (c + m) (used_in_all names c args)
  all_within names c m few end_of-Term = All-nil (λ w. w < c + m)
  all_within names c m few (more_of-Term t rest) = both_below (c + m) (used_in names c t) (used_in_all names c rest) (used_within names c m few t) (all_within names c m few rest)

terms_within : (names : Names) (c m : ℕ) → AreFew c m names → (ts : List Term) → AreBelow (c + m) (flat_map (used_in names c) ts)
terms_within names c m few [] = All-nil (λ w. w < c + m)
terms_within names c m few (t ∷ ts) = both_below (c + m) (used_in names c t) (flat_map (used_in names c) ts) (used_within names c m few t) (terms_within names c m few ts)

-- ---- what the clauses of a site see

few_constant : (names : Names) (c m : ℕ) → AreFew c m names → (x : Clause) → All (λ d. AreFew c m d.names) (constant_in names x)
few_constant names c m few (clause.Const v t) = All-cons (λ d. AreFew c m d.names) (record { var = v; names = names; term = t }) [] few (All-nil (λ d. AreFew c m d.names))
few_constant names c m few _ = All-nil (λ d. AreFew c m d.names)

few_constants : (names : Names) (c m : ℕ) → AreFew c m names → (xs : List Clause) → All (λ d. AreFew c m d.names) (flat_map (constant_in names) xs)
few_constants names c m few [] = All-nil (λ d. AreFew c m d.names)
few_constants names c m few (x ∷ xs) = All-append (λ d. AreFew c m d.names) (constant_in names x) (flat_map (constant_in names) xs) (few_constant names c m few x) (few_constants names c m few xs)

few_node : (names : Names) (c m : ℕ) → AreFew c m names → (x : Clause) → All (λ d. AreFew c m d.names) (of_node names x)
few_node names c m few (clause.Node n) = All-cons (λ d. AreFew c m d.names) _ [] few (All-nil (λ d. AreFew c m d.names))
few_node names c m few _ = All-nil (λ d. AreFew c m d.names)

few_nodes : (names : Names) (c m : ℕ) → AreFew c m names → (xs : List Clause) → All (λ d. AreFew c m d.names) (flat_map (of_node names) xs)
few_nodes names c m few [] = All-nil (λ d. AreFew c m d.names)
few_nodes names c m few (x ∷ xs) = All-append (λ d. AreFew c m d.names) (of_node names x) (flat_map (of_node names) xs) (few_node names c m few x) (few_nodes names c m few xs)

-- ---- how many there are

as_many : {A B : Type 0} (f : Clause → List A) (g : Clause → List B) → ((x : Clause) → length (f x) ≡ length (g x)) → (xs : List Clause) → length (flat_map f xs) ≡ length (flat_map g xs)
as_many f g same [] = refl
as_many f g same (x ∷ xs) =
    let a = length-append (f x) (flat_map f xs) in
    let b = length-append (g x) (flat_map g xs) in
    let c = same x in
    let d = as_many f g same xs in
    omega arith

one_constant : (names : Names) (x : Clause) → length (constants_in x) ≡ length (constant_in names x)
one_constant names (clause.Const v t) = refl
one_constant names _ = refl

one_node : (names : Names) (x : Clause) → length (nodes_in x) ≡ length (of_node names x)
one_node names (clause.Node n) = refl
one_node names _ = refl

-- of what clauses declare, the parts that a site sees are no more than all
parts_few : {A B : Type 0} (f : Clause → List A) (g : Names → Clause → List B) → ((names : Names) (x : Clause) → length (f x) ≡ length (g names x)) → (s : Seen) →
    (length (flat_map f s.library) ≤ length (over_sites g s)) × (length (flat_map f (s.library ++ s.frame)) ≤ length (over_sites g s)) × (length (flat_map f (clauses_seen s)) ≤ length (over_sites g s))
parts_few f g same s =
    let l = as_many f (g (library_names s)) (same (library_names s)) s.library in
    let m = as_many f (g (frame_names s)) (same (frame_names s)) s.frame in
    let n = as_many f (g (names_seen s)) (same (names_seen s)) s.body in
    let a = length-append (flat_map (g (library_names s)) s.library) (flat_map (g (frame_names s)) s.frame ++ flat_map (g (names_seen s)) s.body) in
    let b = length-append (flat_map (g (frame_names s)) s.frame) (flat_map (g (names_seen s)) s.body) in
    let p = ap length (flat_map-append f s.library s.frame) ∙ length-append (flat_map f s.library) (flat_map f s.frame) in
    let q = ap length (flat_map-append f s.library (s.frame ++ s.body)) ∙ length-append (flat_map f s.library) (flat_map f (s.frame ++ s.body)) in
    let r = ap length (flat_map-append f s.frame s.body) ∙ length-append (flat_map f s.frame) (flat_map f s.body) in
    (omega arith, omega arith, omega arith)

all_few : (s : Seen) → All (λ d. AreFew (length (constants_of s)) (length (over_sites of_node s)) d.names) (declared_of s)
all_few s =
    let c = length (constants_of s) in
    let m = length (over_sites of_node s) in
    let cs = parts_few constants_in constant_in one_constant s in
    let ns = parts_few nodes_in of_node one_node s in
    let library : AreFew (length (constants_of s)) (length (over_sites of_node s)) (library_names s) = (cs.0, ns.0) in
    let frame : AreFew (length (constants_of s)) (length (over_sites of_node s)) (frame_names s) = (cs.1, ns.1) in
    let body : AreFew (length (constants_of s)) (length (over_sites of_node s)) (names_seen s) = (cs.2, ns.2) in
    All-append (λ d. AreFew c m d.names) (map of_constant (constants_of s)) (over_sites of_node s)
    (All-map (λ d. AreFew c m d.names) of_constant (constants_of s)
    (All-append (λ d. AreFew c m d.names) (flat_map (constant_in (library_names s)) s.library) (flat_map (constant_in (frame_names s)) s.frame ++ flat_map (constant_in (names_seen s)) s.body)
    (few_constants (library_names s) c m library s.library)
    (All-append (λ d. AreFew c m d.names) (flat_map (constant_in (frame_names s)) s.frame) (flat_map (constant_in (names_seen s)) s.body)
    (few_constants (frame_names s) c m frame s.frame) (few_constants (names_seen s) c m body s.body))))
    (All-append (λ d. AreFew c m d.names) (flat_map (of_node (library_names s)) s.library) (flat_map (of_node (frame_names s)) s.frame ++ flat_map (of_node (names_seen s)) s.body)
    (few_nodes (library_names s) c m library s.library)
    (All-append (λ d. AreFew c m d.names) (flat_map (of_node (frame_names s)) s.frame) (flat_map (of_node (names_seen s)) s.body)
    (few_nodes (frame_names s) c m frame s.frame) (few_nodes (names_seen s) c m body s.body)))

vertices_of : (s : Seen) → length (uses_of s) ≡ length (constants_of s) + length (over_sites of_node s)
vertices_of s =
    let a = length-map (declared_of s) (used_by (length (constants_of s))) in
    let b = length-append (map of_constant (constants_of s)) (over_sites of_node s) in
    let c = length-map (constants_of s) of_constant in
    omega arith

pub uses_graph : (s : Seen) → IsGraph (uses_of s)
uses_graph s =
    All-map (λ ts. AreBelow (length (uses_of s)) ts) (used_by (length (constants_of s))) (declared_of s)
    (λ k d h.
    subst (λ (z : ℕ). AreBelow z (used_by (length (constants_of s)) (get_or (declared_of s) k d))) (sym (vertices_of s))
    (terms_within (get_or (declared_of s) k d).names (length (constants_of s)) (length (over_sites of_node s)) (all_few s k d h) (get_or (declared_of s) k d).terms))

-- ---- part by part

pub uses_joined : (s : Seen) → (n : ℕ) → n ≡ length (constants_of s) →
    ((map (used_by n) (map of_constant (constants_of s)) ++ map (used_by n) (flat_map (of_node (library_names s)) s.library)) ++ map (used_by n) (flat_map (of_node (frame_names s)) s.frame)) ++ map (used_by n) (flat_map (of_node (names_seen s)) s.body) ≡ uses_of s
uses_joined s n e =
    let f = used_by n in
    let cs = map of_constant (constants_of s) in
    let ls = flat_map (of_node (library_names s)) s.library in
    let fs = flat_map (of_node (frame_names s)) s.frame in
    let ns = flat_map (of_node (names_seen s)) s.body in
    append_assoc (map f cs ++ map f ls) (map f fs) (map f ns)
    ∙ append_assoc (map f cs) (map f ls) (map f fs ++ map f ns)
    ∙ ap (λ (z : List (List ℕ)). map f cs ++ (map f ls ++ z)) (sym (map-append f fs ns))
    ∙ ap (λ (z : List (List ℕ)). map f cs ++ z) (sym (map-append f ls (fs ++ ns)))
    ∙ sym (map-append f cs (ls ++ (fs ++ ns)))
    ∙ ap (λ (z : ℕ). map (used_by z) (declared_of s)) e
