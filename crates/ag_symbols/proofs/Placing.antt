-- Positions of names, and what stands there.
use Rattle.std.proofs.Common.{◌≡◌, ℕ, ◌+◌, ◌<◌, ◌≤◌, List, [], ◌∷◌, ◌++◌, length, drop, get_or, map, refl, inl, inr, ap, sym, ◌∙◌, add-one, drop-cons}
use Rattle.std.specs.Prelude.{Option, Some, None, slice_get}
use Rattle.std.specs.Option.{option_map}
use Rattle.std.proofs.lemmas.Bool.{cases_Bool}
use Rattle.std.proofs.lemmas.List.{drop_all}
use Rattle.ag_terms.specs.declared.names.Ident.{Ident}
use Rattle.ag_terms.specs.Names.{same}
use Rattle.ag_terms.specs.declared.clauses.NodeDef.{NodeDef}
use Rattle.ag_terms.specs.declared.clauses.Var.{Var}
use Rattle.ag_symbols.specs.Indexed.{first_by, found_first}
use Rattle.ag_symbols.specs.Seen.{position, position_from, value_named, node_named, var_name, node_name}

-- ---- positions, one item after the other

found_first-assoc : {T : Type 0} (a b c : Option T) → found_first (found_first a b) c ≡ found_first a (found_first b c)
found_first-assoc None b c = refl
found_first-assoc (Some t) b c = refl

found_first-none : {T : Type 0} (a : Option T) → found_first a None ≡ a
found_first-none None = refl
found_first-none (Some t) = refl

pub first_by-append : {X T : Type 0} (key : X → List ℕ) (item : X → T) (name : List ℕ) (xs ys : List X) →
    first_by key item name (xs ++ ys) ≡ found_first (first_by key item name xs) (first_by key item name ys)
first_by-append key item name [] ys = refl
first_by-append key item name (x ∷ xs) ys =
    elim (cases_Bool (same (key x) name)) [
      | inl e ↦ rw e refl
      | inr e ↦ rw e (first_by-append key item name xs ys)
    ]

pub split_at : {X : Type 0} (xs : List X) (i : ℕ) (x : X) → i < length xs → x ≡ get_or xs i x → x ∷ drop (i + 1) xs ≡ drop i xs
split_at xs i x h at = ap (λ (z : _). z ∷ drop (i + 1) xs) at ∙ rw add-one (sym (drop-cons xs i x h))

one_placed : {S X : Type 0} (key : S → List ℕ) (at : S → ℕ) (name_of : X → Ident) (s : S) (x : X) (xs : List X) (name : List ℕ) → key s ≡ (name_of x).text →
    found_first (first_by key at name (s ∷ [])) (position_from name_of name (at s + 1) xs) ≡ position_from name_of name (at s) (x ∷ xs)
one_placed key at name_of s x xs name e =
    elim (cases_Bool (same (name_of x).text name)) [
      | inl f ↦ rw (e, f) refl
      | inr f ↦ rw (e, f) refl
    ]

-- one more name is placed
pub placed_more : {S B X : Type 0} (key : S → List ℕ) (at : S → ℕ) (name_of : X → Ident) (value : B → X) (slots : List S) (s : S) (bs : List B) (i : ℕ) (b : B) (name : List ℕ) (all : Option ℕ) →
    i < length bs → b ≡ get_or bs i b → key s ≡ (name_of (value b)).text →
    found_first (first_by key at name slots) (position_from name_of name (at s) (map value (drop i bs))) ≡ all →
    found_first (first_by key at name (slots ++ s ∷ [])) (position_from name_of name (at s + 1) (map value (drop (i + 1) bs))) ≡ all
placed_more key at name_of value slots s bs i b name all h is e done =
    ap (λ (z : Option ℕ). found_first z (position_from name_of name (at s + 1) (map value (drop (i + 1) bs)))) (first_by-append key at name slots (s ∷ []))
    ∙ found_first-assoc (first_by key at name slots) (first_by key at name (s ∷ [])) (position_from name_of name (at s + 1) (map value (drop (i + 1) bs)))
    ∙ ap (found_first (first_by key at name slots)) (one_placed key at name_of s (value b) (map value (drop (i + 1) bs)) name e)
    ∙ ap (λ (z : List _). found_first (first_by key at name slots) (position_from name_of name (at s) (map value z))) (split_at bs i b h is)
    ∙ done

-- behind the last name
pub placed_end : {B X : Type 0} (name_of : X → Ident) (value : B → X) (found all : Option ℕ) (bs : List B) (i at : ℕ) (name : List ℕ) → length bs ≤ i →
    found_first found (position_from name_of name at (map value (drop i bs))) ≡ all → found ≡ all
placed_end name_of value found all bs i at name h e =
    sym (found_first-none found) ∙ ap (λ (z : List _). found_first found (position_from name_of name at (map value z))) (sym (drop_all i bs h)) ∙ e

-- ---- what stands at a position

position_from-next : {X : Type 0} (name_of : X → Ident) (name : List ℕ) (at : ℕ) (xs : List X) → position_from name_of name (at + 1) xs ≡ option_map (λ n. n + 1) (position_from name_of name at xs)
position_from-next name_of name at [] = refl
position_from-next name_of name at (x ∷ xs) =
    elim (cases_Bool (same (name_of x).text name)) [
      | inl e ↦ rw e refl
      | inr e ↦ rw e (position_from-next name_of name (at + 1) xs)
    ]

-- what stands at a position, if there is one
abbrev pub at_position : {X : Type 0} → List X → Option ℕ → Option X
at_position xs o = elim o [ None ↦ None | Some at ↦ slice_get xs at ]

at_position-next : {X : Type 0} (x : X) (xs : List X) (o : Option ℕ) → at_position (x ∷ xs) (option_map (λ n. n + 1) o) ≡ at_position xs o
at_position-next x xs None = refl
at_position-next x xs (Some at) = rw add-one refl

-- the first of a name stands at its position
pub value_placed : (name : List ℕ) (vs : List Var) → at_position vs (position_from var_name name 0 vs) ≡ value_named name vs
value_placed name [] = refl
value_placed name (v ∷ vs) =
    elim (cases_Bool (same v.name.text name)) [
      | inl e ↦ rw e refl
      | inr e ↦ rw e (ap (at_position (v ∷ vs)) (position_from-next var_name name 0 vs) ∙ at_position-next v vs (position_from var_name name 0 vs) ∙ value_placed name vs)
    ]

pub node_placed : (name : List ℕ) (ns : List NodeDef) → at_position ns (position_from node_name name 0 ns) ≡ node_named name ns
node_placed name [] = refl
node_placed name (n ∷ ns) =
    elim (cases_Bool (same n.name.text name)) [
      | inl e ↦ rw e refl
      | inr e ↦ rw e (ap (at_position (n ∷ ns)) (position_from-next node_name name 0 ns) ∙ at_position-next n ns (position_from node_name name 0 ns) ∙ node_placed name ns)
    ]

-- ---- the first of a name in two lists

pub value_named-append : (name : List ℕ) (vs ws : List Var) → value_named name (vs ++ ws) ≡ found_first (value_named name vs) (value_named name ws)
value_named-append name [] ws = refl
value_named-append name (v ∷ vs) ws =
    elim (cases_Bool (same v.name.text name)) [
      | inl e ↦ rw e refl
      | inr e ↦ rw e (value_named-append name vs ws)
    ]

-- ---- the value of a name by its position

pub value_missed : (name : List ℕ) (vs : List Var) → None ≡ position_from var_name name 0 vs → None ≡ value_named name vs
value_missed name vs e = ap (at_position vs) e ∙ value_placed name vs

pub value_found : (name : List ℕ) (vs : List Var) (at : ℕ) (found : Option Var) → Some at ≡ position_from var_name name 0 vs → found ≡ slice_get vs at → found ≡ value_named name vs
value_found name vs at found e f = f ∙ ap (at_position vs) e ∙ value_placed name vs

-- the value of a name, if there is a name
abbrev pub value_sought : Option (List ℕ) → List Var → Option Var
value_sought name vs = elim name [ None ↦ None | Some n ↦ value_named n vs ]

pub path_missed : (name : Option (List ℕ)) (vs : List Var) → None ≡ position var_name name vs → None ≡ value_sought name vs
path_missed None vs e = refl
path_missed (Some name) vs e = value_missed name vs e

pub path_found : (name : Option (List ℕ)) (vs : List Var) (at : ℕ) (found : Option Var) → Some at ≡ position var_name name vs → found ≡ slice_get vs at → found ≡ value_sought name vs
path_found None vs at found e f = cc
path_found (Some name) vs at found e f = value_found name vs at found e f

-- ---- the value of a name among streams and constants

pub among_streams : (name : Option (List ℕ)) (vs ws : List Var) (v : Var) → Some v ≡ value_sought name vs → Some v ≡ value_sought name (vs ++ ws)
among_streams None vs ws v e = e
among_streams (Some name) vs ws v e = ap (λ (z : Option Var). found_first z (value_named name ws)) e ∙ sym (value_named-append name vs ws)

pub among_constants : (name : Option (List ℕ)) (vs ws : List Var) (found : Option Var) → None ≡ value_sought name vs → found ≡ value_sought name ws → found ≡ value_sought name (vs ++ ws)
among_constants None vs ws found e f = f
among_constants (Some name) vs ws found e f = f ∙ ap (λ (z : Option Var). found_first z (value_named name ws)) e ∙ sym (value_named-append name vs ws)

-- ---- the node of a name

abbrev pub node_sought : Option (List ℕ) → List NodeDef → Option NodeDef
node_sought name ns = elim name [ None ↦ None | Some n ↦ node_named n ns ]

-- it stands at its position
pub node_at : (name : Option (List ℕ)) (ns : List NodeDef) → at_position ns (position node_name name ns) ≡ node_sought name ns
node_at None ns = refl
node_at (Some name) ns = node_placed name ns
