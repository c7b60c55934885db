-- An expression that breaks no rule has a type.
use Rattle.std.proofs.Common.{◌⊎◌, inl, inr, ap, sym, ◌∙◌, ◌≡◌, false, ◌==◌, List, [], ◌∷◌, ◌++◌, length, refl, arith}
use Rattle.std.specs.Prelude.{Option, Some, None}
use Rattle.std.proofs.lemmas.Bool.{ne_eqb}
use Rattle.ag_base.specs.declared.place.Place.{Place}
use Rattle.ag_base.specs.declared.place.Refusal.{Refusal}
use Rattle.ag_terms.specs.declared.names.Path.{Path}
use Rattle.ag_terms.specs.declared.clauses.NodeDef.{NodeDef}
use Rattle.ag_terms.specs.declared.clauses.Ty.{Ty}
use Rattle.ag_terms.specs.declared.clauses.Ty.TheVariants.{Int, Bool as Boolean}
use Rattle.ag_terms.specs.declared.clauses.Var.{Var}
use Rattle.ag_terms.specs.declared.terms.Binary.{Binary}
use Rattle.ag_terms.specs.declared.terms.Binary.TheVariants.{Arrow, Implies, Iff, Or, And, Less, AtMost, More, AtLeast, Same, Differs, Plus, Minus, Times, Div, Mod}
use Rattle.ag_terms.specs.declared.terms.Term.{Term, Number, Truth, Named, Unary', Binary', Choice', Call', Row_of-Term, end_of-Term, more_of-Term}
use Rattle.ag_terms.specs.declared.terms.Unary.TheVariants as unary
use Rattle.ag_symbols.specs.Seen.{Names, value_of, node_of}
use Rattle.ag_types.specs.Places.{path_place, first_broken}
use Rattle.ag_types.specs.Types.{type_in, type_of_var, type_of_binary, type_of_call, type_of_outputs, faults_in, value_faults, call_faults, argument_mismatches, arguments_in, arity, IsTyped, IsIllTyped}
use Rattle.ag_types.proofs.Breaking.{unbroken}

-- there is a type
abbrev pub IsKnown : Option Ty → Type 0
IsKnown o = (ty : Ty) × (o ≡ Some ty)

front_nil : (xs ys : List Refusal) → xs ++ ys ≡ [] → xs ≡ []
front_nil [] ys e = refl
front_nil (x ∷ xs) ys e = cc

back_nil : (xs ys : List Refusal) → xs ++ ys ≡ [] → ys ≡ []
back_nil [] ys e = e
back_nil (x ∷ xs) ys e = cc

known_value : (o : Option Var) (path : Path) → value_faults o path ≡ [] → IsKnown (type_of_var o)
known_value None path e = cc
known_value (Some v) path e = (v.ty, refl)

known_outputs : (vs : List Var) (place : Place) → arity 1 (length vs) place ≡ [] → IsKnown (type_of_outputs vs)
known_outputs [] place e = cc
known_outputs (v ∷ []) place e = (v.ty, refl)
known_outputs (v ∷ (w ∷ vs)) place e =
    let other : (1 == length (v ∷ (w ∷ vs))) ≡ false = ne_eqb 1 (length (v ∷ (w ∷ vs))) (λ h. omega arith) in
    let broken = rw other at e in
    cc

known_call : (names : Names) (path : Path) (node : Option NodeDef) {n : _} (row : Row_of-Term n) → call_faults names path node row ≡ [] → IsKnown (type_of_call node)
known_call names path None row e = cc
known_call names path (Some d) row e =
    known_outputs d.outputs (path_place path)
    (back_nil (argument_mismatches names d.inputs row) (arity 1 (length d.outputs) (path_place path))
    (back_nil (arity (length d.inputs) (arguments_in row) (path_place path)) (argument_mismatches names d.inputs row ++ arity 1 (length d.outputs) (path_place path)) e))

known_binary : (op : Binary) (first : Option Ty) → IsKnown first → IsKnown (type_of_binary op first)
known_binary Arrow first h = h
known_binary Implies first h = (Boolean, refl)
known_binary Iff first h = (Boolean, refl)
known_binary Or first h = (Boolean, refl)
known_binary And first h = (Boolean, refl)
known_binary Less first h = (Boolean, refl)
known_binary AtMost first h = (Boolean, refl)
known_binary More first h = (Boolean, refl)
known_binary AtLeast first h = (Boolean, refl)
known_binary Same first h = (Boolean, refl)
known_binary Differs first h = (Boolean, refl)
known_binary Plus first h = (Int, refl)
known_binary Minus first h = (Int, refl)
known_binary Times first h = (Int, refl)
known_binary Div first h = (Int, refl)
known_binary Mod first h = (Int, refl)

known : (names : Names) (t : Term) → faults_in names t ≡ [] → IsKnown (type_in names t)
known names (Number value place) e = (Int, refl)
known names (Truth value place) e = (Boolean, refl)
known names (Named path) e = known_value (value_of names path) path e
known names (Unary' unary.Minus place _ (more_of-Term t end_of-Term)) e = (Int, refl)
known names (Unary' unary.Not place _ (more_of-Term t end_of-Term)) e = (Boolean, refl)
known names (Unary' unary.Pre place _ (more_of-Term t end_of-Term)) e = known names t e
known names (Binary' op place _ (more_of-Term left end_of-Term) _ (more_of-Term right end_of-Term)) e =
    known_binary op (type_in names left) (known names left (front_nil (faults_in names left) _ e))
known names (Choice' place _ (more_of-Term test end_of-Term) _ (more_of-Term chosen end_of-Term) _ (more_of-Term other end_of-Term)) e =
    known names chosen (front_nil (faults_in names chosen) _ (back_nil (faults_in names test) _ e))
known names (Call' path _ args) e = known_call names path (node_of names path) args (front_nil (call_faults names path (node_of names path) args) _ e)

-- an expression for which no broken rule is found, and what it has for a type
pub sound_is_typed : (names : Names) (t : Term) (ty : Ty) → first_broken (faults_in names t) ≡ None → type_in names t ≡ Some ty → IsTyped names t ty
sound_is_typed names t ty e f = record { sound = unbroken (faults_in names t) e; found = f }

pub sound_has_type : (names : Names) (t : Term) → first_broken (faults_in names t) ≡ None → type_in names t ≡ None → ⊥
sound_has_type names t e f = let k = known names t (unbroken (faults_in names t) e) in let g = k.1 in cc

pub one_type : (names : Names) (t : Term) (a b : Ty) → IsTyped names t a → IsTyped names t b → a ≡ b
one_type names t a b x y = let e = x.found in let f = y.found in cc

pub not_both : (names : Names) (t : Term) (ty : Ty) (r : Refusal) → IsTyped names t ty → IsIllTyped names t r → ⊥
not_both names t ty r x e = let f : None ≡ Some r = ap first_broken (sym x.sound) ∙ e in cc

-- an expression without a first broken rule has a type
answered : (names : Names) (t : Term) (o : Option Refusal) → first_broken (faults_in names t) ≡ o → ((ty : Ty) × IsTyped names t ty) ⊎ ((r : Refusal) × IsIllTyped names t r)
answered names t None e =
    let none = unbroken (faults_in names t) e in
    let k = known names t none in
    inl (k.0, record { sound = none; found = k.1 })
answered names t (Some r) e = inr (r, e)

pub either : (names : Names) (t : Term) → ((ty : Ty) × IsTyped names t ty) ⊎ ((r : Refusal) × IsIllTyped names t r)
either names t = answered names t (first_broken (faults_in names t)) refl
