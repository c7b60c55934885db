-- A constant that has a value of its type is worth what its expression is worth.
use Rattle.std.proofs.Common.{◌≡◌, ℕ, ◌<◌, ℤ, List, [], ◌∷◌, ◌++◌, length, refl, ap, sym, subst, ◌∙◌, arith}
use Rattle.std.specs.Prelude.{Option, Some, None, slice_get, slice_index_or}
use Rattle.std.proofs.lemmas.Option.{slice_get-map, slice_get_within}
use Rattle.ag_base.specs.declared.place.Refusal.{Refusal}
use Rattle.ag_terms.specs.declared.clauses.Ty.{Ty}
use Rattle.ag_terms.specs.declared.clauses.Ty.TheVariants.{Int, Bool as Boolean}
use Rattle.ag_terms.specs.declared.clauses.Var.{Var}
use Rattle.ag_graph.specs.Circles.{IsOnCircle}
use Rattle.ag_symbols.specs.Seen.{Seen, names_seen}
use Rattle.ag_linear.specs.declared.value.Value.{Value}
use Rattle.ag_types.specs.ClauseFaults.{constant_faults}
use Rattle.ag_types.specs.Constants.{exact_value}
use Rattle.ag_types.specs.ConstantWorth.{AreWorth}
use Rattle.ag_types.specs.Meaning.{number, worth}
use Rattle.ag_types.specs.NumberFaults.{constant_faults_in}
use Rattle.ag_types.specs.SumRows.{IsValueOf, HaveValues}
use Rattle.ag_types.specs.Uses.{Constant, constants_of, uses_of, AreValues}
use Rattle.ag_types.proofs.ConstantsTyped.{var_of, vars_of_scope}
use Rattle.ag_types.proofs.WorthOfValues.{Agrees, exact_agrees}

no_value : (ty : Ty) → IsValueOf ty None → ⊥
no_value Int h = h
no_value Boolean h = h

-- a value is there only where nothing is broken, and then it is the exact one
exact_of : (ty : Ty) (faults : List Refusal) (exact o : Option Value) → o ≡ (elim faults [ [] ↦ exact | _ ↦ None ]) → IsValueOf ty o → o ≡ exact
exact_of ty [] exact o e h = e
exact_of ty (r ∷ rs) exact o e h = absurd (no_value ty (subst (λ (z : Option Value). IsValueOf ty z) e h))

number_of : (ty : Ty) (o : Option Value) (z : ℤ) → Agrees o z → IsValueOf ty o → number o ≡ z
number_of ty None z a h = absurd (no_value ty h)
number_of ty (Some v) z a h = a

-- a constant's position is that of its name
named_at : (s : Seen) (k : ℕ) (c : Constant) → slice_get (constants_of s) k ≡ Some c → slice_get (names_seen s).constants k ≡ Some c.var
named_at s k c e =
    ap (λ (z : List Var). slice_get z k) (sym (vars_of_scope s)) ∙ slice_get-map var_of (constants_of s) k ∙ rw e refl

typed_at : (s : Seen) (values : List (Option Value)) → HaveValues (names_seen s).constants values → (k : ℕ) (c : Constant) → slice_get (constants_of s) k ≡ Some c → IsValueOf c.var.ty (slice_index_or values k None)
typed_at s values typed k c e = typed k c.var (named_at s k c e)

-- what has a value doesn't use itself
free_at : (s : Seen) (values : List (Option Value)) → AreValues s values → HaveValues (names_seen s).constants values → (k : ℕ) (c : Constant) → slice_get (constants_of s) k ≡ Some c → IsOnCircle (uses_of s) k → ⊥
free_at s values valued typed k c e on =
    let within : k < length (constants_of s) = slice_get_within (constants_of s) k c e in
    let long = valued.long in
    no_value c.var.ty (subst (λ (o : Option Value). IsValueOf c.var.ty o) (valued.circular k (omega arith) on) (typed_at s values typed k c e))

value_is : (s : Seen) (values : List (Option Value)) → AreValues s values → HaveValues (names_seen s).constants values → (k : ℕ) (c : Constant) → slice_get (constants_of s) k ≡ Some c → slice_index_or values k None ≡ exact_value c.names values c.term
value_is s values valued typed k c e =
    exact_of c.var.ty (constant_faults c.names c.var c.term ++ constant_faults_in c.names values c.term) (exact_value c.names values c.term) (slice_index_or values k None)
    (valued.valued k c e (free_at s values valued typed k c e)) (typed_at s values typed k c e)

pub are_worth : (s : Seen) (values : List (Option Value)) → AreValues s values → HaveValues (names_seen s).constants values → AreWorth s values
are_worth s values valued typed = record {
  valued = valued;
  there = typed_at s values typed;
  worth_of = λ k c e r names of run at.
      let agrees : Agrees (exact_value r.names r.values c.term) (worth r run c.term at) = exact_agrees r run c.term at in
      let exact : slice_index_or values k None ≡ exact_value r.names r.values c.term = rw (names, of) (value_is s values valued typed k c e) in
      number_of c.var.ty (slice_index_or values k None) (worth r run c.term at) (subst (λ (o : Option Value). Agrees o (worth r run c.term at)) (sym exact) agrees) (typed_at s values typed k c e);
}
