-- How many tokens formulas, claims and assigns have.
use Rattle.std.proofs.Common.{◌≡◌, ◌+◌, ◌*◌, ◌≤◌, List, [], ◌∷◌, length, arith}
use Rattle.std.specs.Prelude.{codes}
use Rattle.std.specs.List.{flat_map}
use Rattle.std.proofs.lemmas.List.{length-append}
use Rattle.ag_small.specs.declared.package.Port.{Port}
use Rattle.ag_small.specs.declared.package.Claim.{Claim}
use Rattle.ag_small.specs.declared.package.Assign.{Assign}
use Rattle.ag_small.specs.Expressions.{Expression, Truth, Named, Group, Not, And, Or, Implies}
use Rattle.ag_small.specs.Grammar.{Fixed, formula_text, port_text, claim_text, assign_text}

pub some_tokens : (f : Expression) → 1 ≤ length (formula_text f)
some_tokens (Truth holds) = omega arith
some_tokens (Named name) = omega arith
some_tokens (Group f) = omega arith
some_tokens (Not f) = omega arith
some_tokens (And f g) = omega (arith, length-append (formula_text f) (Fixed (codes "and") ∷ formula_text g))
some_tokens (Or f g) = omega (arith, length-append (formula_text f) (Fixed (codes "or") ∷ formula_text g))
some_tokens (Implies f g) = omega (arith, length-append (formula_text f) (Fixed (codes "=>") ∷ formula_text g))

pub claim_tokens : (c : Claim) → length (claim_text c) ≡ length (formula_text c.formula) + 4
claim_tokens c = omega (arith, length-append (formula_text c.formula) (Fixed (codes ";") ∷ []))

pub assign_tokens : (a : Assign) → length (assign_text a) ≡ length (formula_text a.value) + 4
assign_tokens a = omega (arith, length-append (formula_text a.value) (Fixed (codes ";") ∷ []))

pub port_tokens : (ps : List Port) → length (flat_map port_text ps) ≡ 9 * length ps
port_tokens [] = omega arith
port_tokens (p ∷ ps) = omega (arith, port_tokens ps)

-- each claim has five tokens at least
pub claims_tokens : (cs : List Claim) → 5 * length cs ≤ length (flat_map claim_text cs)
claims_tokens [] = omega arith
claims_tokens (c ∷ cs) = omega (arith, length-append (claim_text c) (flat_map claim_text cs), claim_tokens c, some_tokens c.formula, claims_tokens cs)

pub assigns_tokens : (xs : List Assign) → 5 * length xs ≤ length (flat_map assign_text xs)
assigns_tokens [] = omega arith
assigns_tokens (a ∷ xs) = omega (arith, length-append (assign_text a) (flat_map assign_text xs), assign_tokens a, some_tokens a.value, assigns_tokens xs)
