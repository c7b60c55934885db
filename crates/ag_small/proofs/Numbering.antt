-- How many parts formulas have, where they stand, and which parts serve which.
use Rattle.std.proofs.Common.{◌≡◌, ℕ, zero, suc, ◌+◌, ◌*◌, ◌<◌, ◌≤◌, List, [], ◌∷◌, ◌++◌, length, map, get_or, drop, refl, ap, ◌∙◌, append_assoc, arith}
use Rattle.std.specs.Prelude.{codes}
use Rattle.std.specs.List.{flat_map}
use Rattle.std.proofs.lemmas.List.{length-append}
use Rattle.ag_stream.specs.declared.problem.Part.{Part}
use Rattle.ag_stream.specs.declared.problem.Part.TheVariants as parts
use Rattle.ag_small.specs.declared.package.Package.{Package}
use Rattle.ag_small.specs.declared.package.Port.{Port}
use Rattle.ag_small.specs.declared.package.Claim.{Claim}
use Rattle.ag_small.specs.declared.package.Assign.{Assign}
use Rattle.ag_small.specs.declared.package.Formula.{Formula}
use Rattle.ag_small.specs.Expressions.{Truth, Named, Group, Not, And, Or, Implies}
use Rattle.ag_small.specs.Grammar.{Terminal, Fixed, formula_text, claim_text, assign_text}
use Rattle.ag_small.specs.Rules.{IsWellFormed}
use Rattle.ag_small.specs.Numbered.{part_count, own_part, parts_of, formulas, parts_in, all_parts, claim_parts}

pub some_parts : (f : Formula) → 1 ≤ part_count f
some_parts (Truth holds) = omega arith
some_parts (Named name) = omega arith
some_parts (Group f) = some_parts f
some_parts (Not f) = omega arith
some_parts (And f g) = omega arith
some_parts (Or f g) = omega arith
some_parts (Implies f g) = omega arith

pub length-three : {A : Type 0} (xs ys zs : List A) → length (xs ++ (ys ++ zs)) ≡ length xs + (length ys + length zs)
length-three xs ys zs = omega (arith, length-append xs (ys ++ zs), length-append ys zs)

pub length-parts_of : (ports : List Port) (first : ℕ) (f : Formula) → length (parts_of ports first f) ≡ part_count f
length-parts_of ports first (Truth holds) = refl
length-parts_of ports first (Named name) = refl
length-parts_of ports first (Group f) = length-parts_of ports first f
length-parts_of ports first (Not f) = length-append (parts_of ports first f) (parts.Not (own_part first f) ∷ []) ∙ omega (arith, length-parts_of ports first f)
length-parts_of ports first (And f g) = length-three (parts_of ports first f) (parts_of ports (first + part_count f) g) (parts.And (own_part first f) (own_part (first + part_count f) g) ∷ []) ∙ omega (arith, length-parts_of ports first f, length-parts_of ports (first + part_count f) g)
length-parts_of ports first (Or f g) = length-three (parts_of ports first f) (parts_of ports (first + part_count f) g) (parts.Or (own_part first f) (own_part (first + part_count f) g) ∷ []) ∙ omega (arith, length-parts_of ports first f, length-parts_of ports (first + part_count f) g)
length-parts_of ports first (Implies f g) = length-three (parts_of ports first f) (parts_of ports (first + part_count f) g) (parts.Not (own_part first f) ∷ parts.Or (first + part_count f + part_count g) (own_part (first + part_count f) g) ∷ []) ∙ omega (arith, length-parts_of ports first f, length-parts_of ports (first + part_count f) g)

pub length-all_parts : (ports : List Port) (first : ℕ) (fs : List Formula) → length (all_parts ports first fs) ≡ parts_in fs
length-all_parts ports first [] = refl
length-all_parts ports first (f ∷ fs) = length-append (parts_of ports first f) (all_parts ports (first + part_count f) fs) ∙ omega (arith, length-parts_of ports first f, length-all_parts ports (first + part_count f) fs)

-- each part has a token of its own, and an implication has one part more
pub parts_and_tokens : (f : Formula) → part_count f ≤ 2 * length (formula_text f)
parts_and_tokens (Truth holds) = omega arith
parts_and_tokens (Named name) = omega arith
parts_and_tokens (Group f) = omega (arith, length-append (formula_text f) (Fixed (codes ")") ∷ []), parts_and_tokens f)
parts_and_tokens (Not f) = omega (arith, parts_and_tokens f)
parts_and_tokens (And f g) = omega (arith, length-append (formula_text f) (Fixed (codes "and") ∷ formula_text g), parts_and_tokens f, parts_and_tokens g)
parts_and_tokens (Or f g) = omega (arith, length-append (formula_text f) (Fixed (codes "or") ∷ formula_text g), parts_and_tokens f, parts_and_tokens g)
parts_and_tokens (Implies f g) = omega (arith, length-append (formula_text f) (Fixed (codes "=>") ∷ formula_text g), parts_and_tokens f, parts_and_tokens g)

clause_tokens : (f : Formula) (rest : List Terminal) → length ((formula_text f ++ Fixed (codes ";") ∷ []) ++ rest) ≡ length (formula_text f) + suc (length rest)
clause_tokens f rest = omega (arith, length-append (formula_text f ++ Fixed (codes ";") ∷ []) rest, length-append (formula_text f) (Fixed (codes ";") ∷ []))

claim_parts_and_tokens : (cs : List Claim) → claim_parts cs ≤ 2 * length (flat_map claim_text cs)
claim_parts_and_tokens [] = omega arith
claim_parts_and_tokens (c ∷ cs) = (let e = clause_tokens c.formula (flat_map claim_text cs) in let t : length (flat_map claim_text (c ∷ cs)) ≡ suc (suc (suc (length ((formula_text c.formula ++ Fixed (codes ";") ∷ []) ++ flat_map claim_text cs)))) = refl in omega (arith, e, t, parts_and_tokens c.formula, claim_parts_and_tokens cs))

value_parts_and_tokens : (xs : List Assign) → parts_in (map (λ a. a.value) xs) ≤ 2 * length (flat_map assign_text xs)
value_parts_and_tokens [] = omega arith
value_parts_and_tokens (x ∷ xs) = (let e = clause_tokens x.value (flat_map assign_text xs) in let t : length (flat_map assign_text (x ∷ xs)) ≡ suc (suc (suc (length ((formula_text x.value ++ Fixed (codes ";") ∷ []) ++ flat_map assign_text xs)))) = refl in omega (arith, e, t, parts_and_tokens x.value, value_parts_and_tokens xs))

pub parts_in-append : (fs gs : List Formula) → parts_in (fs ++ gs) ≡ parts_in fs + parts_in gs
parts_in-append [] gs = omega arith
parts_in-append (f ∷ fs) gs = omega (arith, parts_in-append fs gs)

pub parts_in-claims : (cs : List Claim) → parts_in (map (λ c. c.formula) cs) ≡ claim_parts cs
parts_in-claims [] = refl
parts_in-claims (c ∷ cs) = ap (λ n. part_count c.formula + n) (parts_in-claims cs)

pub parts_in-formulas : (p : Package) → parts_in (formulas p) ≡ claim_parts p.claims + parts_in (map (λ a. a.value) p.assigns)
parts_in-formulas p = parts_in-append (map (λ (c : Claim). c.formula) p.claims) (map (λ (a : Assign). a.value) p.assigns) ∙ ap (λ n. n + parts_in (map (λ (a : Assign). a.value) p.assigns)) (parts_in-claims p.claims)

pub few_parts : (p : Package) → IsWellFormed p → parts_in (formulas p) ≤ 2000
few_parts p kept = omega (arith, parts_in-formulas p, claim_parts_and_tokens p.claims, value_parts_and_tokens p.assigns, kept.few_tokens)

-- ---- parts put behind others

pub longer_by : (ports : List Port) (old new : List Part) (f : Formula) → new ≡ old ++ parts_of ports (length old) f → length new ≡ length old + part_count f
longer_by ports old new f e = ap length e ∙ length-append old (parts_of ports (length old) f) ∙ omega (arith, length-parts_of ports (length old) f)

pub put_two : (ports : List Port) (old one two : List Part) (f g : Formula) (tail : List Part) → one ≡ old ++ parts_of ports (length old) f → two ≡ one ++ parts_of ports (length one) g
    → two ++ tail ≡ old ++ (parts_of ports (length old) f ++ (parts_of ports (length old + part_count f) g ++ tail))
put_two ports old one two f g tail e h =
    let pf = parts_of ports (length old) f in
    let pg = parts_of ports (length old + part_count f) g in
    ap (λ (ps : List Part). ps ++ tail) (h ∙ ap (λ (n : ℕ). one ++ parts_of ports n g) (longer_by ports old one f e) ∙ ap (λ (ps : List Part). ps ++ pg) e)
    ∙ append_assoc (old ++ pf) pg tail ∙ append_assoc old pf (pg ++ tail)

pub claim_fits : (cs : List Claim) (k : ℕ) (d : Claim) → k < length cs → part_count (get_or cs k d).formula ≤ claim_parts (drop k cs)
claim_fits [] k d lt = absurd (omega arith)
claim_fits (c ∷ cs) zero d lt = omega arith
claim_fits (c ∷ cs) (suc k) d lt = claim_fits cs k d (omega arith)
