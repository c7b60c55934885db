-- The obligations of a package are plain, differ in their claims, and are at most one a claim and one more.
use Rattle.std.proofs.Common.{◌≡◌, ℕ, ◌+◌, ◌<◌, List, [], ◌∷◌, length, Some, None, refl, sym, ap, ◌∙◌, arith, inl, inr, AllPairs}
use Rattle.std.specs.Prelude.{◌≢◌}
use Rattle.std.specs.List.{AllByRecursion}
use Rattle.std.proofs.lemmas.Bool.{cases_Bool}
use Rattle.std.proofs.lemmas.List.{length-append}
use Rattle.std.proofs.lemmas.List.Elements.{All-from_recursion, All-push}
use Rattle.std.proofs.lemmas.List.Kept.{AllPairs-cons}
use Rattle.std.proofs.lemmas.List.Quantifiers.{all_pairs_push}
use Rattle.ag_stream.specs.Forms.{IsPlain}
use Rattle.ag_stream.specs.declared.problem.ProblemDraft.{ProblemDraft}
use Rattle.ag_verdict.specs.declared.key.Obligation.{Obligation}
use Rattle.ag_verdict.specs.declared.key.KeyKind.TheVariants as kinds
use Rattle.ag_small.specs.declared.package.Package.{Package}
use Rattle.ag_small.specs.declared.package.Claim.{Claim}
use Rattle.ag_small.specs.declared.package.ClaimKind.{ClaimKind}
use Rattle.ag_small.specs.declared.package.ClaimKind.TheVariants.{Guarantee}
use Rattle.ag_small.specs.Rules.{IsWellFormed}
use Rattle.ag_small.specs.Named.{is_of}
use Rattle.ag_small.specs.Numbered.{part_count, own_part, numbers_from, draft_of, key_of, guarantees_from}
use Rattle.ag_small.specs.Carried.{ObligationsAreFit}
use Rattle.ag_small.proofs.Formed.{plain, length-numbers_from}
use Rattle.ag_small.proofs.Laws.{few_clauses}
use Rattle.ag_small.proofs.Numbering.{some_parts}

abbrev Apart : Obligation → Obligation → Type 0
Apart a b = a.problem ≢ b.problem

-- each number is below those behind it
abbrev Rises : List ℕ → Type 0
Rises [] = Unit {0}
Rises (n ∷ ns) = AllByRecursion (λ m. n < m) ns × Rises ns

numbers_above : (kind : ClaimKind) (low first : ℕ) (cs : List Claim) → low < first → AllByRecursion (λ n. low < n) (numbers_from kind first cs)
numbers_above kind low first [] lt = tt
numbers_above kind low first (c ∷ cs) lt =
    let rest = numbers_above kind low (first + part_count c.formula) cs (omega arith) in
    elim (cases_Bool (is_of kind c.kind)) [ inl yes' ↦ rw yes' (omega (arith, some_parts c.formula), rest) | inr no' ↦ rw no' rest ]

numbers_rise : (kind : ClaimKind) (first : ℕ) (cs : List Claim) → Rises (numbers_from kind first cs)
numbers_rise kind first [] = tt
numbers_rise kind first (c ∷ cs) =
    let rest = numbers_rise kind (first + part_count c.formula) cs in
    let above = numbers_above kind (own_part first c.formula) (first + part_count c.formula) cs (omega (arith, some_parts c.formula)) in
    elim (cases_Bool (is_of kind c.kind)) [ inl yes' ↦ rw yes' (above, rest) | inr no' ↦ rw no' rest ]

claims_apart : (p : Package) (m n : ℕ) → m < n → draft_of p (Some m) 0 ≢ draft_of p (Some n) 0
claims_apart p m n lt e = let same : m ≡ n = some_is m n (ap (λ (d : ProblemDraft). d.claim) e) in omega arith
  where
    some_is : (m n : ℕ) → Some m ≡ Some n → m ≡ n
    some_is m n e = cc

claim_or_none : (p : Package) (n sought : ℕ) → draft_of p (Some n) 0 ≢ draft_of p None sought
claim_or_none p n sought e = some_none n (ap (λ (d : ProblemDraft). d.claim) e)
  where
    some_none : (n : ℕ) → Some n ≡ None → ⊥
    some_none n e = cc

first_apart : (p : Package) (o : Obligation) (part number : ℕ) (parts : List ℕ) → o.problem ≡ draft_of p (Some part) 0 → AllByRecursion (λ m. part < m) parts
    → AllByRecursion (Apart o) (guarantees_from p number parts)
first_apart p o part number [] is above = tt
first_apart p o part number (n ∷ parts) is above = (λ e. claims_apart p part n above.0 (sym is ∙ e), first_apart p o part (number + 1) parts is above.1)

guarantees_apart : (p : Package) (number : ℕ) (parts : List ℕ) → Rises parts → AllPairs Apart (guarantees_from p number parts)
guarantees_apart p number [] rise = λ i j d lt within. absurd (omega arith)
guarantees_apart p number (part ∷ parts) rise =
    let o : Obligation = record { key = key_of p kinds.Guarantee number; layer = 0; problem = draft_of p (Some part) 0 } in
    let rest = guarantees_from p (number + 1) parts in
    AllPairs-cons Apart o rest (All-from_recursion (Apart o) rest (first_apart p o part (number + 1) parts refl rise.0)) (guarantees_apart p (number + 1) parts rise.1)

guarantees_plain : (p : Package) (number : ℕ) (parts : List ℕ) → IsWellFormed p → AllByRecursion (λ o. IsPlain o.problem) (guarantees_from p number parts)
guarantees_plain p number [] kept = tt
guarantees_plain p number (part ∷ parts) kept = (plain p (Some part) 0 kept, guarantees_plain p (number + 1) parts kept)

last_apart : (p : Package) (o : Obligation) (sought number : ℕ) (parts : List ℕ) → o.problem ≡ draft_of p None sought → AllByRecursion (λ g. Apart g o) (guarantees_from p number parts)
last_apart p o sought number [] is = tt
last_apart p o sought number (part ∷ parts) is = (λ e. claim_or_none p part sought (e ∙ is), last_apart p o sought (number + 1) parts is)

length-guarantees_from : (p : Package) (number : ℕ) (parts : List ℕ) → length (guarantees_from p number parts) ≡ length parts
length-guarantees_from p number [] = refl
length-guarantees_from p number (part ∷ parts) = omega (arith, length-guarantees_from p (number + 1) parts)

pub obligations_are_fit_lem : ObligationsAreFit
obligations_are_fit_lem p sought kept =
    let parts = numbers_from Guarantee 0 p.claims in
    let front = guarantees_from p 1 parts in
    let o : Obligation = record { key = key_of p kinds.Consistent 1; layer = 0; problem = draft_of p None sought } in
    record {
      plain = All-push (λ x. IsPlain x.problem) front o (All-from_recursion (λ x. IsPlain x.problem) front (guarantees_plain p 1 parts kept)) (plain p None sought kept);
      different = all_pairs_push Apart front o (guarantees_apart p 1 parts (numbers_rise Guarantee 0 p.claims)) (All-from_recursion (λ g. Apart g o) front (last_apart p o sought 1 parts refl));
      few = omega (arith, length-append front (o ∷ []), length-guarantees_from p 1 parts, length-numbers_from Guarantee 0 p.claims, few_clauses p kept);
    }
