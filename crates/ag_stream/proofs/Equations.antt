-- The equations of a plain problem, by number.
use Rattle.std.proofs.Common.{◌≡◌, ℕ, ◌+◌, ◌<◌, zero, suc, Bool, false, List, [], ◌∷◌, length, get_or, Some, sym, refl, ap, subst, ◌∙◌, arith, Contains, inl, inr, nat_eq}
use Rattle.std.specs.List.{slice_get}
use Rattle.std.proofs.lemmas.Bool.{true≢false, cases_order, eq-eqb}
use Rattle.std.proofs.lemmas.List.{get_or-map, length-map}
use Rattle.std.proofs.lemmas.Map.Keys.{apart_from_distinct}
use Rattle.std.proofs.lemmas.Option.{same_Some, slice_get_within, get_or_from_slice_get}
use Rattle.ag_stream.specs.declared.problem.Equation.{Equation}
use Rattle.ag_stream.specs.declared.problem.Equation.TheVariants as equations
use Rattle.ag_stream.specs.declared.problem.ProblemDraft.{ProblemDraft}
use Rattle.ag_stream.specs.Values.{holds}
use Rattle.ag_stream.specs.Runs.{Keeps, KeepsEquations}
use Rattle.ag_stream.specs.Forms.{IsFlagEquation, IsEquationOf, target, targets}
use Rattle.ag_stream.specs.Dependence.{EquationNames, DependsOn, PartNames}
use Rattle.ag_stream.specs.Work.{IsPlainForm, IsAt, alone, holds_in, target_at}

flag_of : (e : Equation) → IsFlagEquation e → (s : ℕ) × (p : ℕ) × (e ≡ equations.Flag s p)
flag_of (equations.Flag s p) h = (s, p, refl)
flag_of (equations.Whole s r) h = absurd h
flag_of (equations.Choice s p a b) h = absurd h
flag_of (equations.First s a b) h = absurd h
flag_of (equations.Div s r b) h = absurd h
flag_of (equations.Mod s r b) h = absurd h

equation_there : (es : List Equation) (k : ℕ) → k < length es → (e : Equation) × (slice_get es k ≡ Some e)
equation_there [] k lt = absurd (omega (arith, lt))
equation_there (e ∷ es) zero lt = (e, refl)
equation_there (e ∷ es) (suc k) lt = equation_there es k (omega (arith, lt))

-- an equation's stream and part
pub equation_at : (d : ProblemDraft) → IsPlainForm d → (k : ℕ) → k < length d.equations → (s : ℕ) × (p : ℕ) × IsAt d k s p
equation_at d form k lt =
    let there = equation_there d.equations k lt in
    let e : Equation = there.0 in
    let F : Equation → Type 0 = IsFlagEquation in
    let flag = flag_of e (subst F (get_or_from_slice_get d.equations k e e there.1) (form.plain.equations k e lt)) in
    (flag.0, flag.1, there.1 ∙ ap (λ (x : Equation). Some x) flag.2)

pub at_within : (d : ProblemDraft) (k s p : ℕ) → IsAt d k s p → k < length d.equations
at_within d k s p at = slice_get_within d.equations k (equations.Flag s p) at

pub at_inside : (d : ProblemDraft) → IsPlainForm d → (k s p : ℕ) → IsAt d k s p → (s < d.flags) × (p < length d.parts)
at_inside d form k s p at =
    let e : Equation = equations.Flag s p in
    let E : Equation → Type 0 = IsEquationOf d in
    subst E (get_or_from_slice_get d.equations k e e at) (form.formed.each_equation k e (at_within d k s p at))

pub target_is : (d : ProblemDraft) (k s p : ℕ) → IsAt d k s p → target_at d k ≡ d.ints + s
target_is d k s p at =
    let e : Equation = equations.Flag s p in
    get_or-map (target d.ints) d.equations k e 0 (at_within d k s p at) ∙ ap (target d.ints) (get_or_from_slice_get d.equations k e e at)

-- two equations with one number, or for one stream, are one
same_flag : (s p t q : ℕ) → equations.Flag s p ≡ equations.Flag t q → (s ≡ t) × (p ≡ q)
same_flag s p t q e = (cc, cc)

pub one_at : (d : ProblemDraft) (k s p t q : ℕ) → IsAt d k s p → IsAt d k t q → (s ≡ t) × (p ≡ q)
one_at d k s p t q a b = same_flag s p t q (same_Some (equations.Flag s p) (equations.Flag t q) (sym a ∙ b))

targets_apart : (d : ProblemDraft) → IsPlainForm d → (k j s p q : ℕ) → IsAt d k s p → IsAt d j s q → k < j → ⊥
targets_apart d form k j s p q a b lt =
    let le : j < length (targets d) = rw (length-map d.equations (target d.ints)) (at_within d j s q b) in
    true≢false (sym (eq-eqb (target_at d k) (target_at d j) (target_is d k s p a ∙ sym (target_is d j s q b))) ∙ apart_from_distinct nat_eq (targets d) k j 0 form.formed.one_each lt le)

pub one_number : (d : ProblemDraft) → IsPlainForm d → (k j s p q : ℕ) → IsAt d k s p → IsAt d j s q → k ≡ j
one_number d form k j s p q a b =
    elim (cases_order k j) [
      | inl e ↦ e
      | inr apart ↦ elim apart [
        | inl lt ↦ absurd (targets_apart d form k j s p q a b lt)
        | inr gt ↦ absurd (targets_apart d form j k s q p b a gt)
      ]
    ]

pub one_part : (d : ProblemDraft) → IsPlainForm d → (k j s p q : ℕ) → IsAt d k s p → IsAt d j s q → p ≡ q
one_part d form k j s p q a b =
    let A : ℕ → Type 0 = λ n. IsAt d n s p in
    (one_at d j s p s q (subst A (one_number d form k j s p q a b) a) b).1

-- the equation of that number is kept where the Boolean streams are these
abbrev pub KeptAt : ProblemDraft → List Bool → ℕ → Type 0
KeptAt d flags k = (s p : ℕ) → IsAt d k s p → get_or flags s false ≡ holds_in d flags p

pub all_kept : (d : ProblemDraft) → IsPlainForm d → (flags : List Bool) → ((k : ℕ) → k < length d.equations → KeptAt d flags k) → KeepsEquations d (alone flags)
all_kept d form flags each k e lt =
    let at = equation_at d form k lt in
    let K : Equation → Type 0 = Keeps (alone flags) (holds (alone flags) d.parts) in
    subst K (sym (get_or_from_slice_get d.equations k (equations.Flag at.0 at.1) e at.2)) (each k lt at.0 at.1 at.2)

pub kept_at : (d : ProblemDraft) (flags : List Bool) (k : ℕ) → KeepsEquations d (alone flags) → KeptAt d flags k
kept_at d flags k keeps s p at =
    let e : Equation = equations.Flag s p in
    let K : Equation → Type 0 = Keeps (alone flags) (holds (alone flags) d.parts) in
    subst K (get_or_from_slice_get d.equations k e e at) (keeps k e (at_within d k s p at))

contains_at : (d : ProblemDraft) (k s p : ℕ) → IsAt d k s p → Contains d.equations (equations.Flag s p)
contains_at d k s p at = (k, at_within d k s p at, get_or_from_slice_get d.equations k (equations.Flag s p) (equations.Flag s p) at)

-- an equation's stream depends on what its part names
pub depends_at : (d : ProblemDraft) (k s p r : ℕ) → IsAt d k s p → PartNames d r p → DependsOn d (d.ints + s) r
depends_at d k s p r at names = (equations.Flag s p, contains_at d k s p at, refl, names)

-- what depends on a stream has an equation whose part names it
pub depends_by : (d : ProblemDraft) → IsPlainForm d → (t r : ℕ) → DependsOn d t r → (k : ℕ) × (s : ℕ) × (p : ℕ) × IsAt d k s p × (t ≡ d.ints + s) × PartNames d r p
depends_by d form t r (e, has, is, names) =
    let at = equation_at d form has.0 has.1 in
    let same : e ≡ equations.Flag at.0 at.1 = sym has.2 ∙ get_or_from_slice_get d.equations has.0 (equations.Flag at.0 at.1) e at.2 in
    let N : Equation → Type 0 = λ x. EquationNames d x r in
    (has.0, at.0, at.1, at.2, sym is ∙ ap (target d.ints) same, subst N same names)
