-- What a report tells is true of what was listed.
use Rattle.std.proofs.Common.{◌≡◌, ◌∙◌, ◌<◌, ◌∷◌, [], ℕ, zero, suc, List, length, map, Option, Some, None, refl, sym, ap, subst, arith, get_or}
use Rattle.std.proofs.lemmas.List.{length-map}
use Rattle.std.specs.Prelude.{All, Any, Contains, IfSome}
use Rattle.std.specs.List.{AllByRecursion, flat_map}
use Rattle.std.proofs.lemmas.List.Elements.{All-from_recursion, recursion_from_All}
use Rattle.ag_base.specs.declared.limits.Limits.{Limits}
use Rattle.ag_stream.specs.declared.problem.ProblemDraft.{ProblemDraft}
use Rattle.ag_verdict.specs.declared.key.Key.{Key}
use Rattle.ag_verdict.specs.declared.key.Obligation.{Obligation}
use Rattle.ag_verdict.specs.declared.verdict.Verdict.{Verdict}
use Rattle.ag_verdict.specs.Verdicts.{IsTrueOf}
use Rattle.ag_small.specs.declared.package.Package.{Package}
use Rattle.ag_small.specs.Rules.{IsWellFormed}
use Rattle.ag_small.specs.Numbered.{obligations_of}
use Rattle.ag_small.specs.Named.{IsTrueOfNamed}
use Rattle.ag_small.specs.Carried.{VerdictsCarryOver}
use Rattle.ag_board.specs.Entries.{reported}
use Rattle.ag_board.specs.Machine.{State, Line, lines}
use Rattle.ag_board.specs.Laws.{AreTrue}
use Rattle.ag_top.specs.Commands.{IsToldOf, listed_of}
use Rattle.ag_top.specs.Keeping.{listed}
use Rattle.ag_top.proofs.Keeping.{last_has}

abbrev pair_of : Line → Key × ProblemDraft
pair_of l = (l.key, l.problem)

abbrev IsTrueLine : Line → Type 0
IsTrueLine l = IfSome l.verdict (IsTrueOf l.problem)

-- the keys of lines, each with its verdict or none
abbrev pub told_of : List Line → List (Key × Option Verdict)
told_of ls = map {B = Key × Option Verdict} (λ l. (l.key, l.verdict)) ls

-- what is found in a list is found behind one more
later : {A : Type 0} (P : A → Type 0) (x : A) (xs : List A) → Any P xs → Any P (x ∷ xs)
later P x xs a = (suc a.0, a.1, (let l = a.2 in omega arith), a.3, a.4)

told_more : (k : Key × ProblemDraft) (list : List (Key × ProblemDraft)) (line : Key × Option Verdict) → IsToldOf list line → IsToldOf (k ∷ list) line
told_more k list (j, None) h = tt
told_more k list (j, Some v) h = later (λ (x : Key × ProblemDraft). (x.0 ≡ j) × IsTrueOf x.1 v) k list h

all_told_more : (k : Key × ProblemDraft) (list : List (Key × ProblemDraft)) (lines : List (Key × Option Verdict)) → AllByRecursion (IsToldOf list) lines → AllByRecursion (IsToldOf (k ∷ list)) lines
all_told_more k list [] h = tt
all_told_more k list (l ∷ ls) h = (told_more k list l h.0, all_told_more k list ls h.1)

told_first : (key : Key) (p : ProblemDraft) (o : Option Verdict) (list : List (Key × ProblemDraft)) → IfSome o (IsTrueOf p) → IsToldOf ((key, p) ∷ list) (key, o)
told_first key p None list h = tt
told_first key p (Some v) list h = (0, (key, p), omega arith, refl, (refl, h))

each_told : (ls : List Line) → AllByRecursion IsTrueLine ls → AllByRecursion (IsToldOf (map pair_of ls)) (told_of ls)
each_told [] h = tt
each_told (l ∷ ls) h = (told_first l.key l.problem l.verdict (map pair_of ls) h.0, all_told_more (l.key, l.problem) (map pair_of ls) (told_of ls) (each_told ls h.1))

same_lines : (a b : ℕ) (x y : List (Key × Option Verdict)) → reported a x ≡ reported b y → x ≡ y
same_lines a b x y e = cc

-- what is reported of a state whose verdicts are true
pub reported_true : (s : State) (list : List (Key × ProblemDraft)) (n : ℕ) (told : List (Key × Option Verdict)) → AreTrue s → listed s ≡ list → reported n told ≡ reported (length s.revisions) (told_of (lines s)) → All (IsToldOf list) told
reported_true s list n told true keys e =
    let own : AllByRecursion (IsToldOf (map pair_of (lines s))) (told_of (lines s)) = each_told (lines s) (last_has IsTrueLine s.revisions (recursion_from_All IsTrueLine (flat_map (λ r. r) s.revisions) true)) in
    let here : AllByRecursion (IsToldOf list) (told_of (lines s)) = subst (λ (ks : List (Key × ProblemDraft)). AllByRecursion (IsToldOf ks) (told_of (lines s))) keys own in
    subst (λ (ls : List (Key × Option Verdict)). All (IsToldOf list) ls) (sym (same_lines n (length s.revisions) told (told_of (lines s)) e)) (All-from_recursion (IsToldOf list) (told_of (lines s)) here)

-- an obligation behind a listed pair
obligation_of : (os : List Obligation) (k : Key × ProblemDraft) (n : ℕ) → n < length os → get_or (map {B = Key × ProblemDraft} (λ o. (o.key, o.problem)) os) n k ≡ k
    → (o : Obligation) × Contains os o × (o.key ≡ k.0) × (o.problem ≡ k.1)
obligation_of [] k n l e = absurd (omega arith)
obligation_of (o ∷ os) k zero l e = (o, (0, omega arith, refl), ap (λ (x : Key × ProblemDraft). x.0) e, ap (λ (x : Key × ProblemDraft). x.1) e)
obligation_of (o ∷ os) k (suc n) l e =
    let r = obligation_of os k n (omega arith) e in
    let c = r.1 in
    (r.0, (suc c.0, (let m = c.1 in omega arith), c.2), r.2, r.3)

-- a verdict that is told is true of what its key says of the package
pub told_named : VerdictsCarryOver → (l : Limits) (p : Package) → IsWellFormed p → (line : Key × Option Verdict) → IsToldOf (listed_of l p) line → IfSome line.1 (λ v. IsTrueOfNamed p l.consistency line.0 v)
told_named carry l p w (key, None) h = tt
told_named carry l p w (key, Some v) h =
    let n : ℕ = l.consistency in
    let r = obligation_of (obligations_of p n) h.1 h.0 (let a = length-map {B = Key × ProblemDraft} (obligations_of p n) (λ (o : Obligation). (o.key, o.problem)) in let b = h.2 in omega (arith, a, b)) h.3 in
    subst (λ (k : Key). IsTrueOfNamed p n k v) (r.2 ∙ h.4.0) (carry p n r.0 v w r.1 (subst (λ (d : ProblemDraft). IsTrueOf d v) (sym r.3) h.4.1))
