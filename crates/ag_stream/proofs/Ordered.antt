-- What an order of dependence gives: no stream depends on itself, and the equations have at most one solution.
use Rattle.std.proofs.Common.{◌≡◌, ℕ, ◌<◌, Bool, true, false, List, length, get_or, inl, inr, sym, refl, subst, ◌∙◌, arith}
use Rattle.std.proofs.lemmas.Bool.{cases_lt}
use Rattle.std.proofs.lemmas.List.{get_or_default}
use Rattle.ag_stream.specs.declared.problem.ProblemDraft.{ProblemDraft}
use Rattle.ag_stream.specs.Dependence.{DependsOn, Leads, directly, through, HasNoCycle}
use Rattle.ag_stream.specs.Work.{IsPlainForm, IsMarked, IsArranging, IsOrder, target_at}
use Rattle.ag_stream.proofs.Equations.{equation_at, target_is, depends_by, at_within}

-- the place in the order of some equation for a stream
abbrev pub StandsAt : ProblemDraft → List ℕ → ℕ → ℕ → Type 0
StandsAt d order j t = (j < length order) × (target_at d (get_or order j 0) ≡ t)

stands : (d : ProblemDraft) → IsPlainForm d → (order : List ℕ) → IsOrder d order → (t r : ℕ) → DependsOn d t r → (j : ℕ) × StandsAt d order j t
stands d form order kept t r dep =
    let by = depends_by d form t r dep in
    let has = kept.whole by.0 (at_within d by.0 by.1 by.2 by.3) in
    let T : ℕ → Type 0 = λ x. target_at d x ≡ t in
    (has.0, (has.1, subst T (sym (get_or_default order has.0 0 by.0 has.1 ∙ has.2)) (target_is d by.0 by.1 by.2 by.3 ∙ sym by.4)))

behind : (d : ProblemDraft) (order : List ℕ) → IsOrder d order → (i j t r : ℕ) → StandsAt d order j t → StandsAt d order i r → DependsOn d t r → i < j
behind d order kept i j t r at other dep =
    elim (cases_lt i j) [
      | inl lt ↦ lt
      | inr le ↦
          let D : ℕ → ℕ → Type 0 = λ x y. DependsOn d x y in
          let E : ℕ → Type 0 = λ x. DependsOn d x r in
          let F : ℕ → Type 0 = λ y. DependsOn d (target_at d (get_or order j 0)) y in
          absurd (kept.pairs j i le other.0 (subst F (sym other.1) (subst E (sym at.1) dep)))
    ]

some_dependence : (d : ProblemDraft) (r t : ℕ) → Leads d r t → (q : ℕ) × DependsOn d t q
some_dependence d r t (directly u dep) = (r, dep)
some_dependence d r t (through u v dep leads) = (v, dep)

clear : (b : Bool) → (b ≡ true → ⊥) → b ≡ false
clear true h = absurd (h refl)
clear false h = refl

-- what leads to a stream stands before it
leads_behind : (d : ProblemDraft) → IsPlainForm d → (order : List ℕ) → IsOrder d order → (i r j t : ℕ) → Leads d r t → StandsAt d order i r → StandsAt d order j t → i < j
leads_behind d form order kept i r j t (directly u dep) first last = behind d order kept i j u r last first dep
leads_behind d form order kept i r j t (through u v dep leads) first last =
    let mid = stands d form order kept v (some_dependence d r v leads).0 (some_dependence d r v leads).1 in
    let before : mid.0 < j = behind d order kept mid.0 j u v last mid.1 dep in
    let after : i < mid.0 = leads_behind d form order kept i r mid.0 v leads first mid.1 in
    omega arith

pub no_cycle : (d : ProblemDraft) → IsPlainForm d → (order : List ℕ) → IsOrder d order → HasNoCycle d
no_cycle d form order kept s leads =
    let some = some_dependence d s s leads in
    let at = stands d form order kept s some.0 some.1 in
    let lt : at.0 < at.0 = leads_behind d form order kept at.0 s at.0 s leads at.1 at.1 in
    omega arith

-- when no stream waits, the equations that were placed are an order of them all
pub arranged : (d : ProblemDraft) → IsPlainForm d → (order : List ℕ) (waits : List Bool) → IsArranging d order waits → ((s : ℕ) → IsMarked waits s → ⊥) → IsOrder d order
arranged d form order waits kept none = record {
  within = kept.within;
  whole = λ k lt. (let at = equation_at d form k lt in kept.placed k at.0 at.1 at.2 (clear (get_or waits at.0 false) (none at.0)));
  pairs = kept.pairs;
}
