-- The derived tests of two drafts and of what they hold tell whether they are the same.
use Rattle.std.proofs.Common.{◌≡◌, ℕ, Bool, true, false, List, Option, Some, None, sym, refl, ap}
use Rattle.std.specs.Bool.{Decides}
use Rattle.std.specs.Option.{option_eq}
use Rattle.std.proofs.Common.{eqb}
use mathlib.Core.Bool.{beq}
use Rattle.std.specs.Cmp.Lexicographic.{pointwise, pointwise_decides}
use Rattle.std.proofs.lemmas.Bool.{false≢true}
use Rattle.std.proofs.lemmas.Bool.Decides.{Decides-eqb, Decides-int_eq, Decides-and, Decides-like}
use Rattle.ag_stream.specs.declared.problem.RowTerm.{RowTerm}
use Rattle.ag_stream.specs.declared.problem.Row.{Row}
use Rattle.ag_stream.specs.declared.problem.Part.{Part}
use Rattle.ag_stream.specs.declared.problem.Part.TheVariants as parts
use Rattle.ag_stream.specs.declared.problem.Equation.{Equation}
use Rattle.ag_stream.specs.declared.problem.Equation.TheVariants as equations
use Rattle.ag_stream.specs.declared.problem.ProblemDraft.{ProblemDraft}
use Rattle.ag_stream.specs.contracts.problem.RowPartialEq.TheImpl as row_impl
use Rattle.ag_stream.specs.contracts.problem.RowTermPartialEq.TheImpl as term_impl
use Rattle.ag_stream.specs.contracts.problem.PartPartialEq.TheImpl as part_impl
use Rattle.ag_stream.specs.contracts.problem.EquationPartialEq.TheImpl as equation_impl
use Rattle.ag_stream.specs.contracts.problem.ProblemDraftPartialEq.TheImpl as draft_impl

beq_decides : (a b : Bool) → Decides (beq a b) (a ≡ b)
beq_decides true true = ((λ e. refl), (λ e. refl))
beq_decides true false = ((λ e. absurd (false≢true e)), (λ e. absurd (false≢true (sym e))))
beq_decides false true = ((λ e. absurd (false≢true e)), (λ e. absurd (false≢true e)))
beq_decides false false = ((λ e. refl), (λ e. refl))

option_decides : (a b : Option ℕ) → Decides (option_eq eqb a b) (a ≡ b)
option_decides None None = ((λ e. refl), (λ e. refl))
option_decides None (Some b) = ((λ e. absurd (false≢true e)), (λ e. absurd cc))
option_decides (Some a) None = ((λ e. absurd (false≢true e)), (λ e. absurd cc))
option_decides (Some a) (Some b) = Decides-like _ (λ e. ap (λ (x : ℕ). Some x) e) (λ e. cc) (Decides-eqb a b)

pub term_decides : (a b : RowTerm) → Decides (term_impl.eq-value.it a b) (a ≡ b)
term_decides a b =
    Decides-like _
    (λ p. λ i. record { stream = p.0 i; before = p.1.0 i; factor = p.1.1 i })
    (λ e. (ap (λ (t : RowTerm). t.stream) e, (ap (λ (t : RowTerm). t.before) e, ap (λ (t : RowTerm). t.factor) e)))
    (Decides-and _ _ (Decides-eqb a.stream b.stream) (Decides-and _ _ (beq_decides a.before b.before) (Decides-int_eq a.factor b.factor)))

pub row_decides : (a b : Row) → Decides (row_impl.eq-value.it a b) (a ≡ b)
row_decides a b =
    Decides-like _
    (λ p. λ i. record { terms = p.0 i; constant = p.1 i })
    (λ e. (ap (λ (r : Row). r.terms) e, ap (λ (r : Row). r.constant) e))
    (Decides-and _ _ (pointwise_decides term_decides a.terms b.terms) (Decides-int_eq a.constant b.constant))

pub part_decides : (a b : Part) → Decides (part_impl.eq-value.it a b) (a ≡ b)
part_decides (parts.Truth a) (parts.Truth b) = Decides-like _ (λ p. λ i. parts.Truth (p i)) (λ e. cc) (beq_decides a b)
part_decides (parts.Flag a x) (parts.Flag b y) = Decides-like _ (λ p. λ i. parts.Flag (p.0 i) (p.1 i)) (λ e. (cc, cc)) (Decides-and _ _ (Decides-eqb a b) (beq_decides x y))
part_decides (parts.Compare a) (parts.Compare b) = Decides-like _ (λ p. λ i. parts.Compare (p i)) (λ e. cc) (row_decides a b)
part_decides (parts.Not a) (parts.Not b) = Decides-like _ (λ p. λ i. parts.Not (p i)) (λ e. cc) (Decides-eqb a b)
part_decides (parts.And a x) (parts.And b y) = Decides-like _ (λ p. λ i. parts.And (p.0 i) (p.1 i)) (λ e. (cc, cc)) (Decides-and _ _ (Decides-eqb a b) (Decides-eqb x y))
part_decides (parts.Or a x) (parts.Or b y) = Decides-like _ (λ p. λ i. parts.Or (p.0 i) (p.1 i)) (λ e. (cc, cc)) (Decides-and _ _ (Decides-eqb a b) (Decides-eqb x y))
part_decides (parts.Same a x) (parts.Same b y) = Decides-like _ (λ p. λ i. parts.Same (p.0 i) (p.1 i)) (λ e. (cc, cc)) (Decides-and _ _ (Decides-eqb a b) (Decides-eqb x y))
part_decides (parts.Choice a x p) (parts.Choice b y q) = Decides-like _ (λ h. λ i. parts.Choice (h.0 i) (h.1.0 i) (h.1.1 i)) (λ e. (cc, (cc, cc))) (Decides-and _ _ (Decides-eqb a b) (Decides-and _ _ (Decides-eqb x y) (Decides-eqb p q)))
part_decides (parts.Arrow a x) (parts.Arrow b y) = Decides-like _ (λ p. λ i. parts.Arrow (p.0 i) (p.1 i)) (λ e. (cc, cc)) (Decides-and _ _ (Decides-eqb a b) (Decides-eqb x y))
part_decides _ _ = ((λ e. absurd (false≢true e)), (λ e. absurd cc))

pub equation_decides : (a b : Equation) → Decides (equation_impl.eq-value.it a b) (a ≡ b)
equation_decides (equations.Flag s p) (equations.Flag t q) = Decides-like _ (λ h. λ i. equations.Flag (h.0 i) (h.1 i)) (λ e. (cc, cc)) (Decides-and _ _ (Decides-eqb s t) (Decides-eqb p q))
equation_decides (equations.Whole s p) (equations.Whole t q) = Decides-like _ (λ h. λ i. equations.Whole (h.0 i) (h.1 i)) (λ e. (cc, cc)) (Decides-and _ _ (Decides-eqb s t) (row_decides p q))
equation_decides (equations.Choice s p u v) (equations.Choice t q w x) = Decides-like _ (λ h. λ i. equations.Choice (h.0 i) (h.1.0 i) (h.1.1.0 i) (h.1.1.1 i)) (λ e. (cc, (cc, (cc, cc)))) (Decides-and _ _ (Decides-eqb s t) (Decides-and _ _ (Decides-eqb p q) (Decides-and _ _ (row_decides u w) (row_decides v x))))
equation_decides (equations.First s p u) (equations.First t q w) = Decides-like _ (λ h. λ i. equations.First (h.0 i) (h.1.0 i) (h.1.1 i)) (λ e. (cc, (cc, cc))) (Decides-and _ _ (Decides-eqb s t) (Decides-and _ _ (row_decides p q) (row_decides u w)))
equation_decides (equations.Div s p u) (equations.Div t q w) = Decides-like _ (λ h. λ i. equations.Div (h.0 i) (h.1.0 i) (h.1.1 i)) (λ e. (cc, (cc, cc))) (Decides-and _ _ (Decides-eqb s t) (Decides-and _ _ (row_decides p q) (Decides-int_eq u w)))
equation_decides (equations.Mod s p u) (equations.Mod t q w) = Decides-like _ (λ h. λ i. equations.Mod (h.0 i) (h.1.0 i) (h.1.1 i)) (λ e. (cc, (cc, cc))) (Decides-and _ _ (Decides-eqb s t) (Decides-and _ _ (row_decides p q) (Decides-int_eq u w)))
equation_decides _ _ = ((λ e. absurd (false≢true e)), (λ e. absurd cc))

pub numbers_decide : (xs ys : List ℕ) → Decides (pointwise eqb xs ys) (xs ≡ ys)
numbers_decide xs ys = pointwise_decides Decides-eqb xs ys

pub draft_decides : (a b : ProblemDraft) → Decides (draft_impl.eq-value.it a b) (a ≡ b)
draft_decides a b =
    Decides-like _
    (λ p. λ i. record { ints = p.0 i; flags = p.1.0 i; parts = p.1.1.0 i; equations = p.1.1.1.0 i; so_far = p.1.1.1.1.0 i; earlier = p.1.1.1.1.1.0 i; claim = p.1.1.1.1.1.1.0 i; length = p.1.1.1.1.1.1.1 i })
    (λ e. (ap (λ (d : ProblemDraft). d.ints) e, (ap (λ (d : ProblemDraft). d.flags) e, (ap (λ (d : ProblemDraft). d.parts) e, (ap (λ (d : ProblemDraft). d.equations) e, (ap (λ (d : ProblemDraft). d.so_far) e, (ap (λ (d : ProblemDraft). d.earlier) e, (ap (λ (d : ProblemDraft). d.claim) e, ap (λ (d : ProblemDraft). d.length) e))))))))
    (Decides-and _ _ (Decides-eqb a.ints b.ints) (Decides-and _ _ (Decides-eqb a.flags b.flags)
    (Decides-and _ _ (pointwise_decides part_decides a.parts b.parts) (Decides-and _ _ (pointwise_decides equation_decides a.equations b.equations)
    (Decides-and _ _ (numbers_decide a.so_far b.so_far) (Decides-and _ _ (numbers_decide a.earlier b.earlier)
    (Decides-and _ _ (option_decides a.claim b.claim) (Decides-eqb a.length b.length))))))))
