use Rattle.std.proofs.Common.{◌≡◌, ◌<◌, ◌∙◌, ◌∷◌, [], length, reverse, ap, subst, refl, arith, Option, Bool, Some}
use Rattle.std.proofs.lemmas.List.{reverse-append, length-set, length_push}
use Rattle.ag_tree.specs.declared.trail.Step.{Step}
use Rattle.ag_tree.specs.Keeping.{AreFresh}
use Rattle.ag_tree.specs.Trail.{literals, truth_in}
use Rattle.ag_tree.proofs.Lits.{truth_here}
use Rattle.ag_tree.proofs.Values.{AreTied, pop_tied, unset_pop, known_below}
use Rattle.ag_tree.proofs.trail.Trail.pop.Goals as goal

pub index_mut-requires : goal.index_mut-requires
index_mut-requires c =
    let rest = reverse c.pop.new.self.items in
    let s : Step = c.in_ok-step.step in
    let is : reverse c.self.inside.steps.items ≡ s ∷ rest = ap reverse c.in_ok-step.ensures.items ∙ reverse-append c.pop.new.self.items (s ∷ []) in
    let tied : AreTied c.self.inside.values.items (s ∷ rest) = subst (AreTied c.self.inside.values.items) is c.self.invariant.tied in
    let lt : s.lit.atom < length c.self.inside.values.items = known_below c.self.inside.values.items (s ∷ rest) s.lit.atom s.lit.holds tied (truth_here s.lit (literals rest) s.lit.atom refl) in
    omega (arith, lt)

pub invariant_of-self-2 : goal.invariant_of-self-2
invariant_of-self-2 c =
    let rest = reverse c.pop.new.self.items in
    let s : Step = c.in_ok-step.step in
    let values = c.self.inside.values.items in
    let is : reverse c.self.inside.steps.items ≡ s ∷ rest = ap reverse c.in_ok-step.ensures.items ∙ reverse-append c.pop.new.self.items (s ∷ []) in
    let tied : AreTied values (s ∷ rest) = subst (AreTied values) is c.self.invariant.tied in
    let fresh : AreFresh (s ∷ rest) = subst AreFresh is c.self.invariant.fresh in
    let here : truth_in (literals (s ∷ rest)) s.lit.atom ≡ Some s.lit.holds = truth_here s.lit (literals rest) s.lit.atom refl in
    let lt : s.lit.atom < length values = known_below values (s ∷ rest) s.lit.atom s.lit.holds tied here in
    let more = unset_pop values s.lit.atom s.lit.holds lt (tied s.lit.atom ∙ here) in
    record {
      tied = pop_tied values rest s tied fresh lt;
      fresh = fresh.1;
      counted = omega (arith, more, c.self.invariant.counted, ap length c.in_ok-step.ensures.items, length_push c.pop.new.self.items s, length-set {A = Option Bool});
      small = omega (arith, c.self.invariant.small, length-set {A = Option Bool});
    }
