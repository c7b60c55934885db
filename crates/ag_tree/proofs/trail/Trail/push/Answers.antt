use Rattle.std.proofs.Common.{◌≡◌, ◌<◌, ◌∙◌, ◌∷◌, [], length, reverse, ap, sym, subst, arith, Option, Bool, get_or, Some, None, set}
use Rattle.std.proofs.lemmas.List.{reverse-append, length-reverse, length-set, length_push}
use Rattle.ag_tree.specs.declared.trail.Step.{Step}
use Rattle.ag_tree.specs.Facts.{Lacks}
use Rattle.ag_tree.specs.Keeping.{AreFresh, seen}
use Rattle.ag_tree.specs.Trail.{Seen, literals}
use Rattle.ag_tree.proofs.Lits.{lacks_truth}
use Rattle.ag_tree.proofs.Values.{AreTied, push_tied, unset_push}
use Rattle.ag_tree.proofs.trail.Trail.push.Goals as goal

pub invariant_of-self-2 : goal.invariant_of-self-2
invariant_of-self-2 c =
    let i = c.self.invariant in
    let values = c.self.inside.values.items in
    let steps = reverse c.self.inside.steps.items in
    let s : Step = c.args.step in
    let is : reverse c.push.new.self.items ≡ s ∷ steps = ap reverse c.in_ok-push.ensures.items ∙ reverse-append c.self.inside.steps.items (s ∷ []) in
    let view : seen c.self.inside ≡ c.args.self.now = c.self.view_is in
    let lt : s.lit.atom < length values = omega (arith, c.requires.range, ap (λ (t : Seen). t.atoms) view) in
    let lacks : Lacks (literals steps) s.lit.atom = subst (λ (t : Seen). Lacks (literals t.steps) s.lit.atom) (sym view) c.requires.fresh in
    let free : get_or values s.lit.atom None ≡ None = i.tied s.lit.atom ∙ lacks_truth (literals steps) s.lit.atom lacks in
    let less = unset_push values s.lit.atom s.lit.holds lt free in
    record {
      tied = subst (AreTied (set values s.lit.atom (Some s.lit.holds))) (sym is) (push_tied values steps s i.tied lt);
      fresh = subst AreFresh (sym is) (lacks, i.fresh);
      counted = omega (arith, less, i.counted, ap length c.in_ok-push.ensures.items, length_push c.self.inside.steps.items s, length-set {A = Option Bool});
      small = omega (arith, i.small, length-set {A = Option Bool});
    }

pub returns-clause-room : goal.returns-clause-room
returns-clause-room c =
    let i = c.self.invariant in
    let values = c.self.inside.values.items in
    let s : Step = c.args.step in
    let steps = reverse c.self.inside.steps.items in
    let view : seen c.self.inside ≡ c.args.self.now = c.self.view_is in
    let lt : s.lit.atom < length values = omega (arith, c.requires.range, ap (λ (t : Seen). t.atoms) view) in
    let lacks : Lacks (literals steps) s.lit.atom = subst (λ (t : Seen). Lacks (literals t.steps) s.lit.atom) (sym view) c.requires.fresh in
    let free : get_or values s.lit.atom None ≡ None = i.tied s.lit.atom ∙ lacks_truth (literals steps) s.lit.atom lacks in
    let less = unset_push values s.lit.atom s.lit.holds lt free in
    omega (arith, less, i.counted, ap length c.in_ok-push.ensures.items, length_push c.self.inside.steps.items s, length-set {A = Option Bool}, length-reverse {A = Step})
