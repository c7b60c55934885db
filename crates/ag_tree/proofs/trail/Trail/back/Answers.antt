use Rattle.std.proofs.Common.{[], refl, ◌∙◌}
use Rattle.std.proofs.lemmas.List.Elements.{All-nil}
use Rattle.std.proofs.Common.{IsSome}
use Rattle.ag_tree.specs.declared.trail.Step.{Step}
use Rattle.ag_tree.proofs.Backing.{back_more, back_here, back_all, none_from, some_from}
use Rattle.ag_tree.proofs.trail.Trail.back.Goals as goal

pub loop-step-init : goal.loop-step-init
loop-step-init c = record { atoms = refl; drawn = []; is = refl; none_chosen = All-nil (λ (s : Step). IsSome s.reason) }

pub returns-then-is_none-clause-steps : goal.returns-then-is_none-clause-steps
returns-then-is_none-clause-steps c =
    back_here c.args.self.now c.loop-step.self c.pop.new.self c.in-Some.step c.loop-step.invariant c.in-Some.ensures.steps
    (none_from c.in-Some.step.reason c.is_none.result c.is_none.ensures c.if-is_none.true)

pub returns-then-is_none-clause-atoms : goal.returns-then-is_none-clause-atoms
returns-then-is_none-clause-atoms c = c.in-Some.ensures.atoms ∙ c.loop-step.invariant.atoms

pub loop-step-preserved : goal.loop-step-preserved
loop-step-preserved c =
    back_more c.args.self.now c.loop-step.self c.pop.new.self c.in-Some.step c.loop-step.invariant c.in-Some.ensures.steps c.in-Some.ensures.atoms
    (some_from c.in-Some.step.reason c.is_none.result c.is_none.ensures c.if-is_none.false)

pub returns-clause-steps : goal.returns-clause-steps
returns-clause-steps c = back_all c.args.self.now c.loop-step.self c.loop-step.invariant c.in_default.ensures.steps
