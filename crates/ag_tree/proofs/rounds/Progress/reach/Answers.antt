use Rattle.std.proofs.Common.{◌∙◌, ℕ, subst, Option}
use Rattle.ag_kernel.specs.declared.theory.Found.{Found}
use Rattle.ag_kernel.specs.Theories.{IsFound}
use Rattle.ag_tree.specs.Going.{SettlesAs}
use Rattle.ag_tree.proofs.Going.{going_asked, going_grown, rest_grown, line_against, rows_said}
use Rattle.ag_tree.proofs.rounds.Progress.reach.Goals as goal

pub returns-in-Model-clause-going : goal.returns-in-Model-clause-going
returns-in-Model-clause-going g c = going_grown c.settle.new.self c.decide.new.kernel _ _ c.in_ok-line.ensures.going c.in_ok-whole.ensures.grown c.in_ok-whole.ensures.sound.begins

pub returns-in-Line-clause-going : goal.returns-in-Line-clause-going
returns-in-Line-clause-going g c = going_grown c.settle.new.self c.decide.new.kernel _ _ c.in_ok-line.ensures.going c.in_ok-whole.ensures.grown c.in_ok-whole.ensures.sound.begins

pub returns-clause-going : goal.returns-clause-going
returns-clause-going g c = going_asked c.settle.new.self c.len-self.result _ c.in_ok-line.ensures.going

pub returns-2-clause-going : goal.returns-2-clause-going
returns-2-clause-going g c = going_grown c.settle.new.self c.decide.new.kernel _ _ c.in_ok-line.ensures.going c.in_ok-whole.ensures.grown c.in_ok-whole.ensures.sound.begins

pub returns-in-Model-clause-reaches : goal.returns-in-Model-clause-reaches
returns-in-Model-clause-reaches g c =
    let F : Found → Type 0 = IsFound (g.T.Theory.leaves c.args.theory.now) c.decide.new.kernel c.deref.result.now in
    let S : Option ℕ → Type 0 = SettlesAs c.settle.new.self in (
      rest_grown c.settle.new.self c.decide.new.kernel c.in_ok-whole.ensures.grown (subst S c.in_default.is c.in_ok-line.ensures.settles),
      rows_said c.decide.new.kernel c.settle.new.self.trail.steps c.deref.result.now c.in-Model.whole (c.deref.ensures.value ∙ c.in_ok-lits.ensures.value) (subst F c.in-Model.is c.in_ok-whole.ensures.found),
    )

pub returns-in-Line-clause-reaches : goal.returns-in-Line-clause-reaches
returns-in-Line-clause-reaches g c =
    let F : Found → Type 0 = IsFound (g.T.Theory.leaves c.args.theory.now) c.decide.new.kernel c.deref.result.now in
    line_against c.decide.new.kernel c.settle.new.self.trail.steps c.deref.result.now c.in-Line.line (c.deref.ensures.value ∙ c.in_ok-lits.ensures.value) (subst F c.in-Line.is c.in_ok-whole.ensures.found)

pub returns-2-clause-reaches : goal.returns-2-clause-reaches
returns-2-clause-reaches g c =
    let F : Found → Type 0 = IsFound (g.T.Theory.leaves c.args.theory.now) c.decide.new.kernel c.deref.result.now in
    let S : Option ℕ → Type 0 = SettlesAs c.settle.new.self in
    (subst F c.in-Leaf.is c.in_ok-whole.ensures.found, rest_grown c.settle.new.self c.decide.new.kernel c.in_ok-whole.ensures.grown (subst S c.in_default.is c.in_ok-line.ensures.settles))
