use Rattle.std.proofs.Common.{◌≤◌, Bool, length, ap, subst, arith}
use Rattle.std.proofs.lemmas.Result.{IfOk-weaker}
use Rattle.ag_tree.specs.declared.rounds.Reached.{Reached}
use Rattle.ag_tree.specs.Going.{EndsAs, ReachesAs}
use Rattle.ag_tree.proofs.Solving.{ends_before}
use Rattle.ag_tree.proofs.rounds.Progress.round.Goals as goal

pub returns-in-Conflict-clause-ends : goal.returns-in-Conflict-clause-ends
returns-in-Conflict-clause-ends g c =
    let before = c.args.self.now in
    let mid = c.reach.new.self in
    let leaves : Bool = g.T.Theory.leaves c.args.theory.now in
    IfOk-weaker c.turn.result (EndsAs leaves c.args.work mid c.turn.new.self) (EndsAs leaves c.args.work before c.turn.new.self)
    (ends_before leaves c.args.work before mid c.turn.new.self c.in_ok-line.ensures.keeps) (c.turn.ensures.ends leaves)

pub returns-in_ok-after_model-in-Model-clause-ends : goal.returns-in_ok-after_model-in-Model-clause-ends
returns-in_ok-after_model-in-Model-clause-ends g c =
    let leaves : Bool = g.T.Theory.leaves c.args.theory.now in
    let few : length c.reach.new.self.facts ≤ c.args.work = omega (arith, ap length c.in_ok-line.ensures.keeps.facts, c.requires.few) in
    ends_before leaves c.args.work c.args.self.now c.reach.new.self c.after_model.new.self c.in_ok-line.ensures.keeps c.in_ok-after_model-in-Model.field-0 (c.in_ok-after_model-in-Model.ensures.ends leaves c.args.work few)

pub returns-in_ok-after_leaf-in-Leaf-clause-ends : goal.returns-in_ok-after_leaf-in-Leaf-clause-ends
returns-in_ok-after_leaf-in-Leaf-clause-ends g c =
    let leaves : Bool = g.T.Theory.leaves c.args.theory.now in
    let few : length c.reach.new.self.facts ≤ c.args.work = omega (arith, ap length c.in_ok-line.ensures.keeps.facts, c.requires.few) in
    let R : Reached → Type 0 = ReachesAs leaves c.reach.new.self in
    let reached = subst R c.in-Leaf.is c.in_ok-line.ensures.reaches in
    ends_before leaves c.args.work c.args.self.now c.reach.new.self c.after_leaf.new.self c.in_ok-line.ensures.keeps c.in_ok-after_leaf-in-Leaf.field-0 (c.in_ok-after_leaf-in-Leaf.ensures.ends leaves c.args.work reached.0 few)
