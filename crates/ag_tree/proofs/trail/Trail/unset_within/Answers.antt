use Rattle.std.proofs.Common.{◌≡◌, ℕ, inl, inr, arith, subst}
use Rattle.std.proofs.lemmas.Bool.{cases_eq}
use Rattle.ag_tree.specs.Facts.{Lacks}
use Rattle.ag_tree.specs.Trail.{literals, truth_in}
use Rattle.ag_tree.proofs.Looking.{value_read, lacks_here, set_here}
use Rattle.ag_tree.proofs.trail.Trail.unset_within.Goals as goal
use Rattle.ag_tree.proofs.trail.Trail.unset_within.Goals.{After-is_none}

read : (c : After-is_none) → truth_in (literals c.args.self.now.steps) c.loop-atom.atom ≡ c.index.result.now
read c = value_read c.self.inside c.args.self.now c.loop-atom.atom c.index.result.now c.self.invariant c.self.view_is (omega (arith, c.requires, c.loop-atom-test.true)) c.index.ensures

pub returns-then-is_none : goal.returns-then-is_none
returns-then-is_none c =
    let i = (goal.at.returns-then-is_none c).After-is_none in
    (omega (arith, c.requires, c.loop-atom-test.true), lacks_here (literals c.args.self.now.steps) c.loop-atom.atom c.index.result.now c.is_none.result (read i) c.is_none.ensures c.if-is_none.true)

pub loop-atom-preserved : goal.loop-atom-preserved
loop-atom-preserved c a low lt lacks =
    let i = (goal.at.loop-atom-preserved c).After-is_none in
    let L : ℕ → Type 0 = λ n. Lacks (literals c.args.self.now.steps) n in
    elim (cases_eq a c.loop-atom.atom) [
      | inl same ↦ set_here (literals c.args.self.now.steps) c.loop-atom.atom c.index.result.now c.is_none.result (read i) c.is_none.ensures c.if-is_none.false (subst L same lacks)
      | inr ne ↦ c.loop-atom.invariant a low (omega (arith, lt, ne)) lacks
    ]
