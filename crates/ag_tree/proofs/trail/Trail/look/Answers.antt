use Rattle.std.proofs.Common.{◌≡◌, ◌+◌, ◌∙◌, ℕ, false, Option, List, sym, subst, get_or}
use Rattle.std.proofs.lemmas.List.Elements.{Contains-get_or}
use Rattle.ag_query.specs.declared.clauses.Lit.{Lit}
use Rattle.ag_tree.specs.Trail.{literals, truth_in}
use Rattle.ag_tree.proofs.Looking.{LooksSoFar, value_read, found_here, denied_here, denied_more, first_left, same_left, two_left, all_seen, IsDenied}
use Rattle.ag_tree.proofs.trail.Trail.look.Goals as goal
use Rattle.ag_tree.proofs.trail.Trail.look.Goals.{in-Some+else-holds-lit, in-None+in-None-last, in-None+in-Some-last+else-other-lit, After-index}

here : After-index → Lit
here c = get_or c.args.clause.now c.loop-lit.lit-index (record { atom = 0; holds = false })

read : (c : After-index) → truth_in (literals c.args.self.now.steps) (here c).atom ≡ c.index.result.now
unfolding here
read c =
    value_read c.self.inside c.args.self.now (here c).atom c.index.result.now c.self.invariant c.self.view_is
    (c.requires.range c.loop-lit.lit-index (record { atom = 0; holds = false }) c.loop-lit-test.true) c.index.ensures

pub returns-then-holds-lit : goal.returns-then-holds-lit
unfolding here
returns-then-holds-lit c =
    let i = (goal.at.returns-then-holds-lit c).After-index in
    found_here (literals c.args.self.now.steps) c.args.clause.now (here i) c.in-Some.holds
    (Contains-get_or c.args.clause.now c.loop-lit.lit-index (record { atom = 0; holds = false }) c.loop-lit-test.true)
    (read i ∙ c.in-Some.is) c.if-holds-lit.true

pub loop-lit-preserved : goal.loop-lit-preserved
unfolding here
loop-lit-preserved c =
    let i = (goal.at.loop-lit-preserved c).After-index in
    let d : Lit = record { atom = 0; holds = false } in
    let lits : List Lit = literals c.args.self.now.steps in
    let clause : List Lit = c.args.clause.now in
    let n : ℕ = c.loop-lit.lit-index in
    let So : Option Lit → Type 0 = λ u. LooksSoFar lits clause (n + 1) u in
    let Was : Option Lit → Type 0 = λ u. LooksSoFar lits clause n u in
    let so : Was c.loop-lit.last = c.loop-lit.invariant in
    elim c.match-index.branch [
      | in-Some+else-holds-lit w ↦ subst So (sym w.last-is) (denied_more lits clause n d c.loop-lit.last c.loop-lit-test.true so (denied_here lits (here i) w.in-Some.holds (read i ∙ w.in-Some.is) w.if-holds-lit.false))
      | in-None+in-None-last w ↦ subst So (sym w.last-is) (first_left lits clause n d c.loop-lit-test.true (subst Was w.in-None-last.is so) (read i ∙ w.in-None.is))
      | in-None+in-Some-last+else-other-lit w ↦ subst So (sym w.last-is) (same_left lits clause n d w.in-Some-last.other c.loop-lit-test.true c.requires.plain (subst Was w.in-Some-last.is so) w.if-other-lit.false)
    ]

pub returns-then-other-lit : goal.returns-then-other-lit
unfolding here
returns-then-other-lit c =
    let i = (goal.at.returns-then-other-lit c).After-index in
    let Was : Option Lit → Type 0 = λ u. LooksSoFar (literals c.args.self.now.steps) c.args.clause.now c.loop-lit.lit-index u in
    two_left (literals c.args.self.now.steps) c.args.clause.now c.loop-lit.lit-index (record { atom = 0; holds = false }) c.in-Some-last.other c.loop-lit-test.true
    (subst Was c.in-Some-last.is c.loop-lit.invariant) (read i ∙ c.in-None.is) c.if-other-lit.true

pub returns-in-None-last-2 : goal.returns-in-None-last-2
returns-in-None-last-2 c =
    let lits : List Lit = literals c.args.self.now.steps in
    let Was : Option Lit → Type 0 = λ u. LooksSoFar lits c.args.clause.now c.loop-lit.lit-index u in
    all_seen (IsDenied lits) c.args.clause.now c.loop-lit.lit-index (subst Was c.in-None-last-2.is c.loop-lit.invariant) c.loop-lit-test.false
