use Rattle.std.proofs.Common.{◌<◌, ℕ, List, length, sym, subst, arith, All, Contains, false, Option, None}
use Rattle.ag_query.specs.declared.clauses.Lit.{Lit}
use Rattle.ag_kernel.specs.Rules.{line_at}
use Rattle.ag_tree.specs.Trail.{IsSettled}
use Rattle.ag_tree.specs.Going.{IsClauseLine, PassesAs}
use Rattle.ag_tree.specs.Listing.{listed}
use Rattle.ag_tree.proofs.Lits.{contains_all}
use Rattle.ag_tree.proofs.Drawing.{draws_none, draws_more, propagated_one, settled_rests}
use Rattle.ag_tree.proofs.propagation.propagate.Goals as goal

pub loop-head-init : goal.loop-head-init
loop-head-init c = record { draws = draws_none c.args.kernel.now.lines c.args.trail.now c.requires.sound; within = c.requires.from; settled = λ clause list h. h }

pub pass-requires-clause-lines : goal.pass-requires-clause-lines
pass-requires-clause-lines c =
    let N : ℕ → Type 0 = λ n. IsClauseLine c.args.kernel.now.lines c.loop-head.trail.atoms n in
    let here : (n : ℕ) → Contains (listed c.args.occurrences.now c.literal-lit.result) n → N n =
    λ n has. subst (λ (a : ℕ). IsClauseLine c.args.kernel.now.lines a n) (sym c.loop-head.invariant.draws.atoms) (c.requires.lines c.literal-lit.result n has) in
    subst (λ (ns : List ℕ). All N ns) (sym c.of.ensures) (contains_all N (listed c.args.occurrences.now c.literal-lit.result) here)

pub returns-in-Some-clause-draws : goal.returns-in-Some-clause-draws
returns-in-Some-clause-draws c = draws_more c.args.kernel.now.lines c.args.trail.now c.loop-head.trail c.pass.new.trail c.loop-head.invariant.draws c.in_ok-line.ensures.draws

pub loop-head-preserved : goal.loop-head-preserved
loop-head-preserved c =
    let lines = c.args.kernel.now.lines in
    let d : Lit = record { atom = 0; holds = false } in
    let lt : c.loop-head.head < length c.loop-head.trail.steps = omega (arith, c.loop-head-test.true, c.len.ensures.value) in
    let P : Option ℕ → Type 0 = λ r. PassesAs lines c.of.result.now c.loop-head.trail c.pass.new.trail r in
    let passed : P None = subst P c.in_default.is c.in_ok-line.ensures.passes in
    let N : ℕ → Type 0 = λ n. IsSettled (length c.loop-head.trail.steps) c.pass.new.trail.steps (line_at lines n).lits in
    propagated_one lines c.args.occurrences.now c.args.from c.args.trail.now c.loop-head.trail c.pass.new.trail c.loop-head.head c.literal-lit.result d c.loop-head.invariant c.in_ok-line.ensures.draws lt
    (c.literal-lit.ensures.value d) (subst (λ (ns : List ℕ). All N ns) c.of.ensures passed)

pub returns-clause-rests : goal.returns-clause-rests
returns-clause-rests c clause list h =
    settled_rests c.loop-head.head c.loop-head.trail.steps clause (omega (arith, c.loop-head-test.false, c.len.ensures.value)) (c.loop-head.invariant.settled clause list h)
