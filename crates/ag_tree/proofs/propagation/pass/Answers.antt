use Rattle.std.proofs.Common.{◌≡◌, ◌<◌, ◌+◌, ◌∙◌, ℕ, List, get_or, ap, sym, subst, arith, All}
use Rattle.std.proofs.lemmas.List.Elements.{All-contains}
use Rattle.ag_query.specs.declared.clauses.Lit.{Lit}
use Rattle.ag_kernel.specs.declared.line.Line.{Line}
use Rattle.ag_kernel.specs.Rules.{line_at}
use Rattle.ag_tree.specs.Facts.{IsAtRest, HasNoneBothWays}
use Rattle.ag_tree.specs.Trail.{Seen, literals, IsLast}
use Rattle.ag_tree.specs.Going.{IsClauseLine}
use Rattle.ag_tree.proofs.Looking.{IsDenied}
use Rattle.ag_tree.proofs.Drawing.{PassedSo, draws_none, pass_rest, pass_push, line_is}
use Rattle.ag_tree.proofs.propagation.pass.Goals as goal
use Rattle.ag_tree.proofs.propagation.pass.Goals.{in-Rest, in-Last+in_ok-push-in-Last, After-as_slice}

pub loop-number-init : goal.loop-number-init
loop-number-init c = record { draws = draws_none c.args.kernel.now.lines c.args.trail.now c.requires.sound; settled = λ k d low lt. absurd (omega (arith, lt)) }

number : After-as_slice → ℕ
number c = get_or c.args.numbers.now c.loop-number.number-index 0

clause_line : (c : After-as_slice) → IsClauseLine c.args.kernel.now.lines c.loop-number.trail.atoms (number c)
unfolding number
clause_line c =
    let P : ℕ → Type 0 = λ n. IsClauseLine c.args.kernel.now.lines n (get_or c.args.numbers.now c.loop-number.number-index 0) in
    subst P (sym c.loop-number.invariant.draws.atoms) (c.requires.lines c.loop-number.number-index 0 c.loop-number-test.true)

slice_is : (c : After-as_slice) → c.as_slice.result.now ≡ (line_at c.args.kernel.now.lines (number c)).lits
unfolding number
slice_is c = c.as_slice.ensures ∙ ap (λ (l : Line). l.lits) (line_is c.args.kernel.now.lines (get_or c.args.numbers.now c.loop-number.number-index 0) c.line.result.now c.line.ensures.line)

pub look-requires-clause-range : goal.look-requires-clause-range
look-requires-clause-range c =
    let i = (goal.at.look-requires-clause-range c).After-as_slice in
    subst (λ (ls : List Lit). All (λ (l : Lit). l.atom < c.loop-number.trail.atoms) ls) (sym (slice_is i)) (clause_line i).below

pub look-requires-clause-plain : goal.look-requires-clause-plain
look-requires-clause-plain c =
    let i = (goal.at.look-requires-clause-plain c).After-as_slice in
    subst HasNoneBothWays (sym (slice_is i)) (clause_line i).plain

pub push-requires-clause-range : goal.push-requires-clause-range
push-requires-clause-range c =
    let i = (goal.at.push-requires-clause-range c).After-as_slice in
    let B : Lit → Type 0 = λ l. l.atom < c.loop-number.trail.atoms in
    All-contains B c.as_slice.result.now c.in-Last.lit (subst (λ (ls : List Lit). All B ls) (sym (slice_is i)) (clause_line i).below) c.in-Last.ensures.has

pub push-requires-clause-fresh : goal.push-requires-clause-fresh
push-requires-clause-fresh c = c.in-Last.ensures.lacks

pub loop-number-preserved : goal.loop-number-preserved
unfolding number
loop-number-preserved c =
    let i = (goal.at.loop-number-preserved c).After-as_slice in
    let lines = c.args.kernel.now.lines in
    let so = c.loop-number.invariant in
    let S : Seen → Type 0 = λ t. PassedSo lines c.args.numbers.now c.args.trail.now t (c.loop-number.number-index + 1) in
    elim c.match-look.branch [
      | in-Rest w ↦ subst S (sym w.trail-is)
          (pass_rest lines c.args.numbers.now c.args.trail.now c.loop-number.trail c.loop-number.number-index 0 so c.loop-number-test.true
          (subst (IsAtRest (literals c.loop-number.trail.steps)) (slice_is i) w.in-Rest.ensures))
      | in-Last+in_ok-push-in-Last w ↦
          let L : List Lit → Type 0 = λ ls. IsLast (literals c.loop-number.trail.steps) ls w.in-Last.lit in
          subst S (sym w.trail-is)
          (pass_push lines c.args.numbers.now c.args.trail.now c.loop-number.trail w.push.new.self c.loop-number.number-index 0 w.in-Last.lit so c.loop-number-test.true
          (clause_line i).there (clause_line i).no_row (subst L (slice_is i) w.in-Last.ensures) w.in_ok-push-in-Last.ensures.steps)
    ]

pub returns-in-Conflict-clause-draws : goal.returns-in-Conflict-clause-draws
returns-in-Conflict-clause-draws c = c.loop-number.invariant.draws

pub returns-in-Conflict-clause-passes : goal.returns-in-Conflict-clause-passes
unfolding number
returns-in-Conflict-clause-passes c =
    let i = (goal.at.returns-in-Conflict-clause-passes c).After-as_slice in
    let D : List Lit → Type 0 = All (IsDenied (literals c.loop-number.trail.steps)) in
    record { there = (clause_line i).there; no_row = (clause_line i).no_row; denied = subst D (slice_is i) c.in-Conflict.ensures }

pub returns-clause-passes : goal.returns-clause-passes
returns-clause-passes c k d lt = c.loop-number.invariant.settled k d (omega arith) (omega (arith, lt, c.loop-number-test.false))
