use Rattle.std.proofs.Common.{◌∙◌, ◌+◌, ◌≡◌, false, true, List, ap, get_or, refl, sym, subst}
use Rattle.std.proofs.lemmas.Bool.{false≢true}
use Rattle.ag_query.specs.declared.clauses.Lit.{Lit}
use Rattle.ag_query.specs.Meaning.{contrary}
use Rattle.ag_kernel.specs.Marks.{Has}
use Rattle.ag_kernel.specs.Sets.{has, with_literal}
use Rattle.ag_tree.proofs.BothWays.{AreSeen, seen_more, seen_all, seen_both}
use Rattle.ag_tree.proofs.both_ways.has_none_both_ways.Goals as goal

pub returns-then-has-clause-plain : goal.returns-then-has-clause-plain
returns-then-has-clause-plain c =
    let d : Lit = record { atom = 0; holds = false } in
    let found : has c.loop-lit.seen.lits (contrary (get_or c.args.lits.now c.loop-lit.lit-index d)) ≡ true = ap (has c.loop-lit.seen.lits) (sym c.contrary.ensures) ∙ sym c.has.ensures ∙ c.if-has.true in (
      (λ e. absurd (false≢true e)),
      (λ plain. absurd (seen_both c.args.lits.now c.loop-lit.seen.lits c.loop-lit.lit-index d c.loop-lit.invariant.0 c.loop-lit-test.true found plain)),
    )

pub loop-lit-preserved : goal.loop-lit-preserved
loop-lit-preserved c =
    let d : Lit = record { atom = 0; holds = false } in
    let free : has c.loop-lit.seen.lits (contrary (get_or c.args.lits.now c.loop-lit.lit-index d)) ≡ false = ap (has c.loop-lit.seen.lits) (sym c.contrary.ensures) ∙ sym c.has.ensures ∙ c.if-has.false in
    let more : AreSeen c.args.lits.now (with_literal c.loop-lit.seen.lits (get_or c.args.lits.now c.loop-lit.lit-index d)) (c.loop-lit.lit-index + 1) = seen_more c.args.lits.now c.loop-lit.seen.lits c.loop-lit.lit-index d c.loop-lit.invariant.0 c.loop-lit-test.true free in
    let now : List Lit → Type 0 = λ lits. AreSeen c.args.lits.now lits (c.loop-lit.lit-index + 1) in
    (subst now (sym (ap (λ (s : Has). s.lits) c.in_ok-add.ensures.ok)) more, c.add.ensures.atoms ∙ c.loop-lit.invariant.1)

pub returns-clause-plain : goal.returns-clause-plain
returns-clause-plain c = ((λ e. seen_all c.args.lits.now c.loop-lit.seen.lits c.loop-lit.lit-index c.loop-lit.invariant.0 c.loop-lit-test.false), (λ plain. refl))
