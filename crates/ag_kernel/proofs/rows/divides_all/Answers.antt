use Rattle.std.proofs.Common.{rules, ◌≡◌, ℤ, pos, subst, All, to_z, of_z, arith}
use Rattle.std.specs.Int.{w128}
use Rattle.std.specs.Int.RustNames.{int_rem}
use Rattle.std.proofs.lemmas.List.{take_all}
use Rattle.std.proofs.lemmas.List.Elements.{All-more}
use Rattle.ag_query.specs.declared.rows.LTerm.{LTerm}
use Rattle.ag_kernel.proofs.Numbers.{back}
use Rattle.ag_kernel.proofs.rows.divides_all.Goals as goal

pub loop-term-preserved : goal.loop-term-preserved
loop-term-preserved c =
    let d : LTerm = record { var = 0; factor = pos 0 } in
    let P : LTerm → Type 0 = λ t. int_rem t.factor (to_z w128 (of_z w128 c.args.by)) ≡ pos 0 in
    All-more P c.args.terms.now c.loop-term.term-index d c.loop-term-test.true c.loop-term.invariant (c.divides.ensures.0 (search rules))

pub returns : goal.returns
returns c =
    let e = back c.args.by c.ranges.by in
    let A : ℤ → Type 0 = λ b. All (λ (t : LTerm). int_rem t.factor b ≡ pos 0) c.args.terms.now in
    let whole : A (to_z w128 (of_z w128 c.args.by)) = let all = take_all c.loop-term.term-index c.args.terms.now (omega arith) in rw all at c.loop-term.invariant in
    ((λ _. subst A e whole), λ _. search rules)
