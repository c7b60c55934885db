use Rattle.std.proofs.Common.{neg_ℤ, pos, FitsSigned, sym, ◌∙◌}
use Rattle.std.specs.Int.{w128}
use Rattle.std.proofs.lemmas.List.{map_more}
use Rattle.std.proofs.lemmas.List.Elements.{All-more}
use Rattle.ag_query.specs.declared.rows.LTerm.{LTerm}
use Rattle.ag_kernel.specs.Rules.{negated}
use Rattle.ag_kernel.proofs.rows.negate_all.Goals as goal

pub loop-term-preserved : goal.loop-term-preserved
loop-term-preserved c =
    let d : LTerm = record { var = 0; factor = pos 0 } in
    record {
      said = c.in_ok-push-in-Some.ensures.ok ∙ rw (c.loop-term.invariant.said, c.in-Some.ensures.1) (sym (map_more negated c.args.terms.now c.loop-term.term-index d c.loop-term-test.true));
      fits = All-more (λ t. FitsSigned w128 (neg_ℤ t.factor)) c.args.terms.now c.loop-term.term-index d c.loop-term-test.true c.loop-term.invariant.fits c.in-Some.ensures.0;
    }
