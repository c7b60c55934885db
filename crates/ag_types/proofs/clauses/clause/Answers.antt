use Rattle.std.proofs.Common.{refl, ◌∙◌}
use Rattle.ag_types.proofs.clauses.clause.Goals as goal

pub returns-in-Assume : goal.returns-in-Assume
returns-in-Assume c = c.claim.ensures ∙ rw (c.sight-sight.ensures, c.in-Assume.is) refl

pub returns-in-Guarantee : goal.returns-in-Guarantee
returns-in-Guarantee c = c.claim-in-Guarantee.ensures ∙ rw (c.sight-sight.ensures, c.in-Guarantee.is) refl

pub returns-in-Lemma : goal.returns-in-Lemma
returns-in-Lemma c = c.claim-in-Lemma.ensures ∙ rw (c.sight-sight.ensures, c.in-Lemma.is) refl

pub returns-in-Const : goal.returns-in-Const
returns-in-Const c = c.constant.ensures ∙ rw (c.sight-sight.ensures, c.in-Const.is) refl
