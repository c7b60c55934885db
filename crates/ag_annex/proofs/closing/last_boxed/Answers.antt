use Rattle.std.proofs.Common.{ap}
use Rattle.ag_terms.specs.declared.terms.Term.{Term}
use Rattle.ag_terms.specs.declared.terms.Term.TheViews as term
use Rattle.ag_annex.proofs.closing.last_boxed.Goals as goal

pub returns : goal.returns
returns c = ap (λ (n : Term). term.Choice c.args.place c.args.test c.args.yes n) c.in_ok-no.ensures
