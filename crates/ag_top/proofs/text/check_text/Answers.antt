use Rattle.std.proofs.Common.{Err, subst}
use Rattle.ag_small.specs.declared.package.ReadFault.{ReadFault}
use Rattle.ag_small.specs.Reads.{IsReadUnlessMemory}
use Rattle.ag_top.proofs.Tops.{end_of_text}
use Rattle.ag_top.proofs.text.check_text.Goals as goal

pub refuse_text-requires-clause-none : goal.refuse_text-requires-clause-none
refuse_text-requires-clause-none g c = λ p r. subst (λ (e : ReadFault). IsReadUnlessMemory (Err e) p) c.in-Err-NotBuilt.field-0-is (c.in-Err-NotBuilt.ensures.only p r)

pub returns-in-Ok-clause-only : goal.returns-in-Ok-clause-only
returns-in-Ok-clause-only g c = end_of_text _ c.check.ensures.only

pub returns-in-Err-NotBuilt-clause-answer : goal.returns-in-Err-NotBuilt-clause-answer
returns-in-Err-NotBuilt-clause-answer g c = λ e. absurd (c.refuse_text.ensures.unanswered e)

pub returns-in-Err-NotBuilt-clause-broken : goal.returns-in-Err-NotBuilt-clause-broken
returns-in-Err-NotBuilt-clause-broken g c = λ m. c.refuse_text.ensures.broken m c.args.limits
