use Rattle.ag_verdict.proofs.Instants.{forbidden_breaks, unbroken_is_proved, broken_is_refuted, kept_is_consistent, unkept_is_inconsistent}
use Rattle.ag_verdict.proofs.plain.instants_decide.Goals as goal

pub returns : goal.returns
returns c = record {
  last_breaks = forbidden_breaks;
  proved = unbroken_is_proved;
  refuted = broken_is_refuted;
  consistent = kept_is_consistent;
  inconsistent = unkept_is_inconsistent;
}
