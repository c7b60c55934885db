use Rattle.ag_top.proofs.OnePrint.{Laws, printed_once, refused_once, not_both}
use Rattle.ag_top.proofs.laws.one_print.Goals as goal

laws : goal.After-one_answer → Laws
laws c = record {
  tokens = c.one_reading.ensures;
  broken = c.one_refusal.ensures;
  packages = c.one_reading-2.ensures;
  wrong = c.one_refusal-2.ensures.one;
  no_file = c.one_refusal-2.ensures.none;
  stated = c.one_answer.ensures.stated;
  refused = c.one_answer.ensures.refused;
  not_both = c.one_answer.ensures.not_both;
}

pub returns-clause-printed : goal.returns-clause-printed
returns-clause-printed c = printed_once (laws c)

pub returns-clause-refused : goal.returns-clause-refused
returns-clause-refused c = refused_once (laws c)

pub returns-clause-not_both : goal.returns-clause-not_both
returns-clause-not_both c = not_both (laws c)
