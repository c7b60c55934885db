use Rattle.ag_top.proofs.Publishing.{one_more_pair, one_more_few}
use Rattle.ag_top.proofs.serve.shared_list.Goals as goal

pub loop-obligation-preserved : goal.loop-obligation-preserved
loop-obligation-preserved c = record {
  listed = one_more_pair c.loop-obligation.list c.push.new.self c.loop-obligation.yielded c.in-Some.obligation c.in_ok-new.field-0 c.loop-obligation.invariant.listed c.in_ok-push.ensures.ok c.in_ok-new.ensures.ok;
  few_parts = one_more_few c.loop-obligation.list c.push.new.self c.in-Some.obligation c.in_ok-new.field-0 c.loop-obligation.invariant.few_parts c.in_ok-push.ensures.ok c.in_ok-new.ensures.ok c.know.ensures.formed.parts;
}
