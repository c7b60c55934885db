use Rattle.std.proofs.Common.{subst}
use Rattle.ag_stream.specs.declared.dependence.Plan.{Plan}
use Rattle.ag_stream.specs.Work.{IsPlainForm}
use Rattle.ag_stream.specs.Plans.{IsPlanOf}
use Rattle.ag_stream.proofs.Ordered.{no_cycle}
use Rattle.ag_stream.proofs.problem.Problem.make.Goals as goal

pub invariant_of-result : goal.invariant_of-result
invariant_of-result c =
    let P : Plan → Type 0 = IsPlanOf c.args.draft in
    let form : IsPlainForm c.args.draft = record { formed = c.requires.formed; plain = c.requires.plain } in
    record {
      formed = c.requires.formed;
      acyclic = no_cycle c.args.draft form c.in-Order.order.items (subst P c.in-Order.is c.in_ok-order.ensures);
      order = subst P c.in-Order.is c.in_ok-order.ensures;
    }

pub returns-in-Order-clause-acyclic : goal.returns-in-Order-clause-acyclic
returns-in-Order-clause-acyclic c =
    let P : Plan → Type 0 = IsPlanOf c.args.draft in
    no_cycle c.args.draft (record { formed = c.requires.formed; plain = c.requires.plain }) c.in-Order.order.items (subst P c.in-Order.is c.in_ok-order.ensures)
