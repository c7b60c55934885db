use Rattle.std.proofs.Common.{sym}
use Rattle.ag_aadl.proofs.Naming.{lengths-differ}
use Rattle.ag_aadl.proofs.names.same_names.Goals as goal

pub returns-then-names-others : goal.returns-then-names-others
returns-then-names-others c = sym (lengths-differ c.args.bytes.now c.args.names.now c.args.others.now c.if-names-others.true)
