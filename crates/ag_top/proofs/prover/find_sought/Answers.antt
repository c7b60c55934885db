use Rattle.std.proofs.lemmas.Result.{IfOk-weaker}
use Rattle.ag_top.proofs.Tries.{if_none, agrees_at_first}
use Rattle.ag_top.proofs.prover.find_sought.Goals as goal

pub returns-clause-none : goal.returns-clause-none
returns-clause-none c =
    IfOk-weaker c.try_free.result _ _ (λ found h. if_none found (λ none i sought. none i sought (agrees_at_first c.args.problem.now _ _ i (rw c.deref.ensures.value c.in_ok-free.ensures.all))) h) c.try_free.ensures.none
