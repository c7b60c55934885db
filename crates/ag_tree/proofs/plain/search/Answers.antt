use Rattle.std.proofs.Common.{Bool, subst, IfOk}
use Rattle.std.proofs.lemmas.Result.{IfOk-weaker}
use Rattle.ag_query.specs.declared.query.Query.{Query}
use Rattle.ag_tree.specs.Answers.{IsSolved, IsAtLimit, IsWithinWork}
use Rattle.ag_tree.proofs.Budget.{within_work, at_limit}
use Rattle.ag_tree.proofs.plain.search.Goals as goal

pub returns-clause-limit : goal.returns-clause-limit
returns-clause-limit g c =
    let leaves : Bool = g.T.Theory.leaves c.args.theory.now in
    let q : Query = c.args.query.now in
    let solved : IfOk c.go_on.result (IsSolved leaves c.args.work q) = subst (λ (x : Query). IfOk c.go_on.result (IsSolved leaves c.args.work x)) c.in_ok-progress.ensures.query c.go_on.ensures.solved in
    IfOk-weaker c.go_on.result (IsSolved leaves c.args.work q) (IsAtLimit c.args.work q) (at_limit leaves c.args.work q) solved

pub returns-clause-budget : goal.returns-clause-budget
returns-clause-budget g c few enough =
    let leaves : Bool = g.T.Theory.leaves c.args.theory.now in
    let q : Query = c.args.query.now in
    let solved : IfOk c.go_on.result (IsSolved leaves c.args.work q) = subst (λ (x : Query). IfOk c.go_on.result (IsSolved leaves c.args.work x)) c.in_ok-progress.ensures.query c.go_on.ensures.solved in
    IfOk-weaker c.go_on.result (IsSolved leaves c.args.work q) IsWithinWork (within_work leaves c.args.work q few enough) solved
