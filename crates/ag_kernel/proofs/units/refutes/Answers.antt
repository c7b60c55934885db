use Rattle.std.proofs.Common.{◌≡◌, List, map, ◌∙◌}
use Rattle.std.proofs.lemmas.Result.{IfOk-weaker}
use Rattle.ag_query.specs.declared.clauses.Lit.{Lit}
use Rattle.ag_kernel.specs.Rules.{line_at}
use Rattle.ag_kernel.specs.Units.{conflict_along, comes_to_conflict}
use Rattle.ag_kernel.proofs.Walks.{begun_true, begun_false}
use Rattle.ag_kernel.proofs.units.refutes.Goals as goal

pub returns-then-has_any-clause-ok : goal.returns-then-has_any-clause-ok
returns-then-has_any-clause-ok c =
    begun_true c.begin.new.list.lits c.args.clause.now (map (λ n. (line_at c.args.lines.now n).lits) c.args.named.now) c.in_ok-begin.ensures.ok c.if-has_any.ensures

pub returns-clause-ok : goal.returns-clause-ok
returns-clause-ok c =
    let lines : List (List Lit) = map (λ n. (line_at c.args.lines.now n).lits) c.args.named.now in
    let e : conflict_along c.begin.new.list.lits lines ≡ comes_to_conflict c.args.clause.now lines = begun_false c.begin.new.list.lits c.args.clause.now lines c.in_ok-begin.ensures.ok c.if-has_any.ensures in
    IfOk-weaker c.conflicts_along.result (λ t. t ≡ conflict_along c.begin.new.list.lits lines) (λ t. t ≡ comes_to_conflict c.args.clause.now lines) (λ t h. h ∙ e) c.conflicts_along.ensures.ok
