use Rattle.std.proofs.Common.{◌∙◌, ap, inr}
use Rattle.ag_base.specs.declared.limits.Limits.{Limits}
use Rattle.ag_small.specs.declared.package.Package.{Package}
use Rattle.ag_top.specs.Commands as commands
use Rattle.ag_top.specs.Commands.{editing, starting, listed_of, status_by}
use Rattle.ag_top.proofs.Checking.{check_answers, check_cut, check_broken, served_from, by_verdicts, memory_cut, write_cut}
use Rattle.ag_top.proofs.check.check.Goals as goal

pub returns-clause-checked : goal.returns-clause-checked
returns-clause-checked g c = λ v.
    let end = c.serve_check-end.new.session in
    let same = c.serve_check-end.ensures.same in
    let all = served_from (editing c.args.limits) (starting c.args.model) commands.check c.serve_check-end.result c.in-Ok.board (g.K.Sink.written c.args.sink.now) _ c.in-Ok.ensures c.serve_check-end.ensures.served in
    let done = by_verdicts (editing c.args.limits) (starting c.args.model) commands.check _ _ end c.serve_check-end.result c.status_of.result c.status_of.ensures v all c.serve_check-end.ensures.shut in
    rw c.into_history.ensures.entries
    (check_answers c.verdicts_carry_over.ensures c.args.limits c.args.model c.requires end.board _ _ c.status_of.result done.all c.know.ensures
    (done.shut.keys ∙ (ap (λ (l : Limits). listed_of l end.model) same.limits ∙ ap (λ (p : Package). listed_of c.args.limits p) same.model)) done.shut.decided (done.by ∙ ap status_by done.shut.counted))

pub returns-clause-memory : goal.returns-clause-memory
returns-clause-memory g c = λ m.
    let all = served_from (editing c.args.limits) (starting c.args.model) commands.check c.serve_check-end.result c.in-Ok.board (g.K.Sink.written c.args.sink.now) _ c.in-Ok.ensures c.serve_check-end.ensures.served in
    inr (rw c.into_history.ensures.entries (check_cut c.verdicts_carry_over.ensures c.args.limits c.args.model c.requires c.serve_check-end.new.session.board _ _
    (memory_cut (editing c.args.limits) (starting c.args.model) commands.check _ _ c.serve_check-end.result c.status_of.result c.status_of.ensures m all) c.know.ensures))

pub returns-clause-broken : goal.returns-clause-broken
returns-clause-broken g c = λ m.
    let all = served_from (editing c.args.limits) (starting c.args.model) commands.check c.serve_check-end.result c.in-Ok.board (g.K.Sink.written c.args.sink.now) _ c.in-Ok.ensures c.serve_check-end.ensures.served in
    rw c.into_history.ensures.entries (check_broken c.verdicts_carry_over.ensures c.args.limits c.args.model c.requires c.serve_check-end.new.session.board _ _
    (write_cut (editing c.args.limits) (starting c.args.model) commands.check _ _ c.serve_check-end.result c.status_of.result c.status_of.ensures m all) c.know.ensures)
