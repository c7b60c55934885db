use Rattle.std.proofs.Common.{◌∙◌, refl, sym, subst}
use Rattle.ag_board.specs.Entries.{plain_lines}
use Rattle.ag_top.specs.Commands.{listed_of}
use Rattle.ag_board.specs.Laws.{AreTrue}
use Rattle.ag_top.specs.Sessions.{progress_of}
use Rattle.ag_top.proofs.Sessions.{accepted_some}
use Rattle.ag_top.proofs.Staging.{served_report, begins_report, begins_no_report}
use Rattle.ag_top.proofs.Telling.{reported_true}
use Rattle.ag_top.proofs.serve.tell_report.Goals as goal

pub returns-in-Err-OutOfMemory-clause-served : goal.returns-in-Err-OutOfMemory-clause-served
returns-in-Err-OutOfMemory-clause-served g c =
    begins_no_report c.args.session.now.limits (progress_of c.args.session.now) c.args.session.now.model c.args.session.now.board c.report.new.self _ _ (accepted_some _ c.args.session.now.model c.requires.due.some) c.in-Err-OutOfMemory.ensures.err refl

pub returns-in_default-clause-served : goal.returns-in_default-clause-served
returns-in_default-clause-served g c =
    begins_report c.args.session.now.limits (progress_of c.args.session.now) c.args.session.now.model c.args.session.now.board c.report.new.self _ _ c.in-Ok.report.revision (plain_lines c.in-Ok.report.lines)
    (accepted_some _ c.args.session.now.model c.requires.due.some) c.in-Ok.ensures.entry
    (reported_true c.args.session.now.board.state (listed_of c.args.session.now.limits c.args.session.now.model) c.in-Ok.report.revision (plain_lines c.in-Ok.report.lines)
    (subst AreTrue (sym c.know.ensures.replay) (c.verdicts_are_true.ensures c.args.session.now.board.history c.know.ensures.legal)) c.requires.due.keys c.in-Ok.ensures.entry.says) refl

pub returns-clause-served : goal.returns-clause-served
returns-clause-served g c =
    served_report c.args.session.now.limits (progress_of c.args.session.now) c.args.session.now.model c.reply.result c.args.session.now.board c.report.new.self _ _ c.as_slice.result.now c.in-Ok.report.revision (plain_lines c.in-Ok.report.lines)
    (accepted_some _ c.args.session.now.model c.requires.due.some) c.in-Ok.ensures.entry
    (reported_true c.args.session.now.board.state (listed_of c.args.session.now.limits c.args.session.now.model) c.in-Ok.report.revision (plain_lines c.in-Ok.report.lines)
    (subst AreTrue (sym c.know.ensures.replay) (c.verdicts_are_true.ensures c.args.session.now.board.history c.know.ensures.legal)) c.requires.due.keys c.in-Ok.ensures.entry.says) (c.as_slice.ensures ∙ (c.in-Ok-report_text.ensures ∙ rw c.as_slice-lines.ensures refl)) c.reply.ensures.handed
