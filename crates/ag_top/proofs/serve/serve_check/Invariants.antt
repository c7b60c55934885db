use Rattle.std.proofs.Common.{◌≡◌, ◌≤◌, ◌*◌, take}
use Rattle.ag_top.specs.Commands.{check, starting, progress_all}
use Rattle.ag_top.specs.Keeping.{weight}
use Rattle.ag_top.specs.Stages.{RunsAll}
use Rattle.ag_top.specs.Sessions.{IsSameModel, output, progress_of, setting_of}
use Rattle.ag_top.proofs.Turns.{IsAt}
use Rattle.ag_top.proofs.serve.serve_check.Given as goal

-- the commands so far were answered, and the close isn't among them
abbrev pub invariant-loop-command : goal.invariant-loop-command
invariant-loop-command g l = record {
  items : l.command-items ≡ check;
  few : l.command-index ≤ 3;
  runs : RunsAll (setting_of l.fn.session) (starting l.fn.session.model) (take l.command-index check) (output l.fn.session (g.K.Sink.written l.fn.sink)) (output l.session (g.K.Sink.written l.sink));
  went : progress_of l.session ≡ progress_all (starting l.fn.session.model) (take l.command-index check);
  is_at : IsAt l.command-index l.session;
  light : weight l.session.board ≤ l.command-index * 2050;
  same : IsSameModel l.fn.session l.session;
  counts : g.K.Sink.faults l.sink ≡ g.K.Sink.faults l.fn.sink;
}
