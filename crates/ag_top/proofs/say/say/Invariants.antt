use Rattle.std.proofs.Common.{◌≡◌, ◌≤◌, ◌-◌, length, take}
use Rattle.ag_top.specs.Commands.{Grows}
use Rattle.ag_top.proofs.say.say.Given as goal

-- what was handed over so far was taken
abbrev pub invariant-loop-at : goal.invariant-loop-at
invariant-loop-at g l =
    record {
      within : l.at ≤ length l.text;
      written : Grows (g.K.Sink.written l.fn.sink) (g.K.Sink.written l.sink) (take l.at l.text);
      unfaulted : g.K.Sink.faults l.sink ≡ g.K.Sink.faults l.fn.sink;
    }

abbrev pub decreases-loop-at : goal.decreases-loop-at
decreases-loop-at g l = length l.text - l.at
