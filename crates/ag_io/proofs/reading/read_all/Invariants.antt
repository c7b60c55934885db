use Rattle.std.proofs.Common.{◌≡◌, ◌≤◌, ◌-◌, vec_len}
use Rattle.ag_io.proofs.Pieces.{HasRead}
use Rattle.ag_io.proofs.reading.read_all.Given as goal

-- what was read so far, and not too much of it
abbrev pub invariant-loop-n : goal.invariant-loop-n
invariant-loop-n g l =
    record {
      read : HasRead (g.S.Source.left l.fn.source) (g.S.Source.left l.source) l.bytes.items;
      few : vec_len l.bytes ≤ 4194304;
      unfaulted : g.S.Source.faults l.source ≡ g.S.Source.faults l.fn.source;
    }

abbrev pub decreases-loop-n : goal.decreases-loop-n
decreases-loop-n g l = 4194304 - vec_len l.bytes
