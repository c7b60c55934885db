use Rattle.std.proofs.Common.{◌≡◌, ◌*◌, ◌≤◌, take}
use Rattle.ag_board.specs.Planned.{parts_in}
use Rattle.ag_board.proofs.plan.parts_of.Given as goal

-- the parts as far as it went, of few parts each
abbrev pub invariant-loop-place : goal.invariant-loop-place
invariant-loop-place l = (l.parts ≡ parts_in (take l.place l.fresh.entries)) × (l.parts ≤ 16384 * l.place)
