use Rattle.std.proofs.Common.{◌≡◌, true, ℕ, ◌<◌, get_or}
use Rattle.ag_stream.specs.Work.{holds_in}
use Rattle.ag_stream.proofs.truth.all_hold.Given as goal

abbrev pub invariant-loop-part : goal.invariant-loop-part
invariant-loop-part l = (j : ℕ) → j < l.part-index → holds_in l.draft l.flags (get_or l.parts j 0) ≡ true
