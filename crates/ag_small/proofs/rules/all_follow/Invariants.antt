use Rattle.std.proofs.Common.{◌≡◌, [], take, drop}
use Rattle.ag_small.specs.Rules.{all_follow}
use Rattle.ag_small.proofs.rules.all_follow.Given as goal

abbrev pub invariant-loop-i : goal.invariant-loop-i
invariant-loop-i l = all_follow l.ports (take l.i l.assigns) (drop l.i l.assigns) ≡ all_follow l.ports [] l.assigns
