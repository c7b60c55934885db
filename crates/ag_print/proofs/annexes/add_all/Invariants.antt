use Rattle.std.proofs.Common.{◌≡◌, ◌++◌, map, take}
use Rattle.ag_print.proofs.annexes.add_all.Given as goal

abbrev pub invariant-loop-text : goal.invariant-loop-text
invariant-loop-text l = l.annexes ≡ l.initial.annexes ++ map (λ t. (t, l.site)) (take l.text-index l.texts)
