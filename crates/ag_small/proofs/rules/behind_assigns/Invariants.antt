use Rattle.std.proofs.Common.{◌≡◌, length, drop}
use Rattle.std.specs.List.{flat_map}
use Rattle.ag_small.specs.Grammar.{assign_text}
use Rattle.ag_small.specs.Reading.{left_of}
use Rattle.ag_small.proofs.rules.behind_assigns.Given as goal

abbrev pub invariant-loop-assign : goal.invariant-loop-assign
invariant-loop-assign l = left_of l.left (length (flat_map assign_text (drop l.assign-index l.assigns))) ≡ left_of l.tokens (length (flat_map assign_text l.assigns))
