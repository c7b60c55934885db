use Rattle.std.proofs.Common.{◌≡◌, ◌++◌, drop}
use Rattle.ag_aadl.specs.Marked.{marked}
use Rattle.ag_aadl.proofs.marked.marked_tokens.Given as goal

abbrev pub invariant-loop-step : goal.invariant-loop-step
invariant-loop-step l = l.found.items ++ marked (drop l.at l.terminals) (drop l.at l.tokens) (drop l.step-index l.steps) ≡ marked l.terminals l.tokens l.steps
