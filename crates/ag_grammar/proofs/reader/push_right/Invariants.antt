use Rattle.std.proofs.Common.{◌≡◌, ◌++◌, map}
use Rattle.ag_grammar.proofs.reader.push_right.Given as goal

-- what was taken lies above what was there
abbrev pub invariant-loop-symbol : goal.invariant-loop-symbol
invariant-loop-symbol l = l.stack.items ≡ l.fn.stack.items ++ map (λ s. s.now) l.yielded
