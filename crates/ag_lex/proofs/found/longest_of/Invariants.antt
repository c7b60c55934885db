use Rattle.std.proofs.Common.{◌≡◌, drop, map}
use Rattle.ag_lex.specs.Scanning.{first_front}
use Rattle.ag_lex.proofs.found.longest_of.Given as goal

-- none of the symbols before stands here
abbrev pub invariant-loop-symbol : goal.invariant-loop-symbol
invariant-loop-symbol l = first_front (map (λ s. s.now) (drop l.symbol-index l.symbols)) l.here ≡ first_front (map (λ s. s.now) l.symbols) l.here
