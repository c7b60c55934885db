use Rattle.std.proofs.Common.{◌≡◌, drop, map}
use Rattle.std.specs.Prelude.{find}
use Rattle.ag_grammar.specs.Grammar.{plain_production}
use Rattle.ag_grammar.specs.Deterministic.{has}
use Rattle.ag_grammar.proofs.reader.first_at.Given as goal

-- none of the productions before is taken
abbrev pub invariant-loop-production : goal.invariant-loop-production
invariant-loop-production l = find (λ p. has p.ahead l.terminal) (map plain_production (drop l.production-index l.productions)) ≡ find (λ p. has p.ahead l.terminal) (map plain_production l.productions)
