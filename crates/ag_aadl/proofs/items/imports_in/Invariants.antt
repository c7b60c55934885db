use Rattle.std.proofs.Common.{◌≡◌, ◌++◌, drop, map}
use Rattle.ag_aadl.specs.Meaning.{imports_in}
use Rattle.ag_aadl.proofs.items.imports_in.Given as goal

abbrev pub invariant-loop-part : goal.invariant-loop-part
invariant-loop-part l = l.imports ++ imports_in l.bytes (map (λ p. p.now) (drop l.part-index l.parts)) ≡ imports_in l.bytes (map (λ p. p.now) l.parts)
