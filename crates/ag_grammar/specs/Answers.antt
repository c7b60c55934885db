-- What a reading answers.
use Rattle.std.specs.Prelude.{◌≡◌, ℕ, List, Some, None, Result, Ok, Err}
use Rattle.ag_base.specs.declared.OutOfMemory.{OutOfMemory}
use Rattle.ag_grammar.specs.declared.reader.Reading.{Reading}
use Rattle.ag_grammar.specs.declared.grammar.Step.{Step}

-- the answer is this derivation, or memory was wanting
abbrev pub IsDerivedUnlessMemory : Result Reading OutOfMemory → List Step → Type 0
IsDerivedUnlessMemory (Ok r) steps = (r.steps ≡ steps) × (r.bad ≡ None)
IsDerivedUnlessMemory (Err e) steps = Unit {0}

-- the answer is this place, or memory was wanting
abbrev pub IsBadUnlessMemory : Result Reading OutOfMemory → ℕ → Type 0
IsBadUnlessMemory (Ok r) at = r.bad ≡ Some at
IsBadUnlessMemory (Err e) at = Unit {0}
