-- A list of atoms is in order in one way at most.
use Rattle.std.specs.Prelude.{ℕ, List, All}
use Rattle.std.proofs.Props.{props}
use Rattle.ag_query.specs.declared.rows.Atom.{Atom}
use Rattle.ag_query.specs.declared.rows.Atom.TheVariants.{Free, Bound}
use Rattle.ag_query.specs.Made.{IsAtomOver}

IsAtomOver-prop : (vars : ℕ) (atom : Atom) → IsProp (IsAtomOver vars atom)
IsAtomOver-prop vars Free = hlevel props
IsAtomOver-prop vars (Bound row) = hlevel props

pub AreAtomsOver-prop : (vars : ℕ) (atoms : List Atom) → IsProp (All (IsAtomOver vars) atoms)
AreAtomsOver-prop vars atoms = hlevel (props, IsAtomOver-prop)
