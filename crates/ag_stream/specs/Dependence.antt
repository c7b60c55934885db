-- Which streams a stream depends on at one instant.
use Rattle.std.specs.Prelude.{◌≡◌, ◌+◌, ◌<◌, ◌⊎◌, ℕ, false, Some, slice_get, Contains}
use Rattle.ag_stream.specs.declared.problem.RowTerm.{RowTerm}
use Rattle.ag_stream.specs.declared.problem.Row.{Row}
use Rattle.ag_stream.specs.declared.problem.Part.{Part}
use Rattle.ag_stream.specs.declared.problem.Part.TheVariants as parts
use Rattle.ag_stream.specs.declared.problem.Equation.{Equation}
use Rattle.ag_stream.specs.declared.problem.Equation.TheVariants as equations
use Rattle.ag_stream.specs.declared.problem.ProblemDraft.{ProblemDraft}
use Rattle.ag_stream.specs.Forms.{operands, target}

-- the row names the stream outside `before`
abbrev pub RowNames : Row → ℕ → Type 0
RowNames row stream = (t : RowTerm) × Contains row.terms t × (t.before ≡ false) × (t.stream ≡ stream)

-- the part itself names the stream outside `before`; a Boolean stream's number counts on from the integer ones
abbrev pub Names : ℕ → Part → ℕ → Type 0
Names ints (parts.Flag stream before) s = (before ≡ false) × (s ≡ ints + stream)
Names ints (parts.Compare row) s = RowNames row s
Names ints _ s = ⊥

-- the part of that number names the stream, or one of its operands does, at any depth
pub data PartNames (d : ProblemDraft) (s : ℕ) : ℕ → Type 0 where
  itself : (n : ℕ) (p : Part) → slice_get d.parts n ≡ Some p → Names d.ints p s → PartNames d s n
  operand : (n m : ℕ) (p : Part) → slice_get d.parts n ≡ Some p → Contains (operands p) m → PartNames d s m → PartNames d s n

-- the right side of the equation names the stream outside `before`
abbrev pub EquationNames : ProblemDraft → Equation → ℕ → Type 0
EquationNames d (equations.Flag stream part) s = PartNames d s part
EquationNames d (equations.Whole stream row) s = RowNames row s
EquationNames d (equations.Choice stream part one other) s = PartNames d s part ⊎ RowNames one s ⊎ RowNames other s
EquationNames d (equations.First stream first later) s = RowNames first s ⊎ RowNames later s
EquationNames d (equations.Div stream row by) s = RowNames row s
EquationNames d (equations.Mod stream row by) s = RowNames row s

-- an equation for the one stream names the other
abbrev pub DependsOn : ProblemDraft → ℕ → ℕ → Type 0
DependsOn d s r = (e : Equation) × Contains d.equations e × (target d.ints e ≡ s) × EquationNames d e r

-- the one stream depends on the other at one instant, directly or through others
pub data Leads (d : ProblemDraft) (r : ℕ) : ℕ → Type 0 where
  directly : (s : ℕ) → DependsOn d s r → Leads d r s
  through : (s t : ℕ) → DependsOn d s t → Leads d r t → Leads d r s

abbrev pub HasNoCycle : ProblemDraft → Type 0
HasNoCycle d = (s : ℕ) → Leads d s s → ⊥

-- the first stream that depends on itself
pub record IsFirstOnCycle (d : ProblemDraft) (s : ℕ) : Type 0 where
  pub itself : Leads d s s
  pub first : (r : ℕ) → r < s → Leads d r r → ⊥
