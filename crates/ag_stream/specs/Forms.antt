-- When a problem is well formed, and when it is plain.
use Rattle.std.specs.Prelude.{◌≡◌, ◌≢◌, ◌+◌, ◌^◌, ◌<◌, ◌≤◌, ◌∷◌, [], ◌⊎◌, ℕ, ℤ, pos, true, false, List, length, map, All, Some, MatchOption, IfSome, nat_eq, slice_get}
use Rattle.std.specs.List.{IsDistinct, flat_map}
use Rattle.ag_stream.specs.declared.problem.RowTerm.{RowTerm}
use Rattle.ag_stream.specs.declared.problem.Row.{Row}
use Rattle.ag_stream.specs.declared.problem.Part.{Part}
use Rattle.ag_stream.specs.declared.problem.Part.TheVariants as parts
use Rattle.ag_stream.specs.declared.problem.Equation.{Equation}
use Rattle.ag_stream.specs.declared.problem.Equation.TheVariants as equations
use Rattle.ag_stream.specs.declared.problem.ProblemDraft.{ProblemDraft}
use Rattle.ag_stream.specs.Runs.{magnitude}

-- the order of a row's terms: by stream, and of one stream the one of now first
abbrev pub IsBefore : RowTerm → RowTerm → Type 0
IsBefore a b = (a.stream < b.stream) ⊎ ((a.stream ≡ b.stream) × (a.before ≡ false) × (b.before ≡ true))

abbrev pub AreInOrder : List RowTerm → Type 0
AreInOrder [] = Unit {0}
AreInOrder (t ∷ []) = Unit {0}
AreInOrder (t ∷ u ∷ ts) = IsBefore t u × AreInOrder (u ∷ ts)

pub record IsTerm (ints : ℕ) (t : RowTerm) : Type 0 where
  pub stream : t.stream < ints
  pub factor : t.factor ≢ pos 0
  pub small : magnitude t.factor ≤ 2 ^ 31

pub record IsRow (ints : ℕ) (row : Row) : Type 0 where
  pub terms : All (IsTerm ints) row.terms
  pub order : AreInOrder row.terms
  pub count : length row.terms ≤ 1024
  pub constant : magnitude row.constant ≤ 2 ^ 48

-- the parts that a part speaks of
abbrev pub operands : Part → List ℕ
operands (parts.Truth b) = []
operands (parts.Flag stream before) = []
operands (parts.Compare row) = []
operands (parts.Not a) = a ∷ []
operands (parts.And a b) = a ∷ b ∷ []
operands (parts.Or a b) = a ∷ b ∷ []
operands (parts.Same a b) = a ∷ b ∷ []
operands (parts.Choice test one other) = test ∷ one ∷ other ∷ []
operands (parts.Arrow first later) = first ∷ later ∷ []

-- a part's streams and rows are those of the problem
abbrev pub IsPartOf : ProblemDraft → Part → Type 0
IsPartOf d (parts.Flag stream before) = stream < d.flags
IsPartOf d (parts.Compare row) = IsRow d.ints row
IsPartOf d _ = Unit {0}

pub record IsDivisor (by : ℤ) : Type 0 where
  pub some : by ≢ pos 0
  pub small : magnitude by ≤ 2 ^ 62

-- an equation's stream, parts and rows are those of the problem
abbrev pub IsEquationOf : ProblemDraft → Equation → Type 0
IsEquationOf d (equations.Flag stream part) = (stream < d.flags) × (part < length d.parts)
IsEquationOf d (equations.Whole stream row) = (stream < d.ints) × IsRow d.ints row
IsEquationOf d (equations.Choice stream part one other) = (stream < d.ints) × (part < length d.parts) × IsRow d.ints one × IsRow d.ints other
IsEquationOf d (equations.First stream first later) = (stream < d.ints) × IsRow d.ints first × IsRow d.ints later
IsEquationOf d (equations.Div stream row by) = (stream < d.ints) × IsRow d.ints row × IsDivisor by
IsEquationOf d (equations.Mod stream row by) = (stream < d.ints) × IsRow d.ints row × IsDivisor by

-- the stream that an equation is for, where a Boolean stream's number counts on from the integer ones
abbrev pub target : ℕ → Equation → ℕ
target ints (equations.Flag stream part) = ints + stream
target ints (equations.Whole stream row) = stream
target ints (equations.Choice stream part one other) = stream
target ints (equations.First stream first later) = stream
target ints (equations.Div stream row by) = stream
target ints (equations.Mod stream row by) = stream

abbrev pub targets : ProblemDraft → List ℕ
targets d = map (target d.ints) d.equations

pub record IsWellFormed (d : ProblemDraft) : Type 0 where
  pub ints : d.ints ≤ 256
  pub flags : d.flags ≤ 1024
  pub parts : length d.parts ≤ 16384
  pub each_part : All (IsPartOf d) d.parts
  -- operands stand before, and no part serves two
  pub before : (n : ℕ) (p : Part) → slice_get d.parts n ≡ Some p → All (λ a. a < n) (operands p)
  pub once : IsDistinct nat_eq (flat_map operands d.parts)
  pub each_equation : All (IsEquationOf d) d.equations
  -- a stream has at most one equation
  pub one_each : IsDistinct nat_eq (targets d)
  pub so_far : All (λ part. part < length d.parts) d.so_far
  pub earlier : All (λ part. part < length d.parts) d.earlier
  pub claim : IfSome d.claim (λ part. part < length d.parts)
  pub length : MatchOption d.claim ((1 ≤ d.length) × (d.length ≤ 30)) (λ part. d.length ≡ 0)

-- a part that speaks of the Boolean streams of now alone
abbrev pub IsPlainPart : Part → Type 0
IsPlainPart (parts.Flag stream before) = before ≡ false
IsPlainPart (parts.Compare row) = row.terms ≡ []
IsPlainPart (parts.Arrow first later) = ⊥
IsPlainPart _ = Unit {0}

abbrev pub IsFlagEquation : Equation → Type 0
IsFlagEquation (equations.Flag stream part) = Unit {0}
IsFlagEquation _ = ⊥

-- a problem that one instant decides: no integers, no earlier instant, and at most 12 Boolean streams without an equation
pub record IsPlain (d : ProblemDraft) : Type 0 where
  pub ints : d.ints ≡ 0
  pub parts : All IsPlainPart d.parts
  pub equations : All IsFlagEquation d.equations
  -- each equation has a stream of its own
  pub free : d.flags ≤ length d.equations + 12
