-- What is open behind a token of an expression, innermost first; how many levels that is; and where a comparison has a place.
use Rattle.std.specs.Prelude.{ℕ, ◌+◌, ◌==◌, ◌||◌, nat_lt, List, [], ◌∷◌, Option, Some, None, if◌then◌else◌}
use Rattle.ag_annex.specs.declared.nesting.Open.{Open}
use Rattle.ag_annex.specs.declared.nesting.Open.TheVariants.{Bracket, Test, Yes, No, Prefix, Chain}
use Rattle.ag_annex.specs.Marks.{value_mark, end_mark, negative_mark, not_mark, if_mark, then_mark, else_mark, group_mark, operand_mark, call_mark, argument_mark, close_mark}
use Rattle.ag_annex.specs.Operators.{binary_of, rank, comparison}

-- the levels that one opens: each operator of a chain opens one for what follows in the chain
abbrev pub levels_of : Open → ℕ
levels_of (Chain r count) = count
levels_of _ = 1

abbrev pub levels : List Open → ℕ
levels [] = 0
levels (o ∷ opens) = levels_of o + levels opens

-- the most levels that may be open
abbrev pub most_levels : ℕ
most_levels = 200

-- what is open behind `)` and `,`, without and with the bracket that the one ends and the other goes on with
abbrev pub outside : List Open → List Open
outside [] = []
outside (Bracket ∷ opens) = opens
outside (o ∷ opens) = outside opens

abbrev pub inside : List Open → List Open
inside [] = []
inside (Bracket ∷ opens) = Bracket ∷ opens
inside (o ∷ opens) = inside opens

-- what is open behind the `then` of the innermost `if` that has none
abbrev pub behind_then : List Open → List Open
behind_then [] = []
behind_then (Test ∷ opens) = Yes ∷ opens
behind_then (o ∷ opens) = behind_then opens

-- what is open behind the `else` of the innermost `if` that has none
abbrev pub behind_else : List Open → List Open
behind_else [] = []
behind_else (Yes ∷ opens) = No ∷ opens
behind_else (o ∷ opens) = behind_else opens

-- An operator of this rank ends what binds tighter, and goes on the chain of its own rank; what waits behind an `else`
-- takes it in.
abbrev pub behind_operator : ℕ → List Open → List Open
behind_operator r [] = Chain r 1 ∷ []
behind_operator r (Prefix ∷ opens) = behind_operator r opens
behind_operator r (Chain q count ∷ opens) =
    if nat_lt r q then behind_operator r opens
    else (if r == q then Chain r (count + 1) ∷ opens else Chain r 1 ∷ Chain q count ∷ opens)
behind_operator r (o ∷ opens) = Chain r 1 ∷ o ∷ opens

-- A comparison ends what binds tighter, where no other one waits for that. Else it ends the operand behind the innermost `else`, and
-- compares that choice, if it isn't compared yet, and so on outwards. So it has no place where no such operand is open in the same
-- brackets, or before the same `then` or `else`.
abbrev mutual
  pub behind_comparison : List Open → Option (List Open)
  behind_comparison [] = Some (Chain comparison 1 ∷ [])
  behind_comparison (Prefix ∷ opens) = behind_comparison opens
  behind_comparison (Chain q count ∷ opens) =
      if nat_lt comparison q then behind_comparison opens
      else (if q == comparison then behind_choice opens else Some (Chain comparison 1 ∷ Chain q count ∷ opens))
  behind_comparison (o ∷ opens) = Some (Chain comparison 1 ∷ o ∷ opens)

  pub behind_choice : List Open → Option (List Open)
  behind_choice (No ∷ opens) = behind_comparison opens
  behind_choice (Prefix ∷ opens) = behind_choice opens
  behind_choice (Chain q count ∷ opens) = behind_choice opens
  behind_choice _ = None

-- what is open behind an operator between two operands, if it has a place
abbrev pub behind_rank : ℕ → List Open → Option (List Open)
behind_rank r opens = if r == comparison then behind_comparison opens else Some (behind_operator r opens)

-- what is open behind any other token
abbrev pub behind_mark : ℕ → List Open → List Open
behind_mark mark opens =
    if mark == value_mark || mark == end_mark then []
    else (if mark == group_mark || (mark == operand_mark || mark == call_mark) then Bracket ∷ opens
    else (if mark == negative_mark || mark == not_mark then Prefix ∷ opens
    else (if mark == if_mark then Test ∷ opens
    else (if mark == then_mark then behind_then opens
    else (if mark == else_mark then behind_else opens
    else (if mark == argument_mark then inside opens
    else (if mark == close_mark then outside opens
    else opens)))))))

-- what is open behind the token with this mark, if it has a place there
abbrev pub behind : ℕ → List Open → Option (List Open)
behind mark opens = elim (binary_of mark) [
  | None ↦ Some (behind_mark mark opens)
  | Some op ↦ behind_rank (rank op) opens
]
