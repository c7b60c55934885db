-- The operators between two operands: which mark is whose, and which of two binds tighter.
use Rattle.std.specs.Prelude.{ℕ, ◌==◌, Option, Some, None, if◌then◌else◌}
use Rattle.ag_terms.specs.declared.terms.Binary.{Binary}
use Rattle.ag_terms.specs.declared.terms.Binary.TheVariants.{Arrow, Implies, Iff, Or, And, Less, AtMost, More, AtLeast, Same, Differs, Plus, Minus, Times, Div, Mod}
use Rattle.ag_annex.specs.Marks.{arrow_mark, implies_mark, iff_mark, or_mark, and_mark, less_mark, at_most_mark, more_mark, at_least_mark, same_mark, differs_mark, plus_mark, minus_mark, times_mark, div_mark, mod_mark}

-- the operator that has the mark
abbrev pub binary_of : ℕ → Option Binary
binary_of mark =
    if mark == arrow_mark then Some Arrow
    else (if mark == implies_mark then Some Implies
    else (if mark == iff_mark then Some Iff
    else (if mark == or_mark then Some Or
    else (if mark == and_mark then Some And
    else (if mark == less_mark then Some Less
    else (if mark == at_most_mark then Some AtMost
    else (if mark == more_mark then Some More
    else (if mark == at_least_mark then Some AtLeast
    else (if mark == same_mark then Some Same
    else (if mark == differs_mark then Some Differs
    else (if mark == plus_mark then Some Plus
    else (if mark == minus_mark then Some Minus
    else (if mark == times_mark then Some Times
    else (if mark == div_mark then Some Div
    else (if mark == mod_mark then Some Mod
    else None)))))))))))))))

-- the rank of an operator: one of a greater rank binds tighter
abbrev pub rank : Binary → ℕ
rank Arrow = 0
rank Implies = 1
rank Iff = 2
rank Or = 3
rank And = 4
rank Less = 5
rank AtMost = 5
rank More = 5
rank AtLeast = 5
rank Same = 5
rank Differs = 5
rank Plus = 6
rank Minus = 6
rank Times = 7
rank Div = 7
rank Mod = 7

-- the rank of comparisons, which don't chain
abbrev pub comparison : ℕ
comparison = 5

-- of the ranks up to this one the operators associate to the right, of the others to the left
abbrev pub last_right : ℕ
last_right = 2
