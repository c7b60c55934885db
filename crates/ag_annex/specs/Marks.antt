-- The marks that the grammar gives its terminals: they say what a token is where it stands.
use Rattle.std.specs.Prelude.{ℕ}

-- the word `assume`
abbrev pub assume_mark : ℕ
assume_mark = 1

-- the word `guarantee`
abbrev pub guarantee_mark : ℕ
guarantee_mark = 2

-- the word `lemma`
abbrev pub lemma_mark : ℕ
lemma_mark = 3

-- the word `eq`
abbrev pub eq_mark : ℕ
eq_mark = 4

-- the word `assign`
abbrev pub assign_mark : ℕ
assign_mark = 5

-- the word `const`
abbrev pub const_mark : ℕ
const_mark = 6

-- the word `node`
abbrev pub node_mark : ℕ
node_mark = 7

-- the text of an assumption, a guarantee or a lemma
abbrev pub label_mark : ℕ
label_mark = 8

-- the name that an `eq`, a `const`, or a node's inputs, outputs or locals declare
abbrev pub variable_mark : ℕ
variable_mark = 9

-- the type `int`
abbrev pub int_mark : ℕ
int_mark = 10

-- the type `bool`
abbrev pub bool_mark : ℕ
bool_mark = 11

-- the name on the left side of an `assign`, or of an equation of a node
abbrev pub target_mark : ℕ
target_mark = 12

-- the name that a node is declared by
abbrev pub node_name_mark : ℕ
node_name_mark = 13

-- the word `returns`, behind which a node's outputs stand
abbrev pub returns_mark : ℕ
returns_mark = 14

-- the word `var`, behind which a node's locals stand
abbrev pub locals_mark : ℕ
locals_mark = 15

-- the word `let`, behind which a node's equations stand
abbrev pub let_mark : ℕ
let_mark = 16

-- the word `tel`
abbrev pub tel_mark : ℕ
tel_mark = 17

-- the `:` or `=` behind which a clause's or an equation's expression stands
abbrev pub value_mark : ℕ
value_mark = 18

-- the `;` at the end of such an expression
abbrev pub end_mark : ℕ
end_mark = 19

-- the operator `->`
abbrev pub arrow_mark : ℕ
arrow_mark = 20

-- the operator `=>`
abbrev pub implies_mark : ℕ
implies_mark = 21

-- the operator `<=>`
abbrev pub iff_mark : ℕ
iff_mark = 22

-- the operator `or`
abbrev pub or_mark : ℕ
or_mark = 23

-- the operator `and`
abbrev pub and_mark : ℕ
and_mark = 24

-- the operator `<`
abbrev pub less_mark : ℕ
less_mark = 25

-- the operator `<=`
abbrev pub at_most_mark : ℕ
at_most_mark = 26

-- the operator `>`
abbrev pub more_mark : ℕ
more_mark = 27

-- the operator `>=`
abbrev pub at_least_mark : ℕ
at_least_mark = 28

-- the operator `=`
abbrev pub same_mark : ℕ
same_mark = 29

-- the operator `<>`, which may be written `!=`
abbrev pub differs_mark : ℕ
differs_mark = 30

-- the operator `+`
abbrev pub plus_mark : ℕ
plus_mark = 31

-- the operator `-` between two operands
abbrev pub minus_mark : ℕ
minus_mark = 32

-- the operator `*`
abbrev pub times_mark : ℕ
times_mark = 33

-- the operator `div`
abbrev pub div_mark : ℕ
div_mark = 34

-- the operator `mod`
abbrev pub mod_mark : ℕ
mod_mark = 35

-- the operator `-` before its one operand
abbrev pub negative_mark : ℕ
negative_mark = 36

-- the operator `not`
abbrev pub not_mark : ℕ
not_mark = 37

-- the word `pre`
abbrev pub pre_mark : ℕ
pre_mark = 38

-- the word `prev`
abbrev pub prev_mark : ℕ
prev_mark = 39

-- the word `if`
abbrev pub if_mark : ℕ
if_mark = 40

-- the word `then`
abbrev pub then_mark : ℕ
then_mark = 41

-- the word `else`
abbrev pub else_mark : ℕ
else_mark = 42

-- a number
abbrev pub number_mark : ℕ
number_mark = 43

-- the word `true`
abbrev pub true_mark : ℕ
true_mark = 44

-- the word `false`
abbrev pub false_mark : ℕ
false_mark = 45

-- the `(` of an expression between parentheses by itself
abbrev pub group_mark : ℕ
group_mark = 46

-- the `(` behind `pre` or `prev`
abbrev pub operand_mark : ℕ
operand_mark = 47

-- the `(` before the arguments of a call
abbrev pub call_mark : ℕ
call_mark = 48

-- the `,` between the arguments of a call, or between the operands of `prev`
abbrev pub argument_mark : ℕ
argument_mark = 49

-- the `)` that belongs to one of these
abbrev pub close_mark : ℕ
close_mark = 50

-- the first name of a path
abbrev pub path_mark : ℕ
path_mark = 51

-- a name behind `::` in a path
abbrev pub part_mark : ℕ
part_mark = 52

-- the name behind the dot of a path
abbrev pub path_body_mark : ℕ
path_body_mark = 53
