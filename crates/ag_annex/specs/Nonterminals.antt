-- The nonterminals of the grammar by name.
use Rattle.std.specs.Prelude.{ℕ}

abbrev pub clauses : ℕ
clauses = 0

abbrev pub clause : ℕ
clause = 1

abbrev pub claim : ℕ
claim = 2

abbrev pub some_name : ℕ
some_name = 3

abbrev pub some_value : ℕ
some_value = 4

abbrev pub equation : ℕ
equation = 5

abbrev pub variables : ℕ
variables = 6

abbrev pub more_variables : ℕ
more_variables = 7

abbrev pub some_variables : ℕ
some_variables = 8

abbrev pub variable : ℕ
variable = 9

abbrev pub type_name : ℕ
type_name = 10

abbrev pub node : ℕ
node = 11

abbrev pub some_locals : ℕ
some_locals = 12

abbrev pub locals : ℕ
locals = 13

abbrev pub equations : ℕ
equations = 14

abbrev pub expression : ℕ
expression = 15

abbrev pub operand : ℕ
operand = 16

abbrev pub rest : ℕ
rest = 17

abbrev pub choice : ℕ
choice = 18

abbrev pub prefix : ℕ
prefix = 19

abbrev pub arithmetic : ℕ
arithmetic = 20

abbrev pub comparison : ℕ
comparison = 21

abbrev pub logical : ℕ
logical = 22

abbrev pub primary : ℕ
primary = 23

abbrev pub path : ℕ
path = 24

abbrev pub more_parts : ℕ
more_parts = 25

abbrev pub some_body : ℕ
some_body = 26

abbrev pub some_arguments : ℕ
some_arguments = 27

abbrev pub arguments : ℕ
arguments = 28

abbrev pub more_arguments : ℕ
more_arguments = 29
