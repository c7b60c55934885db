-- The productions of the grammar by name.
use Rattle.std.specs.Prelude.{ℕ}

abbrev pub one_clause : ℕ
one_clause = 0

abbrev pub no_clause : ℕ
no_clause = 1

abbrev pub an_assume : ℕ
an_assume = 2

abbrev pub a_guarantee : ℕ
a_guarantee = 3

abbrev pub a_lemma : ℕ
a_lemma = 4

abbrev pub an_eq : ℕ
an_eq = 5

abbrev pub an_assign : ℕ
an_assign = 6

abbrev pub a_const : ℕ
a_const = 7

abbrev pub a_node : ℕ
a_node = 8

abbrev pub claim_whole : ℕ
claim_whole = 9

abbrev pub a_name : ℕ
a_name = 10

abbrev pub no_name : ℕ
no_name = 11

abbrev pub a_value : ℕ
a_value = 12

abbrev pub no_value : ℕ
no_value = 13

abbrev pub equation_whole : ℕ
equation_whole = 14

abbrev pub variables_whole : ℕ
variables_whole = 15

abbrev pub one_more_variable : ℕ
one_more_variable = 16

abbrev pub no_more_variable : ℕ
no_more_variable = 17

abbrev pub a_variable_list : ℕ
a_variable_list = 18

abbrev pub no_variable_list : ℕ
no_variable_list = 19

abbrev pub variable_whole : ℕ
variable_whole = 20

abbrev pub an_int : ℕ
an_int = 21

abbrev pub a_bool : ℕ
a_bool = 22

abbrev pub node_whole : ℕ
node_whole = 23

abbrev pub a_local_list : ℕ
a_local_list = 24

abbrev pub no_local_list : ℕ
no_local_list = 25

abbrev pub one_local : ℕ
one_local = 26

abbrev pub no_local : ℕ
no_local = 27

abbrev pub one_equation : ℕ
one_equation = 28

abbrev pub no_equation : ℕ
no_equation = 29

abbrev pub expression_whole : ℕ
expression_whole = 30

abbrev pub choice_operand : ℕ
choice_operand = 31

abbrev pub prefix_operand : ℕ
prefix_operand = 32

abbrev pub primary_operand : ℕ
primary_operand = 33

abbrev pub arithmetic_rest : ℕ
arithmetic_rest = 34

abbrev pub comparison_rest : ℕ
comparison_rest = 35

abbrev pub logical_rest : ℕ
logical_rest = 36

abbrev pub no_rest : ℕ
no_rest = 37

abbrev pub choice_whole : ℕ
choice_whole = 38

abbrev pub a_negative : ℕ
a_negative = 39

abbrev pub a_not : ℕ
a_not = 40

abbrev pub a_plus : ℕ
a_plus = 41

abbrev pub a_minus : ℕ
a_minus = 42

abbrev pub a_times : ℕ
a_times = 43

abbrev pub a_div : ℕ
a_div = 44

abbrev pub a_mod : ℕ
a_mod = 45

abbrev pub a_less : ℕ
a_less = 46

abbrev pub an_at_most : ℕ
an_at_most = 47

abbrev pub a_more : ℕ
a_more = 48

abbrev pub an_at_least : ℕ
an_at_least = 49

abbrev pub a_same : ℕ
a_same = 50

abbrev pub a_differs : ℕ
a_differs = 51

abbrev pub an_and : ℕ
an_and = 52

abbrev pub an_or : ℕ
an_or = 53

abbrev pub an_iff : ℕ
an_iff = 54

abbrev pub an_implies : ℕ
an_implies = 55

abbrev pub an_arrow : ℕ
an_arrow = 56

abbrev pub a_number : ℕ
a_number = 57

abbrev pub a_true : ℕ
a_true = 58

abbrev pub a_false : ℕ
a_false = 59

abbrev pub a_group : ℕ
a_group = 60

abbrev pub a_pre : ℕ
a_pre = 61

abbrev pub a_prev : ℕ
a_prev = 62

abbrev pub a_path : ℕ
a_path = 63

abbrev pub path_whole : ℕ
path_whole = 64

abbrev pub one_more_part : ℕ
one_more_part = 65

abbrev pub no_more_part : ℕ
no_more_part = 66

abbrev pub a_body : ℕ
a_body = 67

abbrev pub no_body : ℕ
no_body = 68

abbrev pub a_call : ℕ
a_call = 69

abbrev pub no_call : ℕ
no_call = 70

abbrev pub some_argument_list : ℕ
some_argument_list = 71

abbrev pub no_argument_list : ℕ
no_argument_list = 72

abbrev pub one_more_argument : ℕ
one_more_argument = 73

abbrev pub no_more_argument : ℕ
no_more_argument = 74
