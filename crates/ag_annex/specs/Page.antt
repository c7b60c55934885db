-- The grammar of the clauses of an `agree` annex: each line of it, and below it its productions. Expressions are flat:
-- which operands an operator has, and whether a comparison may follow another, is no part of the grammar.
use Rattle.std.specs.Prelude.{List, [], ◌∷◌}
use Rattle.ag_aadl.specs.Page.{Line, line, t, m, n}
use Rattle.ag_annex.specs.Terminals.{name, number, text, assume_word, guarantee_word, lemma_word, eq_word, assign_word, const_word, node_word, returns_word, var_word, let_word, tel_word, int_word, bool_word, true_word, false_word, pre_word, prev_word, if_word, then_word, else_word, and_word, or_word, not_word, div_word, mod_word, colons, comma, semicolon, colon, dot, open_paren, close_paren, arrow, implies, iff, less, at_most, more, at_least, equals, differs, plus, minus, times}
use Rattle.ag_annex.specs.Nonterminals.{clauses, clause, claim, some_name, some_value, equation, variables, more_variables, some_variables, variable, type_name, node, some_locals, locals, equations, expression, operand, rest, choice, prefix, arithmetic, comparison, logical, primary, path, more_parts, some_body, some_arguments, arguments, more_arguments}
use Rattle.ag_annex.specs.Productions.{one_clause, no_clause, an_assume, a_guarantee, a_lemma, an_eq, an_assign, a_const, a_node, claim_whole, a_name, no_name, a_value, no_value, equation_whole, variables_whole, one_more_variable, no_more_variable, a_variable_list, no_variable_list, variable_whole, an_int, a_bool, node_whole, a_local_list, no_local_list, one_local, no_local, one_equation, no_equation, expression_whole, choice_operand, prefix_operand, primary_operand, arithmetic_rest, comparison_rest, logical_rest, no_rest, choice_whole, a_negative, a_not, a_plus, a_minus, a_times, a_div, a_mod, a_less, an_at_most, a_more, an_at_least, a_same, a_differs, an_and, an_or, an_iff, an_implies, an_arrow, a_number, a_true, a_false, a_group, a_pre, a_prev, a_path, path_whole, one_more_part, no_more_part, a_body, no_body, a_call, no_call, some_argument_list, no_argument_list, one_more_argument, no_more_argument}
use Rattle.ag_annex.specs.Marks.{assume_mark, guarantee_mark, lemma_mark, eq_mark, assign_mark, const_mark, node_mark, label_mark, variable_mark, int_mark, bool_mark, target_mark, node_name_mark, returns_mark, locals_mark, let_mark, tel_mark, value_mark, end_mark, arrow_mark, implies_mark, iff_mark, or_mark, and_mark, less_mark, at_most_mark, more_mark, at_least_mark, same_mark, differs_mark, plus_mark, minus_mark, times_mark, div_mark, mod_mark, negative_mark, not_mark, pre_mark, prev_mark, if_mark, then_mark, else_mark, number_mark, true_mark, false_mark, group_mark, operand_mark, call_mark, argument_mark, close_mark, path_mark, part_mark, path_body_mark}

abbrev pub lines : List (List Line)
lines =
    -- clauses = { clause }
    (line one_clause (n clause ∷ n clauses ∷ [])
    ∷ line no_clause [] ∷ [])
    -- clause = ( "assume" | "guarantee" | "lemma" ) claim | "eq" variables [ "=" expression ] ";" | "assign" equation | "const" variable "=" expression ";" | "node" node
    ∷ (line an_assume (m assume_word assume_mark ∷ n claim ∷ [])
    ∷ line a_guarantee (m guarantee_word guarantee_mark ∷ n claim ∷ [])
    ∷ line a_lemma (m lemma_word lemma_mark ∷ n claim ∷ [])
    ∷ line an_eq (m eq_word eq_mark ∷ n variables ∷ n some_value ∷ [])
    ∷ line an_assign (m assign_word assign_mark ∷ n equation ∷ [])
    ∷ line a_const (m const_word const_mark ∷ n variable ∷ m equals value_mark ∷ n expression ∷ m semicolon end_mark ∷ [])
    ∷ line a_node (m node_word node_mark ∷ n node ∷ []) ∷ [])
    -- claim = [ name ] Text ":" expression ";"
    ∷ (line claim_whole (n some_name ∷ m text label_mark ∷ m colon value_mark ∷ n expression ∷ m semicolon end_mark ∷ []) ∷ [])
    -- some_name = [ name ]
    ∷ (line a_name (t name ∷ [])
    ∷ line no_name [] ∷ [])
    -- some_value = [ "=" expression ] ";"
    ∷ (line a_value (m equals value_mark ∷ n expression ∷ m semicolon end_mark ∷ [])
    ∷ line no_value (t semicolon ∷ []) ∷ [])
    -- equation = name "=" expression ";"
    ∷ (line equation_whole (m name target_mark ∷ m equals value_mark ∷ n expression ∷ m semicolon end_mark ∷ []) ∷ [])
    -- variables = variable { "," variable }
    ∷ (line variables_whole (n variable ∷ n more_variables ∷ []) ∷ [])
    -- more_variables = { "," variable }
    ∷ (line one_more_variable (t comma ∷ n variable ∷ n more_variables ∷ [])
    ∷ line no_more_variable [] ∷ [])
    -- some_variables = [ variables ]
    ∷ (line a_variable_list (n variables ∷ [])
    ∷ line no_variable_list [] ∷ [])
    -- variable = name ":" type
    ∷ (line variable_whole (m name variable_mark ∷ t colon ∷ n type_name ∷ []) ∷ [])
    -- type_name = "int" | "bool"
    ∷ (line an_int (m int_word int_mark ∷ [])
    ∷ line a_bool (m bool_word bool_mark ∷ []) ∷ [])
    -- node = name "(" [ variables ] ")" "returns" "(" variables ")" ";" [ "var" locals ] "let" equations "tel" ";"
    ∷ (line node_whole (m name node_name_mark ∷ t open_paren ∷ n some_variables ∷ t close_paren ∷ m returns_word returns_mark ∷ t open_paren ∷ n variables ∷ t close_paren ∷ t semicolon ∷ n some_locals ∷ m let_word let_mark ∷ n equations ∷ m tel_word tel_mark ∷ t semicolon ∷ []) ∷ [])
    -- some_locals = [ "var" locals ]
    ∷ (line a_local_list (m var_word locals_mark ∷ n locals ∷ [])
    ∷ line no_local_list [] ∷ [])
    -- locals = { variable ";" }
    ∷ (line one_local (n variable ∷ t semicolon ∷ n locals ∷ [])
    ∷ line no_local [] ∷ [])
    -- equations = { equation }
    ∷ (line one_equation (n equation ∷ n equations ∷ [])
    ∷ line no_equation [] ∷ [])
    -- expression = operand
    ∷ (line expression_whole (n operand ∷ []) ∷ [])
    -- operand = choice | prefix operand | primary rest
    ∷ (line choice_operand (n choice ∷ [])
    ∷ line prefix_operand (n prefix ∷ n operand ∷ [])
    ∷ line primary_operand (n primary ∷ n rest ∷ []) ∷ [])
    -- rest = [ arithmetic operand | comparison operand | logical operand ]
    ∷ (line arithmetic_rest (n arithmetic ∷ n operand ∷ [])
    ∷ line comparison_rest (n comparison ∷ n operand ∷ [])
    ∷ line logical_rest (n logical ∷ n operand ∷ [])
    ∷ line no_rest [] ∷ [])
    -- choice = "if" expression "then" expression "else" expression
    ∷ (line choice_whole (m if_word if_mark ∷ n expression ∷ m then_word then_mark ∷ n expression ∷ m else_word else_mark ∷ n expression ∷ []) ∷ [])
    -- prefix = "-" | "not"
    ∷ (line a_negative (m minus negative_mark ∷ [])
    ∷ line a_not (m not_word not_mark ∷ []) ∷ [])
    -- arithmetic = "+" | "-" | "*" | "div" | "mod"
    ∷ (line a_plus (m plus plus_mark ∷ [])
    ∷ line a_minus (m minus minus_mark ∷ [])
    ∷ line a_times (m times times_mark ∷ [])
    ∷ line a_div (m div_word div_mark ∷ [])
    ∷ line a_mod (m mod_word mod_mark ∷ []) ∷ [])
    -- comparison = "<" | "<=" | ">" | ">=" | "=" | "<>" | "!="
    ∷ (line a_less (m less less_mark ∷ [])
    ∷ line an_at_most (m at_most at_most_mark ∷ [])
    ∷ line a_more (m more more_mark ∷ [])
    ∷ line an_at_least (m at_least at_least_mark ∷ [])
    ∷ line a_same (m equals same_mark ∷ [])
    ∷ line a_differs (m differs differs_mark ∷ []) ∷ [])
    -- logical = "and" | "or" | "<=>" | "=>" | "->"
    ∷ (line an_and (m and_word and_mark ∷ [])
    ∷ line an_or (m or_word or_mark ∷ [])
    ∷ line an_iff (m iff iff_mark ∷ [])
    ∷ line an_implies (m implies implies_mark ∷ [])
    ∷ line an_arrow (m arrow arrow_mark ∷ []) ∷ [])
    -- primary = Number | "true" | "false" | "(" expression ")" | "pre" "(" expression ")" | "prev" "(" expression "," expression ")" | path [ "(" arguments ")" ]
    ∷ (line a_number (m number number_mark ∷ [])
    ∷ line a_true (m true_word true_mark ∷ [])
    ∷ line a_false (m false_word false_mark ∷ [])
    ∷ line a_group (m open_paren group_mark ∷ n expression ∷ m close_paren close_mark ∷ [])
    ∷ line a_pre (m pre_word pre_mark ∷ m open_paren operand_mark ∷ n expression ∷ m close_paren close_mark ∷ [])
    ∷ line a_prev (m prev_word prev_mark ∷ m open_paren operand_mark ∷ n expression ∷ m comma argument_mark ∷ n expression ∷ m close_paren close_mark ∷ [])
    ∷ line a_path (n path ∷ n some_arguments ∷ []) ∷ [])
    -- path = name { "::" name } [ "." name ]
    ∷ (line path_whole (m name path_mark ∷ n more_parts ∷ n some_body ∷ []) ∷ [])
    -- more_parts = { "::" name }
    ∷ (line one_more_part (t colons ∷ m name part_mark ∷ n more_parts ∷ [])
    ∷ line no_more_part [] ∷ [])
    -- some_body = [ "." name ]
    ∷ (line a_body (t dot ∷ m name path_body_mark ∷ [])
    ∷ line no_body [] ∷ [])
    -- some_arguments = [ "(" arguments ")" ]
    ∷ (line a_call (m open_paren call_mark ∷ n arguments ∷ m close_paren close_mark ∷ [])
    ∷ line no_call [] ∷ [])
    -- arguments = [ expression { "," expression } ]
    ∷ (line some_argument_list (n expression ∷ n more_arguments ∷ [])
    ∷ line no_argument_list [] ∷ [])
    -- more_arguments = { "," expression }
    ∷ (line one_more_argument (m comma argument_mark ∷ n expression ∷ n more_arguments ∷ [])
    ∷ line no_more_argument [] ∷ [])
    ∷ []
