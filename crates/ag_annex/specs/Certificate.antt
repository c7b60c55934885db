-- What each nonterminal of the grammar may begin with and be followed by.
use Rattle.std.specs.Prelude.{true, false, [], ◌∷◌}
use Rattle.ag_grammar.specs.Deterministic.{the_end, Certificate}
use Rattle.ag_annex.specs.Terminals.{name, number, text, assume_word, guarantee_word, lemma_word, eq_word, assign_word, const_word, node_word, var_word, let_word, tel_word, int_word, bool_word, true_word, false_word, pre_word, prev_word, if_word, then_word, else_word, and_word, or_word, not_word, div_word, mod_word, colons, comma, semicolon, dot, open_paren, close_paren, arrow, implies, iff, less, at_most, more, at_least, equals, differs, plus, minus, times}
use Rattle.ag_annex.specs.Nonterminals.{clauses, clause, claim, some_name, some_value, equation, variables, more_variables, some_variables, variable, type_name, node, some_locals, locals, equations, expression, operand, rest, choice, prefix, arithmetic, comparison, logical, primary, path, more_parts, some_body, some_arguments, arguments, more_arguments}

abbrev pub certificate : Certificate
certificate = record {
  first =
      -- clauses
      (assume_word ∷ guarantee_word ∷ lemma_word ∷ eq_word ∷ assign_word ∷ const_word ∷ node_word ∷ [])
      -- clause
      ∷ (assume_word ∷ guarantee_word ∷ lemma_word ∷ eq_word ∷ assign_word ∷ const_word ∷ node_word ∷ [])
      -- claim
      ∷ (name ∷ text ∷ [])
      -- some_name
      ∷ (name ∷ [])
      -- some_value
      ∷ (semicolon ∷ equals ∷ [])
      -- equation
      ∷ (name ∷ [])
      -- variables
      ∷ (name ∷ [])
      -- more_variables
      ∷ (comma ∷ [])
      -- some_variables
      ∷ (name ∷ [])
      -- variable
      ∷ (name ∷ [])
      -- type_name
      ∷ (int_word ∷ bool_word ∷ [])
      -- node
      ∷ (name ∷ [])
      -- some_locals
      ∷ (var_word ∷ [])
      -- locals
      ∷ (name ∷ [])
      -- equations
      ∷ (name ∷ [])
      -- expression
      ∷ (name ∷ number ∷ true_word ∷ false_word ∷ pre_word ∷ prev_word ∷ if_word ∷ not_word ∷ open_paren ∷ minus ∷ [])
      -- operand
      ∷ (name ∷ number ∷ true_word ∷ false_word ∷ pre_word ∷ prev_word ∷ if_word ∷ not_word ∷ open_paren ∷ minus ∷ [])
      -- rest
      ∷ (and_word ∷ or_word ∷ div_word ∷ mod_word ∷ arrow ∷ implies ∷ iff ∷ less ∷ at_most ∷ more ∷ at_least ∷ equals ∷ differs ∷ plus ∷ minus ∷ times ∷ [])
      -- choice
      ∷ (if_word ∷ [])
      -- prefix
      ∷ (not_word ∷ minus ∷ [])
      -- arithmetic
      ∷ (div_word ∷ mod_word ∷ plus ∷ minus ∷ times ∷ [])
      -- comparison
      ∷ (less ∷ at_most ∷ more ∷ at_least ∷ equals ∷ differs ∷ [])
      -- logical
      ∷ (and_word ∷ or_word ∷ arrow ∷ implies ∷ iff ∷ [])
      -- primary
      ∷ (name ∷ number ∷ true_word ∷ false_word ∷ pre_word ∷ prev_word ∷ open_paren ∷ [])
      -- path
      ∷ (name ∷ [])
      -- more_parts
      ∷ (colons ∷ [])
      -- some_body
      ∷ (dot ∷ [])
      -- some_arguments
      ∷ (open_paren ∷ [])
      -- arguments
      ∷ (name ∷ number ∷ true_word ∷ false_word ∷ pre_word ∷ prev_word ∷ if_word ∷ not_word ∷ open_paren ∷ minus ∷ [])
      -- more_arguments
      ∷ (comma ∷ [])
      ∷ [];
  follow =
      -- clauses
      (the_end ∷ [])
      -- clause
      ∷ (assume_word ∷ guarantee_word ∷ lemma_word ∷ eq_word ∷ assign_word ∷ const_word ∷ node_word ∷ the_end ∷ [])
      -- claim
      ∷ (assume_word ∷ guarantee_word ∷ lemma_word ∷ eq_word ∷ assign_word ∷ const_word ∷ node_word ∷ the_end ∷ [])
      -- some_name
      ∷ (text ∷ [])
      -- some_value
      ∷ (assume_word ∷ guarantee_word ∷ lemma_word ∷ eq_word ∷ assign_word ∷ const_word ∷ node_word ∷ the_end ∷ [])
      -- equation
      ∷ (name ∷ assume_word ∷ guarantee_word ∷ lemma_word ∷ eq_word ∷ assign_word ∷ const_word ∷ node_word ∷ tel_word ∷ the_end ∷ [])
      -- variables
      ∷ (semicolon ∷ close_paren ∷ equals ∷ [])
      -- more_variables
      ∷ (semicolon ∷ close_paren ∷ equals ∷ [])
      -- some_variables
      ∷ (close_paren ∷ [])
      -- variable
      ∷ (comma ∷ semicolon ∷ close_paren ∷ equals ∷ [])
      -- type_name
      ∷ (comma ∷ semicolon ∷ close_paren ∷ equals ∷ [])
      -- node
      ∷ (assume_word ∷ guarantee_word ∷ lemma_word ∷ eq_word ∷ assign_word ∷ const_word ∷ node_word ∷ the_end ∷ [])
      -- some_locals
      ∷ (let_word ∷ [])
      -- locals
      ∷ (let_word ∷ [])
      -- equations
      ∷ (tel_word ∷ [])
      -- expression
      ∷ (then_word ∷ else_word ∷ comma ∷ semicolon ∷ close_paren ∷ [])
      -- operand
      ∷ (then_word ∷ else_word ∷ comma ∷ semicolon ∷ close_paren ∷ [])
      -- rest
      ∷ (then_word ∷ else_word ∷ comma ∷ semicolon ∷ close_paren ∷ [])
      -- choice
      ∷ (then_word ∷ else_word ∷ comma ∷ semicolon ∷ close_paren ∷ [])
      -- prefix
      ∷ (name ∷ number ∷ true_word ∷ false_word ∷ pre_word ∷ prev_word ∷ if_word ∷ not_word ∷ open_paren ∷ minus ∷ [])
      -- arithmetic
      ∷ (name ∷ number ∷ true_word ∷ false_word ∷ pre_word ∷ prev_word ∷ if_word ∷ not_word ∷ open_paren ∷ minus ∷ [])
      -- comparison
      ∷ (name ∷ number ∷ true_word ∷ false_word ∷ pre_word ∷ prev_word ∷ if_word ∷ not_word ∷ open_paren ∷ minus ∷ [])
      -- logical
      ∷ (name ∷ number ∷ true_word ∷ false_word ∷ pre_word ∷ prev_word ∷ if_word ∷ not_word ∷ open_paren ∷ minus ∷ [])
      -- primary
      ∷ (then_word ∷ else_word ∷ and_word ∷ or_word ∷ div_word ∷ mod_word ∷ comma ∷ semicolon ∷ close_paren ∷ arrow ∷ implies ∷ iff ∷ less ∷ at_most ∷ more ∷ at_least ∷ equals ∷ differs ∷ plus ∷ minus ∷ times ∷ [])
      -- path
      ∷ (then_word ∷ else_word ∷ and_word ∷ or_word ∷ div_word ∷ mod_word ∷ comma ∷ semicolon ∷ open_paren ∷ close_paren ∷ arrow ∷ implies ∷ iff ∷ less ∷ at_most ∷ more ∷ at_least ∷ equals ∷ differs ∷ plus ∷ minus ∷ times ∷ [])
      -- more_parts
      ∷ (then_word ∷ else_word ∷ and_word ∷ or_word ∷ div_word ∷ mod_word ∷ comma ∷ semicolon ∷ dot ∷ open_paren ∷ close_paren ∷ arrow ∷ implies ∷ iff ∷ less ∷ at_most ∷ more ∷ at_least ∷ equals ∷ differs ∷ plus ∷ minus ∷ times ∷ [])
      -- some_body
      ∷ (then_word ∷ else_word ∷ and_word ∷ or_word ∷ div_word ∷ mod_word ∷ comma ∷ semicolon ∷ open_paren ∷ close_paren ∷ arrow ∷ implies ∷ iff ∷ less ∷ at_most ∷ more ∷ at_least ∷ equals ∷ differs ∷ plus ∷ minus ∷ times ∷ [])
      -- some_arguments
      ∷ (then_word ∷ else_word ∷ and_word ∷ or_word ∷ div_word ∷ mod_word ∷ comma ∷ semicolon ∷ close_paren ∷ arrow ∷ implies ∷ iff ∷ less ∷ at_most ∷ more ∷ at_least ∷ equals ∷ differs ∷ plus ∷ minus ∷ times ∷ [])
      -- arguments
      ∷ (close_paren ∷ [])
      -- more_arguments
      ∷ (close_paren ∷ [])
      ∷ [];
  empty = true ∷ false ∷ false ∷ true ∷ false ∷ false ∷ false ∷ true ∷ true ∷ false ∷ false ∷ false ∷ true ∷ true ∷ true ∷ false ∷ false ∷ true ∷ false ∷ false ∷ false ∷ false ∷ false ∷ false ∷ false ∷ true ∷ true ∷ true ∷ true ∷ true ∷ [];
  order = clauses ∷ some_name ∷ some_value ∷ more_variables ∷ some_variables ∷ type_name ∷ some_locals ∷ locals ∷ equations ∷ rest ∷ prefix ∷ arithmetic ∷ comparison ∷ logical ∷ primary ∷ more_parts ∷ some_body ∷ some_arguments ∷ arguments ∷ more_arguments ∷ variable ∷ operand ∷ path ∷ variables ∷ node ∷ expression ∷ choice ∷ clause ∷ claim ∷ equation ∷ [];
}
