-- A small grammar, to show how one is written down and what shows that the test holds.
use Rattle.std.specs.Prelude.{true, false, [], ◌∷◌}
use Rattle.ag_grammar.specs.declared.grammar.Symbol.TheVariants.{Terminal, Nonterminal}
use Rattle.ag_grammar.specs.Grammar.{PlainGrammar}
use Rattle.ag_grammar.specs.Deterministic.{the_end, Certificate}

-- terminals: "(" is 0, ")" is 1, a name is 2
-- nonterminals: list is 0, elements is 1, element is 2
abbrev pub nested_lists : PlainGrammar
nested_lists = record {
  start = 0;
  nonterminals =
      -- list = "(" elements ")"
      (record { name = 0; ahead = 0 ∷ []; right = Terminal 0 0 ∷ Nonterminal 1 ∷ Terminal 1 0 ∷ [] } ∷ [])
      -- elements = element elements | (nothing)
      ∷ (record { name = 1; ahead = 0 ∷ 2 ∷ []; right = Nonterminal 2 ∷ Nonterminal 1 ∷ [] }
      ∷ record { name = 2; ahead = 1 ∷ []; right = [] } ∷ [])
      -- element = name | list
      ∷ (record { name = 3; ahead = 2 ∷ []; right = Terminal 2 1 ∷ [] }
      ∷ record { name = 4; ahead = 0 ∷ []; right = Nonterminal 0 ∷ [] } ∷ [])
      ∷ [];
}

abbrev pub lists_certificate : Certificate
lists_certificate = record {
  first = (0 ∷ []) ∷ (0 ∷ 2 ∷ []) ∷ (0 ∷ 2 ∷ []) ∷ [];
  follow = (0 ∷ 1 ∷ 2 ∷ the_end ∷ []) ∷ (1 ∷ []) ∷ (0 ∷ 1 ∷ 2 ∷ []) ∷ [];
  empty = false ∷ true ∷ false ∷ [];
  order = 1 ∷ 0 ∷ 2 ∷ [];
}
