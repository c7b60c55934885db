-- A grammar as a plain value, and its leftmost derivations.
use Rattle.std.specs.Prelude.{◌≡◌, ℕ, List, [], ◌∷◌, ◌++◌, Some, slice_get, slice_index_or}
use Rattle.ag_grammar.specs.declared.grammar.Symbol.{Symbol}
use Rattle.ag_grammar.specs.declared.grammar.Symbol.TheVariants.{Terminal, Nonterminal}
use Rattle.ag_grammar.specs.declared.grammar.Production.{Production}
use Rattle.ag_grammar.specs.declared.grammar.Step.{Step}
use Rattle.ag_grammar.specs.declared.grammar.Step.TheVariants.{Expand, Shift}

-- a production: its name, the terminals ahead at which it is taken, and what it puts in its nonterminal's place
pub record PlainProduction : Type 0 where
  pub name : ℕ
  pub ahead : List ℕ
  pub right : List Symbol

-- for each nonterminal its productions, and the nonterminal that texts begin with
pub record PlainGrammar : Type 0 where
  pub nonterminals : List (List PlainProduction)
  pub start : ℕ

-- as code holds it
abbrev pub plain_production : Production → PlainProduction
plain_production p = record { name = p.name; ahead = p.ahead.now; right = p.right.now }

abbrev pub productions_of : PlainGrammar → ℕ → List PlainProduction
productions_of g n = slice_index_or g.nonterminals n []

-- it is one of the nonterminal's productions
abbrev pub IsProductionOf : PlainGrammar → ℕ → PlainProduction → Type 0
IsProductionOf g n p = (i : ℕ) × (slice_get (productions_of g n) i ≡ Some p)

-- The symbols derive the terminals by these steps, always at the leftmost symbol: a terminal is shifted, under its
-- mark, and a nonterminal is expanded by one of its productions, under its name.
abbrev pub Derives : PlainGrammar → List Step → List Symbol → List ℕ → Type 0
Derives g [] [] [] = Unit {0}
Derives g (Shift mark ∷ steps) (Terminal t m ∷ symbols) (x ∷ xs) = (x ≡ t) × (mark ≡ m) × Derives g steps symbols xs
Derives g (Expand name ∷ steps) (Nonterminal n ∷ symbols) xs = (p : PlainProduction) × IsProductionOf g n p × (name ≡ p.name) × Derives g steps (p.right ++ symbols) xs
Derives g _ _ _ = ⊥
